-- What follows for `publish`.
use Rattle.std.proofs.Common.{◌≡◌, ◌≤◌, ℕ, List, length, Some, arith, inl, inr, refl}
use Rattle.feed_base.proofs.Options.{at_some}
use Rattle.admin_wire.specs.Bodies.{ArePublishes, IsRecordOf, IsRefusedPublish, IsRefusedRecord}
use Rattle.admin_wire.specs.declared.error.BodyErr.{BodyErr}
use Rattle.admin_wire.specs.declared.error.BodyErr.TheVariants as body
use Rattle.admin_wire.proofs.OneRecord.{records_determined}
use Rattle.admin_wire.proofs.OneStop.{read_or_refused}
use Rattle.blob_store.specs.Area.{Area}
use Rattle.catalog_doc.specs.declared.change.Change.{Change}
use Rattle.catalog_core.specs.Committing.{MayBeCommitted}
use Rattle.admin_wire.specs.declared.line.Line.TheVariants as line
use Rattle.admin_wire.specs.declared.line.Refusal.TheVariants as refusal
use Rattle.feed_app.specs.Accepts.{Accepts}
use Rattle.feed_app.specs.Answers.{answer_status}
use Rattle.feed_app.specs.Frame.{Explains, most_input}
use Rattle.feed_app.specs.Openings.{MayOpen}
use Rattle.feed_app.specs.Outside.{Members, Rose, Sight, held}
use Rattle.feed_app.specs.Publishes.{Brings, IsRefusedBody, IsTakeable, NotTaken, Publishes, publish_meaning}
use Rattle.feed_app.specs.Spelled.{HasCatalog, HoldsCatalog}
use Rattle.feed_app.specs.declared.answer.Answer.{Answer}
use Rattle.feed_app.specs.declared.answer.Answer.TheVariants.{Reply}
use Rattle.feed_app.proofs.Ended.{end_sound, end_taken}

module _ {B : Type 0} (m : Members B) (before after : Sight B) where
  abbrev Explained : Answer → Type 0
  Explained answer = Explains m (publish_meaning m).reach before answer after

  -- an input that wasn't taken
  pub untaken_explains : (answer : Answer) → (answer ≡ Reply line.FaultInput → Rose before.input after.input) → NotTaken answer before.input.told
      → Explained answer
  untaken_explains (Reply line.FaultInput) rose is = (tt, rose refl)
  untaken_explains (Reply line.TooLong) rose is = (tt, is)
  untaken_explains (Reply (line.Refused why)) rose is = tt
  untaken_explains (Reply line.Memory) rose is = tt
  untaken_explains _ rose is = absurd is

  -- the area can take what the input has
  module _ (bytes : List ℕ) (area : Area) (is_body : before.input.told ≡ Some bytes) (there : held m before.stores.catalog ≡ Some area)
      (can : IsTakeable area bytes) (may : MayOpen before.given (m.seen before.stores.catalog)) where
    abbrev its : HoldsCatalog area
    its = can.2.0

    its_catalog : HasCatalog (m.seen before.stores.catalog) its.0 its.1
    its_catalog = record { lawful = its.2; store = (area, there, its.3) }

    its_taken : (changes : List Change) (now : ℕ) → Brings before.input.told changes → MayBeCommitted its.1 changes now
    its_taken changes now brings =
        can.2.1 its.0 its.1 changes now its.2 its.3 (at_some before.input.told (λ b. (length b ≤ most_input) × ArePublishes b changes) bytes is_body brings).1

    not_refused_body : (e : BodyErr) → IsRefusedBody before.input.told e → ⊥
    not_refused_body e is =
        read_or_refused IsRecordOf IsRefusedRecord records_determined bytes can.1.0 e can.1.1
        (at_some before.input.told (λ b. (length b ≤ most_input) × IsRefusedPublish b e) bytes is_body is).1

    input_taken : (answer : Answer) → NotTaken answer before.input.told → answer_status answer ≡ 3 → ⊥
    input_taken (Reply (line.Refused (refusal.Body at))) is three = not_refused_body (body.Shape at) is
    input_taken (Reply (line.Refused (refusal.Meta place why))) is three = not_refused_body (body.Meta place why) is
    input_taken (Reply line.FaultInput) is three = omega (arith, three)
    input_taken (Reply line.TooLong) is three = omega (arith, three)
    input_taken (Reply line.Memory) is three = omega (arith, three)
    input_taken _ is three = is

    input_sound : (answer : Answer) → NotTaken answer before.input.told → answer_status answer ≡ 6 → ⊥
    input_sound (Reply (line.Damaged name blob)) is six = is
    input_sound _ is six = omega (arith, six)

    refused : (answer : Answer) → Publishes m before answer after → answer_status answer ≡ 3 → ⊥
    refused answer (inl (not_taken, same, unasked)) three = input_taken answer not_taken three
    refused answer (inr (changes, brings, ends)) three =
        end_taken m before after its.0 its.1 changes before.clock after.clock its_catalog may (λ now. its_taken changes now brings) answer ends three

    undamaged : (answer : Answer) → Publishes m before answer after → answer_status answer ≡ 6 → ⊥
    undamaged answer (inl (not_taken, same, unasked)) six = input_sound answer not_taken six
    undamaged answer (inr (changes, brings, ends)) six = end_sound m before after its.0 its.1 changes before.clock after.clock its_catalog answer ends six

pub publish_accepts : {B : Type 0} (m : Members B) → Accepts (publish_meaning m)
publish_accepts m = record {
  refused = λ before after answer ready acts. refused m before after ready.1.0 ready.1.2.0 ready.1.1 ready.1.2.1 ready.1.2.2 ready.0 answer acts;
  sound = λ before after answer ready acts. undamaged m before after ready.1.0 ready.1.2.0 ready.1.1 ready.1.2.1 ready.1.2.2 ready.0 answer acts;
  fits = λ before ready touched. (ready.1.0, ready.1.1, ready.1.2.2.0);
}
