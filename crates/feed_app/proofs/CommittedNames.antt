-- What follows for `unlist`, `list` and `delete`.
use Rattle.std.proofs.Common.{◌≡◌, ℕ, List, [], ◌∷◌, ◌++◌, Some, arith, inl, inr, length, subst}
use Rattle.blob_store.specs.Area.{Area}
use Rattle.admin_wire.specs.Bodies.{IsAsked}
use Rattle.admin_wire.specs.declared.names.NameKind.{NameKind}
use Rattle.admin_wire.proofs.OneLine.{asked_unrefused}
use Rattle.catalog_doc.specs.declared.change.Change.{Change}
use Rattle.admin_wire.specs.declared.line.Line.TheVariants as line
use Rattle.admin_wire.specs.declared.line.Refusal.TheVariants as refusal
use Rattle.feed_app.specs.Accepts.{Accepts}
use Rattle.feed_app.specs.Answers.{answer_status}
use Rattle.feed_app.specs.Commands.{Pair}
use Rattle.feed_app.specs.Frame.{Explains}
use Rattle.feed_app.specs.Names.{AreAsked, CanTakeNames, CommitsNames, NotAsked, NotRead, names_meaning}
use Rattle.feed_app.specs.Openings.{MayOpen}
use Rattle.feed_app.specs.Outside.{Members, Sight, held}
use Rattle.feed_app.specs.Spelled.{HasCatalog, HoldsCatalog}
use Rattle.feed_app.specs.declared.answer.Answer.{Answer}
use Rattle.feed_app.specs.declared.answer.Answer.TheVariants.{Reply}
use Rattle.feed_app.proofs.Ended.{end_sound, end_taken}

-- a pair that asks for nothing
not_asked_explains : {B : Type 0} (m : Members B) (before after : Sight B) (kind : NameKind) (pairs : List Pair) (answer : Answer) (place : ℕ)
    (id version : List ℕ)
    → NotAsked answer place id version → Explains m (names_meaning m kind pairs).reach before answer after
not_asked_explains m before after kind pairs (Reply (line.Refused why)) place id version is = tt
not_asked_explains m before after kind pairs (Reply line.Memory) place id version is = tt
not_asked_explains m before after kind pairs _ place id version is = absurd is

-- pairs that weren't read
pub unread_explains : {B : Type 0} (m : Members B) (before after : Sight B) (kind : NameKind) (pairs : List Pair) (answer : Answer) → NotRead answer kind pairs
    → Explains m (names_meaning m kind pairs).reach before answer after
unread_explains m before after kind pairs (Reply line.Memory) is = tt
unread_explains m before after kind pairs answer is =
    not_asked_explains m before after kind pairs answer (length is.front) is.pair.0 is.pair.1 is.refused

-- a change that is asked for isn't refused, and no pair is told as damaged
asked_not : (answer : Answer) (kind : NameKind) (place : ℕ) (pair : Pair) (c : Change) → IsAsked kind pair.0 pair.1 c → NotAsked answer place pair.0 pair.1
    → answer_status answer ≡ 3 → ⊥
asked_not (Reply (line.Refused (refusal.Id at))) kind place pair c asked is three = asked_unrefused kind place pair.0 pair.1 c _ asked is
asked_not (Reply (line.Refused (refusal.Version at))) kind place pair c asked is three = asked_unrefused kind place pair.0 pair.1 c _ asked is
asked_not (Reply line.Memory) kind place pair c asked is three = omega (arith, three)
asked_not _ kind place pair c asked is three = is

not_asked_sound : (answer : Answer) (place : ℕ) (id version : List ℕ) → NotAsked answer place id version → answer_status answer ≡ 6 → ⊥
not_asked_sound (Reply (line.Refused why)) place id version is six = omega (arith, six)
not_asked_sound (Reply line.Memory) place id version is six = omega (arith, six)
not_asked_sound _ place id version is six = is

unread_sound : (answer : Answer) (kind : NameKind) (pairs : List Pair) → NotRead answer kind pairs → answer_status answer ≡ 6 → ⊥
unread_sound (Reply line.Memory) kind pairs first six = omega (arith, six)
unread_sound answer kind pairs first six = not_asked_sound answer (length first.front) first.pair.0 first.pair.1 first.refused six

-- the pair behind these asks for a change
asked_at : (kind : NameKind) (front back : List Pair) (pair : Pair) (changes : List Change) → AreAsked kind (front ++ pair ∷ back) changes
    → (c : Change) × IsAsked kind pair.0 pair.1 c
asked_at kind [] back pair [] all = absurd all
asked_at kind [] back pair (c ∷ changes) all = (c, all.0)
asked_at kind (p ∷ ps) back pair [] all = absurd all
asked_at kind (p ∷ ps) back pair (c ∷ changes) all = asked_at kind ps back pair changes all.1

all_asked : (answer : Answer) (kind : NameKind) (pairs : List Pair) (changes : List Change) → AreAsked kind pairs changes → NotRead answer kind pairs
    → answer_status answer ≡ 3 → ⊥
all_asked (Reply line.Memory) kind pairs changes all first three = omega (arith, three)
all_asked answer kind pairs changes all first three =
    let at = asked_at kind first.front first.back first.pair changes (subst (λ (l : List Pair). AreAsked kind l changes) first.split all) in
    asked_not answer kind (length first.front) first.pair at.0 at.1 first.refused three

module _ {B : Type 0} (m : Members B) (kind : NameKind) (pairs : List Pair) (before after : Sight B) (area : Area)
    (there : held m before.stores.catalog ≡ Some area)
    (can : CanTakeNames area kind pairs) (may : MayOpen before.given (m.seen before.stores.catalog)) where
  abbrev its : HoldsCatalog area
  its = can.0

  its_catalog : HasCatalog (m.seen before.stores.catalog) its.0 its.1
  its_catalog = record { lawful = its.2; store = (area, there, its.3) }

  refused : (answer : Answer) → CommitsNames m kind pairs before answer after → answer_status answer ≡ 3 → ⊥
  refused answer (inl (first, same, unasked)) three = all_asked answer kind pairs can.1.0 can.1.1 first three
  refused answer (inr (changes, asked, ends)) three =
      end_taken m before after its.0 its.1 changes before.clock after.clock its_catalog may
      (λ now. can.2 its.0 its.1 changes now its.2 its.3 asked) answer ends three

  undamaged : (answer : Answer) → CommitsNames m kind pairs before answer after → answer_status answer ≡ 6 → ⊥
  undamaged answer (inl (first, same, unasked)) six = unread_sound answer kind pairs first six
  undamaged answer (inr (changes, asked, ends)) six = end_sound m before after its.0 its.1 changes before.clock after.clock its_catalog answer ends six

pub names_accepts : {B : Type 0} (m : Members B) (kind : NameKind) (pairs : List Pair) → Accepts (names_meaning m kind pairs)
names_accepts m kind pairs = record {
  refused = λ before after answer ready acts. refused m kind pairs before after ready.1.0 ready.1.1 ready.1.2 ready.0 answer acts;
  sound = λ before after answer ready acts. undamaged m kind pairs before after ready.1.0 ready.1.1 ready.1.2 ready.0 answer acts;
  fits = λ before ready touched. absurd touched;
}
