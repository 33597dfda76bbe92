-- What follows for `init`.
use Rattle.std.proofs.Common.{◌≡◌, ◌⊎◌, ◌∙◌, ℕ, List, Option, None, Some, IsSome, ap, arith, inl, inr, refl}
use Rattle.std.specs.FinMap.{get}
use Rattle.feed_base.proofs.Options.{at_some, intro}
use Rattle.blob_store.specs.Area.{Area}
use Rattle.catalog_doc.specs.Names.{index_name}
use Rattle.catalog_core.specs.Openings.{IsFirstArea}
use Rattle.catalog_core.specs.declared.error.InitErr.{InitErr}
use Rattle.catalog_core.specs.declared.error.InitErr.TheVariants as error
use Rattle.admin_wire.specs.declared.line.Line.TheVariants as line
use Rattle.admin_wire.specs.declared.line.Refusal.TheVariants as refusal
use Rattle.admin_wire.specs.declared.area.AreaName.TheVariants as area
use Rattle.feed_app.specs.Accepts.{Accepts}
use Rattle.feed_app.specs.Answers.{answer_status}
use Rattle.feed_app.specs.Causes.{init_answer}
use Rattle.feed_app.specs.Frame.{Explains}
use Rattle.feed_app.specs.Inits.{Inits, IsInitialised, init_meaning}
use Rattle.feed_app.specs.Outside.{AreaRose, Members, Shows, Sight, held}
use Rattle.feed_app.specs.declared.answer.Answer.{Answer}
use Rattle.feed_app.specs.declared.answer.Answer.TheVariants.{Reply}
use Rattle.feed_app.proofs.Absent.{not_both}

module _ {B : Type 0} (m : Members B) (base : List ℕ) (before after : Sight B) where
  pub explains : (old new : Option Area) (answer : Answer) → (answer ≡ Reply (line.Fault area.Catalog) → AreaRose m before.stores.catalog after.stores.catalog)
      → Inits base old answer new → Explains m (init_meaning m base).reach before answer after
  explains old new (Reply line.Initialised) rose is = tt
  explains old new (Reply (line.Refused why)) rose is = tt
  explains old new (Reply (line.Fault area.Catalog)) rose is = (tt, rose refl)
  explains old new (Reply line.Memory) rose is = tt
  explains old new _ rose is = absurd is

  refused : (answer : Answer) → Shows (held m before.stores.catalog) (λ blobs. get blobs index_name ≡ None)
      → Inits base (held m before.stores.catalog) answer (held m after.stores.catalog) → answer_status answer ≡ 3 → ⊥
  refused (Reply (line.Refused refusal.Initialised)) ready is three =
      not_both (get ready.0 index_name)
      (at_some (held m before.stores.catalog) (λ blobs. IsSome (get blobs index_name) × (held m after.stores.catalog ≡ Some blobs)) ready.0 ready.1 is).0
      ready.2
  refused (Reply line.Initialised) ready is three = omega (arith, three)
  refused (Reply (line.Fault name)) ready is three = omega (arith, three)
  refused (Reply line.Memory) ready is three = omega (arith, three)
  refused _ ready is three = is

sound : (base : List ℕ) (old new : Option Area) (answer : Answer) → Inits base old answer new → answer_status answer ≡ 6 → ⊥
sound base old new (Reply (line.Damaged name blob)) is six = is
sound base old new _ is six = omega (arith, six)

made_or_not : (base : List ℕ) (m : Area) (new : Option Area) → ((now : Area) × (new ≡ Some now) × IsFirstArea base m now)
    → (new ≡ Some m) ⊎ IsInitialised base m new
made_or_not base m new (now, is, inl same) = inl (is ∙ ap Some same)
made_or_not base m new (now, is, inr (none, made)) = inr (none, is ∙ ap Some made)

-- a catalog that wasn't made
pub not_made : (e : InitErr) (base : List ℕ) (old new : Option Area)
    → ((m : Area) → old ≡ Some m → e ≡ error.Already → IsSome (get m index_name) × (new ≡ Some m))
    → ((m : Area) → old ≡ Some m → (now : Area) × (new ≡ Some now) × IsFirstArea base m now) → Inits base old (init_answer e) new
not_made error.Fault base old new already left = intro old (λ m. (new ≡ Some m) ⊎ IsInitialised base m new) (λ m is. made_or_not base m new (left m is))
not_made error.Already base old new already left = intro old (λ m. IsSome (get m index_name) × (new ≡ Some m)) (λ m is. already m is refl)
not_made error.Memory base old new already left = intro old (λ m. (new ≡ Some m) ⊎ IsInitialised base m new) (λ m is. made_or_not base m new (left m is))

pub init_accepts : {B : Type 0} (m : Members B) (base : List ℕ) → Accepts (init_meaning m base)
init_accepts m base = record {
  refused = λ before after answer ready acts. refused m base before after answer ready acts.0;
  sound = λ before after answer ready acts. sound base _ _ answer acts.0;
  fits = λ before ready touched. absurd touched;
}
