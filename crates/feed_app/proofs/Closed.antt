-- What follows where no catalog was opened.
use Rattle.std.proofs.Common.{◌≡◌, ◌≢◌, ◌⊎◌, ◌∷◌, ◌++◌, [], ℕ, List, length, Option, None, Some, true, inl, inr, ⊎_elim, refl, sym, ap, ◌∙◌, subst, arith}
use Rattle.std.specs.Option.{option_map}
use Rattle.feed_base.proofs.Options.{at_some}
use Rattle.std.specs.FinMap.{get}
use Rattle.feed_base.specs.Counts.{HasRisen}
use Rattle.blob_store.specs.Area.{Area}
use Rattle.blob_store.specs.Events.{Act, Change, Get, after_events}
use Rattle.blob_store.specs.Plans.{Makes, all_done}
use Rattle.blob_store.specs.Seen.{Seen}
use Rattle.pkg_meta.specs.Catalog.{Catalog}
use Rattle.catalog_doc.specs.CatDocs.{heads_of}
use Rattle.catalog_doc.specs.Catalogs.{IsCatalog}
use Rattle.catalog_doc.specs.Commits.{index_put}
use Rattle.catalog_doc.specs.Spelled.{SpellsCatalog}
use Rattle.catalog_doc.specs.Names.{index_name}
use Rattle.catalog_core.specs.Opened.{IsOpenFor, Opened}
use Rattle.catalog_core.specs.Openings.{IsRefusedOpening, StopsOpening}
use Rattle.catalog_opening.specs.Errors.{IfDamagedIn}
use Rattle.catalog_opening.specs.Openings.{IsAllowedBase, IsDamagedOf, IsOpeningPlan, IsStoreOf, IsToldBase, Mends, opening_gets}
use Rattle.catalog_opening.specs.declared.error.OpenErr.{OpenErr}
use Rattle.catalog_opening.specs.declared.error.OpenErr.TheVariants as opening
use Rattle.fold_core.specs.declared.hive.HiveName.{HiveName}
use Rattle.admin_wire.specs.declared.line.Line.TheVariants as line
use Rattle.admin_wire.specs.declared.line.Refusal.TheVariants as refusal
use Rattle.admin_wire.specs.declared.area.AreaName.TheVariants as area
use Rattle.feed_app.specs.Answers.{answer_status}
use Rattle.feed_app.specs.Causes.{open_answer}
use Rattle.feed_app.specs.Frame.{Explains, Reach, Touches}
use Rattle.feed_app.specs.Openings.{IsOfStore, MayOpen, NotOpened, OpensNone, TellsOtherBase}
use Rattle.feed_app.specs.Outside.{AreaRose, Members, Sight}
use Rattle.feed_app.specs.Spelled.{HasCatalog}
use Rattle.feed_app.specs.declared.answer.Answer.{Answer}
use Rattle.feed_app.specs.declared.answer.Answer.TheVariants.{Reply}

-- why a catalog that was spelled wasn't opened
why : (given : Option (List ℕ)) (e : OpenErr) (base : List ℕ) (same : Type 0) → IsRefusedOpening given base e
    → ((stored other : List ℕ) → e ≡ opening.BaseDiffers stored other → same)
    → IsOfStore (open_answer e) ⊎ (TellsOtherBase given base (open_answer e) × same)
why given opening.Fault base same is keeps = inl tt
why given opening.Missing base same is keeps = absurd is
why given (opening.Damaged name) base same is keeps = absurd is
why given (opening.BaseDiffers stored other) base same is keeps =
    inr ((other, is.1, is.2, ap (λ (text : List ℕ). Reply (line.Refused (refusal.Base text other))) is.0), keeps stored other refl)
why given opening.Memory base same is keeps = inl tt

-- an area that spells a catalog has a plan of its opening
its_plan : (m : Area) (base : List ℕ) (cs : Catalog) → SpellsCatalog m base cs → (plan : List Act) × IsOpeningPlan m base cs plan
its_plan m base cs spells = ⊎_elim
    (λ held. (opening_gets (length (heads_of cs)), inl (held, refl)))
    (λ lags. (opening_gets (length (heads_of lags.0)) ++ Change (index_put base cs) ∷ [], inr (lags.0, lags.1, lags.2, lags.3, refl)))
    spells.index

-- where another base address is told, the index alone was got
kept_by : (s now : Seen) (m : Area) → s.held ≡ Some m → Makes (Get index_name ∷ []) s now → now.held ≡ s.held
kept_by s now m there made = made.area ∙ ap (option_map (after_events (all_done (Get index_name ∷ [])))) there ∙ sym there

pub stops_kept : (e : OpenErr) (s now : Seen) (base : List ℕ) (cs : Catalog)
    → ((m : Area) (b : List ℕ) (cs : Catalog) (plan : List Act) → IsCatalog cs → s.held ≡ Some m → SpellsCatalog m b cs → IsOpeningPlan m b cs plan
    → StopsOpening plan e s now)
    → HasCatalog s base cs → (stored other : List ℕ) → e ≡ opening.BaseDiffers stored other → now.held ≡ s.held
stops_kept e s now base cs runs has stored other is =
    let m = has.store.0 in
    let plan = its_plan m base cs has.store.2 in
    kept_by s now m has.store.1
    (subst (λ (x : OpenErr). StopsOpening plan.0 x s now) is (runs m base cs plan.0 has.lawful has.store.1 has.store.2 plan.1))

told_by : (given : Option (List ℕ)) (e : OpenErr) (s : Seen) → (e ≡ opening.Missing → (m : Area) → s.held ≡ Some m → get m index_name ≡ None)
    → ((m : Area) → s.held ≡ Some m → IfDamagedIn e (IsDamagedOf m)) → ((m : Area) → s.held ≡ Some m → IsToldBase given m e)
    → OpensNone given (open_answer e) s
told_by given opening.Fault s missing damaged base = tt
told_by given opening.Missing s missing damaged base = missing refl
told_by given (opening.Damaged name) s missing damaged base = damaged
told_by given (opening.BaseDiffers stored other) s missing damaged base = base
told_by given opening.Memory s missing damaged base = tt

-- what an opening answers
pub closed_by : (given : Option (List ℕ)) (e : OpenErr) (s now : Seen) (X : List ℕ → Catalog → Type 0)
    → (e ≡ opening.Missing → (m : Area) → s.held ≡ Some m → get m index_name ≡ None)
    → ((m : Area) → s.held ≡ Some m → IfDamagedIn e (IsDamagedOf m)) → ((m : Area) → s.held ≡ Some m → IsToldBase given m e)
    → ((b : List ℕ) (cs : Catalog) → IsCatalog cs → IsStoreOf s b cs → IsRefusedOpening given b e × X b cs)
    → ((m : Area) (b : List ℕ) (cs : Catalog) (plan : List Act) → IsCatalog cs → s.held ≡ Some m → SpellsCatalog m b cs → IsOpeningPlan m b cs plan
    → StopsOpening plan e s now)
    → NotOpened given (open_answer e) s now
closed_by given e s now X missing damaged other_base refused runs = record {
  told = told_by given e s missing damaged other_base;
  calls = (e, refl, runs);
  why = λ base cs has. why given e base (now.held ≡ s.held) (refused base cs has.lawful has.store).0 (stops_kept e s now base cs runs has);
}

-- what an opening allows
pub allowed_by : {B : Type 0} (given : Option (List ℕ)) (s now : Seen) (o : Opened B)
    → ((b : List ℕ) (cs : Catalog) → IsCatalog cs → IsStoreOf s b cs → IsAllowedBase given b × (o.base ≡ b) × (o.settled ≡ true) × IsOpenFor o now cs)
    → MayOpen given s
allowed_by given s now o opened = λ base cs has. (opened base cs has.lawful has.store).0

-- the answer of a store that failed, or of want of memory, has no other status
of_store_status : (answer : Answer) → IsOfStore answer → (answer_status answer ≡ 4) ⊎ (answer_status answer ≡ 8)
of_store_status (Reply (line.Fault name)) is = inl refl
of_store_status (Reply line.Memory) is = inr refl
of_store_status _ is = absurd is

of_store_not : (answer : Answer) (status : ℕ) → IsOfStore answer → answer_status answer ≡ status → status ≢ 4 → status ≢ 8 → ⊥
of_store_not answer status is own no4 no8 = ⊎_elim (λ e. no4 (sym own ∙ e)) (λ e. no8 (sym own ∙ e)) (of_store_status answer is)

module _ (given : Option (List ℕ)) (answer : Answer) (old new : Seen) (closed : NotOpened given answer old new) (base : List ℕ) (cs : Catalog)
    (has : HasCatalog old base cs) where
  -- a catalog that is spelled wasn't opened: the status is one of three
  pub closed_not : (status : ℕ) → answer_status answer ≡ status → status ≢ 3 → status ≢ 4 → status ≢ 8 → ⊥
  closed_not status own no3 no4 no8 =
      ⊎_elim (λ store. of_store_not answer status store own no4 no8) (λ differs. no3 (sym own ∙ ap answer_status differs.0.3)) (closed.why base cs has)

  -- where no other base address than its own is given, its store failed, or memory ran out
  pub of_store : MayOpen given old → IsOfStore answer
  of_store may = ⊎_elim (λ store. store)
      (λ differs. absurd (differs.0.2 (at_some given (λ text. text ≡ base) differs.0.0 differs.0.1 (may base cs has)))) (closed.why base cs has)

  pub closed_store : MayOpen given old → (status : ℕ) → answer_status answer ≡ status → status ≢ 4 → status ≢ 8 → ⊥
  closed_store may status own no4 no8 = of_store_not answer status (of_store may) own no4 no8

pub fault_by : (e : OpenErr) → open_answer e ≡ Reply (line.Fault area.Catalog) → e ≡ opening.Fault
fault_by opening.Fault is = refl
fault_by _ is = cc is

-- of a store that failed
pub closed_rose : (e : OpenErr) (s now : Seen) (answer : Answer) → answer ≡ open_answer e → Mends s now (e ≡ opening.Fault)
    → answer ≡ Reply (line.Fault area.Catalog) → HasRisen s.faults now.faults
closed_rose e s now answer is mends fault = let rose = mends.counts.risen (fault_by e (sym is ∙ fault)) in omega (arith, rose)

pub not_of_hive : {X : Type 0} (given : Option (List ℕ)) (answer : Answer) (s now : Seen) (hive : HiveName) → NotOpened given answer s now
    → answer ≡ Reply (line.Fault (area.Hive hive)) → X
not_of_hive given answer s now hive closed is = absurd (subst (λ (a : Answer). OpensNone given a s) is closed.told)

-- why it came
pub closed_explains : {B : Type 0} (m : Members B) (reach : Reach) (before after : Sight B) (given : Option (List ℕ)) (now : Seen) (answer : Answer)
    → Touches reach.catalog
    → (answer ≡ Reply (line.Fault area.Catalog) → AreaRose m before.stores.catalog after.stores.catalog)
    → NotOpened given answer (m.seen before.stores.catalog) now
    → Explains m reach before answer after
closed_explains m reach before after given now (Reply (line.Refused why)) touches rose closed = tt
closed_explains m reach before after given now (Reply (line.Fault area.Catalog)) touches rose closed = (touches, rose refl)
closed_explains m reach before after given now (Reply (line.Damaged area.Catalog blob)) touches rose closed = (
  touches,
  inl (
    (λ base cs has. closed_not given (Reply (line.Damaged area.Catalog blob)) (m.seen before.stores.catalog) now closed base cs has 6 refl
        (λ e. omega (arith, e)) (λ e. omega (arith, e)) (λ e. omega (arith, e))),
    λ area later told left. inl (closed.told area told),
  ),
)
closed_explains m reach before after given now (Reply line.Memory) touches rose closed = tt
closed_explains m reach before after given now _ touches rose closed = absurd closed.told
