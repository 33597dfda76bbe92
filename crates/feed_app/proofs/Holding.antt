-- What an opening and calls of an open catalog leave of its store.
use Rattle.std.proofs.Common.{◌≡◌, ◌≤◌, ℕ, List, Option, Some, true, inl, inr, ◌∙◌, ap, subst, arith, option_map}
use Rattle.feed_base.specs.Counts.{HasRisen, raised}
use Rattle.blob_store.specs.Area.{Area, with_blob}
use Rattle.blob_store.specs.Seen.{Seen}
use Rattle.pkg_meta.specs.Catalog.{Catalog}
use Rattle.catalog_doc.specs.Catalogs.{IsCatalog}
use Rattle.catalog_doc.specs.Documents.{index_text}
use Rattle.catalog_doc.specs.Names.{index_name}
use Rattle.catalog_doc.specs.Spelled.{SpellsCatalog}
use Rattle.catalog_opening.specs.Openings.{IsMended, IsStoreOf, KeepsSpelling, Mends}
use Rattle.catalog_core.specs.Framing.{StaysOpen}
use Rattle.catalog_core.specs.Opened.{IsOpenFor, Opened}
use Rattle.catalog_items.proofs.Getting.{leaves_then}
use Rattle.catalog_core.proofs.Frames.{known_store}
use Rattle.job_round.proofs.Stays.{mended_then}
use Rattle.feed_app.specs.Spelled.{IsOpenOver, StaysSpelled}

-- where an area was told, what an opening left is told too
pub told_after : (old now : Option Area) (m : Area) → IsMended old now → old ≡ Some m → (n : Area) × (now ≡ Some n)
told_after old now m (inl same) is = (m, same ∙ is)
told_after old now m (inr (base, heads, put)) is =
    (with_blob index_name (index_text base heads) m, put ∙ ap (option_map (with_blob index_name (index_text base heads))) is)

pub open_over : {B : Type 0} (s now : Seen) (o : Opened B) (A : List ℕ → Type 0)
    → ((b : List ℕ) (cs : Catalog) → IsCatalog cs → IsStoreOf s b cs → A b × (o.base ≡ b) × (o.settled ≡ true) × IsOpenFor o now cs) → IsOpenOver s o now
open_over s now o A opened = λ base cs has. let at = opened base cs has.lawful has.store in (at.1, at.3)

pub opened_spelled : {B : Type 0} (s now : Seen) (o : Opened B) → IsMended s.held now.held → IsOpenOver s o now
    → ((b : List ℕ) (cs : Catalog) → IsCatalog cs → IsStoreOf s b cs → KeepsSpelling s now b cs) → StaysSpelled s now
opened_spelled s now o mended over moments = record {
  mended = mended;
  spelled = λ base cs has.
      let at = over base cs has in (
        record { lawful = has.lawful; store = subst (λ (x : List ℕ). IsStoreOf now x cs) at.0 (known_store o now cs at.1) },
        moments base cs has.lawful has.store,
      );
}

pub closed_spelled : (s now : Seen) (F : Type 0) (A : List ℕ → Type 0) → Mends s now F
    → ((b : List ℕ) (cs : Catalog) → IsCatalog cs → IsStoreOf s b cs → A b × IsStoreOf now b cs)
    → ((b : List ℕ) (cs : Catalog) → IsCatalog cs → IsStoreOf s b cs → KeepsSpelling s now b cs) → StaysSpelled s now
closed_spelled s now F A mends refused moments = record {
  mended = mends.area;
  spelled = λ base cs has. (record { lawful = has.lawful; store = (refused base cs has.lawful has.store).1 }, moments base cs has.lawful has.store);
}

-- behind an opening
pub then_spelled : {B : Type 0} (s now after : Seen) (o n : Opened B) (F : Type 0) → StaysSpelled s now → IsOpenOver s o now → StaysOpen o n now after F
    → StaysSpelled s after
then_spelled s now after o n F first over stays = record {
  mended = mended_then s.held now.held after.held first.mended stays.mends.area;
  spelled = λ base cs has.
      let at = over base cs has in
      let next = stays.open_for cs at.1 in (
        record { lawful = has.lawful; store = subst (λ (x : List ℕ). IsStoreOf after x cs) (stays.base ∙ at.0) (known_store n after cs next.open_for) },
        leaves_then s now after (λ left. SpellsCatalog left base cs) (first.spelled base cs has).1
            (subst (λ (x : List ℕ). KeepsSpelling now after x cs) at.0 next.moments),
      );
}

pub fault_rose : (s now after : Seen) (F : Type 0) → Mends s now ⊥ → Mends now after F → F → HasRisen s.faults after.faults
fault_rose s now after F first second failed =
    let same : now.faults ≡ s.faults = first.counts.kept (λ no. no) in
    let rose : after.faults ≡ raised now.faults = second.counts.risen failed in
    subst (λ (n : ℕ). raised n ≤ after.faults) same (omega (arith, rose))
