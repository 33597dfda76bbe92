-- What settling leaves of an open catalog.
use Rattle.std.proofs.Common.{◌≡◌, ℕ, List, length, true, false, Option, None, Some, Ok, Err, Result, inr, refl, subst, arith}
use Rattle.blob_store.specs.Area.{Area}
use Rattle.blob_store.specs.Seen.{Seen}
use Rattle.pkg_meta.specs.Catalog.{Catalog}
use Rattle.pkg_meta.specs.declared.commit.Stored.{Stored}
use Rattle.catalog_doc.specs.Catalogs.{IsCatalog}
use Rattle.catalog_doc.specs.declared.head.PageHead.{PageHead}
use Rattle.catalog_doc.specs.declared.row.Row.{Row}
use Rattle.catalog_doc.proofs.Numbered.{last_is_next}
use Rattle.catalog_doc.proofs.OnePage.{length-rows_from}
use Rattle.catalog_opening.specs.Errors.{IfDamagedRead}
use Rattle.catalog_opening.specs.Openings.{IsSettledStoreOf, IsStoreOf, KeepsSpelling, Mends}
use Rattle.catalog_opening.specs.Plans.{RunsReading}
use Rattle.catalog_opening.proofs.Halting.{halts_made, reading_told}
use Rattle.catalog_opening.specs.Settlings.{settling_plan, IsDamagedOrTooMany, IsKnownBefore, AreReadRows, more_rows, with_more}
use Rattle.catalog_opening.specs.declared.error.ReadErr.{ReadErr}
use Rattle.catalog_opening.specs.declared.error.ReadErr.TheVariants as read
use Rattle.catalog_rows.specs.Kept.{IsKeptOf, Kept}
use Rattle.catalog_core.specs.Framing.{RunsSettling, StaysOpen}
use Rattle.catalog_core.specs.Opened.{IsOpenFor, IsUnsettled, Opened}
use Rattle.catalog_core.proofs.Frames.{AllSpelled, known_of, stays_iff, stays_settled, stays_unsettled, store_known}

-- what is told of the area, by the base address and the pages' heads that were passed
abbrev pub Spells : Seen → Seen → List ℕ → List PageHead → Type 0
Spells a b base pages = (cs : Catalog) (more : Option Stored) → IsKnownBefore cs more pages → IsStoreOf a base (with_more cs more) → IsStoreOf b base (with_more cs more)

abbrev pub SpellsAlways : Seen → Seen → List ℕ → List PageHead → Type 0
SpellsAlways a b base pages = (cs : Catalog) (more : Option Stored) → IsKnownBefore cs more pages → IsStoreOf a base (with_more cs more) → KeepsSpelling a b base (with_more cs more)

abbrev pub SettlesIndex : Seen → Seen → List ℕ → List PageHead → Type 0
SettlesIndex a b base pages = (cs : Catalog) (more : Option Stored) → IsKnownBefore cs more pages → IsStoreOf a base (with_more cs more) → IsSettledStoreOf b base (with_more cs more)

abbrev pub TellsMore : Seen → List ℕ → List PageHead → Result (List Row) ReadErr → Type 0
TellsMore a base pages r = (cs : Catalog) (more : Option Stored) → IsKnownBefore cs more pages → IsStoreOf a base (with_more cs more) → AreReadRows (more_rows more) r

module _ {B : Type 0} (o n : Opened B) (a b : Seen) (base : List ℕ) (pages : List PageHead) (at : base ≡ o.base) (heads : pages ≡ o.kept.pages) (unsettled : o.settled ≡ false) where
  passed : (P : List ℕ → List PageHead → Type 0) → P base pages → P o.base o.kept.pages
  passed P here = subst (λ (l : List ℕ). P l o.kept.pages) at (subst (P base) heads here)

  all_spelled : Spells a b base pages → SpellsAlways a b base pages → AllSpelled a b o.base o.kept.pages
  all_spelled spelled moments = passed (AllSpelled a b) (λ before last known store. (spelled before last known store, moments before last known store))

  -- it stays unsettled
  pub stopped : (P Q : Type 0) → Mends a b P → (P → Q) → (Q → P) → Spells a b base pages → SpellsAlways a b base pages
      → n.kept ≡ o.kept → n.base ≡ o.base → n.settled ≡ o.settled → StaysOpen o n a b Q
  stopped P Q mends to from spelled moments kept same settled =
      stays_iff o n a b P Q (stays_unsettled o n a b P unsettled mends (all_spelled spelled moments) kept same settled) to from

  -- it is settled
  pub whole : (P Q : Type 0) → Mends a b P → (P → Q) → (Q → P) → Spells a b base pages → SpellsAlways a b base pages → SettlesIndex a b base pages
      → (more : List Row) → TellsMore a base pages (Ok more)
      → ((cs : Catalog) (last : Option Stored) → IsCatalog (with_more cs last) → IsKeptOf o.kept cs → more ≡ more_rows last → IsKeptOf n.kept (with_more cs last))
      → n.base ≡ o.base → n.settled ≡ true → StaysOpen o n a b Q
  whole P Q mends to from spelled moments index more tells took same settled =
      stays_iff o n a b P Q
      (stays_settled o n a b P unsettled mends (all_spelled spelled moments) (passed (SettlesIndex a b) index)
      (λ before last known store keeps. took before last known.whole keeps
      (passed (λ (l : List ℕ) (ps : List PageHead). TellsMore a l ps (Ok more)) tells before last known store)) same settled) to from

-- what is damaged
module _ {B : Type 0} (o : Opened B) (base : List ℕ) (pages : List PageHead) (at : base ≡ o.base) (heads : pages ≡ o.kept.pages) (unsettled : o.settled ≡ false) where
  as_kept : (P : List ℕ → List PageHead → Type 0) → P base pages → P o.base o.kept.pages
  as_kept P here = subst (λ (l : List ℕ). P l o.kept.pages) at (subst (P base) heads here)

  never_damaged : (rows : List Row) (e : ReadErr) → AreReadRows rows (Err e) → IfDamagedRead {A = List Row} (Err e) (λ name. ⊥)
  never_damaged rows (read.Damaged name) told = told
  never_damaged rows read.Fault told = tt
  never_damaged rows read.Memory told = tt

  -- nothing, where it is open for a catalog
  pub undamaged : (a : Seen) (error : ReadErr) → TellsMore a base pages (Err error) → (cs : Catalog) → IsOpenFor o a cs → IfDamagedRead {A = List Row} (Err error) (λ name. ⊥)
  undamaged a error tells cs is =
      let part = known_of o a unsettled cs is in
      never_damaged (more_rows part.last) error
      (as_kept (λ (l : List ℕ) (ps : List PageHead). TellsMore a l ps (Err error)) tells part.before part.last part.known (store_known o a unsettled cs is))

  pub damaged_as : (m : Area) (name : List ℕ) → IsDamagedOrTooMany m base pages name → IsUnsettled m o name
  damaged_as m name told = (unsettled, as_kept (λ (l : List ℕ) (ps : List PageHead). IsDamagedOrTooMany m l ps name) told)

-- the calls, by the base address and the pages' heads that were passed
abbrev pub RunsPlan : {A : Type 0} → Seen → Seen → Result A ReadErr → List ℕ → List PageHead → Type 0
RunsPlan a b r base pages = (cs : Catalog) (more : Option Stored) → IsKnownBefore cs more pages → IsStoreOf a base (with_more cs more) → RunsReading (settling_plan base cs more) a b r

pub settling_runs : {A B : Type 0} (o : Opened B) (base : List ℕ) (pages : List PageHead) → base ≡ o.base → pages ≡ o.kept.pages → o.settled ≡ false → (a b : Seen) (r : Result A ReadErr)
    → RunsPlan a b r base pages → (cs : Catalog) → IsOpenFor o a cs → RunsSettling o cs a b r
settling_runs o base pages at heads unsettled a b r runs cs is =
    let part = known_of o a unsettled cs is in (
      settling_plan o.base part.before part.last,
      inr (unsettled, part.before, part.last, part.is, part.keeps, refl),
      as_kept o base pages at heads unsettled (RunsPlan a b r) runs part.before part.last part.known (store_known o a unsettled cs is),
    )

-- behind a `?`
pub settling_stopped : {C B : Type 0} (o : Opened B) (base : List ℕ) (pages : List PageHead) → base ≡ o.base → pages ≡ o.kept.pages → o.settled ≡ false → (a b : Seen) (error : ReadErr) (r : Result C ReadErr)
    → r ≡ Err error → RunsPlan {A = Unit {0}} a b (Err error) base pages → (cs : Catalog) → IsOpenFor o a cs → RunsSettling o cs a b r
settling_stopped o base pages at heads unsettled a b error r told runs cs is =
    let ran = settling_runs {A = Unit {0}} o base pages at heads unsettled a b (Err error) runs cs is in
    (ran.0, ran.1, reading_told ran.0 a b r error told ran.2)

-- and memory ran out behind all calls
pub settling_out : {A C B : Type 0} (o : Opened B) (base : List ℕ) (pages : List PageHead) → base ≡ o.base → pages ≡ o.kept.pages → o.settled ≡ false → (a b : Seen) (x : A) (r : Result C ReadErr)
    → r ≡ Err read.Memory → RunsPlan a b (Ok x) base pages → (cs : Catalog) → IsOpenFor o a cs → RunsSettling o cs a b r
settling_out o base pages at heads unsettled a b x r told runs cs is =
    let ran = settling_runs o base pages at heads unsettled a b (Ok x) runs cs is in
    (ran.0, ran.1, reading_told ran.0 a b r read.Memory told (halts_made ran.0 read.Memory a b ran.2 (λ no. let never : ⊥ = cc in never)))

-- where no rows are left, there is no commit more
pub nothing_more : (kept : Kept) (cs : Catalog) (last : Option Stored) → IsCatalog (with_more cs last) → IsKeptOf kept cs → length (more_rows last) ≡ 0 → IsKeptOf kept (with_more cs last)
nothing_more kept cs None lawful keeps none = keeps
nothing_more kept cs (Some c) lawful keeps none =
    let some = (last_is_next cs c lawful.lawful.commits).some in
    let rows = length-rows_from c.commit.number c.commit.stamp 0 c.commit.items in
    absurd (omega (arith, some, rows, none))
