-- What calls leave of an open catalog and of its store.
use Rattle.std.specs.Prelude.{◌≡◌, ◌⊎◌, ℕ, List, [], ◌∷◌, Bool, true, false, if◌then◌else◌, Option, Result}
use Rattle.std.specs.Option.{is_some}
use Rattle.blob_store.specs.Events.{Act, Get}
use Rattle.blob_store.specs.Seen.{Seen}
use Rattle.pkg_meta.specs.Catalog.{Catalog}
use Rattle.pkg_meta.specs.declared.commit.Stored.{Stored}
use Rattle.catalog_doc.specs.CatDocs.{doc_at}
use Rattle.catalog_opening.specs.Openings.{KeepsSpelling, Mends}
use Rattle.catalog_opening.specs.Plans.{RunsReading}
use Rattle.catalog_opening.specs.Settlings.{settling_plan, with_more}
use Rattle.catalog_opening.specs.declared.error.ReadErr.{ReadErr}
use Rattle.catalog_rows.specs.Kept.{IsKeptOf}
use Rattle.catalog_core.specs.Opened.{IsOpenFor, Opened}

-- it stays open for the catalog, and at a crash at each moment the area spells it
pub record StaysOpenFor {B : Type 0} (old new : Opened B) (before after : Seen) (cs : Catalog) : Type 0 where
  pub open_for : IsOpenFor new after cs
  pub moments : KeepsSpelling before after old.base cs

-- A call that changes no catalog: at most an index is put, the count of faults rises exactly where a call failed, the base
-- address stays, and the catalog stays open for each one that it was open for. Where it is settled, it stays so, nothing is put,
-- and what is kept stays.
pub record StaysOpen {B : Type 0} (old new : Opened B) (before after : Seen) (failed : Type 0) : Type 0 where
  pub mends : Mends before after failed
  pub base : new.base ≡ old.base
  pub settled : old.settled ≡ true → (new.settled ≡ true) × (after.held ≡ before.held)
  pub kept : old.settled ≡ true → new.kept ≡ old.kept
  pub open_for : (cs : Catalog) → IsOpenFor old before cs → StaysOpenFor old new before after cs

-- These calls settle a catalog: none where it is settled; else the last page known and the page behind it are got, and the
-- index of what stands there is put.
abbrev pub IsSettlingPlan : {B : Type 0} → Opened B → Catalog → List Act → Type 0
IsSettlingPlan o cs acts =
    ((o.settled ≡ true) × (acts ≡ []))
    ⊎ ((o.settled ≡ false) × (before : Catalog) × (more : Option Stored) × (with_more before more ≡ cs) × IsKeptOf o.kept before
    × (acts ≡ settling_plan o.base before more))

-- the calls that settle it were made as the result tells
abbrev pub RunsSettling : {A B : Type 0} → Opened B → Catalog → Seen → Seen → Result A ReadErr → Type 0
RunsSettling o cs old new result = (acts : List Act) × IsSettlingPlan o cs acts × RunsReading acts old new result

-- the document of this name is got once, where it is there
abbrev pub doc_gets : Bool → List ℕ → List Act
doc_gets there name = if there then Get name ∷ [] else []

-- the calls of a read of the document were made as the result tells: it is got where each catalog that is meant has it
abbrev pub RunsDoc : {A B : Type 0} → Opened B → List ℕ → Seen → Seen → Result A ReadErr → Type 0
RunsDoc o name old new result = (there : Bool) × ((cs : Catalog) → IsOpenFor o old cs → is_some (doc_at o.base cs name) ≡ there)
    × RunsReading (doc_gets there name) old new result
