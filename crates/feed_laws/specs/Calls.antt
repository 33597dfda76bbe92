-- When store calls meet their conditions, each in the area that those before it left.
use Rattle.std.specs.Prelude.{◌≡◌, ◌⊎◌, ℕ, List, [], ◌∷◌, ◌++◌, if◌then◌else◌, Option, Some, ⊤}
use Rattle.std.specs.FinMap.{get}
use Rattle.blob_store.specs.Area.{Area}
use Rattle.blob_store.specs.Events.{Act, Get, Change, Event, Fate, after_event, after_events}
use Rattle.blob_store.specs.Seen.{Seen}
use Rattle.blob_store.specs.Tracked.{Tracked}
use Rattle.blob_store.specs.declared.call.Call.TheVariants.{Put, Remove}
use Rattle.pkg_meta.specs.Catalog.{Catalog}
use Rattle.pkg_meta.specs.declared.commit.Stored.{Stored}
use Rattle.pkg_meta.specs.declared.state.StateDoc.{StateDoc}
use Rattle.catalog_doc.specs.Events.{IsIndexPut, IsObjectPut, IsPagePut}
use Rattle.cursor_doc.specs.Cursor.{cursor_name}
use Rattle.hive_state.specs.State.{state_name, state_text}
use Rattle.fold_core.specs.Events.{IsCleanPut, IsDirtyPut, IsDocDelete, IsDocPut}
use Rattle.fold_core.specs.Folds.{Fold, Look, Settled}
use Rattle.hive_laws.specs.Areas.{cursor_at}
use Rattle.hive_laws.specs.Rounds.{IsStored}
use Rattle.feed_laws.specs.Happenings.{Catalogs, Happening, InCatalog, PutIndex, PutObject, PutPage, Reads, took}
use Rattle.feed_laws.specs.Steps.{Run}
use Rattle.feed_laws.specs.Worlds.{World}

-- A put into the catalog's area leads on to this catalog: one of a leaf or of a staged blob, or of the index, to the one that there is; one
-- of a page, to the one with its commit.
abbrev pub PutLeadsOn : List ℕ → Catalog → Area → (name bytes : List ℕ) → Catalog → Type 0
PutLeadsOn base cs m name bytes next = (IsObjectPut cs name × (next ≡ cs))
    ⊎ ((IsIndexPut base cs name bytes × (next ≡ cs)) ⊎ ((c : Stored) × IsPagePut m base cs c name bytes × (next ≡ cs ++ c ∷ [])))

-- A call on the catalog's area meets its condition, and leads on to this catalog. Nothing is removed.
abbrev pub MeetsOnCatalog : List ℕ → Catalog → Area → Act → Catalog → Type 0
MeetsOnCatalog base cs m (Get name) next = next ≡ cs
MeetsOnCatalog base cs m (Change (Put name bytes)) next = PutLeadsOn base cs m name bytes next
MeetsOnCatalog base cs m (Change (Remove name)) next = ⊥

-- each of these calls does, in the area that those before it left; those that took effect lead from the one catalog to the other
abbrev pub MeetAllOnCatalog : List ℕ → Catalog → Area → List Event → Catalog → Type 0
MeetAllOnCatalog base cs m [] last = last ≡ cs
MeetAllOnCatalog base cs m (e ∷ es) last = (next : Catalog) × MeetsOnCatalog base cs m e.act next
    × MeetAllOnCatalog base (if took e.fate then next else cs) (after_event e m) es last

-- the calls between two moments of the catalog's store did so
abbrev pub CallsMeetOnCatalog : List ℕ → Catalog → Area → Seen → Seen → Catalog → Type 0
CallsMeetOnCatalog base cs m old new last = (events : List Event) × Tracked events old new × MeetAllOnCatalog base cs m events last

-- the feed with this catalog and this area of it
abbrev pub with_catalog : Catalog → Area → World → World
with_catalog cs area w = record w { commits = cs; area = area }

-- a step is this call on the catalog's area, with this fate
abbrev pub IsStepAs : Act → Fate → Happening → Type 0
IsStepAs (Get name) fate step = step ≡ Reads (InCatalog name) fate
IsStepAs (Change (Put name bytes)) fate step = (step ≡ Catalogs (PutObject name bytes fate))
    ⊎ ((step ≡ Catalogs (PutIndex name bytes fate)) ⊎ ((c : Stored) × (step ≡ Catalogs (PutPage c name bytes fate))))
IsStepAs (Change (Remove name)) fate step = ⊥

abbrev pub IsStepOf : Event → Happening → Type 0
IsStepOf event step = IsStepAs event.act event.fate step

-- so is each of these, in order
abbrev pub AreStepsOf : List Event → List Happening → Type 0
AreStepsOf [] [] = ⊤
AreStepsOf [] (step ∷ steps) = ⊥
AreStepsOf (event ∷ events) [] = ⊥
AreStepsOf (event ∷ events) (step ∷ steps) = IsStepOf event step × AreStepsOf events steps

-- the feed ran in these calls between two moments of the catalog's store, and then has this catalog; its hives are as before
abbrev pub RunsInCalls : List Fold → World → Seen → Seen → Catalog → Type 0
RunsInCalls fs w old new last = (events : List Event) × (steps : List Happening) × Tracked events old new × AreStepsOf events steps
    × Run fs w steps (with_catalog last (after_events events w.area) w)

-- a put into a hive's area of a state that stands at commit k, as dirty or as clean, where the id has this stored state, or none
abbrev pub PutsState : Fold → Catalog → ℕ → Area → (name bytes : List ℕ) → Type 0
PutsState f cs k m name bytes = (key : List ℕ) × (stored : Option StateDoc) × (s : StateDoc) × IsStored key m stored
    × (name ≡ state_name key) × (bytes ≡ state_text s) × (s.at ≡ k) × (IsDirtyPut f cs key stored s ⊎ IsCleanPut f cs key (get m) s)

-- of a document, beside a stored state that stands at k
abbrev pub PutsDocument : Fold → Catalog → ℕ → Area → (name bytes : List ℕ) → Type 0
PutsDocument f cs k m name bytes = (key : List ℕ) × (s : StateDoc) × IsStored key m (Some s) × (s.at ≡ k) × IsDocPut f cs key s name bytes (get m)

-- of the cursor at k, where nothing is left to do for any id up to k
abbrev pub PutsCursor : Fold → Catalog → ℕ → Area → (name bytes : List ℕ) → Type 0
PutsCursor f cs k m name bytes = (states : Look StateDoc) × ((key : List ℕ) → IsStored key m (states key)) × Settled f cs k states (get m)
    × (name ≡ cursor_name) × (cursor_at cs k ≡ Some bytes)

-- a document is removed, beside a stored state that stands at k
abbrev pub RemovesDocument : Fold → Catalog → ℕ → Area → List ℕ → Type 0
RemovesDocument f cs k m name = (key : List ℕ) × (s : StateDoc) × IsStored key m (Some s) × (s.at ≡ k) × IsDocDelete f cs key s name (get m)

-- a call on a hive's area meets its condition, on the way to commit k
abbrev pub MeetsOnHive : Fold → Catalog → ℕ → Area → Act → Type 0
MeetsOnHive f cs k m (Get name) = ⊤
MeetsOnHive f cs k m (Change (Put name bytes)) = PutsState f cs k m name bytes ⊎ (PutsDocument f cs k m name bytes ⊎ PutsCursor f cs k m name bytes)
MeetsOnHive f cs k m (Change (Remove name)) = RemovesDocument f cs k m name

-- each of these calls does, in the area that those before it left
abbrev pub MeetAllOnHive : Fold → Catalog → ℕ → Area → List Event → Type 0
MeetAllOnHive f cs k m [] = ⊤
MeetAllOnHive f cs k m (e ∷ es) = MeetsOnHive f cs k m e.act × MeetAllOnHive f cs k (after_event e m) es

-- the calls between two moments of the hive's store did so
abbrev pub CallsMeetOnHive : Fold → Catalog → ℕ → Area → Seen → Seen → Type 0
CallsMeetOnHive f cs k m old new = (events : List Event) × Tracked events old new × MeetAllOnHive f cs k m events
