-- The feed that five areas are: what the program finds at its start.
use Rattle.std.specs.Prelude.{◌≡◌, ℕ, List, [], ◌∷◌, true, None, ⊤}
use Rattle.std.specs.FinMap.{empty, get}
use Rattle.std.specs.Option.{option_and_then}
use Rattle.blob_store.specs.Area.{Area, with_blob}
use Rattle.pkg_meta.specs.Catalog.{Catalog}
use Rattle.catalog_doc.specs.Catalogs.{IsCatalog}
use Rattle.catalog_doc.specs.Documents.{index_text}
use Rattle.catalog_doc.specs.Names.{index_name}
use Rattle.catalog_doc.specs.Spelled.{SpellsCatalog}
use Rattle.fold_core.specs.Docs.{owner}
use Rattle.fold_core.specs.Folds.{Fold, Look}
use Rattle.hive_laws.specs.Areas.{IsHiveArea, IsSoundArea}
use Rattle.feed_laws.specs.Worlds.{HiveNow, World}

-- the documents in an area: what it holds under the names that ids own
abbrev pub documents_in : Area → Look (List ℕ)
documents_in m name = option_and_then (λ (key : List ℕ). get m name) (owner name)

-- a hive without a round, as its area tells it
pub record IsHiveOf (cs : Catalog) (m : Area) (h : HiveNow) : Type 0 where
  pub area : IsHiveArea cs h.cursor h.states m
  pub held : h.held ≡ documents_in m
  pub round : h.round ≡ None

-- each hive is the one of its area
abbrev pub AreHivesOf : Catalog → List Area → List HiveNow → Type 0
AreHivesOf cs [] [] = ⊤
AreHivesOf cs (m ∷ ms) (h ∷ hs) = IsHiveOf cs m h × AreHivesOf cs ms hs
AreHivesOf cs [] (h ∷ hs) = ⊥
AreHivesOf cs (m ∷ ms) [] = ⊥

-- A feed that is up, in which no round stands, and whose areas are the catalog's and those of the hives.
pub record IsWorldOf (area : Area) (ms : List Area) (w : World) : Type 0 where
  pub catalog : IsCatalog w.commits
  pub spells : SpellsCatalog area w.base w.commits
  pub own : w.area ≡ area
  pub hives : AreHivesOf w.commits ms w.hives
  pub up : w.up ≡ true

-- each hive's area is sound with the cursor and the states that it tells
abbrev pub AreSoundAreas : Catalog → List Fold → List Area → List HiveNow → Type 0
AreSoundAreas cs [] [] [] = ⊤
AreSoundAreas cs (f ∷ fs) (m ∷ ms) (h ∷ hs) = IsSoundArea f cs h.cursor h.states m × AreSoundAreas cs fs ms hs
AreSoundAreas cs [] (m ∷ ms) hs = ⊥
AreSoundAreas cs [] [] (h ∷ hs) = ⊥
AreSoundAreas cs (f ∷ fs) [] hs = ⊥
AreSoundAreas cs (f ∷ fs) (m ∷ ms) [] = ⊥

-- a hive without anything
abbrev pub new_hive : HiveNow
new_hive = record { held = λ name. None; states = λ key. None; cursor = 0; round = None }

-- as many of them as there are rules
abbrev pub new_hives : List Fold → List HiveNow
new_hives [] = []
new_hives (f ∷ fs) = new_hive ∷ new_hives fs

-- a feed without commits: its catalog's area holds the index alone, its hives nothing
abbrev pub new_world : List ℕ → List Fold → World
new_world base fs = record { base = base; commits = []; area = with_blob index_name (index_text base []) empty; hives = new_hives fs; up = true }
