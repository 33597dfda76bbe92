-- Sound feeds.
use Rattle.std.specs.Prelude.{ℕ, List, [], ◌∷◌, IsSome, ⊤}
use Rattle.pkg_meta.specs.Catalog.{Catalog}
use Rattle.pkg_meta.specs.Lawful.{IsLawful}
use Rattle.catalog_doc.specs.Catalogs.{IsCatalog}
use Rattle.catalog_doc.specs.Spelled.{SpellsCatalog}
use Rattle.fold_core.specs.Docs.{owner}
use Rattle.fold_core.specs.Folds.{Fold}
use Rattle.fold_core.specs.Sound.{IsSoundHive}
use Rattle.hive_laws.specs.FoldLaws.{FoldLaws}
use Rattle.feed_laws.specs.Rounds.{HasRound}
use Rattle.feed_laws.specs.Worlds.{HiveNow, World}

-- a hive is sound, each document that it holds is one of an id, and so is the round that stands
pub record IsSoundNow (f : Fold) (cs : Catalog) (h : HiveNow) : Type 0 where
  pub hive : IsSoundHive f cs h.cursor h.states h.held
  pub known : (name : List ℕ) → IsSome (h.held name) → IsSome (owner name)
  pub round : HasRound f cs h.cursor h.states h.held h.round

-- each hive by its own rule
abbrev pub AreSound : Catalog → List Fold → List HiveNow → Type 0
AreSound cs [] [] = ⊤
AreSound cs (f ∷ fs) (h ∷ hs) = IsSoundNow f cs h × AreSound cs fs hs
AreSound cs [] (h ∷ hs) = ⊥
AreSound cs (f ∷ fs) [] = ⊥

-- each hive's documents have the laws that all others rest on, over every lawful catalog
abbrev pub HaveLaws : List Fold → Type 0
HaveLaws [] = ⊤
HaveLaws (f ∷ fs) = ((cs : Catalog) → IsLawful cs → FoldLaws f cs) × HaveLaws fs

-- The feed is sound: the catalog's area spells its catalog, and each hive is sound.
pub record Sound (fs : List Fold) (w : World) : Type 0 where
  pub lawful : IsCatalog w.commits
  pub spells : SpellsCatalog w.area w.base w.commits
  pub hives : AreSound w.commits fs w.hives
