-- Where a feed begins.
use Rattle.std.proofs.Common.{◌≡◌, ℕ, List, [], ◌∷◌, Option, None, Some, IsSome, IsUtf8, refl, sym, ap, subst, arith}
use Rattle.std.specs.FinMap.{get}
use Rattle.std.specs.Option.{option_and_then}
use Rattle.blob_store.specs.Area.{Area}
use Rattle.pkg_meta.specs.Catalog.{Catalog}
use Rattle.pkg_meta.specs.Lawful.{IsLawful}
use Rattle.catalog_doc.specs.Spelled.{SpellsCatalog}
use Rattle.catalog_doc.proofs.Unspelled.{none_spelled}
use Rattle.catalog_laws.proofs.Kept.{none_catalog}
use Rattle.fold_core.specs.Docs.{owner}
use Rattle.fold_core.specs.Folds.{Fold, Look}
use Rattle.fold_core.specs.Sound.{IsSoundHive}
use Rattle.hive_laws.specs.FoldLaws.{FoldLaws}
use Rattle.hive_laws.proofs.Looks.{no_some}
use Rattle.hive_laws.proofs.OneId.{carry, empty_sound}
use Rattle.feed_laws.specs.Begins.{AreHivesOf, AreSoundAreas, IsHiveOf, IsWorldOf, documents_in, new_hives, new_world}
use Rattle.feed_laws.specs.Rounds.{HasRound}
use Rattle.feed_laws.specs.Soundness.{AreSound, HaveLaws, IsSoundNow, Sound}
use Rattle.feed_laws.specs.Worlds.{HiveNow, World}
use Rattle.hive_laws.specs.Areas.{IsSoundArea}

owned_there : (m : Area) (name key : List ℕ) → owner name ≡ Some key → documents_in m name ≡ get m name
owned_there m name key own = ap (λ (o : Option (List ℕ)). option_and_then (λ (k : List ℕ). get m name) o) own

known_there : (m : Area) (name : List ℕ) (o : Option (List ℕ)) → owner name ≡ o → IsSome (documents_in m name) → IsSome (owner name)
known_there m name None is some = absurd (no_some (documents_in m name) (ap (λ (o : Option (List ℕ)). option_and_then (λ (k : List ℕ). get m name) o) is) some)
known_there m name (Some key) is some = subst IsSome (sym is) refl

hive_begun : (f : Fold) (cs : Catalog) (m : Area) (h : HiveNow) → FoldLaws f cs → IsHiveOf cs m h → IsSoundArea f cs h.cursor h.states m → IsSoundNow f cs h
hive_begun f cs m h laws is area = record {
  hive = subst (λ (held : Look (List ℕ)). IsSoundHive f cs h.cursor h.states held) (sym is.held) (record {
    cursor = area.sound.cursor;
    ids = λ key. carry f cs laws key (get m) (documents_in m) (λ name own. owned_there m name key own) h.cursor (h.states key) (area.sound.ids key);
  });
  known = subst (λ (held : Look (List ℕ)). (name : List ℕ) → IsSome (held name) → IsSome (owner name)) (sym is.held) (λ name. known_there m name (owner name) refl);
  round = subst (HasRound f cs h.cursor h.states h.held) (sym is.round) tt;
}

hives_begun : (cs : Catalog) (fs : List Fold) (ms : List Area) (hs : List HiveNow) → IsLawful cs → HaveLaws fs → AreHivesOf cs ms hs → AreSoundAreas cs fs ms hs → AreSound cs fs hs
hives_begun cs [] [] [] lawful laws are areas = tt
hives_begun cs [] [] (h ∷ hs) lawful laws are areas = absurd areas
hives_begun cs [] (m ∷ ms) hs lawful laws are areas = absurd areas
hives_begun cs (f ∷ fs) [] hs lawful laws are areas = absurd areas
hives_begun cs (f ∷ fs) (m ∷ ms) [] lawful laws are areas = absurd areas
hives_begun cs (f ∷ fs) (m ∷ ms) (h ∷ hs) lawful laws are areas = (hive_begun f cs m h (laws.0 cs lawful) are.0 areas.0, hives_begun cs fs ms hs lawful laws.1 are.1 areas.1)

pub world_begun : (fs : List Fold) → HaveLaws fs → (area : Area) (ms : List Area) (w : World) → IsWorldOf area ms w → AreSoundAreas w.commits fs ms w.hives → Sound fs w
world_begun fs laws area ms w is areas = record {
  lawful = is.catalog;
  spells = subst (λ (m : Area). SpellsCatalog m w.base w.commits) (sym is.own) is.spells;
  hives = hives_begun w.commits fs ms w.hives is.catalog.lawful laws is.hives areas;
}

none_begun : (fs : List Fold) → HaveLaws fs → AreSound [] fs (new_hives fs)
none_begun [] laws = tt
none_begun (f ∷ fs) laws = (
  record {
    hive = record { cursor = omega arith; ids = λ key. empty_sound f [] (laws.0 [] none_catalog.lawful) key };
    known = λ name is. absurd (no_some {A = List ℕ} None refl is);
    round = tt;
  },
  none_begun fs laws.1,
)

pub new_begun : (fs : List Fold) → HaveLaws fs → (base : List ℕ) → IsUtf8 base → Sound fs (new_world base fs)
new_begun fs laws base text = record { lawful = none_catalog; spells = none_spelled base text; hives = none_begun fs laws }
