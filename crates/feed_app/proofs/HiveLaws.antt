-- The laws of each hive's documents.
use Rattle.std.proofs.Common.{◌≡◌, ℕ, List, [], refl}
use Rattle.auto_docs.specs.Laws.{auto_docs_owned as auto_owned, auto_docs_staged as auto_staged}
use Rattle.flat_container.specs.Laws.{content_docs_owned as content_owned, content_docs_staged as content_staged}
use Rattle.reg_docs.specs.Laws.{registration_docs_owned as registration_owned, registration_docs_staged as registration_staged}
use Rattle.reg_docs.specs.declared.addresses.RegistrationHive.TheVariants as registration
use Rattle.pkg_meta.specs.Catalog.{Catalog}
use Rattle.pkg_meta.specs.Lawful.{IsLawful}
use Rattle.pkg_meta.specs.declared.entry.Entry.{Entry}
use Rattle.fold_core.specs.Laws.{AreOfEntries, AreOwned, IsWhole}
use Rattle.fold_core.specs.declared.hive.HiveName.{HiveName}
use Rattle.fold_core.specs.declared.hive.HiveName.TheVariants.{Plain, SemVer2, Content, Auto}
use Rattle.hive_laws.specs.FoldLaws.{FoldLaws}
use Rattle.hive_laws.proofs.EveryHive.{fold_laws}
use Rattle.feed_app.specs.Hives.{hive_fold, keeps_in, makes_in}

empty_in : (hive : HiveName) (base key : List ℕ) (number stamp : ℕ) → makes_in hive base key number stamp [] ≡ []
empty_in Plain base key number stamp = refl
empty_in SemVer2 base key number stamp = refl
empty_in Content base key number stamp = refl
empty_in Auto base key number stamp = refl

owned_in : (hive : HiveName) (base key : List ℕ) (number stamp : ℕ) (es : List Entry) → IsWhole key → AreOwned key (makes_in hive base key number stamp es)
owned_in Plain base key number stamp es whole = registration_owned registration.Plain base key number stamp es whole
owned_in SemVer2 base key number stamp es whole = registration_owned registration.SemVer2 base key number stamp es whole
owned_in Content base key number stamp es whole = content_owned base key number stamp es whole
owned_in Auto base key number stamp es whole = auto_owned base key number stamp es whole

pub staged_in : (hive : HiveName) (base key : List ℕ) (number stamp : ℕ) (es : List Entry) → AreOfEntries es (makes_in hive base key number stamp es)
staged_in Plain base key number stamp es = registration_staged registration.Plain base key number stamp es
staged_in SemVer2 base key number stamp es = registration_staged registration.SemVer2 base key number stamp es
staged_in Content base key number stamp es = content_staged base key number stamp es
staged_in Auto base key number stamp es = auto_staged base key number stamp es

pub laws_of : (hive : HiveName) (base : List ℕ) (cs : Catalog) → IsLawful cs → FoldLaws (hive_fold hive base) cs
laws_of hive base cs lawful = fold_laws (keeps_in hive) (makes_in hive) base (empty_in hive) (owned_in hive) (staged_in hive) cs lawful
