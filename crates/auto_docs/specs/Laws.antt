-- The auto documents have the laws of a hive's documents.
use Rattle.std.specs.Prelude.{◌≢◌, ℕ, List, [], ◌∷◌, IsSome, refl}
use Rattle.std.specs.List.{IsDistinct}
use Rattle.pkg_meta.specs.declared.entry.Entry.{Entry}
use Rattle.fold_core.specs.Docs.{id_index_name, body_named}
use Rattle.fold_core.specs.Laws.{AreOfEntries, AreOwned, HaveOwnNames, IsWhole}
use Rattle.fold_core.proofs.DocNames.{found_first, owner_of}
use Rattle.auto_docs.specs.Documents.{auto_docs, auto_index_doc}

pub auto_docs_owned : (base key : List ℕ) (number stamp : ℕ) (es : List Entry) → IsWhole key → AreOwned key (auto_docs base key number stamp es)
auto_docs_owned base key number stamp [] whole = tt
auto_docs_owned base key number stamp (e ∷ es) whole = (owner_of key _ whole, tt)

pub auto_docs_distinct : (base key : List ℕ) (number stamp : ℕ) (es : List Entry) → HaveOwnNames (auto_docs base key number stamp es)
unfolding IsDistinct
auto_docs_distinct base key number stamp [] = tt
auto_docs_distinct base key number stamp (e ∷ es) = (tt, tt)

pub auto_docs_indexed : (base key : List ℕ) (number stamp : ℕ) (es : List Entry) → es ≢ [] → IsSome (body_named (id_index_name key) (auto_docs base key number stamp es))
auto_docs_indexed base key number stamp [] some = absurd (some refl)
auto_docs_indexed base key number stamp (e ∷ es) some = found_first (id_index_name key) (auto_index_doc key (e ∷ es)) [] refl

pub auto_docs_staged : (base key : List ℕ) (number stamp : ℕ) (es : List Entry) → AreOfEntries es (auto_docs base key number stamp es)
auto_docs_staged base key number stamp [] = tt
auto_docs_staged base key number stamp (e ∷ es) = (tt, tt)
