-- Items that are applied one after the other carry entries on.
use Rattle.std.proofs.Common.{◌≡◌, ℕ, List, [], ◌∷◌, ◌++◌, take, drop, sym, ap, ◌∙◌, append_assoc}
use Rattle.std.proofs.lemmas.List.{append-nil, take-append-drop}
use Rattle.pkg_meta.specs.Lawful.{Placed}
use Rattle.pkg_meta.specs.declared.commit.Commit.{Commit}
use Rattle.pkg_meta.specs.declared.entry.Entry.{Entry}
use Rattle.fold_core.specs.Entries.{Keeps, entries_of}
use Rattle.fold_core.specs.Items.{items_of}
use Rattle.fold_core.specs.Laws.{CarriesOn}
use Rattle.fold_core.specs.Places.{all_applied}
use Rattle.fold_core.proofs.Applied.{entries_step}
use Rattle.fold_core.proofs.Gathered.{items_joined}

all_carry : (keeps : Keeps) (before xs : List Placed) → all_applied keeps (entries_of keeps before) xs ≡ entries_of keeps (before ++ xs)
all_carry keeps before [] = sym (ap (entries_of keeps) (append-nil before))
all_carry keeps before (x ∷ xs) =
    ap (λ (es : List Entry). all_applied keeps es xs) (sym (entries_step keeps before x))
    ∙ all_carry keeps (before ++ x ∷ []) xs
    ∙ ap (entries_of keeps) (append_assoc before (x ∷ []) xs)

pub carries : (keeps : Keeps) (cs : List Commit) (key : List ℕ) (k : ℕ) → CarriesOn keeps cs key k
carries keeps cs key k =
    all_carry keeps (items_of (take k cs) key) (items_of (drop k cs) key)
    ∙ ap (entries_of keeps) (sym (items_joined (take k cs) (drop k cs) key) ∙ ap (λ (l : List Commit). items_of l key) (take-append-drop k cs))
