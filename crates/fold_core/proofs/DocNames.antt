-- Names below an id's folder: who owns them, and which differ.
use Rattle.std.proofs.Common.{◌≡◌, ◌≢◌, ℕ, List, [], ◌∷◌, ◌++◌, codes, Bool, true, false, ◌&&◌, Some, if◌then◌else◌, ap, ◌∙◌, refl}
use Rattle.std.specs.Prelude.{◌==◌, not, IsSome}
use Rattle.std.proofs.lemmas.List.{append_cancel_left}
use Rattle.std.proofs.lemmas.Slice.Eq.{bytes_eq-Decides}
use Rattle.std.specs.List.{list_all}
use Rattle.std.specs.Option.{is_some, option_map}
use Rattle.std.specs.Str.{bytes_eq}
use Rattle.fold_core.specs.Docs.{before_slash, body_named, name_below, owner}
use Rattle.fold_core.specs.Laws.{IsWhole}
use Rattle.fold_core.specs.declared.doc.Doc.{Doc}

first_true : (a b : Bool) → (a && b) ≡ true → a ≡ true
first_true true b h = refl
first_true false b h = h

second_true : (a b : Bool) → (a && b) ≡ true → b ≡ true
second_true true b h = h
second_true false b h = cc

not_true : (b : Bool) → not b ≡ true → b ≡ false
not_true true h = cc
not_true false h = refl

-- what stands before the first `/`
pub whole_front : (key rest : List ℕ) → list_all (λ (b : ℕ). not (b == 47)) key ≡ true → before_slash (key ++ (codes "/" ++ rest)) ≡ Some key
whole_front [] rest whole = refl
whole_front (b ∷ key) rest whole =
    ap (λ (t : Bool). if t then Some [] else option_map (λ (front : List ℕ). b ∷ front) (before_slash (key ++ (codes "/" ++ rest)))) (not_true (b == 47) (first_true _ _ whole))
    ∙ ap (option_map (λ (front : List ℕ). b ∷ front)) (whole_front key rest (second_true _ _ whole))

-- a name is owned by the key of its folder
pub owner_of : (key rest : List ℕ) → IsWhole key → owner (name_below key rest) ≡ Some key
owner_of key rest whole = whole_front key rest whole

not_equal : (x y : List ℕ) → x ≢ y → bytes_eq x y ≡ false
not_equal x y other =
    elim (bytes_eq x y) as (λ (t : Bool). bytes_eq x y ≡ t → t ≡ false) [ true ↦ λ is. absurd (other ((bytes_eq-Decides x y).0 is)) | false ↦ λ is. refl ] refl

-- names with different ends differ
pub apart : (key a b : List ℕ) → a ≢ b → bytes_eq (name_below key a) (name_below key b) ≡ false
apart key a b other =
    not_equal (name_below key a) (name_below key b) (λ e. other (append_cancel_left (codes "/") a b (append_cancel_left key (codes "/" ++ a) (codes "/" ++ b) (append_cancel_left (codes "d/") _ _ e))))

-- the first document is found under its name
pub found_first : (name : List ℕ) (d : Doc) (docs : List Doc) → name ≡ d.name → IsSome (body_named name (d ∷ docs))
found_first name d docs same = ap (λ (t : Bool). is_some (if t then Some d.body else body_named name docs)) ((bytes_eq-Decides name d.name).1 same)
