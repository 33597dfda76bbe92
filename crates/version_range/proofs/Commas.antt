-- What the first comma cuts.
use Rattle.std.proofs.Common.{◌≡◌, ℕ, List, [], ◌∷◌, ◌++◌, Bool, true, false, not, Option, Some, None, option_map, refl, sym, ◌∙◌, ap, inl, inr}
use Rattle.std.specs.List.{list_all}
use Rattle.std.proofs.lemmas.Bool.{and_parts, and_from, cases_Bool}
use Rattle.version_range.specs.Bytes.{is_comma}
use Rattle.version_range.specs.Cuts.{in_front, parted}
use Rattle.version_range.proofs.Sound.{no_parts, parts_left}

not_true : (b : Bool) → not b ≡ true → b ≡ false
not_true true held = cc
not_true false held = refl

pub parted_whole : (left right : List ℕ) → list_all (λ b. not (is_comma b)) left ≡ true → parted (left ++ 44 ∷ right) ≡ Some (left, right)
parted_whole [] right whole = refl
parted_whole (b ∷ left) right whole =
    let here = and_parts (not (is_comma b)) (list_all (λ b. not (is_comma b)) left) whole in
    rw (not_true (is_comma b) here.0) (ap (option_map (in_front b)) (parted_whole left right here.1))

pub unparted_whole : (text : List ℕ) → list_all (λ b. not (is_comma b)) text ≡ true → parted text ≡ None
unparted_whole [] whole = refl
unparted_whole (b ∷ rest) whole =
    let here = and_parts (not (is_comma b)) (list_all (λ b. not (is_comma b)) rest) whole in
    rw (not_true (is_comma b) here.0) (ap (option_map (in_front b)) (unparted_whole rest here.1))

none_front : (b : ℕ) (cut : Option (List ℕ × List ℕ)) → option_map (in_front b) cut ≡ None → cut ≡ None
none_front b None is = refl
none_front b (Some cut) is = absurd (no_parts (in_front b cut) (sym is))

not_comma : (b : ℕ) → is_comma b ≡ false → not (is_comma b) ≡ true
not_comma b other = rw other refl

pub whole_unparted : (text : List ℕ) → parted text ≡ None → list_all (λ b. not (is_comma b)) text ≡ true
whole_unparted [] is = refl
whole_unparted (b ∷ rest) is = elim (cases_Bool (is_comma b)) [
  | inl comma ↦ absurd (no_parts ([], rest) (sym (rw comma at is)))
  | inr other ↦ and_from _ _ (not_comma b other) (whole_unparted rest (none_front b (parted rest) (rw other at is)))
]

whole_more : (b : ℕ) (left right : List ℕ) (cut : Option (List ℕ × List ℕ)) → ((l m : List ℕ) → cut ≡ Some (l, m) → list_all (λ c. not (is_comma c)) l ≡ true)
    → is_comma b ≡ false → option_map (in_front b) cut ≡ Some (left, right) → list_all (λ c. not (is_comma c)) left ≡ true
whole_more b left right None rest other is = absurd (no_parts (left, right) is)
whole_more b left right (Some parts) rest other is =
    ap (list_all (λ c. not (is_comma c))) (sym (parts_left (b ∷ parts.0) left parts.1 right is)) ∙ and_from _ _ (not_comma b other) (rest parts.0 parts.1 refl)

pub whole_left : (text left right : List ℕ) → parted text ≡ Some (left, right) → list_all (λ b. not (is_comma b)) left ≡ true
whole_left [] left right is = absurd (no_parts (left, right) is)
whole_left (b ∷ rest) left right is = elim (cases_Bool (is_comma b)) [
  | inl comma ↦ ap (list_all (λ c. not (is_comma c))) (sym (parts_left [] left rest right (rw comma at is)))
  | inr other ↦ whole_more b left right (parted rest) (λ l m cut. whole_left rest l m cut) other (rw other at is)
]
