-- The text before the first `/`.
use Rattle.std.proofs.Common.{◌≡◌, ◌<◌, ◌≤◌, ◌+◌, ℕ, suc, List, [], ◌∷◌, length, take, Bool, cond, Some, None, option_map, inl, inr, refl, sym, ◌∙◌, ap, arith}
use Rattle.std.proofs.lemmas.Bool.{cases_Bool, cases_lt, le-ltb, lt-ltb}
use Rattle.std.specs.Prelude.{◌==◌}
use Rattle.std.specs.List.{position, position_or_len}
use Rattle.fold_core.specs.Docs.{before_slash}

abbrev slash_at : List ℕ → ℕ
slash_at bytes = position_or_len (λ (b : ℕ). b == 47) bytes

front_cut : (bytes : List ℕ) → slash_at bytes < length bytes → Some (take (slash_at bytes) bytes) ≡ before_slash bytes
front_cut [] within = absurd (omega (arith, within))
front_cut (b ∷ t) within = elim (cases_Bool (b == 47)) [
  | inl slash ↦ rw slash refl
  | inr other ↦
      let more : slash_at (b ∷ t) ≡ 1 + slash_at t = rw other refl in
      let next : slash_at (b ∷ t) ≡ suc (slash_at t) = omega (arith, more) in
      ap (λ (n : ℕ). Some (take n (b ∷ t))) next ∙ ap (option_map (λ (front : List ℕ). b ∷ front)) (front_cut t (omega (arith, next, within)))
      ∙ sym (ap (λ (h : Bool). cond h (Some []) (option_map (λ (front : List ℕ). b ∷ front) (before_slash t))) other)
]

front_none : (bytes : List ℕ) → length bytes ≤ slash_at bytes → None ≡ before_slash bytes
front_none [] none = refl
front_none (b ∷ t) none = elim (cases_Bool (b == 47)) [
  | inl slash ↦ let zero : slash_at (b ∷ t) ≡ 0 = rw slash refl in absurd (omega (arith, zero, none))
  | inr other ↦
      let more : slash_at (b ∷ t) ≡ 1 + slash_at t = rw other refl in
      ap (option_map (λ (front : List ℕ). b ∷ front)) (front_none t (omega (arith, more, none)))
      ∙ sym (ap (λ (h : Bool). cond h (Some []) (option_map (λ (front : List ℕ). b ∷ front) (before_slash t))) other)
]

pub cut_is : (bytes : List ℕ) (at : ℕ) → Some at ≡ position (λ (b : ℕ). b == 47) bytes → Some (take at bytes) ≡ before_slash bytes
cut_is bytes at is = elim (cases_lt (slash_at bytes) (length bytes)) [
  | inl lt ↦
      let same : at ≡ slash_at bytes = cc (rw (lt-ltb (slash_at bytes) (length bytes) lt) at is) in
      rw same (front_cut bytes lt)
  | inr le ↦ cc (rw (le-ltb (slash_at bytes) (length bytes) le) at is)
]

pub cut_none : (bytes : List ℕ) → None ≡ position (λ (b : ℕ). b == 47) bytes → None ≡ before_slash bytes
cut_none bytes is = elim (cases_lt (slash_at bytes) (length bytes)) [
  | inl lt ↦ cc (rw (lt-ltb (slash_at bytes) (length bytes) lt) at is)
  | inr le ↦ front_none bytes le
]
