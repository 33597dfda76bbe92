-- How often a key stands in lists.
use Rattle.std.proofs.Common.{◌≡◌, ◌≢◌, ◌+◌, ℕ, List, [], ◌∷◌, ◌++◌, true, false, if◌then◌else◌, refl, sym, ◌∙◌, arith}
use Rattle.std.proofs.lemmas.Bool.{false_from_ne_true}
use Rattle.std.proofs.lemmas.Slice.Eq.{bytes_eq-Decides}
use Rattle.std.specs.Str.{bytes_eq}
use Rattle.feed_laws.specs.Rounds.{times, without}

pub times-append : (key : List ℕ) (xs ys : List (List ℕ)) → times key (xs ++ ys) ≡ times key xs + times key ys
times-append key [] ys = omega arith
times-append key (x ∷ xs) ys = let h : times key (xs ++ ys) ≡ times key xs + times key ys = times-append key xs ys in omega arith

pub same_key : (key : List ℕ) → bytes_eq key key ≡ true
same_key key = (bytes_eq-Decides key key).1 refl

pub other_key : (key k : List ℕ) → key ≢ k → bytes_eq key k ≡ false
other_key key k other = false_from_ne_true (bytes_eq key k) (λ e. other ((bytes_eq-Decides key k).0 e))

pub times_one : (key : List ℕ) → times key (key ∷ []) ≡ 1
times_one key = rw (same_key key) (omega arith)

pub times_one_other : (key k : List ℕ) → key ≢ k → times key (k ∷ []) ≡ 0
times_one_other key k other = rw (other_key key k other) (omega arith)

pub times_without : (key : List ℕ) (xs : List (List ℕ)) → times key (without key xs) ≡ 0
times_without key [] = refl
times_without key (x ∷ xs) = elim (bytes_eq key x) as (λ b. bytes_eq key x ≡ b → times key (if b then without key xs else x ∷ without key xs) ≡ 0) [
  | true ↦ λ e. times_without key xs
  | false ↦ λ e. let h : times key (without key xs) ≡ 0 = times_without key xs in rw e (omega arith)
] refl

-- the list without another key
pub times_without_other : (k key : List ℕ) (xs : List (List ℕ)) → key ≢ k → times key (without k xs) ≡ times key xs
times_without_other k key [] other = refl
times_without_other k key (x ∷ xs) other = elim (bytes_eq k x) as (λ b. bytes_eq k x ≡ b → times key (if b then without k xs else x ∷ without k xs) ≡ (if bytes_eq key x then 1 else 0) + times key xs) [
  | true ↦ λ e.
      let is : k ≡ x = (bytes_eq-Decides k x).0 e in
      let no_ : bytes_eq key x ≡ false = other_key key x (λ same. other (same ∙ sym is)) in
      let h : times key (without k xs) ≡ times key xs = times_without_other k key xs other in
      rw no_ (omega arith)
  | false ↦ λ e. let h : times key (without k xs) ≡ times key xs = times_without_other k key xs other in omega arith
] refl
