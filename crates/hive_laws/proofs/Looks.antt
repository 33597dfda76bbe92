-- Two names are one or not, and what stands under a name.
use Rattle.std.proofs.Common.{◌≡◌, ◌≢◌, ◌⊎◌, inl, inr, ℕ, List, Bool, true, false, cond, Option, None, Some, is_some, refl, ◌∙◌, ap}
use Rattle.std.proofs.lemmas.Bool.{false_from_ne_true}
use Rattle.std.proofs.lemmas.Slice.Eq.{bytes_eq-Decides}
use Rattle.std.specs.Prelude.{IsSome}
use Rattle.std.specs.Str.{bytes_eq}
use Rattle.fold_core.specs.Events.{IsChanged}
use Rattle.fold_core.specs.Folds.{Look}
use Rattle.hive_laws.specs.Steps.{with_found}

pub no_some : {A : Type 0} (o : Option A) → o ≡ None → IsSome o → ⊥
no_some None e h = cc
no_some (Some x) e h = cc

pub is_some_by : {A : Type 0} (o p : Option A) → o ≡ p → IsSome p → IsSome o
is_some_by o p e h = ap is_some e ∙ h

pub some_by : {A : Type 0} (o : Option A) (x : A) → o ≡ Some x → IsSome o
some_by o x e = ap is_some e

pub none_or_some : {A : Type 0} (o : Option A) → (o ≡ None) ⊎ IsSome o
none_or_some None = inl refl
none_or_some (Some x) = inr refl

pub unclean : (b : Bool) → b ≡ true → b ≡ false → ⊥
unclean b yes_ no_ = cc

-- two names are one or not
pub decide : (q name : List ℕ) → (q ≡ name) ⊎ (q ≢ name)
decide q name = elim (bytes_eq q name) as (λ (b : Bool). bytes_eq q name ≡ b → (q ≡ name) ⊎ (q ≢ name)) [
  | true ↦ λ e. inl ((bytes_eq-Decides q name).0 e)
  | false ↦ λ e. inr (λ same. unclean (bytes_eq q name) ((bytes_eq-Decides q name).1 same) e)
] refl

-- what is put stands under its name, and leaves the others
pub with_found_here : {X : Type 0} (name : List ℕ) (found : Option X) (held : Look X) → with_found name found held name ≡ found
with_found_here name found held = ap (λ (b : Bool). cond b found (held name)) ((bytes_eq-Decides name name).1 refl)

pub with_found_other : {X : Type 0} (name : List ℕ) (found : Option X) (held : Look X) (q : List ℕ) → q ≢ name → with_found name found held q ≡ held q
with_found_other name found held q other =
    ap (λ (b : Bool). cond b found (held q)) (false_from_ne_true (bytes_eq q name) (λ e. other ((bytes_eq-Decides q name).0 e)))

pub with_found_changed : (name : List ℕ) (found : Option (List ℕ)) (held : Look (List ℕ)) → IsChanged name found held (with_found name found held)
with_found_changed name found held = record { here = with_found_here name found held; other = with_found_other name found held }
