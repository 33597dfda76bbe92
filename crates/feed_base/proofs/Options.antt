-- What holds of the value of an option, where there is one.
use Rattle.std.proofs.Common.{◌≡◌, Option, Some, None, IfSome, IfNone, refl, subst}

pub intro : {A : Type 0} (o : Option A) (P : A → Type 0) → ((x : A) → o ≡ Some x → P x) → IfSome o P
intro None P f = tt
intro (Some x) P f = f x refl

pub at_some : {A : Type 0} (o : Option A) (P : A → Type 0) (x : A) → o ≡ Some x → IfSome o P → P x
at_some o P x is h = subst (λ (p : Option _). IfSome p P) is h

pub weaker : {A : Type 0} (o : Option A) (P Q : A → Type 0) → ((x : A) → P x → Q x) → IfSome o P → IfSome o Q
weaker None P Q f h = tt
weaker (Some x) P Q f h = f x h

pub both_of : {A : Type 0} (o : Option A) (P Q R : A → Type 0) → ((x : A) → P x → Q x → R x) → IfSome o P → IfSome o Q → IfSome o R
both_of None P Q R to p q = tt
both_of (Some x) P Q R to p q = to x p q

-- at an option, what holds of its value or of none
pub at_none : {A : Type 0} (o : Option A) (P : Type 0) → o ≡ None → IfNone o P → P
at_none o P is h = subst (λ (p : Option _). IfNone p P) is h
