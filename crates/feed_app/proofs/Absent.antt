-- Values that are there and aren't.
use Rattle.std.proofs.Common.{◌≡◌, Option, Some, None, IsSome}

pub not_both : {A : Type 0} (o : Option A) → IsSome o → o ≡ None → ⊥
not_both None some none = cc some
not_both (Some x) some none = cc none

pub some_none : {A : Type 0} (o : Option A) (x : A) → o ≡ Some x → o ≡ None → ⊥
some_none o x some none = cc (some, none)

pub one_value : {A : Type 0} (o : Option A) (x y : A) → o ≡ Some x → o ≡ Some y → x ≡ y
one_value o x y some other = cc (some, other)
