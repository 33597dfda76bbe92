-- The answers of a clock that goes through a list.
use Rattle.std.proofs.Common.{◌≡◌, ◌+◌, ℕ, zero, suc, List, [], ◌∷◌, ◌++◌, length, refl, ◌∙◌, arith, add-one, length-append}
use Rattle.feed_base.specs.Clock.{answer_at, answers_of}

pub answers_of-none : (list : List ℕ) → answers_of list 0 ≡ []
unfolding answers_of
answers_of-none list = refl

pub answers_of-more : (list : List ℕ) (n : ℕ) → answers_of list (n + 1) ≡ answers_of list n ++ answer_at list n ∷ []
unfolding answers_of
answers_of-more list n = rw add-one refl

pub length-answers_of : (list : List ℕ) (n : ℕ) → length (answers_of list n) ≡ n
unfolding answers_of
length-answers_of list zero = refl
length-answers_of list (suc n) = length-append (answers_of list n) (answer_at list n ∷ []) ∙ omega (arith, length-answers_of list n)
