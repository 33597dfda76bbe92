-- Steps of the lists of calls.
use Rattle.std.proofs.Common.{◌≡◌, List, [], ◌∷◌, ◌++◌, map, Bool, true, false, cond, refl, sym, ◌∙◌, ap, append_assoc, append-nil}
use Rattle.std.specs.List.{filter}

-- one more of a list goes through a filter
pub one_more : {X Y : Type 0} (f : X → Y) (test : X → Bool) (x : X) (rest : List X) (calls all : List Y)
    → calls ++ map f (filter test (x ∷ rest)) ≡ all → (calls ++ map f (filter test (x ∷ []))) ++ map f (filter test rest) ≡ all
one_more f test x rest calls all is =
    append_assoc calls (map f (filter test (x ∷ []))) (map f (filter test rest)) ∙ ap (λ l. calls ++ l) (joined (test x)) ∙ is
  where
    joined : (b : Bool) → map f (cond b (x ∷ []) []) ++ map f (filter test rest) ≡ map f (cond b (x ∷ filter test rest) (filter test rest))
    joined true = refl
    joined false = refl

-- nothing is left of a list
pub ended : {X Y : Type 0} (f : List X → List Y) (done all : List Y) (left : List X) → left ≡ [] → f [] ≡ [] → done ++ f left ≡ all → done ≡ all
ended f done all left none empty is = sym (append-nil done) ∙ ap (λ l. done ++ l) (sym (ap f none ∙ empty)) ∙ is
