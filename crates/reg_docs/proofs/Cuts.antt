-- Entries cut into runs, a run at a time.
use Rattle.std.proofs.Common.{◌≡◌, ◌<◌, ◌≤◌, ℕ, zero, suc, List, [], ◌∷◌, ◌++◌, length, take, drop, map, min, refl, sym, ap, ◌∙◌, subst, arith, inl, inr, append_assoc, append-nil, length-append, length-drop}
use Rattle.std.proofs.lemmas.Bool.{cases_lt}
use Rattle.std.proofs.lemmas.List.{drop_all, nil_from_length, take_all}
use Rattle.std.proofs.Math.Seq.{drop-append_seam, take-append_seam}
use Rattle.pkg_meta.specs.declared.entry.Entry.{Entry}
use Rattle.reg_docs.specs.Pages.{cut, cut_within}

-- room for more runs than there are changes nothing
with_room : (n m : ℕ) (es : List Entry) → length es ≤ n → length es ≤ m → cut_within n es ≡ cut_within m es
with_room zero zero es p q = refl
with_room zero (suc m) [] p q = refl
with_room zero (suc m) (e ∷ es) p q = absurd (omega (arith, p))
with_room (suc n) zero [] p q = refl
with_room (suc n) zero (e ∷ es) p q = absurd (omega (arith, q))
with_room (suc n) (suc m) [] p q = refl
with_room (suc n) (suc m) (e ∷ es) p q =
    let fewer = length-drop 63 es in
    ap (λ (runs : List (List Entry)). take 64 (e ∷ es) ∷ runs) (with_room n m (drop 63 es) (omega (arith, fewer, p)) (omega (arith, fewer, q)))

-- no entries have no runs
pub cut-none : (es : List Entry) → length es ≡ 0 → cut es ≡ []
unfolding cut
cut-none [] none = refl
cut-none (e ∷ es) none = absurd (omega (arith, none))

-- the first run and the others
pub cut-parts : (es : List Entry) → 0 < length es → cut es ≡ take 64 es ∷ cut (drop 64 es)
unfolding cut
cut-parts [] some = absurd (omega (arith, some))
cut-parts (e ∷ es) some =
    let fewer = length-drop 63 es in
    ap (λ (runs : List (List Entry)). take 64 (e ∷ es) ∷ runs) (with_room (length es) (length (drop 63 es)) (drop 63 es) (omega (arith, fewer)) (omega arith))

-- a front of 64, or all of fewer
record IsFront (es run rest : List Entry) : Type 0 where
  taken : take 64 es ≡ run
  dropped : drop 64 es ≡ rest

front_of_parts : (run rest : List Entry) → length run ≡ min 64 (length (run ++ rest)) → IsFront (run ++ rest) run rest
front_of_parts run rest size =
    let sum = length-append run rest in
    elim (cases_lt (length (run ++ rest)) 64) [
      | inl short ↦
          let none : rest ≡ [] = nil_from_length rest (omega (arith, size, sum, short)) in
          let whole : run ++ rest ≡ run = ap (λ (l : List Entry). run ++ l) none ∙ append-nil run in
          record {
            taken = take_all 64 (run ++ rest) (omega (arith, short)) ∙ whole;
            dropped = drop_all 64 (run ++ rest) (omega (arith, short)) ∙ sym none;
          }
      | inr long ↦
          let full : length run ≡ 64 = omega (arith, size, long) in
          record {
            taken = ap (λ (n : ℕ). take n (run ++ rest)) (sym full) ∙ take-append_seam run rest;
            dropped = ap (λ (n : ℕ). drop n (run ++ rest)) (sym full) ∙ drop-append_seam run rest;
          }
    ]

-- a run that is cut off the front
pub cut_off : (es run rest : List Entry) → es ≡ run ++ rest → length run ≡ min 64 (length es) → 0 < length es → cut es ≡ run ∷ cut rest
cut_off es run rest parts size some =
    let same : length run ≡ min 64 (length (run ++ rest)) = size ∙ ap (λ (l : List Entry). min 64 (length l)) parts in
    let front = front_of_parts run rest same in
    let more : 0 < length (run ++ rest) = subst (λ (l : List Entry). 0 < length l) parts some in
    ap cut parts ∙ cut-parts (run ++ rest) more ∙ ap (λ (l : List Entry). l ∷ cut (drop 64 (run ++ rest))) front.taken ∙ ap (λ (l : List Entry). run ∷ cut l) front.dropped

-- one run more
pub run_turn : {A : Type 0} (f : List Entry → A) (done later : List A) (d : A) (es run rest : List Entry) (whole : List A)
    → es ≡ run ++ rest → length run ≡ min 64 (length es) → 0 < length es → d ≡ f run → later ≡ done ++ d ∷ []
    → done ++ map f (cut es) ≡ whole → later ++ map f (cut rest) ≡ whole
run_turn f done later d es run rest whole parts size some made pushed so_far =
    ap (λ (l : List _). l ++ map f (cut rest)) pushed
    ∙ append_assoc done (d ∷ []) (map f (cut rest))
    ∙ ap (λ x. done ++ x ∷ map f (cut rest)) made
    ∙ ap (λ (runs : List (List Entry)). done ++ map f runs) (sym (cut_off es run rest parts size some))
    ∙ so_far

-- no run is left
pub all_runs : {A : Type 0} (f : List Entry → A) (done whole : List A) (rest : List Entry) → length rest ≡ 0 → done ++ map f (cut rest) ≡ whole → done ≡ whole
all_runs f done whole rest none so_far =
    sym (append-nil done) ∙ sym (ap (λ (runs : List (List Entry)). done ++ map f runs) (cut-none rest none)) ∙ so_far
