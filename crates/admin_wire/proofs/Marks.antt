-- Bytes that are cut at a mark, and texts in which it doesn't stand.
use Rattle.std.proofs.Common.{◌≡◌, ◌≢◌, ◌⊎◌, ◌<◌, ◌+◌, ◌-◌, ◌^◌, ℕ, List, [], ◌∷◌, ◌++◌, length, take, drop, Some, true, false, Bool, ◌||◌, not, refl, sym, ap, ◌∙◌, arith, length-append, length-drop, drop-cons, add-one, get_or, take-append-drop, inl, inr}
use Rattle.std.specs.Prelude.{◌==◌}
use Rattle.std.specs.List.{Contains, list_any, position, position_or_len}
use Rattle.std.specs.Fmt.{decimal}
use Rattle.std.specs.Str.Parse.{AllDigits}
use Rattle.std.proofs.Math.Seq.{take-append_seam, drop-append-add, take-length}
use Rattle.std.proofs.lemmas.Bool.{eqb-true}
use Rattle.std.proofs.lemmas.Bool.Decides.{nat_tests}
use Rattle.std.proofs.lemmas.Fmt.{decimal_is_IsNumeral}
use Rattle.std.proofs.lemmas.List.{get_or-take, length-take}
use Rattle.std.proofs.lemmas.List.Elements.{Contains-append_cases, Contains-append_right}
use Rattle.std.proofs.lemmas.List.Quantifiers.{position-Some}
use Rattle.std.proofs.lemmas.Str.Parse.{digit_from_value}

-- the mark doesn't stand in the text
abbrev pub Lacks : List ℕ → ℕ → Type 0
Lacks text mark = ¬ Contains text mark

lacks_first : (mark b : ℕ) (bs : List ℕ) → Lacks (b ∷ bs) mark → b ≢ mark
lacks_first mark b bs lacks e = lacks (0, omega arith, e)

lacks_others : (mark b : ℕ) (bs : List ℕ) → Lacks (b ∷ bs) mark → Lacks bs mark
lacks_others mark b bs lacks h = lacks (Contains-append_right (b ∷ []) bs mark h)

lacks_none : (mark : ℕ) → Lacks [] mark
lacks_none mark h = absurd (let k : h.0 < 0 = h.1 in omega arith)

lacks_one : (mark b : ℕ) → b ≢ mark → Lacks (b ∷ []) mark
lacks_one mark b other h = let k : h.0 ≡ 0 = omega (arith, h.1) in other (sym (ap (λ (i : ℕ). get_or (b ∷ []) i mark) k) ∙ h.2)

pub lacks_both : (mark : ℕ) (xs ys : List ℕ) → Lacks xs mark → Lacks ys mark → Lacks (xs ++ ys) mark
lacks_both mark xs ys first second h = elim (Contains-append_cases xs ys mark h) [ inl a ↦ first a | inr b ↦ second b ]

pub lacks_more : (mark b : ℕ) (bs : List ℕ) → b ≢ mark → Lacks bs mark → Lacks (b ∷ bs) mark
lacks_more mark b bs other lacks = lacks_both mark (b ∷ []) bs (lacks_one mark b other) lacks

neither : (p q : Bool) → p || q ≡ false → (p ≡ false) × (q ≡ false)
neither false q off = (refl, off)
neither true q off = absurd (cc off)

either : (p q : Bool) → p || q ≡ true → (p ≡ true) ⊎ (q ≡ true)
either false q on = inr on
either true q on = inl refl

-- what a search for the mark says
pub any_contains : (mark : ℕ) (text : List ℕ) → list_any (λ y. y == mark) text ≡ true → Contains text mark
any_contains mark [] held = absurd (cc held)
any_contains mark (b ∷ bs) held =
    elim (either (b == mark) (list_any (λ y. y == mark) bs) held)
    [ inl same ↦ (0, omega arith, eqb-true b mark same) | inr later ↦ Contains-append_right (b ∷ []) bs mark (any_contains mark bs later) ]

pub none_lacks : (mark : ℕ) (text : List ℕ) → list_any (λ y. y == mark) text ≡ false → Lacks text mark
none_lacks mark [] held = lacks_none mark
none_lacks mark (b ∷ bs) held =
    let off = neither (b == mark) (list_any (λ y. y == mark) bs) held in
    let first : (b == mark) ≡ false = off.0 in
    let other : b ≢ mark = λ e. grind (arith, nat_tests) in
    lacks_more mark b bs other (none_lacks mark bs off.1)

pub some_same : {A : Type 0} (x y : A) → Some x ≡ Some y → x ≡ y
some_same x y e = cc e

-- where the mark stands first
first_place : (mark : ℕ) (front back : List ℕ) → Lacks front mark → position_or_len (λ b. b == mark) (front ++ (mark ∷ back)) ≡ length front
first_place mark [] back lacks = grind arith
first_place mark (b ∷ front) back lacks =
    let first = lacks_first mark b front lacks in
    let is : not (b == mark) ≡ true = grind (arith, nat_tests) in
    let others = first_place mark front back (lacks_others mark b front lacks) in
    rw is (omega (arith, others))

seam : (mark : ℕ) (front back : List ℕ) → Lacks front mark → position (λ b. b == mark) (front ++ (mark ∷ back)) ≡ Some (length front)
seam mark front back lacks =
    let at = first_place mark front back lacks in
    let long = length-append front (mark ∷ back) in
    rw at (grind (arith, long))

pub first_at : (mark : ℕ) (bytes front back : List ℕ) → Lacks front mark → bytes ≡ front ++ (mark ∷ back)
    → position (λ b. b == mark) bytes ≡ Some (length front)
first_at mark bytes front back lacks e = rw e (seam mark front back lacks)

-- what stands before and behind the mark
pub pieces_at : (mark at : ℕ) (bytes front back : List ℕ) → bytes ≡ front ++ (mark ∷ back) → at ≡ length front
    → (take at bytes ≡ front) × (take (length bytes - (at + 1)) (drop (at + 1) bytes) ≡ back)
pieces_at mark at bytes front back e same =
    let n : length (front ++ (mark ∷ back)) - (length front + 1) ≡ length back = omega (arith, length-append front (mark ∷ back)) in
    let behind : drop (length front + 1) (front ++ (mark ∷ back)) ≡ back = drop-append-add front (mark ∷ back) 1 in
    rw (same, e) (take-append_seam front (mark ∷ back), rw (n, behind) (take-length back))

-- bytes are cut in one way at the first place of a mark
pub one_seam : (mark : ℕ) (bytes front back other rest : List ℕ) → Lacks front mark → Lacks other mark → bytes ≡ front ++ (mark ∷ back)
    → bytes ≡ other ++ (mark ∷ rest) → (front ≡ other) × (back ≡ rest)
one_seam mark bytes front back other rest first second e f =
    let same : length front ≡ length other =
    some_same (length front) (length other) (sym (first_at mark bytes front back first e) ∙ first_at mark bytes other rest second f) in
    let p = pieces_at mark (length front) bytes front back e refl in
    let q = pieces_at mark (length front) bytes other rest f same in
    (sym p.0 ∙ q.0, sym p.1 ∙ q.1)

-- bytes are what stands before a mark in them, the mark, and what stands behind
pub found_at : (mark at : ℕ) (bytes : List ℕ) → position (λ b. b == mark) bytes ≡ Some at
    → bytes ≡ take at bytes ++ (mark ∷ take (length bytes - (at + 1)) (drop (at + 1) bytes))
found_at mark at bytes e =
    let s = position-Some (λ b. b == mark) bytes at 0 e in
    let byte : get_or bytes at 0 ≡ mark = eqb-true (get_or bytes at 0) mark s.1 in
    let rest = drop (at + 1) bytes in
    let whole : take (length bytes - (at + 1)) rest ≡ rest = ap (λ (n : ℕ). take n rest) (sym (length-drop (at + 1) bytes)) ∙ take-length rest in
    let from : drop at bytes ≡ get_or bytes at 0 ∷ rest = drop-cons bytes at 0 s.0 ∙ ap (λ (n : ℕ). get_or bytes at 0 ∷ drop n bytes) (sym (add-one at)) in
    rw (whole, sym byte) (rw (sym from) (sym (take-append-drop at bytes)))

-- and the mark doesn't stand before its first place
pub front_lacks : (mark at : ℕ) (bytes : List ℕ) → position (λ b. b == mark) bytes ≡ Some at → Lacks (take at bytes) mark
front_lacks mark at bytes e h =
    let s = position-Some (λ b. b == mark) bytes at mark e in
    let below : h.0 < at = omega (arith, h.1, length-take at bytes) in
    let same : get_or bytes h.0 mark ≡ mark = sym (get_or-take at bytes h.0 mark below) ∙ h.2 in
    let off : (get_or bytes h.0 mark == mark) ≡ false = s.2 h.0 below in
    grind (arith, nat_tests)

lacks_digits : (mark : ℕ) (digits : List ℕ) → mark < 48 → AllDigits 10 digits → Lacks digits mark
lacks_digits mark [] small all = lacks_none mark
lacks_digits mark (d ∷ digits) small all =
    let range = digit_from_value d all.0 in
    lacks_more mark d digits (omega (arith, range)) (lacks_digits mark digits small all.1)

-- a mark below the digits isn't in a number
pub lacks_decimal : (mark n : ℕ) → mark < 48 → n < 2 ^ 64 → Lacks (decimal n) mark
lacks_decimal mark n small fits = lacks_digits mark (decimal n) small (decimal_is_IsNumeral n fits).0.1
