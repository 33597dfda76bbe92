-- What stands at the front of bytes.
use Rattle.std.proofs.Common.{◌≡◌, ◌≢◌, ◌<◌, ◌≤◌, ◌+◌, ◌-◌, ◌==◌, nat_le, ℕ, Bool, true, false, cond, List, [], ◌++◌, length, take, drop, slice_range, Option, Some, None, IfSome, inl, inr, refl, sym, ap, subst, ◌∙◌, arith, length-append}
use Rattle.std.proofs.lemmas.Bool.Decides.{nat_tests}
use Rattle.std.proofs.lemmas.List.{take_all, append-nil, drop-append-le}
use Rattle.http_wire.specs.Ask.{Ask, AtHead, AtSpan, Front, Refused, Blank, More, most_head, unended}
use Rattle.http_wire.specs.Lines.{blank, head_span}
use Rattle.http_wire.specs.Reading.{Says, unread}
use Rattle.http_wire.specs.Scanned.{IsSpan}
use Rattle.http_wire.specs.declared.request.WireErr.{WireErr}
use Rattle.http_wire.specs.declared.request.WireErr.TheVariants.{Closed, Bad}
use Rattle.http_wire.proofs.BufferLemmas.{piece_stays, take_behind}

pub on_true : {A : Type 0} (p : Bool) (x y : A) → p ≡ true → cond p x y ≡ x
on_true true x y h = refl
on_true false x y h = grind (arith, h)

pub on_false : {A : Type 0} (p : Bool) (x y : A) → p ≡ false → cond p x y ≡ y
on_false true x y h = grind (arith, h)
on_false false x y h = refl

pub le_true : (m n : ℕ) → m ≤ n → nat_le m n ≡ true
le_true m n h = grind (arith, nat_tests, h)

pub le_false : (m n : ℕ) → n < m → nat_le m n ≡ false
le_false m n h = grind (arith, nat_tests, h)

eq_true : (m n : ℕ) → m ≡ n → (m == n) ≡ true
eq_true m n h = grind (arith, nat_tests, h)

eq_false : (m n : ℕ) → m ≢ n → (m == n) ≡ false
eq_false m n h = grind (arith, nat_tests, h)

-- ---- no head's end

pub unended_full : (bytes : List ℕ) → most_head ≤ length bytes → Refused 431 ≡ unended bytes
unended_full bytes full = sym (on_true (nat_le most_head (length bytes)) (Refused 431) _ (le_true most_head (length bytes) full))

pub unended_blank : (bytes : List ℕ) → length bytes < most_head → blank bytes ≡ length bytes → Blank ≡ unended bytes
unended_blank bytes short all =
    sym (on_false (nat_le most_head (length bytes)) (Refused 431) _ (le_false most_head (length bytes) short)
    ∙ on_true (blank bytes == length bytes) Blank More (eq_true (blank bytes) (length bytes) all))

pub unended_more : (bytes : List ℕ) → length bytes < most_head → blank bytes ≢ length bytes → More ≡ unended bytes
unended_more bytes short some =
    sym (on_false (nat_le most_head (length bytes)) (Refused 431) _ (le_false most_head (length bytes) short)
    ∙ on_false (blank bytes == length bytes) Blank More (eq_false (blank bytes) (length bytes) some))

pub ask_none : (bytes : List ℕ) (front : Front) → head_span (take most_head bytes) ≡ None → front ≡ unended bytes → Ask bytes front
ask_none bytes front none is = subst (λ (o : Option (ℕ × ℕ)). AtSpan o bytes front) (sym none) is

-- ---- what the bytes at hand say of all

pub says_full : (carried : List ℕ) (left before : Option (List ℕ)) → unread carried left ≡ before → length carried ≡ most_head → head_span carried ≡ None → IfSome before (λ bytes. Says bytes (Bad 431))
says_full carried left before told full none = subst (λ (o : Option (List ℕ)). IfSome o (λ bytes. Says bytes (Bad 431))) told (go left) where
  window : (l : List ℕ) → take most_head (carried ++ l) ≡ carried
  window l = ap (λ (k : ℕ). take k (carried ++ l)) (sym full ∙ omega arith) ∙ take_behind carried l (length carried) 0 refl ∙ append-nil carried

  go : (o : Option (List ℕ)) → IfSome (unread carried o) (λ bytes. Says bytes (Bad 431))
  go None = tt
  go (Some l) = inl (ask_none (carried ++ l) (Refused 431) (ap head_span (window l) ∙ none) (unended_full (carried ++ l) (omega (arith, full, length-append carried l))))

pub says_end : (carried : List ℕ) (left before : Option (List ℕ)) (e : WireErr) → unread carried left ≡ before → IfSome left (λ l. l ≡ []) → Says carried e → IfSome before (λ bytes. Says bytes e)
says_end carried left before e told ended says = subst (λ (o : Option (List ℕ)). IfSome o (λ bytes. Says bytes e)) told (go left ended) where
  go : (o : Option (List ℕ)) → IfSome o (λ l. l ≡ []) → IfSome (unread carried o) (λ bytes. Says bytes e)
  go None h = tt
  go (Some l) h = subst (λ (xs : List ℕ). Says xs e) (sym (ap (λ (xs : List ℕ). carried ++ xs) h ∙ append-nil carried)) says

pub says_closed : (carried : List ℕ) (skipped : ℕ) → length carried < most_head → head_span carried ≡ None → skipped ≡ blank carried → skipped ≡ length carried → Says carried Closed
says_closed carried skipped short none is all =
    ask_none carried Blank (ap head_span (take_all most_head carried (omega (arith, short))) ∙ none) (unended_blank carried short (sym is ∙ all))

pub says_cut : (carried : List ℕ) (skipped : ℕ) → length carried < most_head → head_span carried ≡ None → skipped ≡ blank carried → skipped ≢ length carried → Says carried (Bad 400)
says_cut carried skipped short none is some =
    inr (refl, ask_none carried More (ap head_span (take_all most_head carried (omega (arith, short))) ∙ none) (unended_more carried short (λ e. some (is ∙ e))))

-- ---- a head's end

-- the window of all bytes begins with those at hand
pub window : (carried l : List ℕ) → length carried ≤ most_head → take most_head (carried ++ l) ≡ carried ++ take (most_head - length carried) l
window carried l within =
    ap (λ (k : ℕ). take k (carried ++ l)) (total (length carried) within) ∙ take_behind carried l (length carried) (most_head - length carried) refl
  where
    total : (n : ℕ) → n ≤ most_head → most_head ≡ n + (most_head - n)
    total n h = omega (arith, h)

pub ask_span : (carried l : List ℕ) (start end : ℕ) (front : Front) → length carried ≤ most_head → IsSpan carried (start, end) → AtHead (slice_range carried start end) (drop end carried ++ l) front → Ask (carried ++ l) front
ask_span carried l start end front within span at =
    let here : head_span (take most_head (carried ++ l)) ≡ Some (start, end) = ap head_span (window carried l within) ∙ span.stands (take (most_head - length carried) l) in
    let head : slice_range (carried ++ l) start end ≡ slice_range carried start end = piece_stays carried l (carried ++ l) start end refl span.high in
    let rest : drop end (carried ++ l) ≡ drop end carried ++ l = drop-append-le end carried l span.high in
    subst (λ (o : Option (ℕ × ℕ)). AtSpan o (carried ++ l) front) (sym here)
    (subst (λ (xs : List ℕ). AtHead (slice_range (carried ++ l) start end) xs front) (sym rest)
    (subst (λ (xs : List ℕ). AtHead xs (drop end carried ++ l) front) (sym head) at))
