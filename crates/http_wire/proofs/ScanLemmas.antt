-- How far bytes were looked at.
use Rattle.std.proofs.Common.{◌≡◌, ◌≢◌, ◌<◌, ◌≤◌, ◌+◌, ◌-◌, ◌==◌, true, subst, ℕ, suc, List, [], ◌∷◌, ◌++◌, length, drop, get_or, Some, None, option_map, sym, ap, ◌∙◌, arith, length-drop, length-append, append_assoc}
use Rattle.std.proofs.lemmas.List.{drop-drop, drop-append-le, drop_more, drop_all, append-nil}
use Rattle.std.proofs.lemmas.Bool.Decides.{nat_tests}
use Rattle.http_wire.specs.Lines.{ending, blank, shift, head_len, head_span}
use Rattle.http_wire.specs.Scanned.{Passed, IsScanned, IsSpan, HeadEnds}
use Rattle.http_wire.proofs.LineLemmas.{blank_on, blank_more, ending_two, ending_within, head_last, head_on, head_skip, head_stays, no_blank, no_head_yet, shift_none, shift_one, shift_shift}

pub passed_here : (bytes : List ℕ) (at : ℕ) → at ≤ length bytes → Passed bytes at at
passed_here bytes at within = record {
  low = omega arith;
  high = within;
  on = λ more. shift_none (at - at) _ (omega arith);
}

pub passed_then : (bytes : List ℕ) (from at to : ℕ) → Passed bytes from at → Passed bytes at to → Passed bytes from to
passed_then bytes from at to p q = record {
  low = omega (arith, p.low, q.low);
  high = q.high;
  on = λ more. p.on more ∙ ap (shift (at - from)) (q.on more) ∙ shift_shift (at - from) (to - at) (to - from) _ (omega (arith, p.low, q.low));
}

-- bytes that are no LF are passed
pub passed_skip : (bytes : List ℕ) (at to : ℕ) → at ≤ to → to ≤ length bytes → ((k : ℕ) → k < to - at → get_or (drop at bytes) k 0 ≢ 10) → Passed bytes at to
passed_skip bytes at to low high other = record {
  low = low;
  high = high;
  on = λ more.
      head_skip (to - at) (drop at bytes) more (omega (arith, low, high, length-drop at bytes)) other
      ∙ ap (λ (xs : List ℕ). shift (to - at) (head_len (xs ++ more))) (drop-drop (to - at) at bytes ∙ ap (λ (k : ℕ). drop k bytes) (omega (arith, low)));
}

-- a byte that no line end follows is passed
pub passed_line : (bytes : List ℕ) (at : ℕ) → at + 3 ≤ length bytes → ending (drop (at + 1) bytes) ≡ 0 → Passed bytes at (at + 1)
passed_line bytes at high none = record {
  low = omega arith;
  high = omega (arith, high);
  on = λ more.
      ap (λ (xs : List ℕ). head_len (xs ++ more)) (drop_more bytes at 0 (omega (arith, high)))
      ∙ head_on (get_or bytes at 0) (drop (at + 1) bytes ++ more) (ending_two (drop (at + 1) bytes) more (omega (arith, high, length-drop (at + 1) bytes)) ∙ none)
      ∙ shift_one (at + 1 - at) _ (omega arith);
}

-- the head ends behind the LF at a place
pub ends_at : (bytes : List ℕ) (from at : ℕ) → Passed bytes from at → at < length bytes → get_or bytes at 0 ≡ 10 → 0 < ending (drop (at + 1) bytes) → HeadEnds bytes from (at + 1 + ending (drop (at + 1) bytes))
ends_at bytes from at p within is some =
    let n = ending (drop (at + 1) bytes) in
    record {
      low = omega (arith, p.low);
      high = omega (arith, within, ending_within (drop (at + 1) bytes), length-drop (at + 1) bytes);
      here =
          ap head_len (sym (append-nil (drop from bytes))) ∙ p.on []
          ∙ ap (λ (xs : List ℕ). shift (at - from) (head_len xs)) (append-nil (drop at bytes) ∙ drop_more bytes at 0 within)
          ∙ ap (shift (at - from)) (head_last (get_or bytes at 0) (drop (at + 1) bytes) is some)
          ∙ ap Some (omega (arith, p.low));
    }

pub nothing_at_end : (bytes : List ℕ) → head_len (drop (length bytes) bytes) ≡ None
nothing_at_end bytes = ap head_len (drop_all (length bytes) bytes (omega arith))

pub nothing_yet : (bytes : List ℕ) (at : ℕ) → at < length bytes → length (drop (at + 1) bytes) < 2 → ending (drop (at + 1) bytes) ≡ 0 → head_len (drop at bytes) ≡ None
nothing_yet bytes at within short none = ap head_len (drop_more bytes at 0 within) ∙ no_head_yet (get_or bytes at 0) (drop (at + 1) bytes) short none

-- ---- a whole scan

pub passed_more : (bytes more : List ℕ) (from at : ℕ) → Passed bytes from at → Passed (bytes ++ more) from at
passed_more bytes more from at p = record {
  low = p.low;
  high = omega (arith, p.high, length_more);
  on = λ rest.
      ap (λ (xs : List ℕ). head_len (xs ++ rest)) (drop-append-le from bytes more (omega (arith, p.low, p.high)))
      ∙ ap head_len (append_assoc (drop from bytes) more rest)
      ∙ p.on (more ++ rest)
      ∙ ap (λ (xs : List ℕ). shift (at - from) (head_len xs)) (sym (append_assoc (drop at bytes) more rest))
      ∙ ap (λ (xs : List ℕ). shift (at - from) (head_len (xs ++ rest))) (sym (drop-append-le at bytes more p.high));
} where
  length_more : length bytes ≤ length (bytes ++ more)
  length_more = grind (arith, length-append)

pub scanned_more : (bytes more : List ℕ) (skipped looked : ℕ) → IsScanned bytes skipped looked → IsScanned (bytes ++ more) skipped looked
scanned_more bytes more skipped looked s = record {
  lines = λ rest.
      ap blank (append_assoc bytes more rest)
      ∙ s.lines (more ++ rest)
      ∙ ap (λ (xs : List ℕ). skipped + blank xs) (sym (append_assoc (drop skipped bytes) more rest))
      ∙ ap (λ (xs : List ℕ). skipped + blank (xs ++ rest)) (sym (drop-append-le skipped bytes more (omega (arith, s.passed.low, s.passed.high))));
  passed = passed_more bytes more skipped looked s.passed;
}

-- what was skipped and what stands behind it
pub blank_is : (bytes : List ℕ) (skipped looked : ℕ) → IsScanned bytes skipped looked → blank bytes ≡ skipped + blank (drop skipped bytes)
blank_is bytes skipped looked s =
    ap blank (sym (append-nil bytes)) ∙ s.lines [] ∙ ap (λ (xs : List ℕ). skipped + blank xs) (append-nil (drop skipped bytes))

pub skipped_on : (bytes : List ℕ) (skipped looked next : ℕ) → IsScanned bytes skipped looked → next ≡ skipped + blank (drop skipped bytes) → next ≤ length bytes → IsScanned bytes next next
skipped_on bytes skipped looked next s is within =
    let all : blank bytes ≡ next = blank_is bytes skipped looked s ∙ sym is in
    record {
      lines = λ more. blank_more bytes more ∙ ap (λ (k : ℕ). k + blank (drop k bytes ++ more)) all;
      passed = passed_here bytes next within;
    }

pub looked_on : (bytes : List ℕ) (skipped looked next : ℕ) → IsScanned bytes skipped looked → Passed bytes looked next → IsScanned bytes skipped next
looked_on bytes skipped looked next s p = record { lines = s.lines; passed = passed_then bytes skipped looked next s.passed p }

-- the head's end is found
pub span_found : (bytes : List ℕ) (skipped looked end : ℕ) → IsScanned bytes skipped looked → skipped ≡ blank bytes → HeadEnds bytes looked end → IsSpan bytes (skipped, end)
span_found bytes skipped looked end s is e =
    let inside : skipped ≤ length bytes = omega (arith, s.passed.low, s.passed.high) in
    let here : head_len (drop skipped bytes) ≡ Some (end - skipped) =
    ap head_len (sym (append-nil (drop skipped bytes))) ∙ s.passed.on []
    ∙ ap (λ (xs : List ℕ). shift (looked - skipped) (head_len xs)) (append-nil (drop looked bytes))
    ∙ ap (shift (looked - skipped)) e.here ∙ ap Some (omega (arith, s.passed.low, e.low)) in
    let none : blank (drop skipped bytes) ≡ 0 = omega (arith, blank_is bytes skipped looked s, is) in
    record {
      low = omega (arith, s.passed.low, e.low);
      high = e.high;
      stands = λ more.
          let first : blank (bytes ++ more) ≡ skipped = s.lines more ∙ ap (λ (k : ℕ). skipped + k) (no_blank (drop skipped bytes) more (end - skipped) here none) ∙ omega arith in
          let last : head_len (drop skipped (bytes ++ more)) ≡ Some (end - skipped) = ap head_len (drop-append-le skipped bytes more inside) ∙ head_stays (drop skipped bytes) more (end - skipped) here in
          ap (λ (k : ℕ). option_map (λ (n : ℕ). (k, k + n)) (head_len (drop k (bytes ++ more)))) first
          ∙ ap (option_map (λ (n : ℕ). (skipped, skipped + n))) last
          ∙ ap (λ (k : ℕ). Some (skipped, k)) (omega (arith, s.passed.low, e.low));
    }

pub span_none : (bytes : List ℕ) (skipped looked : ℕ) → IsScanned bytes skipped looked → skipped ≡ blank bytes → head_len (drop looked bytes) ≡ None → head_span bytes ≡ None
span_none bytes skipped looked s is none =
    let here : head_len (drop skipped bytes) ≡ None =
    ap head_len (sym (append-nil (drop skipped bytes))) ∙ s.passed.on []
    ∙ ap (λ (xs : List ℕ). shift (looked - skipped) (head_len xs)) (append-nil (drop looked bytes))
    ∙ ap (shift (looked - skipped)) none in
    ap (λ (k : ℕ). option_map (λ (n : ℕ). (k, k + n)) (head_len (drop k bytes))) (sym is)
    ∙ ap (option_map (λ (n : ℕ). (skipped, skipped + n))) here

-- one empty line's byte
pub skip_step : (bytes : List ℕ) (at : ℕ) → at ≤ length bytes → 0 < ending (drop at bytes) → (at + 1 ≤ length bytes) × (at + blank (drop at bytes) ≡ (at + 1) + blank (drop (at + 1) bytes))
skip_step bytes at within some =
    let more : at < length bytes = omega (arith, within, some, ending_within (drop at bytes), length-drop at bytes) in
    let here : drop at bytes ≡ get_or bytes at 0 ∷ drop (at + 1) bytes = drop_more bytes at 0 more in
    let line : 0 < ending (get_or bytes at 0 ∷ drop (at + 1) bytes) = subst (λ (xs : List ℕ). 0 < ending xs) here some in
    let counts : blank (drop at bytes) ≡ suc (blank (drop (at + 1) bytes)) = ap blank here ∙ blank_on (get_or bytes at 0) (drop (at + 1) bytes) line in
    (omega (arith, more), omega (arith, counts))

pub no_lf : (x : ℕ) → ((x == 10) ≡ true → ⊥) → x ≢ 10
no_lf x h is = h (grind (arith, nat_tests, is))

pub a_lf : (x : ℕ) → (x == 10) ≡ true → x ≡ 10
a_lf x h = grind (arith, nat_tests, h)

-- what a search for LF in the rest of the bytes says
pub passed_to : (bytes rest : List ℕ) (at n : ℕ) → rest ≡ drop at bytes → at ≤ length bytes → n ≤ length rest → ((k : ℕ) → 0 ≤ k → k < n → ((get_or rest k 0 == 10) ≡ true → ⊥)) → Passed bytes at (at + n)
passed_to bytes rest at n is within short none =
    passed_skip bytes at (at + n) (omega arith) (omega (arith, short, within, length-drop at bytes, ap length is))
    (λ k less. subst (λ (xs : List ℕ). get_or xs k 0 ≢ 10) is (no_lf (get_or rest k 0) (none k (omega arith) (omega (arith, less)))))
