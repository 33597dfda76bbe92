use Rattle.std.proofs.Common.{◌<◌, ◌≤◌, ◌≡◌, ◌+◌, ◌-◌, ◌==◌, true, ℕ, List, length, take, drop, get_or, arith, sym, subst, ap, ◌∙◌, length-drop}
use Rattle.std.proofs.lemmas.List.{take_rest, get_or-drop}
use Rattle.http_wire.specs.Lines.{ending}
use Rattle.http_wire.specs.Scanned.{Passed, HeadEnds}
use Rattle.http_wire.proofs.ScanLemmas.{a_lf, ends_at, nothing_at_end, nothing_yet, passed_line, passed_then, passed_to}
use Rattle.http_wire.proofs.scan.find_end.Goals as goal

-- no LF is left
pub returns-in-None : goal.returns-in-None
returns-in-None c =
    let bytes : List ℕ = c.args.bytes.now in
    let at : ℕ = c.lines.at in
    let to = passed_to bytes (take (length bytes - at) (drop at bytes)) at (length (take (length bytes - at) (drop at bytes))) (take_rest bytes at) c.lines.invariant.high (omega arith) c.in-None.ensures in
    let same : at + length (take (length bytes - at) (drop at bytes)) ≡ length bytes = omega (arith, c.lines.invariant.high, ap length (take_rest bytes at), length-drop at bytes) in
    (passed_then bytes c.args.from at (length bytes) c.lines.invariant (subst (Passed bytes at) same to), nothing_at_end bytes)

-- the next LF
line_at : (bytes : List ℕ) (from at n : ℕ) → Passed bytes from at → n < length (take (length bytes - at) (drop at bytes)) → ((k : ℕ) → 0 ≤ k → k < n → ((get_or (take (length bytes - at) (drop at bytes)) k 0 == 10) ≡ true → ⊥)) → (get_or (take (length bytes - at) (drop at bytes)) n 0 == 10) ≡ true → Passed bytes from (at + n) × (at + n < length bytes) × (get_or bytes (at + n) 0 ≡ 10)
line_at bytes from at n p less none some =
    let all = take_rest bytes at in
    let lf : get_or bytes (at + n) 0 ≡ 10 = sym (get_or-drop at bytes n 0) ∙ ap (λ (xs : List ℕ). get_or xs n 0) (sym all) ∙ a_lf _ some in (
      passed_then bytes from at (at + n) p (passed_to bytes _ at n all p.high (omega (arith, less)) none),
      omega (arith, less, p.high, ap length all, length-drop at bytes),
      lf,
    )

pub returns-then-end-gt0 : goal.returns-then-end-gt0
returns-then-end-gt0 c =
    let bytes : List ℕ = c.args.bytes.now in
    let at : ℕ = c.lines.at in
    let n : ℕ = c.in-Some.n in
    let line = line_at bytes c.args.from at n c.lines.invariant c.in-Some.ensures.0.high c.in-Some.ensures.0.before c.in-Some.ensures.1 in
    let is : c.line_end-end.result ≡ ending (drop (at + n + 1) bytes) = c.line_end-end.ensures ∙ ap ending (take_rest bytes (at + n + 1)) in
    let some : 0 < ending (drop (at + n + 1) bytes) = omega (arith, is, c.if-end-gt0.true) in
    subst (λ (k : ℕ). HeadEnds bytes c.args.from (at + n + 1 + k)) (sym is) (ends_at bytes c.args.from (at + n) line.0 line.1 line.2 some)

pub returns-then-rest-lt2 : goal.returns-then-rest-lt2
returns-then-rest-lt2 c =
    let bytes : List ℕ = c.args.bytes.now in
    let at : ℕ = c.lines.at in
    let n : ℕ = c.in-Some.n in
    let line = line_at bytes c.args.from at n c.lines.invariant c.in-Some.ensures.0.high c.in-Some.ensures.0.before c.in-Some.ensures.1 in
    let is : c.line_end-end.result ≡ ending (drop (at + n + 1) bytes) = c.line_end-end.ensures ∙ ap ending (take_rest bytes (at + n + 1)) in
    let none : ending (drop (at + n + 1) bytes) ≡ 0 = omega (arith, is, c.if-end-gt0.false) in
    (line.0, nothing_yet bytes (at + n) line.1 (omega (arith, ap length (take_rest bytes (at + n + 1)), c.if-rest-lt2.true)) none)

pub lines-preserved : goal.lines-preserved
lines-preserved c =
    let bytes : List ℕ = c.args.bytes.now in
    let at : ℕ = c.lines.at in
    let n : ℕ = c.in-Some.n in
    let line = line_at bytes c.args.from at n c.lines.invariant c.in-Some.ensures.0.high c.in-Some.ensures.0.before c.in-Some.ensures.1 in
    let is : c.line_end-end.result ≡ ending (drop (at + n + 1) bytes) = c.line_end-end.ensures ∙ ap ending (take_rest bytes (at + n + 1)) in
    let none : ending (drop (at + n + 1) bytes) ≡ 0 = omega (arith, is, c.if-end-gt0.false) in
    let high : at + n + 3 ≤ length bytes = omega (arith, line.1, ap length (take_rest bytes (at + n + 1)), length-drop (at + n + 1) bytes, c.if-rest-lt2.false) in
    passed_then bytes c.args.from (at + n) (at + n + 1) line.0 (passed_line bytes (at + n) high none)
