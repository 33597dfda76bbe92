use Rattle.std.proofs.Common.{IsUtf8, List, ℕ, sym, subst, ◌∙◌}
use Rattle.http_wire.proofs.DigitLemmas.{token_text}
use Rattle.http_wire.proofs.head.read_head.Goals as goal

pub text-requires : goal.text-requires
text-requires c =
    let some = c.in-Some.ensures.some in
    let h = some.0 in
    subst (λ (xs : List ℕ). IsUtf8 xs) (sym (c.of.ensures ∙ some.2.method)) (token_text h.method some.1.0.0.method)
