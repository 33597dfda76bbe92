use Rattle.std.proofs.Common.{◌≡◌, ◌⊎◌, ◌∙◌, IsUtf8, List, [], ℕ, inl, inr, arith, subst, sym}
use Rattle.std.proofs.lemmas.Fmt.{parse-decimal}
use Rattle.admin_wire.proofs.Headers.{utf8_decimal}
use Rattle.admin_wire.proofs.header.number.Goals as goal

text_is : (text bytes : List ℕ) → (text ≡ bytes) ⊎ ((¬ IsUtf8 bytes) × (text ≡ [])) → IsUtf8 bytes → text ≡ bytes
text_is text bytes (inl same) utf8 = same
text_is text bytes (inr other) utf8 = absurd (other.0 utf8)

pub returns : goal.returns
returns c = λ n small e.
    let utf8 : IsUtf8 c.args.digits.now = subst (λ (l : List ℕ). IsUtf8 l) (sym e) (utf8_decimal n (omega arith)) in
    let text = text_is c.text_or_empty.result.now c.args.digits.now c.text_or_empty.ensures utf8 in
    rw (parse-decimal 32 n c.text_or_empty.result.now c.parse.result small (omega arith) (text ∙ e) c.parse.ensures.value.0) at c.ok.ensures.value
