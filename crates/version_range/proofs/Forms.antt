-- The form of a text.
use Rattle.std.proofs.Common.{◌≡◌, ℕ, List, Option, Some, None, ap, ap₂, sym, ◌∙◌}
use Rattle.std.specs.List.{position_from}
use Rattle.version_range.specs.Bytes.{is_star}
use Rattle.version_range.specs.Cuts.{trimmed, lead}
use Rattle.version_range.specs.Form.{starred, form_unless, form, core_form}

pub form_starred : (text : List ℕ) (at : ℕ) → Some at ≡ position_from is_star 0 text → form text ≡ starred at
unfolding form
form_starred text at found = ap (λ (o : Option ℕ). form_unless o text) (sym found)

pub form_core : (text core : List ℕ) (at : ℕ) → None ≡ position_from is_star 0 text → core ≡ trimmed text → at ≡ lead text → form text ≡ core_form at core
unfolding form
form_core text core at none core_is at_is =
    ap (λ (o : Option ℕ). form_unless o text) (sym none) ∙ sym (ap₂ core_form at_is core_is)
