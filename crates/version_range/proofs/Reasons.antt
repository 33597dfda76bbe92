-- The reasons for which a text is refused exclude each other.
use Rattle.std.proofs.Common.{◌≡◌, ◌≢◌, ℕ, Bool, refl, sym, ◌∙◌, ap, inl, inr}
use Rattle.version_range.specs.Form.{Form, starred, blank, bare, broken, single, double, Piece}
use Rattle.version_range.specs.Steps.{IsBadBound, AreBadEnds, IsStarredAt, IsBrokenAt, IsMemory, IsRefusedAs}
use Rattle.version_range.specs.declared.error.RangeErr.{RangeErr}
use Rattle.version_range.specs.declared.error.RangeErr.TheVariants.{Floating, BadBound, BadByte, Inverted, Memory}
use Rattle.version_range.proofs.Complete.{no_end}

starred_is : (place : ℕ) (e : RangeErr) → e ≢ Memory → IsStarredAt place e → e ≡ Floating place
starred_is place Memory other why = absurd (other refl)
starred_is place (Floating at) other why = ap Floating why
starred_is place (BadBound at) other why = absurd why
starred_is place (BadByte at) other why = absurd why
starred_is place Inverted other why = absurd why

broken_is : (place : ℕ) (e : RangeErr) → e ≢ Memory → IsBrokenAt place e → e ≡ BadByte place
broken_is place Memory other why = absurd (other refl)
broken_is place (BadByte at) other why = ap BadByte why
broken_is place (Floating at) other why = absurd why
broken_is place (BadBound at) other why = absurd why
broken_is place Inverted other why = absurd why

bound_is : (p : Piece) (e : RangeErr) → e ≢ Memory → IsBadBound p e → e ≡ BadBound p.at
bound_is p Memory other why = absurd (other refl)
bound_is p (BadBound at) other why = ap BadBound why.0
bound_is p (Floating at) other why = absurd why
bound_is p (BadByte at) other why = absurd why
bound_is p Inverted other why = absurd why

no_memory : (e : RangeErr) → e ≢ Memory → IsMemory e → ⊥
no_memory Memory other why = other refl
no_memory (Floating at) other why = why
no_memory (BadBound at) other why = why
no_memory (BadByte at) other why = why
no_memory Inverted other why = why

module _ (low_in high_in : Bool) (left right : Piece) where
  Bad : RangeErr → Type 0
  Bad e = AreBadEnds low_in left right high_in e

  same_bound : (a b : ℕ) → Bad (BadBound a) → Bad (BadBound b) → BadBound a ≡ BadBound b
  unfolding Bad
  same_bound a b (inl one) (inl two) = ap BadBound (one.0 ∙ sym two.0)
  same_bound a b (inl one) (inr two) = absurd (no_end left.text two.1.0 two.1.1 one.1)
  same_bound a b (inr one) (inl two) = absurd (no_end left.text one.1.0 one.1.1 two.1)
  same_bound a b (inr one) (inr two) = ap BadBound (one.0 ∙ sym two.0)

  not_inverted : (a : ℕ) → Bad (BadBound a) → Bad Inverted → ⊥
  unfolding Bad
  not_inverted a (inl one) (low, high, low_is, high_is, inverted) = no_end left.text low low_is one.1
  not_inverted a (inr one) (low, high, low_is, high_is, inverted) = no_end right.text high high_is one.2

  same_ends : (d e : RangeErr) → d ≢ Memory → e ≢ Memory → Bad d → Bad e → d ≡ e
  unfolding Bad
  same_ends Memory e other other' why why' = absurd (other refl)
  same_ends (Floating a) e other other' why why' = absurd why
  same_ends (BadByte a) e other other' why why' = absurd why
  same_ends d Memory other other' why why' = absurd (other' refl)
  same_ends d (Floating b) other other' why why' = absurd why'
  same_ends d (BadByte b) other other' why why' = absurd why'
  same_ends (BadBound a) (BadBound b) other other' why why' = same_bound a b why why'
  same_ends (BadBound a) Inverted other other' why why' = absurd (not_inverted a why why')
  same_ends Inverted (BadBound b) other other' why why' = absurd (not_inverted b why' why)
  same_ends Inverted Inverted other other' why why' = refl

pub one_reason : (f : Form) (d e : RangeErr) → d ≢ Memory → e ≢ Memory → IsRefusedAs f d → IsRefusedAs f e → d ≡ e
unfolding Bad
one_reason (starred place) d e other other' why why' = starred_is place d other why ∙ sym (starred_is place e other' why')
one_reason blank d e other other' why why' = absurd (no_memory d other why)
one_reason (bare p) d e other other' why why' = bound_is p d other why ∙ sym (bound_is p e other' why')
one_reason (broken place) d e other other' why why' = broken_is place d other why ∙ sym (broken_is place e other' why')
one_reason (single p) d e other other' why why' = bound_is p d other why ∙ sym (bound_is p e other' why')
one_reason (double low_in left right high_in) d e other other' why why' = same_ends low_in high_in left right d e other other' why why'
