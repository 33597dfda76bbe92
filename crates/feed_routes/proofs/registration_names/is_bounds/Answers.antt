use Rattle.std.proofs.Common.{List, ℕ, false, refl}
use Rattle.std.proofs.lemmas.Result.{IfOk-weaker}
use Rattle.feed_routes.specs.Segments.{IsVersionKey}
use Rattle.feed_routes.proofs.Cutting.{off_on, pair_is, pair_none, pair_not}
use Rattle.feed_routes.proofs.Keys.{free_version_key}
use Rattle.feed_routes.proofs.registration_names.is_bounds.Goals as goal

abbrev behind : List ℕ → List ℕ → Type 0
behind x y = IsVersionKey y

pub returns-in_default : goal.returns-in_default
returns-in_default c = pair_none IsVersionKey behind free_version_key c.args.text.now false c.in_default.ensures.first refl

pub returns-then-branch : goal.returns-then-branch
returns-then-branch c =
    IfOk-weaker c.is_version_key-then-branch.result _ _
    (λ is h. pair_is IsVersionKey behind free_version_key c.args.text.now c.in-Some.lower.now c.in-Some.upper.now is
    c.in-Some.ensures.found c.in-Some.ensures.first (c.in_ok-is_version_key.ensures.0 c.if-branch.true) h)
    c.is_version_key-then-branch.ensures

pub returns-else-branch : goal.returns-else-branch
returns-else-branch c =
    pair_not IsVersionKey behind free_version_key c.args.text.now c.in-Some.lower.now c.in-Some.upper.now false c.in-Some.ensures.first
    (λ k. off_on c.in_ok-is_version_key.field-0 c.if-branch.false (c.in_ok-is_version_key.ensures.1 k)) refl
