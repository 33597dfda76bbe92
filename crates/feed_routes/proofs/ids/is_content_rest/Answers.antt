use Rattle.std.proofs.Common.{false, refl}
use Rattle.std.proofs.lemmas.Result.{IfOk-weaker}
use Rattle.feed_routes.specs.Names.{IsContentTailOf}
use Rattle.feed_routes.specs.Segments.{IsIdKey}
use Rattle.feed_routes.proofs.Cutting.{off_on, pair_is, pair_none, pair_not}
use Rattle.feed_routes.proofs.Keys.{free_id_key}
use Rattle.feed_routes.proofs.ids.is_content_rest.Goals as goal

pub returns-in_default : goal.returns-in_default
returns-in_default c = pair_none IsIdKey IsContentTailOf free_id_key c.args.rest.now false c.in_default.ensures.first refl

pub returns-then-is_id_key : goal.returns-then-is_id_key
returns-then-is_id_key c =
    IfOk-weaker c.is_content_tail.result _ _
    (λ is h. pair_is IsIdKey IsContentTailOf free_id_key c.args.rest.now c.in-Some.id.now c.in-Some.tail.now is
    c.in-Some.ensures.found c.in-Some.ensures.first (c.is_id_key.ensures.0 c.if-is_id_key.true) h)
    c.is_content_tail.ensures

pub returns-else-is_id_key : goal.returns-else-is_id_key
returns-else-is_id_key c =
    pair_not IsIdKey IsContentTailOf free_id_key c.args.rest.now c.in-Some.id.now c.in-Some.tail.now false c.in-Some.ensures.first
    (λ k. off_on c.is_id_key.result c.if-is_id_key.false (c.is_id_key.ensures.1 k)) refl
