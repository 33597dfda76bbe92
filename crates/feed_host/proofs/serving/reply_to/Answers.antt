use Rattle.std.proofs.Common.{List, ℕ, Err, inr, refl, ap, subst, ◌∙◌}
use Rattle.feed_routes.specs.Table.{IsUnknown}
use Rattle.feed_host.specs.Replies.{answered, for_answer, method, missing}
use Rattle.feed_host.proofs.ServingLemmas.{reply_of, same_route, same_verb}
use Rattle.feed_host.proofs.serving.reply_to.Goals as goal

pub returns-in-Ok-clause-is : goal.returns-in-Ok-clause-is
returns-in-Ok-clause-is g c =
    reply_of g.S.Service.acts (g.S.Service.state c.args.service.now)
    (g.S.Service.state c.answer.new.self) c.args.request.now c.in-Ok.ask c.answer.result c.of_answer.result
    (same_route _ _ _ _ c.in-Ok.ask c.as_str.ensures c.as_str-2.ensures c.in-Ok.ensures.ok) c.answer.ensures.acts c.of_answer.ensures.is

pub returns-in-Ok-clause-memory : goal.returns-in-Ok-clause-memory
returns-in-Ok-clause-memory g c = λ failed.
    inr (
      for_answer c.answer.result,
      answered c.in-Ok.ask c.answer.result (same_route _ _ _ _ c.in-Ok.ask c.as_str.ensures c.as_str-2.ensures c.in-Ok.ensures.ok) c.answer.ensures.acts refl,
    )

pub returns-in-Err-NotFound-clause-is : goal.returns-in-Err-NotFound-clause-is
returns-in-Err-NotFound-clause-is g c =
    missing (subst (λ (t : List ℕ). IsUnknown t) c.as_str-2.ensures (c.route.ensures.missing
    (c.in-Err-NotFound.is ∙ ap Err c.in-Err-NotFound.field-0-is))) refl c.bare.ensures

pub returns-in-Err-Method-clause-is : goal.returns-in-Err-Method-clause-is
returns-in-Err-Method-clause-is g c =
    method c.in-Err-Method.verb
    (same_verb _ _ _ _ c.in-Err-Method.verb c.as_str.ensures c.as_str-2.ensures (c.route.ensures.method c.in-Err-Method.verb
    (c.in-Err-Method.is ∙ ap Err c.in-Err-Method.field-0-is)))
    refl c.bare-in-Err-Method.ensures
