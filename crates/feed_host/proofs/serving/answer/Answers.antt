use Rattle.std.proofs.Common.{Bool, Some, None, Option, refl, sym, subst}
use Rattle.http_wire.specs.Response.{wire_bytes}
use Rattle.feed_host.specs.Serving.{IsExchange, progress}
use Rattle.feed_host.specs.Steps.{Answering, Sending}
use Rattle.feed_host.specs.declared.end.End.{End}
use Rattle.feed_host.proofs.FaultLemmas.{none_failed}
use Rattle.feed_host.proofs.ServingLemmas.{answering_cut, answering_whole, behind_no_fault, none_is_no_fault}
use Rattle.feed_host.proofs.serving.answer.Goals as goal

pub returns-in-None-clause-answers : goal.returns-in-None-clause-answers
returns-in-None-clause-answers g c =
    let q = c.args.request.now in
    let r = c.in-Ok.reply in
    let old = progress (g.S.Service.state c.args.service.now) (g.L.Link.written c.args.link.now) in
    let new = progress (g.S.Service.state c.reply_to.new.service) (g.L.Link.written c.send.new.link) in
    let out = subst (λ (l : Bool). Sending
    (wire_bytes r.status r.kind r.allow l r.body) old.written None new.written) c.is_last-last.ensures c.in-None.ensures.out in
    let x : IsExchange g.S.Service.acts old q r new = record { replied = c.in-Ok.ensures.is; whole = out } in
    subst (λ (e : Option End). Answering g.S.Service.acts q old e new) (sym c.end_behind.ensures)
    (answering_whole g.S.Service.acts q r old new q.last r.stop x refl refl)

pub returns-in-None-clause-counted : goal.returns-in-None-clause-counted
returns-in-None-clause-counted g c =
    none_failed _ _ _ _ c.in-None.ensures.counted none_is_no_fault
    (λ e. behind_no_fault c.args.request.now.last c.in-Ok.reply.stop c.end_behind.result c.end_behind.ensures e)

pub returns-clause-answers : goal.returns-clause-answers
returns-clause-answers g c =
    let q = c.args.request.now in
    let r = c.in-Ok.reply in
    let old = progress (g.S.Service.state c.args.service.now) (g.L.Link.written c.args.link.now) in
    let new = progress (g.S.Service.state c.reply_to.new.service) (g.L.Link.written c.send.new.link) in
    let out = subst (λ (l : Bool). Sending (wire_bytes r.status r.kind r.allow l r.body) old.written
    (Some c.in-Some.end) new.written) c.is_last-last.ensures c.in-Some.ensures.out in
    answering_cut g.S.Service.acts q r old new c.in-Some.end c.in-Ok.ensures.is out
