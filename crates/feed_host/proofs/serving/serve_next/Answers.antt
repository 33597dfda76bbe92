use Rattle.http_wire.specs.Reading.{pending}
use Rattle.feed_host.specs.Serving.{progress}
use Rattle.feed_host.proofs.ServingLemmas.{next_error}
use Rattle.feed_host.proofs.StatusLemmas.{answering_status}
use Rattle.feed_host.proofs.serving.serve_next.Goals as goal

pub returns-in-Err-clause-next : goal.returns-in-Err-clause-next
returns-in-Err-clause-next g c =
    next_error g.S.Service.acts (pending c.args.wire.now (g.L.Link.left c.args.link.now)) (pending c.read_request.new.wire
    (g.L.Link.left c.read_request.new.link))
    (pending c.read_request.new.wire (g.L.Link.left c.end_without.new.link)) (g.S.Service.state c.args.service.now) (g.L.Link.written c.args.link.now)
    (g.L.Link.written c.read_request.new.link) (g.L.Link.written c.end_without.new.link) c.in-Err.why c.end_without.result c.in-Err.ensures.answers
    c.end_without.ensures.closes c.in-Err.ensures.same_written

pub returns-in-Ok-clause-status : goal.returns-in-Ok-clause-status
returns-in-Ok-clause-status g c =
    answering_status g.S.Service.acts c.in-Ok.request (progress (g.S.Service.state c.args.service.now) (g.L.Link.written c.read_request.new.link))
    (progress (g.S.Service.state c.answer.new.service) (g.L.Link.written c.answer.new.link)) c.answer.result c.answer.ensures.answers
