-- What is answered to a request.
use Rattle.std.specs.Prelude.{◌≡◌, ◌↔◌, ℕ, ◌||◌, Bool, true, false, List, [], Option, Some, None, IsSome, Result, Ok, Err}
use Rattle.admin_wire.specs.Lines.{line_text}
use Rattle.admin_wire.specs.declared.line.Line.TheVariants as line
use Rattle.feed_routes.specs.Services.{Acts}
use Rattle.feed_routes.specs.Table.{HasRoute, IsUnknown, NeedsVerb}
use Rattle.feed_routes.specs.declared.ask.Ask.{Ask}
use Rattle.feed_routes.specs.declared.service.Answer.{Answer}
use Rattle.http.specs.StatusCode.{reason_phrase}
use Rattle.http_wire.specs.Response.{wire_bytes}
use Rattle.http_wire.specs.declared.request.Request.{Request}
use Rattle.http_wire.specs.declared.response.Kind.TheVariants.{Plain}
use Rattle.http_wire.specs.declared.response.Verb.{Verb}
use Rattle.nuget_version.specs.declared.values.NoMemory.{NoMemory}
use Rattle.feed_host.specs.declared.reply.Reply.{Reply}

-- a reply without a body
abbrev pub bare : ℕ → Option Verb → Reply
bare status allow = record { status = status; kind = Plain; allow = allow; body = []; stop = false }

-- the reply that goes with a service's answer; its want of memory is told by a line, and ends nothing
abbrev pub for_answer : Result Answer NoMemory → Reply
for_answer (Ok answer) = record { status = answer.status; kind = answer.kind; allow = None; body = answer.body; stop = answer.stop }
for_answer (Err e) = record { status = 507; kind = Plain; allow = None; body = line_text line.Memory; stop = false }

-- The reply to a request, and the service's state before and after it. The service is asked once where there is a route, and else not.
pub data IsReply {State : Type 0} (acts : Acts State) (old : State) (request : Request) (reply : Reply) (new : State) : Type 0 where
  -- the service answers what is asked for
  answered : (asked : Ask) (answer : Result Answer NoMemory) → HasRoute request.method request.target asked → acts old request answer new
      → reply ≡ for_answer answer → IsReply acts old request reply new
  -- the path has no route
  missing : IsUnknown request.target → new ≡ old → reply ≡ bare 404 None → IsReply acts old request reply new
  -- the path has a route of another method
  method : (verb : Verb) → NeedsVerb request.method request.target verb → new ≡ old → reply ≡ bare 405 (Some verb)
      → IsReply acts old request reply new

-- the link ends behind the reply
abbrev pub is_last_reply : Request → Reply → Bool
is_last_reply request reply = request.last || reply.stop

-- the bytes of the reply to the request
abbrev pub reply_bytes : Request → Reply → List ℕ
reply_bytes request reply = wire_bytes reply.status reply.kind reply.allow (is_last_reply request reply) reply.body

-- the bytes behind which a link ends since what came is refused
abbrev pub refusal_bytes : ℕ → List ℕ
refusal_bytes status = wire_bytes status Plain None true []

-- the status has a phrase, and tells a method where it has to
pub record IsSendable (reply : Reply) : Type 0 where
  pub phrase : IsSome (reason_phrase reply.status)
  pub allowed : IsSome reply.allow ↔ (reply.status ≡ 405)
