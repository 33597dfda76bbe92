-- What becomes of a link at the next request.
use Rattle.std.specs.Prelude.{◌≡◌, ◌⊎◌, ℕ, Bool, true, false, List, Option, Some, None, IfSome}
use Rattle.std.specs.declared.result.Result.TheVariants.{Ok, Err}
use Rattle.feed_routes.specs.Services.{Acts}
use Rattle.http_wire.specs.Reading.{GivesRequest}
use Rattle.http_wire.specs.Talk.{LeadsTo}
use Rattle.http_wire.specs.declared.request.Request.{Request}
use Rattle.http_wire.specs.declared.request.WireErr.{WireErr}
use Rattle.http_wire.specs.declared.request.WireErr.TheVariants as wire
use Rattle.feed_host.specs.Replies.{IsReply, refusal_bytes, reply_bytes}
use Rattle.feed_host.specs.Serving.{IsExchange, Progress, SendsPart, sent}
use Rattle.feed_host.specs.declared.end.End.{End}
use Rattle.feed_host.specs.declared.end.End.TheVariants.{ByClient, AfterError, Stopped, ReadFault, WriteFault, Memory}
use Rattle.feed_host.specs.declared.reply.Reply.{Reply}

-- the bytes went out, or in part, or not at all
abbrev pub Sending : List ℕ → Option (List ℕ) → Option End → Option (List ℕ) → Type 0
Sending bytes old None new = new ≡ sent bytes old
Sending bytes old (Some WriteFault) new = SendsPart bytes old new
Sending bytes old (Some Memory) new = new ≡ old
Sending bytes old (Some _) new = ⊥

-- the request is answered, or the link ends
abbrev pub Answering : {State : Type 0} → Acts State → Request → Progress State → Option End → Progress State → Type 0
Answering acts request old None new = (reply : Reply) × IsExchange acts old request reply new × (reply.stop ≡ false) × (request.last ≡ false)
Answering acts request old (Some ByClient) new =
    (reply : Reply) × IsExchange acts old request reply new × (reply.stop ≡ false) × (request.last ≡ true)
Answering acts request old (Some Stopped) new = (reply : Reply) × IsExchange acts old request reply new × (reply.stop ≡ true)
Answering acts request old (Some WriteFault) new =
    (reply : Reply) × IsReply acts old.state request reply new.state × SendsPart (reply_bytes request reply) old.written new.written
Answering acts request old (Some Memory) new =
    (new ≡ old) ⊎ ((reply : Reply) × IsReply acts old.state request reply new.state × (new.written ≡ old.written))
Answering acts request old (Some _) new = ⊥

-- the link ends since there is no request, and a refusal is told
abbrev pub Closing : WireErr → Option (List ℕ) → End → Option (List ℕ) → Type 0
Closing wire.Closed old ByClient new = new ≡ old
Closing wire.ReadFault old ReadFault new = new ≡ old
Closing wire.Memory old Memory new = new ≡ old
Closing (wire.Bad status) old (AfterError told) new = (told ≡ status) × (new ≡ sent (refusal_bytes status) old)
Closing (wire.Bad status) old WriteFault new = SendsPart (refusal_bytes status) old new
Closing (wire.Bad status) old Memory new = new ≡ old
Closing _ old _ new = ⊥

-- the next request of the input is answered, and the link goes on or ends; or there is none
abbrev pub Next : {State : Type 0} → Acts State → Option (List ℕ) → Progress State → Option End → Option (List ℕ) → Progress State → Type 0
Next acts input old None rest new = (request : Request) × GivesRequest input rest (Ok request) × Answering acts request old None new
Next acts input old (Some end) rest new =
    ((request : Request) × GivesRequest input rest (Ok request) × Answering acts request old (Some end) new)
    ⊎ ((e : WireErr) × GivesRequest input rest (Err e) × (new.state ≡ old.state) × Closing e old.written end new.written)

-- how a link ends behind an answer, if it does
abbrev pub end_behind : Bool → Bool → Option End
end_behind last true = Some Stopped
end_behind true false = Some ByClient
end_behind false false = None

-- these requests, none of them the last, are the first of the input, and this is behind them
abbrev pub Leads : Option (List ℕ) → List Request → Option (List ℕ) → Type 0
Leads input requests rest = IfSome input (λ bytes. (behind : List ℕ) × (rest ≡ Some behind) × LeadsTo bytes requests behind)
