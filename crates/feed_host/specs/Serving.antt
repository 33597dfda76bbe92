-- What becomes of a link: which of its requests are answered, in which order, and why no further one is.
use Rattle.std.specs.Prelude.{◌≡◌, ◌⊎◌, ◌≤◌, ℕ, true, false, List, [], ◌∷◌, ◌++◌, length, take, Option, IfSome, option_map}
use Rattle.feed_routes.specs.Services.{Acts}
use Rattle.http_wire.specs.Ask.{Ask, Whole}
use Rattle.http_wire.specs.Statuses.{IsRefusalStatus}
use Rattle.http_wire.specs.Talk.{AfterLast, AtEnd, AtRefusal, LeadsTo, Talk}
use Rattle.http_wire.specs.declared.request.Request.{Request}
use Rattle.feed_host.specs.Replies.{IsReply, refusal_bytes, reply_bytes}
use Rattle.feed_host.specs.declared.end.End.{End}
use Rattle.feed_host.specs.declared.end.End.TheVariants.{ByClient, AfterError, Stopped, ReadFault, WriteFault, Memory}
use Rattle.feed_host.specs.declared.reply.Reply.{Reply}

-- how far the serving of a link is: the service's state, and what was written, where the link tells it
pub record Progress (State : Type 0) : Type 0 where
  pub state : State
  pub written : Option (List ℕ)

abbrev pub progress : {State : Type 0} → State → Option (List ℕ) → Progress State
progress state written = record { state = state; written = written }

-- what was written, and these bytes behind it
abbrev pub sent : List ℕ → Option (List ℕ) → Option (List ℕ)
sent bytes written = option_map (λ out. out ++ bytes) written

-- a prefix of the bytes went out
abbrev pub SendsPart : List ℕ → Option (List ℕ) → Option (List ℕ) → Type 0
SendsPart bytes old new = (k : ℕ) × (k ≤ length bytes) × (new ≡ sent (take k bytes) old)

-- the request is answered by this reply, all of whose bytes went out
pub record IsExchange {State : Type 0} (acts : Acts State) (old : Progress State) (request : Request) (reply : Reply) (new : Progress State) : Type 0 where
  pub replied : IsReply acts old.state request reply new.state
  pub whole : new.written ≡ sent (reply_bytes request reply) old.written

-- the requests are answered in order, each from the state that the one before left, and none by a stop
abbrev pub AreAnswered : {State : Type 0} → Acts State → Progress State → List Request → Progress State → Type 0
AreAnswered acts old [] new = old ≡ new
AreAnswered {State} acts old (request ∷ requests) new =
    (reply : Reply) × (between : Progress State) × IsExchange acts old request reply between × (reply.stop ≡ false)
    × AreAnswered acts between requests new

-- these are all requests of the input's talk, which ends at a request's start, or with a last request
abbrev pub AreAll : Option (List ℕ) → List Request → Type 0
AreAll input requests = IfSome input (λ bytes. Talk bytes requests AtEnd ⊎ Talk bytes requests AfterLast)

-- these are all requests of the input's talk, and then this is refused
abbrev pub AreRefused : Option (List ℕ) → List Request → ℕ → Type 0
AreRefused input requests status = IfSome input (λ bytes. Talk bytes requests (AtRefusal status))

-- these are the first requests of the input, none of them the last of its link
abbrev pub AreFirst : Option (List ℕ) → List Request → Type 0
AreFirst input requests = IfSome input (λ bytes. (rest : List ℕ) × LeadsTo bytes requests rest)

-- and this is the one behind them
abbrev pub IsNextRequest : Option (List ℕ) → List Request → Request → Type 0
IsNextRequest input requests next =
    IfSome input (λ bytes. (rest : List ℕ) × (behind : List ℕ) × LeadsTo bytes requests rest × Ask rest (Whole next behind))

-- the bytes of the refusal went out, and the service isn't asked
abbrev pub TellsRefusal : {State : Type 0} → Progress State → ℕ → Progress State → Type 0
TellsRefusal old status new = (new.state ≡ old.state) × (new.written ≡ sent (refusal_bytes status) old.written)

-- the last answer's bytes, or the refusal's, went out in part
abbrev pub BreaksOff : {State : Type 0} → Acts State → Option (List ℕ) → List Request → Progress State → Progress State → Type 0
BreaksOff acts input requests old new =
    ((next : Request) × (reply : Reply) × IsNextRequest input requests next × IsReply acts old.state next reply new.state
    × SendsPart (reply_bytes next reply) old.written new.written)
    ⊎ ((status : ℕ) × AreRefused input requests status × (new.state ≡ old.state) × SendsPart (refusal_bytes status) old.written new.written)

-- no further bytes went out, and one further request at most was given to the service
abbrev pub GivesUp : {State : Type 0} → Acts State → Option (List ℕ) → List Request → Progress State → Progress State → Type 0
GivesUp acts input requests old new =
    (AreFirst input requests × (new ≡ old))
    ⊎ ((next : Request) × (reply : Reply) × IsNextRequest input requests next × IsReply acts old.state next reply new.state
    × (new.written ≡ old.written))

-- how a link ends behind these requests, which were answered
abbrev pub EndsBehind : {State : Type 0} → Acts State → Option (List ℕ) → List Request → Progress State → End → Progress State → Type 0
EndsBehind acts input requests old ByClient new = AreAll input requests × (new ≡ old)
EndsBehind acts input requests old (AfterError status) new = AreRefused input requests status × TellsRefusal old status new
EndsBehind acts input requests old Stopped new =
    (next : Request) × (reply : Reply) × IsNextRequest input requests next × IsExchange acts old next reply new × (reply.stop ≡ true)
EndsBehind acts input requests old ReadFault new = AreFirst input requests × (new ≡ old)
EndsBehind acts input requests old WriteFault new = BreaksOff acts input requests old new
EndsBehind acts input requests old Memory new = GivesUp acts input requests old new

-- some requests of the input are answered, and then the link ends
abbrev pub Serves : {State : Type 0} → Acts State → Option (List ℕ) → Progress State → End → Progress State → Type 0
Serves {State} acts input old end new =
    (requests : List Request) × (between : Progress State) × AreAnswered acts old requests between × EndsBehind acts input requests between end new

-- where the link ends behind a refusal, that has one of the five statuses
abbrev pub HasStatus : End → Type 0
HasStatus (AfterError status) = IsRefusalStatus status
HasStatus _ = Unit {0}
