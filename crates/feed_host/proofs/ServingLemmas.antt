-- Requests that are answered, one after the other.
use Rattle.std.proofs.Common.{◌≡◌, ℕ, Bool, true, false, List, [], ◌∷◌, ◌++◌, Option, Some, None, inl, inr, refl, sym, ap, subst, ◌∙◌, arith}
use Rattle.std.specs.Prelude.{option_map, Result, IfOk}
use Rattle.std.specs.declared.result.Result.TheVariants.{Ok, Err}
use Rattle.std.proofs.lemmas.List.{append-nil}
use Rattle.feed_routes.specs.Services.{Acts}
use Rattle.http_wire.specs.Reading.{GivesRequest, Says}
use Rattle.http_wire.specs.Talk.{AfterLast, AtEnd, AtRefusal, Ending, EndsWith, LeadsTo, Talk}
use Rattle.http_wire.specs.declared.request.Request.{Request}
use Rattle.http_wire.specs.declared.request.WireErr.{WireErr}
use Rattle.http_wire.specs.declared.request.WireErr.TheVariants as wire
use Rattle.http_wire.proofs.TalkLemmas.{leads_more, leads_talk}
use Rattle.feed_routes.specs.Table.{HasRoute, NeedsVerb}
use Rattle.feed_routes.specs.declared.ask.Ask.{Ask}
use Rattle.feed_routes.specs.declared.service.Answer.{Answer}
use Rattle.http_wire.specs.Response.{wire_bytes}
use Rattle.http_wire.specs.declared.response.Verb.{Verb}
use Rattle.nuget_version.specs.declared.values.NoMemory.{NoMemory}
use Rattle.feed_host.specs.Replies.{IsReply, answered, bare, for_answer, refusal_bytes, reply_bytes}
use Rattle.feed_host.specs.Serving.{AreAll, AreAnswered, AreFirst, AreRefused, IsExchange, IsNextRequest, Progress, SendsPart, Serves, TellsRefusal, progress, sent}
use Rattle.feed_host.specs.Steps.{Answering, Closing, Leads, Next, Sending, end_behind}
use Rattle.feed_host.specs.declared.end.End.{End}
use Rattle.feed_host.specs.declared.end.End.TheVariants.{ByClient, AfterError, Stopped, ReadFault, WriteFault, Memory}
use Rattle.feed_host.specs.declared.reply.Reply.{Reply}

abbrev Bytes : Type 0
Bytes = Option (List ℕ)

-- which end it is
abbrev pub code : Option End → ℕ
code None = 0
code (Some ByClient) = 1
code (Some (AfterError s)) = 2
code (Some Stopped) = 3
code (Some ReadFault) = 4
code (Some WriteFault) = 5
code (Some Memory) = 6

-- the bytes that were written are those of the response
pub sent_whole : (piece bytes : List ℕ) (old new : Bytes) → piece ≡ bytes → new ≡ option_map (λ out. out ++ piece) old → Sending bytes old None new
sent_whole piece bytes old new same h = subst (λ (xs : List ℕ). new ≡ option_map (λ out. out ++ xs) old) same h

pub sent_part : (piece bytes : List ℕ) (old new : Bytes) → piece ≡ bytes → SendsPart piece old new → Sending bytes old (Some WriteFault) new
sent_part piece bytes old new same h = subst (λ (xs : List ℕ). SendsPart xs old new) same h

pub same_progress : {State : Type 0} (old new : State) (before after : Bytes) → new ≡ old → after ≡ before → progress new after ≡ progress old before
same_progress old new before after s w i = record { state = s i; written = w i }

-- one more request is answered
pub answered_more : {State : Type 0} (acts : Acts State) (requests : List Request) (old m new : Progress State) (request : Request) (reply : Reply)
    → AreAnswered acts old requests m → IsExchange acts m request reply new → reply.stop ≡ false → AreAnswered acts old (requests ++ request ∷ []) new
answered_more {State} acts [] old m new request reply h x stays =
    (reply, new, subst (λ (o : Progress State). IsExchange acts o request reply new) (sym h) x, stays, refl)
answered_more acts (r ∷ requests) old m new request reply h x stays =
    (h.0, h.1, h.2, h.3, answered_more acts requests h.1 m new request reply h.4 x stays)

pub leads_on_more : (input rest after : Bytes) (requests : List Request) (request : Request) → Leads input requests rest
    → GivesRequest rest after (Ok request) → request.last ≡ false → Leads input (requests ++ request ∷ []) after
leads_on_more None rest after requests request h gives stays = tt
leads_on_more (Some bytes) rest after requests request h gives stays =
    let here : GivesRequest (Some h.0) after (Ok request) = subst (λ (b : Bytes). GivesRequest b after (Ok request)) h.1 gives in
    (here.0, here.1, leads_more requests bytes h.0 here.0 request h.2 (here.0, refl, here.2) stays)

pub is_first : (input rest : Bytes) (requests : List Request) → Leads input requests rest → AreFirst input requests
is_first None rest requests h = tt
is_first (Some bytes) rest requests h = (h.0, h.2)

pub is_next : (input rest after : Bytes) (requests : List Request) (request : Request) → Leads input requests rest
    → GivesRequest rest after (Ok request) → IsNextRequest input requests request
is_next None rest after requests request h gives = tt
is_next (Some bytes) rest after requests request h gives =
    let here : GivesRequest (Some h.0) after (Ok request) = subst (λ (b : Bytes). GivesRequest b after (Ok request)) h.1 gives in
    (h.0, here.0, h.2, here.2)

-- no request is behind these
ends_talk : (bytes behind : List ℕ) (requests : List Request) (x : Ending) → LeadsTo bytes requests behind → EndsWith behind x → Talk bytes requests x
ends_talk bytes behind requests x h ends =
    subst (λ (qs : List Request). Talk bytes qs x) (append-nil requests) (leads_talk requests bytes behind [] x h ends)

pub all_closed : (input rest after : Bytes) (requests : List Request) → Leads input requests rest → GivesRequest rest after (Err wire.Closed)
    → AreAll input requests
all_closed None rest after requests h gives = tt
all_closed (Some bytes) rest after requests h gives =
    inl (ends_talk bytes h.0 requests AtEnd h.2 (subst (λ (b : Bytes). GivesRequest b after (Err wire.Closed)) h.1 gives))

pub all_last : (input rest after : Bytes) (requests : List Request) (request : Request) → Leads input requests rest
    → GivesRequest rest after (Ok request) → request.last ≡ true → AreAll input (requests ++ request ∷ [])
all_last None rest after requests request h gives ends = tt
all_last (Some bytes) rest after requests request h gives ends =
    let here : GivesRequest (Some h.0) after (Ok request) = subst (λ (b : Bytes). GivesRequest b after (Ok request)) h.1 gives in
    inr (leads_talk requests bytes h.0 (request ∷ []) AfterLast h.2 (here.0, here.2, inl (ends, refl, refl)))

pub all_refused : (input rest after : Bytes) (requests : List Request) (status : ℕ) → Leads input requests rest
    → GivesRequest rest after (Err (wire.Bad status)) → AreRefused input requests status
all_refused None rest after requests status h gives = tt
all_refused (Some bytes) rest after requests status h gives =
    let here : Says h.0 (wire.Bad status) = subst (λ (b : Bytes). GivesRequest b after (Err (wire.Bad status))) h.1 gives in
    ends_talk bytes h.0 requests (AtRefusal status) h.2 here

-- behind an answer that went out
pub answering_whole : {State : Type 0} (acts : Acts State) (request : Request) (reply : Reply) (old new : Progress State) (last stop : Bool)
    → IsExchange acts old request reply new → request.last ≡ last → reply.stop ≡ stop → Answering acts request old (end_behind last stop) new
answering_whole acts request reply old new true true x l s = (reply, x, s)
answering_whole acts request reply old new false true x l s = (reply, x, s)
answering_whole acts request reply old new true false x l s = (reply, x, s, l)
answering_whole acts request reply old new false false x l s = (reply, x, s, l)

-- behind one that didn't, or in part
pub answering_cut : {State : Type 0} (acts : Acts State) (request : Request) (reply : Reply) (old new : Progress State) (end : End)
    → IsReply acts old.state request reply new.state → Sending (reply_bytes request reply) old.written (Some end) new.written
    → Answering acts request old (Some end) new
answering_cut acts request reply old new WriteFault r h = (reply, r, h)
answering_cut acts request reply old new Memory r h = inr (reply, r, h)
answering_cut acts request reply old new ByClient r h = absurd h
answering_cut acts request reply old new (AfterError s) r h = absurd h
answering_cut acts request reply old new Stopped r h = absurd h
answering_cut acts request reply old new ReadFault r h = absurd h

-- an answered request goes on, or ends the link
module _ {State : Type 0} (acts : Acts State) (input rest after : Bytes) (requests : List Request) (start old new : Progress State)
    (answered : AreAnswered acts start requests old) (led : Leads input requests rest) where
  by_request : (request : Request) (end : End) → GivesRequest rest after (Ok request) → Answering acts request old (Some end) new
      → Serves acts input start end new
  by_request request ByClient gives h = (
    requests ++ request ∷ [],
    new,
    answered_more acts requests start old new request h.0 answered h.1 h.2,
    (all_last input rest after requests request led gives h.3, refl),
  )
  by_request request Stopped gives h = (requests, old, answered, (request, h.0, is_next input rest after requests request led gives, h.1, h.2))
  by_request request WriteFault gives h = (requests, old, answered, inl (request, h.0, is_next input rest after requests request led gives, h.1, h.2))
  by_request request Memory gives (inl same) = (requests, old, answered, inl (is_first input rest requests led, same))
  by_request request Memory gives (inr h) = (requests, old, answered, inr (request, h.0, is_next input rest after requests request led gives, h.1, h.2))
  by_request request (AfterError s) gives h = absurd h
  by_request request ReadFault gives h = absurd h

  -- the refusal that is told is that of the input
  refused_as : (told status : ℕ) → told ≡ status → AreRefused input requests status → new.state ≡ old.state
      → new.written ≡ sent (refusal_bytes status) old.written → AreRefused input requests told × TellsRefusal old told new
  refused_as told status same refused s h =
      subst (λ (t : ℕ). AreRefused input requests t × TellsRefusal old t new) (sym same) (refused, (s, h))

  by_error : (e : WireErr) (end : End) → GivesRequest rest after (Err e) → new.state ≡ old.state → Closing e old.written end new.written
      → Serves acts input start end new
  by_error wire.Closed ByClient gives s h =
      (requests, old, answered, (all_closed input rest after requests led gives, same_progress old.state new.state old.written new.written s h))
  by_error wire.ReadFault ReadFault gives s h =
      (requests, old, answered, (is_first input rest requests led, same_progress old.state new.state old.written new.written s h))
  by_error wire.Memory Memory gives s h =
      (requests, old, answered, inl (is_first input rest requests led, same_progress old.state new.state old.written new.written s h))
  by_error (wire.Bad status) Memory gives s h =
      (requests, old, answered, inl (is_first input rest requests led, same_progress old.state new.state old.written new.written s h))
  by_error (wire.Bad status) (AfterError told) gives s h =
      (requests, old, answered, refused_as told status h.0 (all_refused input rest after requests status led gives) s h.1)
  by_error (wire.Bad status) WriteFault gives s h =
      (requests, old, answered, inr (status, all_refused input rest after requests status led gives, s, h))
  by_error wire.Closed (AfterError t) gives s h = absurd h
  by_error wire.Closed Stopped gives s h = absurd h
  by_error wire.Closed ReadFault gives s h = absurd h
  by_error wire.Closed WriteFault gives s h = absurd h
  by_error wire.Closed Memory gives s h = absurd h
  by_error wire.ReadFault ByClient gives s h = absurd h
  by_error wire.ReadFault (AfterError t) gives s h = absurd h
  by_error wire.ReadFault Stopped gives s h = absurd h
  by_error wire.ReadFault WriteFault gives s h = absurd h
  by_error wire.ReadFault Memory gives s h = absurd h
  by_error wire.Memory ByClient gives s h = absurd h
  by_error wire.Memory (AfterError t) gives s h = absurd h
  by_error wire.Memory Stopped gives s h = absurd h
  by_error wire.Memory ReadFault gives s h = absurd h
  by_error wire.Memory WriteFault gives s h = absurd h
  by_error (wire.Bad status) ByClient gives s h = absurd h
  by_error (wire.Bad status) Stopped gives s h = absurd h
  by_error (wire.Bad status) ReadFault gives s h = absurd h

  pub serves_end : (end : End) → Next acts rest old (Some end) after new → Serves acts input start end new
  serves_end end (inl h) = by_request h.0 end h.1 h.2
  serves_end end (inr h) = by_error h.0 end h.1 h.2 h.3

-- some requests were answered, and the rest is still to be read
abbrev pub IsUnderWay : {State : Type 0} → Acts State → Bytes → Progress State → Bytes → Progress State → Type 0
IsUnderWay acts input start rest now = (requests : List Request) × Leads input requests rest × AreAnswered acts start requests now

pub goes_on : {State : Type 0} (acts : Acts State) (input rest after : Bytes) (start old new : Progress State)
    → IsUnderWay acts input start rest old → Next acts rest old None after new → IsUnderWay acts input start after new
goes_on acts input rest after start old new h n =
    (h.0 ++ n.0 ∷ [], leads_on_more input rest after h.0 n.0 h.1 n.1 n.2.3, answered_more acts h.0 start old new n.0 n.2.0 h.2 n.2.1 n.2.2)

pub comes_to_end : {State : Type 0} (acts : Acts State) (input rest after : Bytes) (start old new : Progress State) (end : End)
    → IsUnderWay acts input start rest old → Next acts rest old (Some end) after new → Serves acts input start end new
comes_to_end acts input rest after start old new end h n = serves_end acts input rest after h.0 start old new h.2 h.1 end n

pub starts : {State : Type 0} (acts : Acts State) (input rest : Bytes) (start : Progress State) → rest ≡ input → IsUnderWay acts input start rest start
starts acts None rest start is = ([], tt, refl)
starts acts (Some bytes) rest start is = ([], (bytes, is, refl), refl)

-- the bytes of a refusal
pub refusal_is : (reply : Reply) (status : ℕ) → reply ≡ bare status None → wire_bytes reply.status reply.kind reply.allow true reply.body ≡ refusal_bytes status
refusal_is reply status same = ap (λ (r : Reply). wire_bytes r.status r.kind r.allow true r.body) same

-- what becomes of a link whose refusal isn't told whole
pub closing_cut : (end : End) (status : ℕ) (old new : Bytes) → Sending (refusal_bytes status) old (Some end) new → Closing (wire.Bad status) old end new
closing_cut WriteFault status old new h = h
closing_cut Memory status old new h = h
closing_cut ByClient status old new h = absurd h
closing_cut (AfterError s) status old new h = absurd h
closing_cut Stopped status old new h = absurd h
closing_cut ReadFault status old new h = absurd h

-- what a service answers is the reply, as far as memory goes
pub reply_of : {State : Type 0} (acts : Acts State) (old new : State) (request : Request) (asked : Ask) (answer : Result Answer NoMemory) (made : Result Reply NoMemory) → HasRoute request.method request.target asked → acts old request answer new → IfOk made (λ reply. reply ≡ for_answer answer) → IfOk made (λ reply. IsReply acts old request reply new)
reply_of acts old new request asked answer (Ok reply) route h is = answered asked answer route h is
reply_of acts old new request asked answer (Err e) route h is = tt

-- it tells no fault of writing
pub behind_no_fault : (last stop : Bool) (end : Option End) → end ≡ end_behind last stop → end ≡ Some WriteFault → ⊥
behind_no_fault true true end is e = omega (arith, ap code (sym is ∙ e))
behind_no_fault false true end is e = omega (arith, ap code (sym is ∙ e))
behind_no_fault true false end is e = omega (arith, ap code (sym is ∙ e))
behind_no_fault false false end is e = omega (arith, ap code (sym is ∙ e))

pub none_is_no_fault : None ≡ Some WriteFault → ⊥
none_is_no_fault e = omega (arith, ap code e)

pub same_route : (m n s t : List ℕ) (asked : Ask) → m ≡ n → s ≡ t → HasRoute m s asked → HasRoute n t asked
same_route m n s t asked first second h = subst (λ (x : List ℕ). HasRoute x t asked) first (subst (λ (x : List ℕ). HasRoute m x asked) second h)

pub same_verb : (m n s t : List ℕ) (verb : Verb) → m ≡ n → s ≡ t → NeedsVerb m s verb → NeedsVerb n t verb
same_verb m n s t verb first second h = subst (λ (x : List ℕ). NeedsVerb x t verb) first (subst (λ (x : List ℕ). NeedsVerb m x verb) second h)

-- the link ends at what is no request
pub next_error : {State : Type 0} (acts : Acts State) (input rest after : Bytes) (state : State) (written out now : Bytes) (e : WireErr) (end : End) → GivesRequest input rest (Err e) → Closing e out end now → out ≡ written → Next acts input (progress state written) (Some end) after (progress state now)
next_error acts input rest after state written out now e end gives closes same =
    inr (e, gives, refl, subst (λ (w : Bytes). Closing e w end now) same closes)

pub none_is_no_read_fault : None ≡ Some ReadFault → ⊥
none_is_no_read_fault e = omega (arith, ap code e)
