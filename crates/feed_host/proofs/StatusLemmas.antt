-- The statuses of refusals have phrases, and none is that of another method.
use Rattle.std.proofs.Common.{◌≡◌, ℕ, List, Option, None, Some, IsSome, IfSome, inl, inr, refl, sym, subst, arith}
use Rattle.feed_routes.specs.Services.{Acts}
use Rattle.http.specs.StatusCode.{reason_phrase}
use Rattle.http_wire.specs.declared.request.Request.{Request}
use Rattle.http_wire.specs.Statuses.{HasRefusalStatus, IsRefusalStatus}
use Rattle.http_wire.specs.declared.request.WireErr.{WireErr}
use Rattle.http_wire.specs.declared.request.WireErr.TheVariants.{Bad}
use Rattle.http_wire.specs.declared.response.Verb.{Verb}
use Rattle.feed_host.specs.Replies.{IsSendable, bare}
use Rattle.feed_host.specs.Serving.{HasStatus, Progress}
use Rattle.feed_host.specs.Steps.{Answering, Sending}
use Rattle.feed_host.specs.declared.end.End.{End}
use Rattle.feed_host.specs.declared.end.End.TheVariants.{ByClient, AfterError, Stopped, ReadFault, WriteFault, Memory}
use Rattle.feed_host.specs.declared.reply.Reply.{Reply}

has_phrase : (status : ℕ) → IsRefusalStatus status → IsSome (reason_phrase status)
has_phrase status (inl e) = subst (λ (s : ℕ). IsSome (reason_phrase s)) (sym e) refl
has_phrase status (inr (inl e)) = subst (λ (s : ℕ). IsSome (reason_phrase s)) (sym e) refl
has_phrase status (inr (inr (inl e))) = subst (λ (s : ℕ). IsSome (reason_phrase s)) (sym e) refl
has_phrase status (inr (inr (inr (inl e)))) = subst (λ (s : ℕ). IsSome (reason_phrase s)) (sym e) refl
has_phrase status (inr (inr (inr (inr e)))) = subst (λ (s : ℕ). IsSome (reason_phrase s)) (sym e) refl

no_method : (status : ℕ) → IsRefusalStatus status → status ≡ 405 → ⊥
no_method status (inl e) is = omega (arith, e, is)
no_method status (inr (inl e)) is = omega (arith, e, is)
no_method status (inr (inr (inl e))) is = omega (arith, e, is)
no_method status (inr (inr (inr (inl e)))) is = omega (arith, e, is)
no_method status (inr (inr (inr (inr e)))) is = omega (arith, e, is)

-- none is told
no_verb : (o : Option Verb) (status : ℕ) → o ≡ None → IsSome o → status ≡ 405
no_verb None status e h = grind (arith, h)
no_verb (Some verb) status e h = grind (arith, e)

bare_sendable : (status : ℕ) → IsRefusalStatus status → IsSendable (bare status None)
bare_sendable status h = record {
  phrase = has_phrase status h;
  allowed = (λ some. no_verb None status refl some, λ is. absurd (no_method status h is));
}

-- a refusal without a body can be sent
pub sendable : (why : WireErr) (status : ℕ) (reply : Reply) → HasRefusalStatus why → why ≡ Bad status → reply ≡ bare status None → IsSendable reply
sendable why status reply has is same = subst IsSendable (sym same) (bare_sendable status (subst HasRefusalStatus is has))

pub bad_status : (why : WireErr) (status : ℕ) → HasRefusalStatus why → why ≡ Bad status → IsRefusalStatus status
bad_status why status has is = subst HasRefusalStatus is has

-- a piece that isn't sent is no refusal
pub sending_status : (bytes : List ℕ) (old new : Option (List ℕ)) (end : End) → Sending bytes old (Some end) new → HasStatus end
sending_status bytes old new ByClient h = tt
sending_status bytes old new (AfterError s) h = absurd h
sending_status bytes old new Stopped h = tt
sending_status bytes old new ReadFault h = tt
sending_status bytes old new WriteFault h = tt
sending_status bytes old new Memory h = tt

-- nor is an answer
pub answering_status : {State : Type 0} (acts : Acts State) (request : Request) (old new : Progress State) (end : Option End)
    → Answering acts request old end new → IfSome end HasStatus
answering_status acts request old new None h = tt
answering_status acts request old new (Some ByClient) h = tt
answering_status acts request old new (Some (AfterError s)) h = absurd h
answering_status acts request old new (Some Stopped) h = tt
answering_status acts request old new (Some ReadFault) h = tt
answering_status acts request old new (Some WriteFault) h = tt
answering_status acts request old new (Some Memory) h = tt
