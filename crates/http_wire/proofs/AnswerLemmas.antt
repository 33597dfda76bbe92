-- What a request's reader answers.
use Rattle.std.proofs.Common.{◌≡◌, ◌<◌, ◌≤◌, nat_le, ℕ, List, ◌++◌, length, take, drop, slice_range, Option, Some, None, Result, Ok, IfSome, inl, inr, refl, sym, ap, subst, ◌∙◌, arith, length-append}
use Rattle.std.proofs.lemmas.List.{take_at, drop_at}
use Rattle.httparse.specs.Grammar.{RequestHead}
use Rattle.http_wire.specs.Ask.{Ask, Whole, Refused, More, body_len, most_head, with_body}
use Rattle.http_wire.specs.Fields.{fields_of, is_last}
use Rattle.http_wire.specs.Heads.{IsHeadOf, RefusesHead}
use Rattle.http_wire.specs.Reading.{IsBodyErr, Says, unread}
use Rattle.http_wire.specs.Scanned.{IsSpan}
use Rattle.http_wire.specs.declared.head.Head.{Head}
use Rattle.http_wire.specs.declared.request.Request.{Request}
use Rattle.http_wire.specs.declared.request.WireErr.{WireErr}
use Rattle.http_wire.specs.declared.request.WireErr.TheVariants.{Closed, Bad, ReadFault, Memory}
use Rattle.http_wire.proofs.AskLemmas.{ask_span, le_false, le_true, on_false, on_true}
use Rattle.http_wire.proofs.BodyLemmas.{none_some, value_is}

abbrev pub IsFirst : Option (List ℕ) → Option (List ℕ) → Request → Type 0
IsFirst before after request = IfSome before (λ bytes. (behind : List ℕ) × (after ≡ Some behind) × Ask bytes (Whole request behind))

-- the request of what was read of a head, and a body
abbrev pub request_by : Head → List ℕ → Request
request_by head body = record { method = head.method; target = head.target; last = head.last; body = body }

whole_is : (h : RequestHead) (head : Head) (body behind rest : List ℕ) → h.method ≡ head.method → h.target ≡ head.target → is_last h.minor (fields_of h) ≡ head.last → body_len h ≡ Ok head.length → length body ≡ head.length → body ++ behind ≡ rest → Whole (request_by head body) behind ≡ with_body h (body_len h) rest
whole_is h head body behind rest m t last len size split =
    let n : ℕ = head.length in
    let within : n ≤ length rest = omega (arith, size, length-append body behind, ap length split) in
    let front : take n rest ≡ body = ap (take n) (sym split) ∙ take_at body behind n size in
    let back : drop n rest ≡ behind = ap (drop n) (sym split) ∙ drop_at body behind n size in
    sym (ap (λ (r : Result ℕ ℕ). with_body h r rest) len
    ∙ on_true (nat_le n (length rest)) _ More (le_true n (length rest) within)
    ∙ (λ i. Whole (record { method = m i; target = t i; last = last i; body = front i }) (back i)))

more_is : (h : RequestHead) (rest : List ℕ) (n : ℕ) → body_len h ≡ Ok n → length rest < n → More ≡ with_body h (body_len h) rest
more_is h rest n len short =
    sym (ap (λ (r : Result ℕ ℕ). with_body h r rest) len ∙ on_false (nat_le n (length rest)) _ More (le_false n (length rest) short))

module _ (carried : List ℕ) (left before : Option (List ℕ)) (start end : ℕ) (told : unread carried left ≡ before) (within : length carried ≤ most_head) (span : IsSpan carried (start, end)) where
  -- what holds of all bytes, by what is left
  by_left : (P : List ℕ → Type 0) → ((l : List ℕ) → left ≡ Some l → P (carried ++ l)) → IfSome before P
  by_left P f = subst (λ (o : Option (List ℕ)). IfSome o P) told (go left (λ l is. f l is)) where
    go : (o : Option (List ℕ)) → ((l : List ℕ) → o ≡ Some l → P (carried ++ l)) → IfSome (unread carried o) P
    go None f = tt
    go (Some l) f = f l refl

  pub request_first : (head : Head) (body : List ℕ) (after : Option (List ℕ)) → IsHeadOf (slice_range carried start end) head → length body ≡ head.length → unread body after ≡ unread (drop end carried) left → IsFirst before after (request_by head body)
  request_first head body after of size rest =
      by_left _ (λ l is. at l after (rest ∙ ap (unread (drop end carried)) is))
    where
      at : (l : List ℕ) (o : Option (List ℕ)) → unread body o ≡ Some (drop end carried ++ l) → (behind : List ℕ) × (o ≡ Some behind) × Ask (carried ++ l) (Whole (request_by head body) behind)
      at l None e = none_some _ e
      at l (Some behind) e = (
        behind,
        refl,
        ask_span carried l start end _ within span
            (inl (of.0, of.1, whole_is of.0 head body behind (drop end carried ++ l) of.2 of.3 of.4 of.5 size (value_is _ _ e))),
      )

  pub head_says : (e : WireErr) → RefusesHead (slice_range carried start end) e → IfSome before (λ bytes. Says bytes e)
  head_says Closed h = absurd h
  head_says ReadFault h = absurd h
  head_says Memory h = by_left _ (λ l is. tt)
  head_says (Bad status) (inl h) =
      by_left _ (λ l is. inl (ask_span carried l start end (Refused status) within span (inl (h.0, h.1, sym (ap (λ (r : Result ℕ ℕ). with_body h.0 r (drop end carried ++ l)) h.2)))))
  head_says (Bad status) (inr h) =
      by_left _ (λ l is. inl (ask_span carried l start end (Refused status) within span (inr (h.0, ap Refused h.1))))

  pub body_says : (head : Head) (e : WireErr) → IsHeadOf (slice_range carried start end) head → IfSome (unread (drop end carried) left) (λ bytes. IsBodyErr bytes head.length e) → IfSome before (λ bytes. Says bytes e)
  body_says head Closed of h = by_left _ (λ l is. absurd (subst (λ (o : Option (List ℕ)). IfSome (unread (drop end carried) o) (λ bytes. IsBodyErr bytes head.length Closed)) is h))
  body_says head ReadFault of h = by_left _ (λ l is. tt)
  body_says head Memory of h = by_left _ (λ l is. tt)
  body_says head (Bad status) of h = by_left _ (λ l is.
      let here = subst (λ (o : Option (List ℕ)). IfSome (unread (drop end carried) o) (λ bytes. IsBodyErr bytes head.length (Bad status))) is h in
      inr (here.0, ask_span carried l start end More within span (inl (of.0, of.1, more_is of.0 (drop end carried ++ l) head.length of.5 here.1))))
