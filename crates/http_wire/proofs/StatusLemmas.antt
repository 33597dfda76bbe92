-- The statuses of refusals.
use Rattle.std.proofs.Common.{◌≡◌, ℕ, Bool, true, false, nat_le, nat_lt, ◌==◌, if◌then◌else◌, List, [], ◌∷◌, length, take, drop, slice_range, Option, Some, None, Result, Ok, Err, IfErr, inl, inr, refl, sym, ap, subst, arith}
use Rattle.std.specs.List.{list_all}
use Rattle.std.specs.Str.{bytes_eq}
use Rattle.std.specs.Prelude.{codes}
use Rattle.std.specs.Str.Parse.{digits_value}
use Rattle.httparse.specs.Grammar.{RequestHead}
use Rattle.http_wire.specs.Ask.{Ask, AtHead, AtSpan, Front, Whole, Refused, Blank, More, body_len, most_head, request_of, with_body}
use Rattle.http_wire.specs.Fields.{announced, body_size, count_of, fields_of, is_bad_host, is_length, length_in, most_body, values_of}
use Rattle.http_wire.specs.Lines.{blank, head_span}
use Rattle.http_wire.specs.declared.request.WireErr.TheVariants.{Closed, Bad, ReadFault, Memory}
use Rattle.http_wire.proofs.LawLemmas.{kind, status_in}
use Rattle.http_wire.specs.Heads.{RefusesHead}
use Rattle.http_wire.specs.Statuses.{HasRefusalStatus, IsRefusalStatus}
use Rattle.http_wire.specs.declared.request.WireErr.{WireErr}

-- if it is a refusal, then with one of the statuses
abbrev Good : Result ℕ ℕ → Type 0
Good r = IfErr r IsRefusalStatus

if_good : (b : Bool) (x y : Result ℕ ℕ) → Good x → Good y → Good (if b then x else y)
if_good true x y h k = h
if_good false x y h k = k

length_good : (text : List ℕ) → Good (length_in text)
length_good text =
    if_good (is_length text) (if nat_lt most_body (digits_value 10 text) then Err 413 else Ok (digits_value 10 text)) (Err 400)
    (if_good (nat_lt most_body (digits_value 10 text)) (Err 413) (Ok (digits_value 10 text)) (inr (inl refl)) tt) (inl refl)

announced_good : (texts : List (List ℕ)) → Good (announced texts)
announced_good [] = tt
announced_good (text ∷ others) = if_good (list_all (λ other. bytes_eq other text) others) (length_in text) (Err 400) (length_good text) (inl refl)

last_good : (fields : List (List ℕ × List ℕ)) → Good (announced (values_of (codes "content-length") fields))
last_good fields = announced_good (values_of (codes "content-length") fields)

size_good : (minor : ℕ) (fields : List (List ℕ × List ℕ)) → Good (body_size minor fields)
size_good minor fields =
    if_good (is_bad_host minor (count_of (codes "host") fields)) (Err 400) _ (inl refl)
    (if_good (nat_lt 0 (count_of (codes "transfer-encoding") fields)) (Err 501) _ (inr (inr (inr (inr refl))))
    (if_good (nat_lt 0 (count_of (codes "content-encoding") fields)) (Err 415) _ (inr (inr (inl refl))) (last_good fields)))

no_refusal : {A : Type 0} (b : Bool) (s : ℕ) (x y : Front) → (kind x ≡ 1 → ⊥) → (kind y ≡ 1 → ⊥) → Refused s ≡ (if b then x else y) → A
no_refusal true s x y h k e = absurd (h (sym (ap kind e)))
no_refusal false s x y h k e = absurd (k (sym (ap kind e)))

with_body_good : (h : RequestHead) (r : Result ℕ ℕ) (rest : List ℕ) (s : ℕ) → Good r → Refused s ≡ with_body h r rest → IsRefusalStatus s
with_body_good h (Err t) rest s good e = subst (λ (u : ℕ). IsRefusalStatus u) (sym (ap status_in e)) good
with_body_good h (Ok n) rest s good e =
    no_refusal (nat_le n (length rest)) s (Whole (request_of h (take n rest)) (drop n rest)) More (λ k. omega (arith, k)) (λ k. omega (arith, k)) e

unended_good : (a b : Bool) (s : ℕ) → Refused s ≡ (if a then Refused 431 else if b then Blank else More) → IsRefusalStatus s
unended_good true b s e = inr (inr (inr (inl (ap status_in e))))
unended_good false b s e = no_refusal b s Blank More (λ k. omega (arith, k)) (λ k. omega (arith, k)) e

at_head : (head rest : List ℕ) (s : ℕ) → AtHead head rest (Refused s) → IsRefusalStatus s
at_head head rest s (inl h) = with_body_good h.0 (body_len h.0) rest s (size_good h.0.minor (fields_of h.0)) h.2
at_head head rest s (inr h) = inl (ap status_in h.1)

at_span : (span : Option (ℕ × ℕ)) (bytes : List ℕ) (s : ℕ) → AtSpan span bytes (Refused s) → IsRefusalStatus s
at_span None bytes s e = unended_good (nat_le most_head (length bytes)) (blank bytes == length bytes) s e
at_span (Some span) bytes s h = at_head (slice_range bytes span.0 span.1) (drop span.1 bytes) s h

pub has_status : (bytes : List ℕ) (s : ℕ) → Ask bytes (Refused s) → IsRefusalStatus s
has_status bytes s h = at_span (head_span (take most_head bytes)) bytes s h

-- a head is refused with one of them
refused_good : (r : Result ℕ ℕ) (s : ℕ) → Good r → r ≡ Err s → IsRefusalStatus s
refused_good r s good e = subst (λ (x : Result ℕ ℕ). Good x) e good

pub head_status : (bytes : List ℕ) (e : WireErr) → RefusesHead bytes e → HasRefusalStatus e
head_status bytes Closed h = tt
head_status bytes ReadFault h = tt
head_status bytes Memory h = tt
head_status bytes (Bad s) (inl h) = refused_good (body_len h.0) s (size_good h.0.minor (fields_of h.0)) h.2
head_status bytes (Bad s) (inr h) = inl h.1
