-- One thing stands at the front of bytes, and a request or a refusal stays, whatever follows.
use Rattle.std.proofs.Common.{◌≡◌, ◌<◌, ◌≤◌, ◌+◌, ◌-◌, ◌⊎◌, ◌==◌, ◌&&◌, nat_le, ℕ, suc, Bool, true, false, cond, List, [], ◌∷◌, ◌++◌, length, take, drop, slice_range, Option, Some, None, option_map, Result, Ok, Err, inl, inr, refl, sym, ap, subst, ◌∙◌, arith, length-append, length-drop, length-take}
use Rattle.std.proofs.lemmas.List.{append-nil, drop-append-le, take-append-le, take_all}
use Rattle.httparse.specs.Grammar.{RequestHead}
use Rattle.httparse.proofs.GrammarLemmas.{request_unique}
use Rattle.http_wire.specs.Ask.{Ask, AtHead, AtSpan, Front, Whole, Refused, Blank, More, body_len, most_head, request_of, unended, with_body}
use Rattle.http_wire.specs.Lines.{blank, ending, head_len, head_span, positive}
use Rattle.http_wire.specs.Scanned.{HeadEnds, IsScanned, IsSpan}
use Rattle.http_wire.specs.declared.request.Request.{Request}
use Rattle.http_wire.proofs.AskLemmas.{ask_none, le_false, le_true, on_false, on_true, unended_full, window}
use Rattle.http_wire.proofs.BodyLemmas.{all_or}
use Rattle.http_wire.proofs.BufferLemmas.{piece_stays}
use Rattle.http_wire.proofs.LineLemmas.{blank_more, blank_within, ending_within, from_suc}
use Rattle.http_wire.proofs.ScanLemmas.{passed_here, span_found}

one_at_head : (head rest : List ℕ) (a b : Front) → AtHead head rest a → AtHead head rest b → a ≡ b
one_at_head head rest a b (inl h) (inl k) =
    h.2 ∙ ap (λ (r : RequestHead). with_body r (body_len r) rest) (request_unique head h.0 k.0 [] [] h.1.0 k.1.0).0 ∙ sym k.2
one_at_head head rest a b (inl h) (inr k) = absurd (k.0 h.0 h.1)
one_at_head head rest a b (inr h) (inl k) = absurd (h.0 k.0 k.1)
one_at_head head rest a b (inr h) (inr k) = h.1 ∙ sym k.1

pub one_at : (o : Option (ℕ × ℕ)) (bytes : List ℕ) (a b : Front) → AtSpan o bytes a → AtSpan o bytes b → a ≡ b
one_at None bytes a b h k = h ∙ sym k
one_at (Some span) bytes a b h k = one_at_head _ _ a b h k

-- ---- a head's place stays

either : (p : Bool) (x y : Option ℕ) → (cond p x y ≡ x) ⊎ (cond p x y ≡ y)
either true x y = inl refl
either false x y = inr refl

number_is : (m n : ℕ) → Some m ≡ Some n → m ≡ n
number_is m n h = grind (arith, h)

head_within : (bytes : List ℕ) (n : ℕ) → head_len bytes ≡ Some n → n ≤ length bytes
head_within [] n h = grind (arith, h)
head_within (b ∷ bytes) n h = elim (either (b == 10 && positive (ending bytes)) (Some (suc (ending bytes))) (option_map suc (head_len bytes))) [
  | inl e ↦ let is : suc (ending bytes) ≡ n = number_is _ _ (sym e ∙ h) in omega (arith, is, ending_within bytes)
  | inr e ↦ let m = from_suc (head_len bytes) n (sym e ∙ h) in omega (arith, m.2, head_within bytes m.0 m.1)
]

span_of : (bytes : List ℕ) (span : ℕ × ℕ) (o : Option ℕ) → head_len (drop (blank bytes) bytes) ≡ o → option_map (λ (n : ℕ). (blank bytes, blank bytes + n)) o ≡ Some span → IsSpan bytes span
span_of bytes span None here is = grind (arith, is)
span_of bytes span (Some n) here is =
    let k : ℕ = blank bytes in
    let within : blank bytes ≤ length bytes = blank_within bytes in
    let scanned : IsScanned bytes (blank bytes) (blank bytes) = record { lines = λ more. blank_more bytes more; passed = passed_here bytes (blank bytes) within } in
    let ends : HeadEnds bytes (blank bytes) (blank bytes + n) = record {
      low = omega arith;
      high = omega (arith, head_within (drop (blank bytes) bytes) n here, length-drop (blank bytes) bytes, within);
      here = here ∙ ap Some (omega arith);
    } in
    subst (IsSpan bytes) (pair_is _ _ is) (span_found bytes (blank bytes) (blank bytes) (blank bytes + n) scanned refl ends)
  where
    pair_is : (p q : ℕ × ℕ) → Some p ≡ Some q → p ≡ q
    pair_is p q h = grind (arith, h)

pub span_is : (bytes : List ℕ) (span : ℕ × ℕ) → head_span bytes ≡ Some span → IsSpan bytes span
span_is bytes span h = span_of bytes span (head_len (drop (blank bytes) bytes)) refl h

-- the window of more bytes begins with that of fewer
take_more_bytes : (bytes more : List ℕ) → (rest : List ℕ) × (take most_head (bytes ++ more) ≡ take most_head bytes ++ rest)
take_more_bytes bytes more = elim (all_or most_head (length bytes)) [
  | inl full ↦ ([], take-append-le most_head bytes more full ∙ sym (append-nil (take most_head bytes)))
  | inr short ↦ (take (most_head - length bytes) more, window bytes more (omega (arith, short)) ∙ ap (λ (xs : List ℕ). xs ++ take (most_head - length bytes) more) (sym (take_all most_head bytes (omega (arith, short)))))
]

-- ---- what stands there stays

-- a front stays as another, for each way it can be said
record Stays (rest more : List ℕ) (a b : Front) : Type 0 where
  by_head : (h : RequestHead) → a ≡ with_body h (body_len h) rest → b ≡ with_body h (body_len h) (rest ++ more)
  by_none : a ≡ Refused 400 → b ≡ Refused 400

at_stays : (head rest more : List ℕ) (a b : Front) → Stays rest more a b → AtHead head rest a → AtHead head (rest ++ more) b
at_stays head rest more a b s (inl h) = inl (h.0, h.1, s.by_head h.0 h.2)
at_stays head rest more a b s (inr h) = inr (h.0, s.by_none h.1)

span_stays : (bytes more : List ℕ) (span : ℕ × ℕ) (a b : Front) → head_span (take most_head bytes) ≡ Some span → ((rest : List ℕ) → Stays rest more a b) → AtSpan (Some span) bytes a → Ask (bytes ++ more) b
span_stays bytes more span a b is stays at =
    let place = span_is (take most_head bytes) span is in
    let wider = take_more_bytes bytes more in
    let here : head_span (take most_head (bytes ++ more)) ≡ Some span = ap head_span wider.1 ∙ place.stands wider.0 in
    let within : span.1 ≤ length bytes = omega (arith, place.high, length-take most_head bytes) in
    let head : slice_range (bytes ++ more) span.0 span.1 ≡ slice_range bytes span.0 span.1 = piece_stays bytes more (bytes ++ more) span.0 span.1 refl within in
    let rest : drop span.1 (bytes ++ more) ≡ drop span.1 bytes ++ more = drop-append-le span.1 bytes more within in
    subst (λ (o : Option (ℕ × ℕ)). AtSpan o (bytes ++ more) b) (sym here)
    (subst (λ (xs : List ℕ). AtHead (slice_range (bytes ++ more) span.0 span.1) xs b) (sym rest)
    (subst (λ (xs : List ℕ). AtHead xs (drop span.1 bytes ++ more) b) (sym head) (at_stays _ (drop span.1 bytes) more a b (stays (drop span.1 bytes)) at)))

abbrev pub request_in : Request → Front → Request
request_in d (Whole r behind) = r
request_in d (Refused s) = d
request_in d Blank = d
request_in d More = d

abbrev pub behind_in : Front → List ℕ
behind_in (Whole r behind) = behind
behind_in (Refused s) = []
behind_in Blank = []
behind_in More = []

abbrev pub status_in : Front → ℕ
status_in (Whole r behind) = 0
status_in (Refused s) = s
status_in Blank = 0
status_in More = 0

-- which kind of front it is
abbrev pub kind : Front → ℕ
kind (Whole r behind) = 0
kind (Refused s) = 1
kind Blank = 2
kind More = 3

with_more : (h : RequestHead) (n : ℕ) (rest more : List ℕ) → n ≤ length rest → with_body h (Ok n) (rest ++ more) ≡ Whole (request_of h (take n rest)) (drop n rest ++ more)
with_more h n rest more within =
    on_true (nat_le n (length (rest ++ more))) _ More (le_true n (length (rest ++ more)) (omega (arith, within, length-append rest more)))
    ∙ (λ i. Whole (request_of h (take-append-le n rest more within i)) (drop-append-le n rest more within i))

whole_stays : (h : RequestHead) (r : Request) (behind rest more : List ℕ) (len : Result ℕ ℕ) → Whole r behind ≡ with_body h len rest → Whole r (behind ++ more) ≡ with_body h len (rest ++ more)
whole_stays h r behind rest more (Err s) e = absurd (omega (arith, ap kind e))
whole_stays h r behind rest more (Ok n) e = elim (all_or n (length rest)) [
  | inl within ↦
      let is : Whole r behind ≡ Whole (request_of h (take n rest)) (drop n rest) = e ∙ on_true (nat_le n (length rest)) _ More (le_true n (length rest) within) in
      (λ i. Whole (ap (request_in r) is i) (ap behind_in is i ++ more)) ∙ sym (with_more h n rest more within)
  | inr over ↦ absurd (omega (arith, ap kind (e ∙ on_false (nat_le n (length rest)) _ More (le_false n (length rest) over))))
]

refused_stays : (h : RequestHead) (status : ℕ) (rest more : List ℕ) (len : Result ℕ ℕ) → Refused status ≡ with_body h len rest → Refused status ≡ with_body h len (rest ++ more)
refused_stays h status rest more (Err s) e = e
refused_stays h status rest more (Ok n) e = elim (all_or n (length rest)) [
  | inl within ↦ absurd (omega (arith, ap kind (e ∙ on_true (nat_le n (length rest)) _ More (le_true n (length rest) within))))
  | inr over ↦ absurd (omega (arith, ap kind (e ∙ on_false (nat_le n (length rest)) _ More (le_false n (length rest) over))))
]

two_kinds : (p : Bool) → 2 ≤ kind (cond p Blank More)
two_kinds true = omega arith
two_kinds false = omega arith

unended_kind : (bytes : List ℕ) → length bytes < most_head → 2 ≤ kind (unended bytes)
unended_kind bytes short = omega (arith, two_kinds (blank bytes == length bytes), ap kind (on_false (nat_le most_head (length bytes)) (Refused 431) (cond (blank bytes == length bytes) Blank More) (le_false most_head (length bytes) short)))

whole_ended : {A : Type 0} (bytes : List ℕ) (r : Request) (behind : List ℕ) → Whole r behind ≡ unended bytes → A
whole_ended bytes r behind e = elim (all_or most_head (length bytes)) [
  | inl full ↦ absurd (omega (arith, ap kind (e ∙ sym (unended_full bytes full))))
  | inr short ↦ absurd (omega (arith, ap kind e, unended_kind bytes short))
]

refused_ended : (bytes more : List ℕ) (status : ℕ) → head_span (take most_head bytes) ≡ None → Refused status ≡ unended bytes → Ask (bytes ++ more) (Refused status)
refused_ended bytes more status none e = elim (all_or most_head (length bytes)) [
  | inl full ↦ ask_none (bytes ++ more) (Refused status) (ap head_span (take-append-le most_head bytes more full) ∙ none) (e ∙ sym (unended_full bytes full) ∙ unended_full (bytes ++ more) (omega (arith, full, length-append bytes more)))
  | inr short ↦ absurd (omega (arith, ap kind e, unended_kind bytes short))
]

pub request_stands : (bytes more behind : List ℕ) (r : Request) (o : Option (ℕ × ℕ)) → head_span (take most_head bytes) ≡ o → AtSpan o bytes (Whole r behind) → Ask (bytes ++ more) (Whole r (behind ++ more))
request_stands bytes more behind r None is at = whole_ended bytes r behind at
request_stands bytes more behind r (Some span) is at =
    span_stays bytes more span (Whole r behind) (Whole r (behind ++ more)) is
    (λ rest. record { by_head = λ h e. whole_stays h r behind rest more (body_len h) e; by_none = λ e. absurd (omega (arith, ap kind e)) }) at

pub refusal_stands : (bytes more : List ℕ) (status : ℕ) (o : Option (ℕ × ℕ)) → head_span (take most_head bytes) ≡ o → AtSpan o bytes (Refused status) → Ask (bytes ++ more) (Refused status)
refusal_stands bytes more status None is at = refused_ended bytes more status is at
refusal_stands bytes more status (Some span) is at =
    span_stays bytes more span (Refused status) (Refused status) is
    (λ rest. record { by_head = λ h e. refused_stays h status rest more (body_len h) e; by_none = λ e. e }) at
