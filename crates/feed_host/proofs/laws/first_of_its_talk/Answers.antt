use Rattle.std.proofs.Common.{◌≡◌, ◌⊎◌, ℕ, Bool, true, false, List, [], ◌∷◌, ◌++◌, Some, inl, inr, refl, sym, ap, subst, ◌∙◌, arith}
use Rattle.http_wire.specs.Ask.{Ask, Front, Whole, Refused, Blank, More}
use Rattle.http_wire.specs.Talk.{AfterLast, AtEnd, AtRefusal, Ending, EndsWith, LeadsTo, Talk}
use Rattle.http_wire.specs.declared.request.Request.{Request}
use Rattle.feed_host.specs.Serving.{IsNextRequest}
use Rattle.http_wire.proofs.LawLemmas.{behind_in, kind, one_at, request_in}
use Rattle.feed_host.proofs.laws.first_of_its_talk.Goals as goal

other_kind : {A : Type 0} (bytes behind : List ℕ) (r : Request) (other : Front) → Ask bytes (Whole r behind) → Ask bytes other → (kind other ≡ 0 → ⊥) → A
other_kind bytes behind r other h k differs = absurd (differs (sym (ap kind (one_at _ bytes (Whole r behind) other h k))))

no_end : {A : Type 0} (input behind : List ℕ) (r : Request) (x : Ending) → Ask input (Whole r behind) → EndsWith input x → A
no_end input behind r AtEnd h e = other_kind input behind r Blank h e (λ k. omega (arith, k))
no_end input behind r AfterLast h e = absurd e
no_end input behind r (AtRefusal s) h (inl e) = other_kind input behind r (Refused s) h e (λ k. omega (arith, k))
no_end input behind r (AtRefusal s) h (inr e) = other_kind input behind r More h e.1 (λ k. omega (arith, k))

both_ways : {A : Type 0} (b : Bool) → b ≡ true → b ≡ false → A
both_ways true h k = grind (arith, k)
both_ways false h k = grind (arith, h)

abbrev Others : List Request → List Request → List ℕ → Ending → Type 0
Others requests all rest x = (others : List Request) × (all ≡ requests ++ others) × Talk rest others x

-- behind the first request, which is one
behind_first : (q t : Request) (requests all : List Request) (behind next rest : List ℕ) (x : Ending) → q.last ≡ false
    → Whole q behind ≡ Whole t next → ((t.last ≡ true) × (all ≡ []) × (x ≡ AfterLast)) ⊎ ((t.last ≡ false) × Talk next all x) → (Talk behind all x
    → Others requests all rest x) → Others (q ∷ requests) (t ∷ all) rest x
behind_first q t requests all behind next rest x stays same (inl h) more =
    both_ways t.last h.0 (sym (ap (λ (r : Request). r.last) (ap (request_in q) same)) ∙ stays)
behind_first q t requests all behind next rest x stays same (inr h) more =
    let on = more (subst (λ (bytes : List ℕ). Talk bytes all x) (sym (ap behind_in same)) h.1) in
    (on.0, (λ i. sym (ap (request_in q) same) i ∷ on.1 i), on.2)

first_of : (requests : List Request) (input rest : List ℕ) (all : List Request) (x : Ending) → LeadsTo input requests rest → Talk input all x
    → Others requests all rest x
first_of [] input rest all x leads talk = (all, refl, subst (λ (bytes : List ℕ). Talk bytes all x) leads talk)
first_of (q ∷ requests) input rest [] x leads talk = no_end input leads.0 q x leads.1 talk
first_of (q ∷ requests) input rest (t ∷ all) x leads talk =
    behind_first q t requests all leads.0 talk.0 rest x leads.2 (one_at _ input (Whole q leads.0) (Whole t talk.0) leads.1 talk.1) talk.2
    (λ h. first_of requests leads.0 rest all x leads.3 h)

-- a talk at whose front this request stands begins with it
begins : (rest behind : List ℕ) (next : Request) (others : List Request) (x : Ending) → Ask rest (Whole next behind) → Talk rest others x
    → (more : List Request) × (others ≡ next ∷ more)
begins rest behind next [] x ask talk = no_end rest behind next x ask talk
begins rest behind next (t ∷ others) x ask talk =
    (others, (λ i. ap (request_in next) (one_at _ rest (Whole t talk.0) (Whole next behind) talk.1 ask) i ∷ others))

next_of : (input : List ℕ) (requests all : List Request) (next : Request) (x : Ending) → IsNextRequest (Some input) requests next
    → Talk input all x → (others : List Request) × (all ≡ requests ++ next ∷ others)
next_of input requests all next x h talk =
    let first = first_of requests input h.0 all x h.2 talk in
    let front = begins h.0 h.1 next first.0 x h.3 first.2 in
    (front.0, first.1 ∙ (λ i. requests ++ front.1 i))

pub returns-clause-first : goal.returns-clause-first
returns-clause-first c input rest requests all x leads talk = first_of requests input rest all x leads talk

pub returns-clause-next : goal.returns-clause-next
returns-clause-next c input requests all next x h talk = next_of input requests all next x h talk
