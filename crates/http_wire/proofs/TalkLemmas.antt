-- Requests that follow one another.
use Rattle.std.proofs.Common.{◌≡◌, ◌⊎◌, ℕ, Bool, true, false, List, [], ◌∷◌, ◌++◌, Some, inl, inr, refl, sym, ap, subst, ◌∙◌, arith}
use Rattle.http_wire.specs.Ask.{Ask, Front, Whole, Refused, Blank, More}
use Rattle.http_wire.specs.Reading.{GivesRequest}
use Rattle.http_wire.specs.Talk.{AfterLast, AtEnd, AtRefusal, Ending, EndsWith, LeadsTo, Talk}
use Rattle.http_wire.specs.declared.request.Request.{Request}
use Rattle.std.specs.declared.result.Result.TheVariants.{Ok}
use Rattle.http_wire.proofs.BodyLemmas.{value_is}
use Rattle.http_wire.proofs.LawLemmas.{behind_in, kind, one_at, request_in, status_in}

one_front : (bytes : List ℕ) (a b : Front) → Ask bytes a → Ask bytes b → a ≡ b
one_front bytes a b h k = one_at _ bytes a b h k

-- a request and another front
two_kinds : {A : Type 0} (bytes : List ℕ) (r : Request) (behind : List ℕ) (other : Front) → Ask bytes (Whole r behind) → Ask bytes other → (kind other ≡ 0 → ⊥) → A
two_kinds bytes r behind other h k differs = absurd (differs (sym (ap kind (one_front bytes (Whole r behind) other h k))))

no_end : {A : Type 0} (input behind : List ℕ) (r : Request) (x : Ending) → Ask input (Whole r behind) → EndsWith input x → A
no_end input behind r AtEnd h e = two_kinds input r behind Blank h e (λ k. omega (arith, k))
no_end input behind r AfterLast h e = absurd e
no_end input behind r (AtRefusal status) h (inl e) = two_kinds input r behind (Refused status) h e (λ k. omega (arith, k))
no_end input behind r (AtRefusal status) h (inr e) = two_kinds input r behind More h e.1 (λ k. omega (arith, k))

no_kind : {A : Type 0} (bytes : List ℕ) (a b : Front) → Ask bytes a → Ask bytes b → (kind a ≡ kind b → ⊥) → A
no_kind bytes a b h k differs = absurd (differs (ap kind (one_front bytes a b h k)))

one_end : (input : List ℕ) (x y : Ending) → EndsWith input x → EndsWith input y → x ≡ y
one_end input AtEnd AtEnd h k = refl
one_end input AtEnd AfterLast h k = absurd k
one_end input AtEnd (AtRefusal s) h (inl k) = no_kind input Blank (Refused s) h k (λ e. omega (arith, e))
one_end input AtEnd (AtRefusal s) h (inr k) = no_kind input Blank More h k.1 (λ e. omega (arith, e))
one_end input AfterLast y h k = absurd h
one_end input (AtRefusal s) AtEnd (inl h) k = no_kind input (Refused s) Blank h k (λ e. omega (arith, e))
one_end input (AtRefusal s) AtEnd (inr h) k = no_kind input More Blank h.1 k (λ e. omega (arith, e))
one_end input (AtRefusal s) AfterLast h k = absurd k
one_end input (AtRefusal s) (AtRefusal t) (inl h) (inl k) = ap AtRefusal (ap status_in (one_front input (Refused s) (Refused t) h k))
one_end input (AtRefusal s) (AtRefusal t) (inl h) (inr k) = no_kind input (Refused s) More h k.1 (λ e. omega (arith, e))
one_end input (AtRefusal s) (AtRefusal t) (inr h) (inl k) = no_kind input More (Refused t) h.1 k (λ e. omega (arith, e))
one_end input (AtRefusal s) (AtRefusal t) (inr h) (inr k) = ap AtRefusal (h.0 ∙ sym k.0)

both_ways : {A : Type 0} (b : Bool) → b ≡ true → b ≡ false → A
both_ways true h k = grind (arith, k)
both_ways false h k = grind (arith, h)

-- how a talk goes on behind its first request
abbrev Follows : Request → List ℕ → List Request → Ending → Type 0
Follows r behind rs x = ((r.last ≡ true) × (rs ≡ []) × (x ≡ AfterLast)) ⊎ ((r.last ≡ false) × Talk behind rs x)

abbrev Same : List Request → List Request → Ending → Ending → Type 0
Same a b x y = (a ≡ b) × (x ≡ y)

one_more : (r t : Request) (behind next : List ℕ) (a b : List Request) (x y : Ending) → r ≡ t → behind ≡ next → Follows r behind a x → Follows t next b y → ((input : List ℕ) → Talk input a x → Talk input b y → Same a b x y) → Same (r ∷ a) (t ∷ b) x y
one_more r t behind next a b x y same rest (inl h) (inl k) one = ((λ i. same i ∷ (h.1 ∙ sym k.1) i), h.2 ∙ sym k.2)
one_more r t behind next a b x y same rest (inl h) (inr k) one = both_ways r.last h.0 (ap (λ (q : Request). q.last) same ∙ k.0)
one_more r t behind next a b x y same rest (inr h) (inl k) one = both_ways t.last k.0 (sym (ap (λ (q : Request). q.last) same) ∙ h.0)
one_more r t behind next a b x y same rest (inr h) (inr k) one =
    let on = one behind h.1 (subst (λ (xs : List ℕ). Talk xs b y) (sym rest) k.1) in
    ((λ i. same i ∷ on.0 i), on.1)

pub one_of : (a b : List Request) (input : List ℕ) (x y : Ending) → Talk input a x → Talk input b y → Same a b x y
one_of [] [] input x y h k = (refl, one_end input x y h k)
one_of [] (t ∷ b) input x y h k = no_end input k.0 t x k.1 h
one_of (r ∷ a) [] input x y h k = no_end input h.0 r y h.1 k
one_of (r ∷ a) (t ∷ b) input x y h k =
    let same : Whole r h.0 ≡ Whole t k.0 = one_front input (Whole r h.0) (Whole t k.0) h.1 k.1 in
    one_more r t h.0 k.0 a b x y (ap (request_in r) same) (ap behind_in same) h.2 k.2 (λ rest s u. one_of a b rest x y s u)

pub leads_more : (rs : List Request) (input rest behind : List ℕ) (r : Request) → LeadsTo input rs rest → GivesRequest (Some rest) (Some behind) (Ok r) → r.last ≡ false → LeadsTo input (rs ++ r ∷ []) behind
leads_more [] input rest behind r leads answers stays =
    (answers.0, subst (λ (xs : List ℕ). Ask xs (Whole r answers.0)) (sym leads) answers.2, stays, sym (value_is _ _ answers.1))
leads_more (q ∷ rs) input rest behind r leads answers stays = (leads.0, leads.1, leads.2, leads_more rs leads.0 rest behind r leads.3 answers stays)

pub leads_talk : (rs : List Request) (input rest : List ℕ) (others : List Request) (x : Ending) → LeadsTo input rs rest → Talk rest others x → Talk input (rs ++ others) x
leads_talk [] input rest others x leads talk = subst (λ (xs : List ℕ). Talk xs others x) (sym leads) talk
leads_talk (q ∷ rs) input rest others x leads talk = (leads.0, leads.1, inr (leads.2, leads_talk rs leads.0 rest others x leads.3 talk))
