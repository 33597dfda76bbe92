-- Where the reading of a body stops, and that it stops at one place.
use Rattle.std.proofs.Common.{◌≡◌, ◌≢◌, ◌+◌, ℕ, List, [], ◌∷◌, ◌++◌, length, refl, sym, ap, ◌∙◌, subst, arith, append_assoc, length-append}
use Rattle.catalog_doc.specs.declared.change.Change.{Change}
use Rattle.admin_wire.specs.Bodies.{AreJoined, IsRefusedBehind}
use Rattle.admin_wire.specs.declared.error.BodyErr.{BodyErr}

-- parts aren't empty, one stands at the front of bytes at most, and the bytes are refused where none does, for one reason
pub record IsDetermined (IsPart : List ℕ → Change → Type 0) (Refuses : ℕ → ℕ → List ℕ → BodyErr → Type 0) : Type 0 where
  pub filled : (p : List ℕ) (c : Change) → IsPart p c → p ≢ []
  pub step : (p t q u : List ℕ) (c d : Change) → IsPart p c → IsPart q d → p ++ t ≡ q ++ u → (p ≡ q) × (t ≡ u)
  pub clash : (at place : ℕ) (p t bytes : List ℕ) (c : Change) (e : BodyErr) → bytes ≡ p ++ t → IsPart p c → Refuses at place bytes e → ⊥
  pub one : (at place : ℕ) (bytes : List ℕ) (d e : BodyErr) → Refuses at place bytes d → Refuses at place bytes e → d ≡ e

no_front : (p t : List ℕ) → p ++ t ≡ [] → p ≡ []
no_front [] t e = refl
no_front (b ∷ p) t e = absurd (cc e)

excluded : (IsPart : List ℕ → Change → Type 0) (Refuses : ℕ → ℕ → List ℕ → BodyErr → Type 0) → IsDetermined IsPart Refuses
    → (at place : ℕ) (bytes front back : List ℕ) (before changes : List Change) (e : BodyErr)
    → AreJoined IsPart front before → back ≢ [] → Refuses at place back e → bytes ≡ front ++ back → AreJoined IsPart bytes changes → ⊥
excluded P R f at place bytes front back [] [] e none more r s parts =
    let same : bytes ≡ back = s ∙ ap (λ (l : List ℕ). l ++ back) none in
    more (sym same ∙ parts)
excluded P R f at place bytes front back [] (c ∷ cs) e none more r s parts =
    let same : bytes ≡ back = s ∙ ap (λ (l : List ℕ). l ++ back) none in
    f.clash at place parts.0 parts.1 back c e (sym same ∙ parts.2) parts.3 r
excluded P R f at place bytes front back (d ∷ ds) [] e read more r s parts =
    let whole : read.0 ++ (read.1 ++ back) ≡ [] = sym (append_assoc read.0 read.1 back) ∙ ap (λ (l : List ℕ). l ++ back) (sym read.2) ∙ sym s ∙ parts in
    f.filled read.0 d read.3 (no_front read.0 (read.1 ++ back) whole)
excluded P R f at place bytes front back (d ∷ ds) (c ∷ cs) e read more r s parts =
    let whole : read.0 ++ (read.1 ++ back) ≡ parts.0 ++ parts.1 = sym (append_assoc read.0 read.1 back) ∙ ap (λ (l : List ℕ). l ++ back) (sym read.2) ∙ sym s
    ∙ parts.2 in
    let p = f.step read.0 (read.1 ++ back) parts.0 parts.1 d c read.3 parts.3 whole in
    excluded P R f at place parts.1 read.1 back ds cs e read.4 more r (sym p.1) parts.4

pub read_or_refused : (IsPart : List ℕ → Change → Type 0) (Refuses : ℕ → ℕ → List ℕ → BodyErr → Type 0) → IsDetermined IsPart Refuses
    → (bytes : List ℕ) (changes : List Change) (e : BodyErr) → AreJoined IsPart bytes changes → IsRefusedBehind IsPart Refuses bytes e → ⊥
read_or_refused P R f bytes changes e parts r =
    excluded P R f (length r.front) (length r.before) bytes r.front r.back r.before changes e r.read r.more r.refused r.split parts

same_stop : (IsPart : List ℕ → Change → Type 0) (Refuses : ℕ → ℕ → List ℕ → BodyErr → Type 0) → IsDetermined IsPart Refuses
    → (m n k l : ℕ) (front back other rest : List ℕ) (before others : List Change) (d e : BodyErr)
    → AreJoined IsPart front before → AreJoined IsPart other others → front ++ back ≡ other ++ rest → Refuses m n back d → Refuses k l rest e
    → (length front ≡ length other) × (length before ≡ length others) × (back ≡ rest)
same_stop P R f m n k l front back other rest [] [] d e first second s r q =
    (ap length (first ∙ sym second), refl, ap (λ (x : List ℕ). x ++ back) (sym first) ∙ s ∙ ap (λ (x : List ℕ). x ++ rest) second)
same_stop P R f m n k l front back other rest [] (b ∷ bs) d e first second s r q =
    let whole : back ≡ second.0 ++ (second.1 ++ rest) =
    ap (λ (x : List ℕ). x ++ back) (sym first) ∙ s ∙ ap (λ (x : List ℕ). x ++ rest) second.2 ∙ append_assoc second.0 second.1 rest in
    absurd (f.clash m n second.0 (second.1 ++ rest) back b d whole second.3 r)
same_stop P R f m n k l front back other rest (a ∷ as_) [] d e first second s r q =
    let whole : rest ≡ first.0 ++ (first.1 ++ back) =
    ap (λ (x : List ℕ). x ++ rest) (sym second) ∙ sym s ∙ ap (λ (x : List ℕ). x ++ back) first.2 ∙ append_assoc first.0 first.1 back in
    absurd (f.clash k l first.0 (first.1 ++ back) rest a e whole first.3 q)
same_stop P R f m n k l front back other rest (a ∷ as_) (b ∷ bs) d e first second s r q =
    let whole : first.0 ++ (first.1 ++ back) ≡ second.0 ++ (second.1 ++ rest) =
    sym (append_assoc first.0 first.1 back) ∙ ap (λ (x : List ℕ). x ++ back) (sym first.2) ∙ s ∙ ap (λ (x : List ℕ). x ++ rest) second.2
    ∙ append_assoc second.0 second.1 rest in
    let p = f.step first.0 (first.1 ++ back) second.0 (second.1 ++ rest) a b first.3 second.3 whole in
    let w = same_stop P R f m n k l first.1 back second.1 rest as_ bs d e first.4 second.4 p.1 r q in
    let long : length front ≡ length first.0 + length first.1 = ap length first.2 ∙ length-append first.0 first.1 in
    let wide : length other ≡ length second.0 + length second.1 = ap length second.2 ∙ length-append second.0 second.1 in
    (omega (arith, ap length p.0, w.0, long, wide), omega (arith, w.1), w.2)

pub one_stop : (IsPart : List ℕ → Change → Type 0) (Refuses : ℕ → ℕ → List ℕ → BodyErr → Type 0) → IsDetermined IsPart Refuses
    → (bytes : List ℕ) (d e : BodyErr) → IsRefusedBehind IsPart Refuses bytes d → IsRefusedBehind IsPart Refuses bytes e → d ≡ e
one_stop P R f bytes d e r q =
    let w = same_stop P R f (length r.front) (length r.before) (length q.front) (length q.before) r.front r.back q.front q.back r.before q.before d e
    r.read q.read (sym r.split ∙ q.split) r.refused q.refused in
    let there : R (length r.front) (length r.before) r.back e =
    subst (λ (n : ℕ). R n (length r.before) r.back e) (sym w.0)
    (subst (λ (n : ℕ). R (length q.front) n r.back e) (sym w.1) (subst (λ (l : List ℕ). R (length q.front) (length q.before) l e) (sym w.2) q.refused)) in
    f.one (length r.front) (length r.before) r.back d e r.refused there
