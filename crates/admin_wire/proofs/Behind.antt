-- Parts of a body, one behind the other, and what is refused behind them.
use Rattle.std.proofs.Common.{◌≡◌, ◌≢◌, ◌≤◌, ◌-◌, ℕ, List, [], ◌∷◌, ◌++◌, length, refl, sym, ap, ◌∙◌, subst, arith, append-nil, append_assoc, length-append}
use Rattle.catalog_doc.specs.declared.change.Change.{Change}
use Rattle.admin_wire.specs.Bodies.{AreJoined, IsRefusedBehind}
use Rattle.admin_wire.specs.declared.error.BodyErr.{BodyErr}

-- a part more
pub parts_more : (IsPart : List ℕ → Change → Type 0) (front piece : List ℕ) (before : List Change) (c : Change) → AreJoined IsPart front before → IsPart piece c
    → AreJoined IsPart (front ++ piece) (before ++ c ∷ [])
parts_more IsPart front piece [] c none is = (piece, [], rw none (sym (append-nil piece)), is, refl)
parts_more IsPart front piece (d ∷ ds) c parts is =
    (parts.0, parts.1 ++ piece, rw parts.2 (append_assoc parts.0 parts.1 piece), parts.3, parts_more IsPart parts.1 piece ds c parts.4 is)

-- so much of the body is read
pub record IsReadTo (IsPart : List ℕ → Change → Type 0) (body rest : List ℕ) (before : List Change) : Type 0 where
  pub front : List ℕ
  pub split : body ≡ front ++ rest
  pub parts : AreJoined IsPart front before

pub at_start : (IsPart : List ℕ → Change → Type 0) (body : List ℕ) → IsReadTo IsPart body body []
at_start IsPart body = record { front = []; split = refl; parts = refl }

pub read_on : (IsPart : List ℕ → Change → Type 0) (body rest back piece : List ℕ) (before : List Change) (c : Change) → IsReadTo IsPart body rest before
    → rest ≡ piece ++ back → IsPart piece c → IsReadTo IsPart body back (before ++ c ∷ [])
read_on IsPart body rest back piece before c r e is = record {
  front = r.front ++ piece;
  split = r.split ∙ ap (λ (l : List ℕ). r.front ++ l) e ∙ sym (append_assoc r.front piece back);
  parts = parts_more IsPart r.front piece before c r.parts is;
}

pub at_end : (IsPart : List ℕ → Change → Type 0) (body rest : List ℕ) (before : List Change) → IsReadTo IsPart body rest before → rest ≡ []
    → AreJoined IsPart body before
at_end IsPart body rest before r e =
    let whole : r.front ≡ body = sym (append-nil r.front) ∙ ap (λ (l : List ℕ). r.front ++ l) (sym e) ∙ sym r.split in
    subst (λ (l : List ℕ). AreJoined IsPart l before) whole r.parts

pub stops_at : (IsPart : List ℕ → Change → Type 0) (Refuses : ℕ → ℕ → List ℕ → BodyErr → Type 0) (body rest : List ℕ) (before : List Change) (at place : ℕ)
    (e : BodyErr)
    → IsReadTo IsPart body rest before → rest ≢ [] → at ≡ length body - length rest → place ≡ length before → Refuses at place rest e
    → IsRefusedBehind IsPart Refuses body e
stops_at IsPart Refuses body rest before at place e r more is_at is_place refused =
    let here : at ≡ length r.front = is_at ∙ omega (arith, ap length r.split, length-append r.front rest) in
    record {
      front = r.front;
      back = rest;
      split = r.split;
      before = before;
      read = r.parts;
      more = more;
      refused = subst (λ (n : ℕ). Refuses n (length before) rest e) here (subst (λ (n : ℕ). Refuses at n rest e) is_place refused);
    }

-- there are no more bytes left than the body has
pub rest_fits : (IsPart : List ℕ → Change → Type 0) (body rest : List ℕ) (before : List Change) → IsReadTo IsPart body rest before → length rest ≤ length body
rest_fits IsPart body rest before r = omega (arith, ap length r.split, length-append r.front rest)
