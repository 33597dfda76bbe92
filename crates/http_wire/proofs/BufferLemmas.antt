-- Bytes that come in behind others.
use Rattle.std.proofs.Common.{◌≡◌, ◌≤◌, ◌+◌, ℕ, List, [], ◌∷◌, ◌++◌, length, take, drop, slice_range, Option, Some, None, Result, Ok, Err, IfOk, IfSome, option_map, refl, sym, ap, ◌∙◌, arith, append_assoc, length-append, length-drop}
use Rattle.std.proofs.Math.Seq.{take-add}
use Rattle.std.proofs.lemmas.List.{drop-drop, take-append-le, take-append-drop, take-take, take_at, drop_at, length-take-le}
use Rattle.std.proofs.lemmas.Slice.{between_is}
use Rattle.feed_base.specs.Source.{Gives, Reads}
use Rattle.http_wire.specs.Reading.{unread, ReadsAt, Grows}

pub no_bytes : (xs : List ℕ) → length xs ≡ 0 → xs ≡ []
no_bytes [] h = refl
no_bytes (x ∷ xs) h = absurd (omega (arith, h))

pub take_behind : (front buffer : List ℕ) (at n : ℕ) → length front ≡ at → take (at + n) (front ++ buffer) ≡ front ++ take n buffer
take_behind front buffer at n long =
    take-add at n (front ++ buffer) ∙ (λ i. take_at front buffer at long i ++ take n (drop_at front buffer at long i))

told_behind : (front buffer : List ℕ) (at n : ℕ) (before after : Option (List ℕ)) → length front ≡ at → after ≡ option_map (drop n) before → IfSome before (Gives buffer n) → unread (take (at + n) (front ++ buffer)) after ≡ unread front before
told_behind front buffer at n None after long is gives = ap (unread (take (at + n) (front ++ buffer))) is
told_behind front buffer at n (Some left) after long is gives =
    ap (unread (take (at + n) (front ++ buffer))) is
    ∙ ap (λ (xs : List ℕ). Some (xs ++ drop n left)) (take_behind front buffer at n long)
    ∙ ap Some (append_assoc front (take n buffer) (drop n left))
    ∙ ap (λ (xs : List ℕ). Some (front ++ (xs ++ drop n left))) gives.next
    ∙ ap (λ (xs : List ℕ). Some (front ++ xs)) (take-append-drop n left)

ended_behind : (buffer : List ℕ) (n : ℕ) (before : Option (List ℕ)) → IfSome before (Gives buffer n) → n ≡ 0 → IfSome before (λ left. left ≡ [])
ended_behind buffer n None gives none = tt
ended_behind buffer n (Some left) gives none = no_bytes left (grind (arith, gives.goes, none))

pub reads_at : {E : Type 0} (at : ℕ) (old front buffer : List ℕ) (before after : Option (List ℕ)) (r : Result ℕ E) → front ≡ take at old → at ≤ length old → IfOk r (λ n. n ≤ length buffer) → Reads before after buffer r → ReadsAt at old (front ++ buffer) before after r
reads_at at old front buffer before after (Ok n) is within fits reads =
    let long : length front ≡ at = ap length is ∙ length-take-le at old within in
    record {
      within = omega (arith, fits, long, length-append front buffer);
      front = take_at front buffer at long ∙ is;
      told = told_behind front buffer at n before after long reads.0 reads.1 ∙ ap (λ (xs : List ℕ). unread xs before) is;
      ended = ended_behind buffer n before reads.1;
    }
reads_at at old front buffer before after (Err e) is within fits reads = (take_at front buffer at (ap length is ∙ length-take-le at old within) ∙ is, reads)

-- the first n of a piece are let go
pub piece_on : (bytes : List ℕ) (start end n : ℕ) → slice_range bytes (start + n) end ≡ drop n (slice_range bytes start end)
piece_on bytes start end n = between_is bytes (start + n) end ∙ sym (drop-drop n start (take end bytes)) ∙ ap (drop n) (sym (between_is bytes start end))

-- a piece stays where bytes are added
pub piece_stays : (bytes more grown : List ℕ) (start end : ℕ) → grown ≡ bytes ++ more → end ≤ length bytes → slice_range grown start end ≡ slice_range bytes start end
piece_stays bytes more grown start end is within =
    ap (λ (xs : List ℕ). slice_range xs start end) is ∙ between_is (bytes ++ more) start end
    ∙ ap (drop start) (take-append-le end bytes more within) ∙ sym (between_is bytes start end)

-- the piece at the front grows by what came in
pub front_grows : (old new : List ℕ) (end n : ℕ) → end + n ≤ length new → take end new ≡ take end old → Grows (take end old) (take (end + n) new) n
front_grows old new end n within same = (
  drop end (take (end + n) new),
  sym (take-append-drop end (take (end + n) new)) ∙ ap (λ (xs : List ℕ). xs ++ drop end (take (end + n) new)) (take-take end (end + n) new (omega arith) ∙ same),
  length-drop end (take (end + n) new) ∙ omega (arith, length-take-le (end + n) new within),
)
