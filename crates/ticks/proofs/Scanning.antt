-- Where a text stops passing a test, byte by byte.
use Rattle.std.proofs.Common.{◌≡◌, ◌<◌, ◌≤◌, ◌+◌, ℕ, zero, suc, List, [], ◌∷◌, ◌++◌, length, take, drop, Bool, true, false, ◌==◌, refl, sym, ◌∙◌, ap, arith, length-drop, if◌then◌else◌, subst, ⊎_elim, ◌⊎◌, inl, inr}
use Rattle.std.specs.Prelude.{codes}
use Rattle.std.proofs.lemmas.Bool.{cases_lt}
use Rattle.std.proofs.lemmas.List.{drop_all}
use Rattle.std.proofs.lemmas.Bool.Decides.{nat_tests}
use Rattle.ticks.specs.Scan.{fits, fitting_len, is_front_then, is_part_then, is_end, is_zone, zone_form, is_decimals, is_tail, starts_with_point, tail_places, is_stamp, BeginsOne, GoesWrongAt}

-- some text passes
abbrev pub Passes : (List ℕ → Bool) → Type 0
Passes test = (text : List ℕ) × (test text ≡ true)

differ : (b : Bool) → b ≡ false → b ≡ true → ⊥
differ b no_ yes_ = cc

module _ (test : List ℕ → Bool) where
  pub stops_at_end : Passes test → test [] ≡ false → GoesWrongAt test [] 0
  stops_at_end some no_ = record {
    refused = no_;
    within = omega arith;
    begins = some;
    longest = λ n above below h. absurd (omega arith);
  }

  pub stops_here : (b : ℕ) (bs : List ℕ) → Passes test → ((xs : List ℕ) → test (b ∷ xs) ≡ false) → GoesWrongAt test (b ∷ bs) 0
  stops_here b bs some no_ = record {
    refused = no_ bs;
    within = omega arith;
    begins = some;
    longest = longest;
  } where
    longest : (n : ℕ) → 0 < n → n ≤ length (b ∷ bs) → BeginsOne test (take n (b ∷ bs)) → ⊥
    longest zero above below h = absurd (omega arith)
    longest (suc n) above below h = differ (test (b ∷ (take n bs ++ h.0))) (no_ (take n bs ++ h.0)) h.1

  module _ (after : List ℕ → Bool) where
    pub stops_later : (b : ℕ) (bs : List ℕ) (at : ℕ) → ((xs : List ℕ) → test (b ∷ xs) ≡ after xs) → GoesWrongAt after bs at → GoesWrongAt test (b ∷ bs) (suc at)
    stops_later b bs at same h = record {
      refused = same bs ∙ h.refused;
      within = let k = h.within in omega arith;
      begins = (h.begins.0, same (take at bs ++ h.begins.0) ∙ h.begins.1);
      longest = longest;
    } where
      longest : (n : ℕ) → suc at < n → n ≤ length (b ∷ bs) → BeginsOne test (take n (b ∷ bs)) → ⊥
      longest zero above below k = absurd (omega arith)
      longest (suc n) above below k = h.longest n (omega arith) (omega arith) (k.0, sym (same (take n bs ++ k.0)) ∙ k.1)

    pub stops_alike : (b : ℕ) (bs : List ℕ) (at : ℕ) → Passes test → ((xs : List ℕ) → test (b ∷ xs) ≡ after (b ∷ xs)) → GoesWrongAt after (b ∷ bs) at → GoesWrongAt test (b ∷ bs) at
    stops_alike b bs at some same h = record {
      refused = same bs ∙ h.refused;
      within = h.within;
      begins = begins at h.begins;
      longest = longest;
    } where
      begins : (n : ℕ) → BeginsOne after (take n (b ∷ bs)) → BeginsOne test (take n (b ∷ bs))
      begins zero k = some
      begins (suc n) k = (k.0, same (take n bs ++ k.0) ∙ k.1)

      longest : (n : ℕ) → at < n → n ≤ length (b ∷ bs) → BeginsOne test (take n (b ∷ bs)) → ⊥
      longest zero above below k = absurd (omega arith)
      longest (suc n) above below k = h.longest (suc n) above below (k.0, sym (same (take n bs ++ k.0)) ∙ k.1)

true_or_false : (b : Bool) → (b ≡ true) ⊎ (b ≡ false)
true_or_false true = inl refl
true_or_false false = inr refl

-- a byte that fits each wanted one
sample : ℕ → ℕ
sample want = if want == 100 then 48 else want

sample_fits : (want : ℕ) → fits want (sample want) ≡ true
unfolding sample
sample_fits want = grind (arith, nat_tests)

pub passes_front : (form : List ℕ) (test : List ℕ → Bool) → Passes test → Passes (is_front_then form test)
passes_front [] test some = some
passes_front (want ∷ form) test some =
    let rest = passes_front form test some in
    (sample want ∷ rest.0, rw (sample_fits want) rest.1)

pub passes_part : (form : List ℕ) (test : List ℕ → Bool) → Passes test → Passes (is_part_then form test)
passes_part [] test some = some
passes_part (want ∷ form) test some =
    let rest = passes_part form test some in
    (sample want ∷ rest.0, rw (sample_fits want) rest.1)

-- the text stops within the prefix
pub front_stops : (form : List ℕ) (test : List ℕ → Bool) (text : List ℕ) → Passes test → fitting_len form text < length form → GoesWrongAt (is_front_then form test) text (fitting_len form text)
front_stops [] test text some h = absurd (omega arith)
front_stops (want ∷ form) test [] some h = stops_at_end _ (passes_front (want ∷ form) test some) refl
front_stops (want ∷ form) test (b ∷ bs) some h =
    ⊎_elim
    (λ (e : fits want b ≡ true).
    let k = rw e at h in
    let one : fitting_len form bs + 1 ≡ suc (fitting_len form bs) = omega arith in
    rw (e, one) (stops_later _ (is_front_then form test) b bs _ (λ xs. rw e) (front_stops form test bs some (omega arith))))
    (λ (e : fits want b ≡ false). rw e (stops_here _ b bs (passes_front (want ∷ form) test some) (λ xs. rw e)))
    (true_or_false (fits want b))

-- the prefix fits, and all hangs on the rest
pub front_goes_on : (form : List ℕ) (test : List ℕ → Bool) (text : List ℕ) → fitting_len form text ≡ length form → (is_front_then form test text ≡ test (drop (length form) text)) × ((at : ℕ) → GoesWrongAt test (drop (length form) text) at → GoesWrongAt (is_front_then form test) text (length form + at))
front_goes_on [] test text h = (refl, λ at k. let same : at ≡ 0 + at = omega arith in subst (GoesWrongAt test text) same k)
front_goes_on (want ∷ form) test [] h = absurd (omega arith)
front_goes_on (want ∷ form) test (b ∷ bs) h =
    ⊎_elim
    (λ (e : fits want b ≡ true).
    let k = rw e at h in
    let on = front_goes_on form test bs (omega arith) in (
      rw e on.0,
      λ at stop.
          let next : suc (length form + at) ≡ suc (length form) + at = omega arith in
          subst (GoesWrongAt (is_front_then (want ∷ form) test) (b ∷ bs)) next (stops_later _ (is_front_then form test) b bs _ (λ xs. rw e) (on.1 at stop)),
    ))
    (λ (e : fits want b ≡ false). let k = rw e at h in absurd (omega arith))
    (true_or_false (fits want b))

-- the same of a prefix that may end early
pub part_goes_on : (form : List ℕ) (test : List ℕ → Bool) (text : List ℕ) → Passes test → (is_part_then form test text ≡ test (drop (fitting_len form text) text)) × ((at : ℕ) → GoesWrongAt test (drop (fitting_len form text) text) at → GoesWrongAt (is_part_then form test) text (fitting_len form text + at))
part_goes_on [] test text some = (refl, λ at k. let same : at ≡ 0 + at = omega arith in subst (GoesWrongAt test text) same k)
part_goes_on (want ∷ form) test [] some = (
  refl,
  λ at k. let same : at ≡ 0 = (let w = k.within in omega arith) in
      subst (GoesWrongAt (is_part_then (want ∷ form) test) []) (let n : 0 ≡ 0 + at = omega arith in n) (stops_at_end _ (passes_part (want ∷ form) test some) k.refused),
)
part_goes_on (want ∷ form) test (b ∷ bs) some =
    ⊎_elim
    (λ (e : fits want b ≡ true).
    let on = part_goes_on form test bs some in
    let one : fitting_len form bs + 1 ≡ suc (fitting_len form bs) = omega arith in
    rw (e, one) (
      on.0,
      λ at k.
          let next : suc (fitting_len form bs + at) ≡ suc (fitting_len form bs) + at = omega arith in
          subst (GoesWrongAt (is_part_then (want ∷ form) test) (b ∷ bs)) next (stops_later _ (is_part_then form test) b bs _ (λ xs. rw e) (on.1 at k)),
    ))
    (λ (e : fits want b ≡ false).
    rw e (
      refl,
      λ at k.
          let same : at ≡ 0 + at = omega arith in
          subst (GoesWrongAt (is_part_then (want ∷ form) test) (b ∷ bs)) same (stops_alike _ test b bs at (passes_part (want ∷ form) test some) (λ xs. rw e) k),
    ))
    (true_or_false (fits want b))

passes_zone : Passes is_zone
passes_zone = (codes "Z", refl)

pub zone_passes : (text : List ℕ) → fitting_len (zone_form text) text ≡ length (zone_form text) → fitting_len (zone_form text) text ≡ length text → is_zone text ≡ true
zone_passes text fit whole =
    (front_goes_on (zone_form text) is_end text fit).0 ∙ ap is_end (drop_all (length (zone_form text)) text (omega arith))

end_stops : (text : List ℕ) → 0 < length text → GoesWrongAt is_end text 0
end_stops [] h = absurd (omega arith)
end_stops (b ∷ bs) h = stops_here is_end b bs ([], refl) (λ xs. refl)

zone_form_stops : (form text : List ℕ) → (fitting_len form text ≡ length form → fitting_len form text ≡ length text → ⊥) → fitting_len form text ≤ length text → fitting_len form text ≤ length form → GoesWrongAt (is_front_then form is_end) text (fitting_len form text)
zone_form_stops form text apart in_text in_form =
    ⊎_elim
    (λ (less : fitting_len form text < length form). front_stops form is_end text ([], refl) less)
    (λ (all_ : length form ≤ fitting_len form text).
    let fit : fitting_len form text ≡ length form = omega arith in
    let more : 0 < length (drop (length form) text) = (let apart' = apart fit in simp length-drop (omega arith)) in
    let same : length form + 0 ≡ fitting_len form text = omega arith in
    subst (GoesWrongAt (is_front_then form is_end) text) same ((front_goes_on form is_end text fit).1 0 (end_stops (drop (length form) text) more)))
    (cases_lt (fitting_len form text) (length form))

pub zone_stops : (text : List ℕ) → (fitting_len (zone_form text) text ≡ length (zone_form text) → fitting_len (zone_form text) text ≡ length text → ⊥) → fitting_len (zone_form text) text ≤ length text → fitting_len (zone_form text) text ≤ length (zone_form text) → GoesWrongAt is_zone text (fitting_len (zone_form text) text)
zone_stops [] apart in_text in_form = stops_at_end is_zone passes_zone refl
zone_stops (b ∷ bs) apart in_text in_form =
    stops_alike is_zone (is_front_then (zone_form (b ∷ bs)) is_end) b bs _ passes_zone (λ xs. refl) (zone_form_stops (zone_form (b ∷ bs)) (b ∷ bs) apart in_text in_form)

passes_rest : Passes (is_part_then (codes "dddddd") is_zone)
passes_rest = passes_part (codes "dddddd") is_zone passes_zone

pub decimals_none : (text : List ℕ) → fitting_len (codes "ddddddd") text ≡ 0 → GoesWrongAt is_decimals text 0
decimals_none [] h = stops_at_end is_decimals (passes_front (codes "d") _ passes_rest) refl
decimals_none (b ∷ bs) h =
    ⊎_elim
    (λ (e : fits 100 b ≡ true). let k = rw e at h in absurd (omega arith))
    (λ (e : fits 100 b ≡ false). stops_here is_decimals b bs (passes_front (codes "d") _ passes_rest) (λ xs. rw e))
    (true_or_false (fits 100 b))

pub decimals_some : (text : List ℕ) → 0 < fitting_len (codes "ddddddd") text → (is_decimals text ≡ is_zone (drop (fitting_len (codes "ddddddd") text) text)) × ((at : ℕ) → GoesWrongAt is_zone (drop (fitting_len (codes "ddddddd") text) text) at → GoesWrongAt is_decimals text (fitting_len (codes "ddddddd") text + at))
decimals_some [] h = absurd (omega arith)
decimals_some (b ∷ bs) h =
    ⊎_elim
    (λ (e : fits 100 b ≡ true).
    let on = part_goes_on (codes "dddddd") is_zone bs passes_zone in
    let one : fitting_len (codes "dddddd") bs + 1 ≡ suc (fitting_len (codes "dddddd") bs) = omega arith in
    rw (e, one) (
      on.0,
      λ at k.
          let next : suc (fitting_len (codes "dddddd") bs + at) ≡ suc (fitting_len (codes "dddddd") bs) + at = omega arith in
          subst (GoesWrongAt is_decimals (b ∷ bs)) next (stops_later is_decimals (is_part_then (codes "dddddd") is_zone) b bs _ (λ xs. rw e) (on.1 at k)),
    ))
    (λ (e : fits 100 b ≡ false). let k = rw e at h in absurd (omega arith))
    (true_or_false (fits 100 b))

passes_tail : Passes is_tail
passes_tail = (codes "Z", refl)

pub tail_is_zone : (text : List ℕ) → starts_with_point text ≡ false → (is_tail text ≡ is_zone text) × ((at : ℕ) → GoesWrongAt is_zone text at → GoesWrongAt is_tail text at) × (tail_places text ≡ 0)
tail_is_zone [] e = (refl, (λ at k. let same : 0 ≡ at = (let w = k.within in omega arith) in subst (GoesWrongAt is_tail []) same (stops_at_end is_tail passes_tail refl)), refl)
tail_is_zone (b ∷ bs) e = (rw e, (λ at k. stops_alike is_tail is_zone b bs at passes_tail (λ xs. rw e) k), rw e)

pub tail_is_decimals : (text : List ℕ) → starts_with_point text ≡ true → (is_tail text ≡ is_decimals (drop 1 text)) × ((at : ℕ) → GoesWrongAt is_decimals (drop 1 text) at → GoesWrongAt is_tail text (at + 1)) × (tail_places text ≡ fitting_len (codes "ddddddd") (drop 1 text))
tail_is_decimals [] e = cc
tail_is_decimals (b ∷ bs) e = (rw e, (λ at k. let one : suc at ≡ at + 1 = omega arith in subst (GoesWrongAt is_tail (b ∷ bs)) one (stops_later is_tail is_decimals b bs at (λ xs. rw e) k)), rw e)

pub stamp_stops : (text : List ℕ) → fitting_len (codes "dddd-dd-ddTdd:dd:dd") text < 19 → GoesWrongAt is_stamp text (fitting_len (codes "dddd-dd-ddTdd:dd:dd") text)
stamp_stops text h = front_stops (codes "dddd-dd-ddTdd:dd:dd") is_tail text passes_tail h

pub stamp_goes_on : (text : List ℕ) → fitting_len (codes "dddd-dd-ddTdd:dd:dd") text ≡ 19 → (is_stamp text ≡ is_tail (drop 19 text)) × ((at : ℕ) → GoesWrongAt is_tail (drop 19 text) at → GoesWrongAt is_stamp text (19 + at))
stamp_goes_on text h = front_goes_on (codes "dddd-dd-ddTdd:dd:dd") is_tail text h

-- the same as the code holds it
pub zone_stops_at : (text form : List ℕ) (at : ℕ) → form ≡ zone_form text → at ≡ fitting_len form text → at ≤ length text → at ≤ length form → (at ≡ length form → at ≡ length text → ⊥) → GoesWrongAt is_zone text at
zone_stops_at text form at is place in_text in_form apart =
    let found : at ≡ fitting_len (zone_form text) text = place ∙ ap (λ (f : List ℕ). fitting_len f text) is in
    let long : length form ≡ length (zone_form text) = ap (λ (f : List ℕ). length f) is in
    rw found (zone_stops text (λ fit whole. apart (omega arith) (omega arith)) (omega arith) (omega arith))
