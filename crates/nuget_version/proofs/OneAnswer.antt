-- A text has one answer.
use Rattle.std.proofs.Common.{◌≡◌, ◌≢◌, ◌<◌, ◌≤◌, ℕ, List, [], ◌∷◌, length, Some, None, refl, sym, ◌∙◌, ap, arith, inl, inr}
use Rattle.std.proofs.lemmas.Bool.{cases_order}
use Rattle.nuget_version.specs.Grammar.{IsLongestFront, IsMadeOf, IsVersionText, Pieces, Spells, first_too_big}
use Rattle.nuget_version.specs.Parts.{full_of}
use Rattle.nuget_version.specs.Refusals.{IsRefused, pieces_full}
use Rattle.nuget_version.specs.Walk.{IsFoundIn, found_of, too_big_of}
use Rattle.nuget_version.specs.declared.errors.VersionErr.{VersionErr}
use Rattle.nuget_version.specs.declared.errors.VersionErr.TheVariants.{Empty, TooLong, BadByte, NumberTooBig, Memory}
use Rattle.nuget_version.specs.declared.version.Version.{Version}
use Rattle.nuget_version.proofs.Fields.{found_big, found_fields, one_found, pieces_full_is, same_as, spelled_full_is, spelled_small}
use Rattle.nuget_version.proofs.Fronts.{version_walks}

-- a version text isn't empty
version_filled : (text : List ℕ) → IsVersionText text → 0 < length text
version_filled [] v = cc (version_walks [] v)
version_filled (b ∷ t) v = omega arith

empty_version : (text : List ℕ) → text ≡ [] → IsVersionText text → ⊥
empty_version text is v = absurd (omega (arith, version_filled text v, ap length is))

same_big : (text : List ℕ) (p q : Pieces) → IsMadeOf text p → IsMadeOf text q → first_too_big 0 p.numbers ≡ first_too_big 0 q.numbers
same_big text p q made again = sym (found_big p made.are) ∙ ap too_big_of (one_found text p q made again) ∙ found_big q again.are

same_full : (text : List ℕ) (p q : Pieces) → IsMadeOf text p → IsMadeOf text q → length text ≤ 64 → first_too_big 0 p.numbers ≡ None → pieces_full p ≡ pieces_full q
same_full text p q made again short small =
    let f = found_of p in
    let h : IsFoundIn text f = record { pieces = p; made = made; found = refl; small = small; short = short } in
    let k : IsFoundIn text f = record { pieces = q; made = again; found = one_found text p q made again; small = sym (same_big text p q made again) ∙ small; short = short } in
    let labels : p.labels ≡ q.labels = sym (found_fields text f h).labels ∙ (found_fields text f k).labels in
    let meta : p.meta ≡ q.meta = sym (found_fields text f h).meta ∙ (found_fields text f k).meta in
    sym (pieces_full_is text f h)
    ∙ ap (λ (l : List ℕ). full_of f.major.value f.minor.value f.patch.value f.revision.value l p.meta) labels
    ∙ ap (λ (l : List ℕ). full_of f.major.value f.minor.value f.patch.value f.revision.value q.labels l) meta
    ∙ pieces_full_is text f k

-- two refusals of different kinds
empty_long : (text : List ℕ) (n : ℕ) → text ≡ [] → IsRefused text (TooLong n) → ⊥
empty_long text n is long = elim long [
  | inl above ↦ absurd (omega (arith, above.0, above.1, ap length is))
  | inr full ↦ empty_version text is (full.0, full.1)
]

empty_big : (text : List ℕ) (n : ℕ) → text ≡ [] → IsRefused text (NumberTooBig n) → ⊥
empty_big text n is big = empty_version text is (big.0, big.1)

empty_bad : (text : List ℕ) (n : ℕ) → text ≡ [] → IsRefused text (BadByte n) → ⊥
empty_bad text n is bad = absurd (omega (arith, bad.0, ap length is))

long_bad : (text : List ℕ) (n m : ℕ) → IsRefused text (TooLong n) → IsRefused text (BadByte m) → ⊥
long_bad text n m long bad = elim long [
  | inl above ↦ absurd (omega (arith, above.0, above.1, bad.1))
  | inr full ↦ bad.2 (full.0, full.1)
]

long_big : (text : List ℕ) (n m : ℕ) → IsRefused text (TooLong n) → IsRefused text (NumberTooBig m) → ⊥
long_big text n m long big = elim long [
  | inl above ↦ absurd (omega (arith, above.0, above.1, big.2))
  | inr full ↦ cc (sym full.3 ∙ same_big text full.0 big.0 full.1 big.1 ∙ big.3)
]

bad_big : (text : List ℕ) (n m : ℕ) → IsRefused text (BadByte n) → IsRefused text (NumberTooBig m) → ⊥
bad_big text n m bad big = bad.2 (big.0, big.1)

-- two refusals of one kind
long_long : (text : List ℕ) (n m : ℕ) → IsRefused text (TooLong n) → IsRefused text (TooLong m) → m ≡ n
long_long text n m long again = elim long [
  | inl above ↦ elim again [
    | inl more ↦ more.0 ∙ sym above.0
    | inr full ↦ absurd (omega (arith, above.0, above.1, full.2))
  ]
  | inr full ↦ elim again [
    | inl above ↦ absurd (omega (arith, above.0, above.1, full.2))
    | inr other ↦ other.4 ∙ ap length (same_full text other.0 full.0 other.1 full.1 full.2 other.3) ∙ sym full.4
  ]
]

longest_once : (text : List ℕ) (n m : ℕ) → IsLongestFront text n → IsLongestFront text m → m ≡ n
longest_once text n m one two = elim (cases_order m n) [
  | inl same ↦ same
  | inr apart ↦ elim apart [
    | inl below ↦ absurd (two.longest n below one.within one.begins)
    | inr above ↦ absurd (one.longest m above two.within two.begins)
  ]
]

big_big : (text : List ℕ) (n m : ℕ) → IsRefused text (NumberTooBig n) → IsRefused text (NumberTooBig m) → m ≡ n
big_big text n m big again =
    let same : Some m ≡ Some n = sym again.3 ∙ same_big text again.0 big.0 again.1 big.1 ∙ big.3 in
    cc

pub one_refusal : (text : List ℕ) (e f : VersionErr) → e ≢ Memory → f ≢ Memory → IsRefused text e → IsRefused text f → f ≡ e
one_refusal text Empty Empty ne nf re rf = refl
one_refusal text Empty (TooLong n) ne nf re rf = absurd (empty_long text n re rf)
one_refusal text Empty (BadByte n) ne nf re rf = absurd (empty_bad text n re rf)
one_refusal text Empty (NumberTooBig n) ne nf re rf = absurd (empty_big text n re rf)
one_refusal text (TooLong n) Empty ne nf re rf = absurd (empty_long text n rf re)
one_refusal text (TooLong n) (TooLong m) ne nf re rf = ap TooLong (long_long text n m re rf)
one_refusal text (TooLong n) (BadByte m) ne nf re rf = absurd (long_bad text n m re rf)
one_refusal text (TooLong n) (NumberTooBig m) ne nf re rf = absurd (long_big text n m re rf)
one_refusal text (BadByte n) Empty ne nf re rf = absurd (empty_bad text n rf re)
one_refusal text (BadByte n) (TooLong m) ne nf re rf = absurd (long_bad text m n rf re)
one_refusal text (BadByte n) (BadByte m) ne nf re rf = ap BadByte (longest_once text n m re.3 rf.3)
one_refusal text (BadByte n) (NumberTooBig m) ne nf re rf = absurd (bad_big text n m re rf)
one_refusal text (NumberTooBig n) Empty ne nf re rf = absurd (empty_big text n rf re)
one_refusal text (NumberTooBig n) (TooLong m) ne nf re rf = absurd (long_big text m n rf re)
one_refusal text (NumberTooBig n) (BadByte m) ne nf re rf = absurd (bad_big text m n rf re)
one_refusal text (NumberTooBig n) (NumberTooBig m) ne nf re rf = ap NumberTooBig (big_big text n m re rf)
one_refusal text e Memory ne nf re rf = absurd (nf refl)
one_refusal text Memory f ne nf re rf = absurd (ne refl)

-- a refused text spells no version
spelled_full : (text : List ℕ) (p : Pieces) (v : Version) → IsMadeOf text p → length text ≤ 64 → first_too_big 0 p.numbers ≡ None → Spells text v → length (pieces_full p) ≤ 64
spelled_full text p v made short small s =
    let f = found_of p in
    let h : IsFoundIn text f = record { pieces = p; made = made; found = refl; small = small; short = short } in
    let same = same_as text f p made refl v s in
    let labels : p.labels ≡ v.labels = sym (found_fields text f h).labels ∙ same.labels in
    let meta : p.meta ≡ v.meta = sym (found_fields text f h).meta ∙ same.meta in
    omega (arith, spelled_full_is text f v same p.labels p.meta labels meta, ap length (pieces_full_is text f h))

pub refused_unspelled : (text : List ℕ) (e : VersionErr) (v : Version) → e ≢ Memory → IsRefused text e → Spells text v → ⊥
refused_unspelled text Empty v ne re s = empty_version text re (s.pieces, s.made)
refused_unspelled text (TooLong n) v ne re s = elim re [
  | inl above ↦ absurd (omega (arith, above.0, above.1, s.short))
  | inr full ↦ absurd (omega (arith, spelled_full text full.0 v full.1 full.2 full.3 s, full.4, full.5))
]
refused_unspelled text (BadByte n) v ne re s = re.2 (s.pieces, s.made)
refused_unspelled text (NumberTooBig n) v ne re s =
    let f = found_of re.0 in
    let none = spelled_small text f v (same_as text f re.0 re.1 refl v s) in
    cc (sym none ∙ found_big re.0 re.1.are ∙ re.3)
refused_unspelled text Memory v ne re s = absurd (ne refl)
