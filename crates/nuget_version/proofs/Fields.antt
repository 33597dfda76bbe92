-- What is found in a text says what its pieces are.
use Rattle.std.proofs.Common.{◌≡◌, ◌<◌, ◌≤◌, ◌+◌, ◌-◌, min, zero, ℕ, suc, List, [], ◌∷◌, ◌++◌, length, take, drop, Bool, true, false, Option, Some, None, refl, sym, ◌∙◌, ap, subst, arith, inl, inr, append_assoc, append-nil, length-append}
use Rattle.std.specs.Prelude.{nat_le, nat_lt, slice_index_or, find, option_map, unwrap_or}
use Rattle.std.specs.Option.{ForSome}
use Rattle.std.specs.List.{list_all}
use Rattle.std.specs.Char.{is_ascii_digit}
use Rattle.std.specs.Str.{IsAscii}
use Rattle.std.specs.Str.Parse.{digits_value}
use Rattle.std.proofs.lemmas.Bool.{and_parts, and_from, cases_Bool, cases_lt, lt-ltb, le-ltb, le-leb, lt-leb, ltb-true, leb-false}
use Rattle.std.proofs.lemmas.List.Folds.{list_all-append}
use Rattle.std.proofs.lemmas.Str.Ascii.{IsAscii-cons, IsAscii-nil}
use Rattle.std.proofs.Math.Seq.{drop-append-add, take-append_seam}
use Rattle.nuget_version.specs.Parts.{full_of, is_dotted, marked, numbers_of}
use Rattle.nuget_version.specs.Refusals.{pieces_full}
use Rattle.nuget_version.proofs.Lengths.{length-full_of}
use Rattle.nuget_version.specs.Grammar.{ArePieces, IsMadeOf, Pieces, Spells, behind_dots, first_too_big, is_number, join_dots, number_at, pieces_text}
use Rattle.nuget_version.specs.Walk.{IsFoundIn, behind_of, found_of, mark_at, number_found, numbers_behind, numbers_read, place, too_big_of}
use Rattle.nuget_version.specs.declared.walk.Found.{Found}
use Rattle.nuget_version.specs.declared.walk.Number.{Number}
use Rattle.nuget_version.specs.declared.version.Version.{Version}
use Rattle.nuget_version.proofs.Dotted.{dotted_bytes, is_text_byte}
use Rattle.nuget_version.proofs.Found.{found_in}
use Rattle.nuget_version.proofs.Fronts.{same_found, walked}

-- bytes
abbrev is_low : ℕ → Bool
is_low b = nat_lt b 128

record IsLow (t : List ℕ) : Type 0 where
  bytes : list_all is_low t ≡ true

low_append : (xs ys : List ℕ) → IsLow xs → IsLow ys → IsLow (xs ++ ys)
low_append xs ys p q = record { bytes = rw (list_all-append is_low xs ys, p.bytes, q.bytes) refl }

low_cons : (b : ℕ) (xs : List ℕ) → is_low b ≡ true → IsLow xs → IsLow (b ∷ xs)
low_cons b xs low p = record { bytes = and_from _ _ low p.bytes }

weaker : (p : ℕ → Bool) (t : List ℕ) → ((b : ℕ) → p b ≡ true → is_low b ≡ true) → list_all p t ≡ true → list_all is_low t ≡ true
weaker p [] each h = refl
weaker p (b ∷ t) each h =
    let q = and_parts (p b) (list_all p t) h in
    and_from _ _ (each b q.0) (weaker p t each q.1)

digit_low : (b : ℕ) → is_ascii_digit b ≡ true → is_low b ≡ true
digit_low b h = grind arith

text_low : (b : ℕ) → is_text_byte b ≡ true → is_low b ≡ true
text_low b h = grind arith

number_low : (n : List ℕ) → is_number n ≡ true → IsLow n
number_low [] h = cc h
number_low (b ∷ n) h = record { bytes = weaker is_ascii_digit (b ∷ n) digit_low h }

behind_low : (numbers : List (List ℕ)) → list_all is_number numbers ≡ true → IsLow (behind_dots numbers)
behind_low [] h = record { bytes = refl }
behind_low (n ∷ more) h =
    let q = and_parts (is_number n) (list_all is_number more) h in
    low_cons 46 _ refl (low_append n _ (number_low n q.0) (behind_low more q.1))

joined_low : (numbers : List (List ℕ)) → list_all is_number numbers ≡ true → IsLow (join_dots numbers)
joined_low [] h = record { bytes = refl }
joined_low (n ∷ more) h =
    let q = and_parts (is_number n) (list_all is_number more) h in
    low_append n _ (number_low n q.0) (behind_low more q.1)

marked_low : (mark : ℕ) (t : List ℕ) → is_low mark ≡ true → is_dotted t ≡ true → IsLow (marked mark t)
marked_low mark [] low h = record { bytes = refl }
marked_low mark (b ∷ t) low h = low_cons mark (b ∷ t) low (record { bytes = weaker is_text_byte (b ∷ t) text_low (dotted_bytes (b ∷ t) h) })

ascii_from : (t : List ℕ) → list_all is_low t ≡ true → IsAscii t
ascii_from [] h = IsAscii-nil
ascii_from (b ∷ t) h =
    let q = and_parts (is_low b) (list_all is_low t) h in
    IsAscii-cons b t (ltb-true b 128 q.0) (ascii_from t q.1)

pub pieces_ascii : (p : Pieces) → ArePieces p → IsAscii (pieces_text p)
pieces_ascii p are =
    let low = low_append _ _ (joined_low p.numbers are.digits) (low_append _ _ (marked_low 45 p.labels refl are.labels) (marked_low 43 p.meta refl are.meta)) in
    ascii_from (pieces_text p) low.bytes

-- the texts behind the marks
pub marked_length : (mark : ℕ) (b : ℕ) (t : List ℕ) → length (marked mark (b ∷ t)) ≡ 1 + length (b ∷ t)
marked_length mark b t = omega arith

between : (front t rest : List ℕ) (mark end : ℕ) → end ≡ length front + 1 + length t
    → take (end - (length front + 1)) (drop (length front + 1) (front ++ (mark ∷ (t ++ rest)))) ≡ t
between front t rest mark end is =
    let n : end - (length front + 1) ≡ length t = omega arith in
    let d : drop (length front + 1) (front ++ (mark ∷ (t ++ rest))) ≡ t ++ rest = drop-append-add front (mark ∷ (t ++ rest)) 1 in
    rw (n, d) (take-append_seam t rest)

plus_place : (front labels meta : List ℕ) → unwrap_or (mark_at (length front + length (marked 45 labels)) meta) (length (front ++ (marked 45 labels ++ marked 43 meta))) ≡ length front + length (marked 45 labels)
plus_place front labels [] = simp length-append (omega arith)
plus_place front labels (b ∷ t) = refl

labels_behind : (front labels meta : List ℕ)
    → behind_of (front ++ (marked 45 labels ++ marked 43 meta)) (mark_at (length front) labels) (unwrap_or (mark_at (length front + length (marked 45 labels)) meta) (length (front ++ (marked 45 labels ++ marked 43 meta)))) ≡ labels
labels_behind front [] meta = refl
labels_behind front (b ∷ t) meta =
    between front (b ∷ t) (marked 43 meta) 45 _ (plus_place front (b ∷ t) meta ∙ omega arith)

meta_behind : (front labels meta : List ℕ)
    → behind_of (front ++ (marked 45 labels ++ marked 43 meta)) (mark_at (length front + length (marked 45 labels)) meta) (length (front ++ (marked 45 labels ++ marked 43 meta))) ≡ meta
meta_behind front labels [] = refl
meta_behind front labels (b ∷ t) =
    let whole = front ++ (marked 45 labels ++ (43 ∷ b ∷ t)) in
    let head = front ++ marked 45 labels in
    let split : whole ≡ head ++ (43 ∷ ((b ∷ t) ++ [])) = sym (append_assoc front (marked 45 labels) (43 ∷ b ∷ t)) ∙ ap (λ (l : List ℕ). head ++ (43 ∷ l)) (sym (append-nil (b ∷ t))) in
    let at : length front + length (marked 45 labels) ≡ length head = sym (length-append front (marked 45 labels)) in
    let end : length whole ≡ length head + 1 + length (b ∷ t) = simp length-append (omega arith) in
    ap (λ (k : ℕ). take (length whole - (k + 1)) (drop (k + 1) whole)) at
    ∙ ap (λ (l : List ℕ). take (length whole - (length head + 1)) (drop (length head + 1) l)) split
    ∙ between head (b ∷ t) [] 43 (length whole) end

-- the place of a mark
mark_place : (at : ℕ) (t : List ℕ) (x : ℕ) → mark_at at t ≡ Some x → (x ≡ at) × (0 < length t)
mark_place at [] x e = cc e
mark_place at (b ∷ t) x e = (cc, omega arith)

length-marked : (mark : ℕ) (t : List ℕ) → 0 < length t → 0 < length (marked mark t)
length-marked mark [] some = absurd (omega arith)
length-marked mark (b ∷ t) some = omega arith

labels_fit : (front labels meta : List ℕ)
    → ForSome (mark_at (length front) labels) (λ at. at < unwrap_or (mark_at (length front + length (marked 45 labels)) meta) (length (front ++ (marked 45 labels ++ marked 43 meta))))
labels_fit front labels meta x e =
    let p = mark_place (length front) labels x e in
    omega (arith, p.0, plus_place front labels meta, length-marked 45 labels p.1)

end_fits : (front labels meta : List ℕ)
    → unwrap_or (mark_at (length front + length (marked 45 labels)) meta) (length (front ++ (marked 45 labels ++ marked 43 meta))) ≤ length (front ++ (marked 45 labels ++ marked 43 meta))
end_fits front labels meta =
    omega (arith, plus_place front labels meta, length-append front (marked 45 labels ++ marked 43 meta), length-append (marked 45 labels) (marked 43 meta))

meta_fits : (front labels meta : List ℕ)
    → ForSome (mark_at (length front + length (marked 45 labels)) meta) (λ at. at < length (front ++ (marked 45 labels ++ marked 43 meta)))
meta_fits front labels meta x e =
    let p = mark_place (length front + length (marked 45 labels)) meta x e in
    omega (arith, p.0, length-marked 43 meta p.1, length-append front (marked 45 labels ++ marked 43 meta), length-append (marked 45 labels) (marked 43 meta))

-- numbers
behind_value : (at : ℕ) (ns : List (List ℕ)) (k : ℕ)
    → (slice_index_or (numbers_behind at ns) k (record { value = 0; at = 0 })).value ≡ min (digits_value 10 (slice_index_or ns k [])) 2147483648
behind_value at [] k = refl
behind_value at (n ∷ ns) zero = refl
behind_value at (n ∷ ns) (suc k) = behind_value (at + 1 + length n) ns k

found_value : (ns : List (List ℕ)) (k : ℕ) → (number_found ns k).value ≡ min (digits_value 10 (slice_index_or ns k [])) 2147483648
found_value [] k = refl
found_value (n ∷ ns) zero = refl
found_value (n ∷ ns) (suc k) = behind_value (length n) ns k

abbrev is_big : Number → Bool
is_big n = nat_le 2147483648 n.value

big_is : (v : ℕ) → nat_le 2147483648 (min v 2147483648) ≡ nat_lt 2147483647 v
big_is v = elim (cases_lt 2147483647 v) [
  | inl big ↦ le-leb 2147483648 (min v 2147483648) (omega arith) ∙ sym (lt-ltb 2147483647 v big)
  | inr small ↦ lt-leb 2147483648 (min v 2147483648) (omega arith) ∙ sym (le-ltb 2147483647 v small)
]

abbrev place_of : Option Number → Option ℕ
place_of found = option_map (λ (n : Number). n.at) found

behind_big : (at : ℕ) (ns : List (List ℕ)) → place_of (find is_big (numbers_behind at ns)) ≡ first_too_big (at + 1) ns
behind_big at [] = refl
behind_big at (n ∷ ns) = elim (cases_Bool (nat_lt 2147483647 (digits_value 10 n))) [
  | inl big ↦ rw (big_is (digits_value 10 n), big) refl
  | inr small ↦
      rw (big_is (digits_value 10 n), small) (behind_big (at + 1 + length n) ns)
]

read_big : (ns : List (List ℕ)) → place_of (find is_big (numbers_read ns)) ≡ first_too_big 0 ns
read_big [] = refl
read_big (n ∷ ns) = elim (cases_Bool (nat_lt 2147483647 (digits_value 10 n))) [
  | inl big ↦ rw (big_is (digits_value 10 n), big) refl
  | inr small ↦
      let e : length n + 1 ≡ 0 + length n + 1 = omega arith in
      rw (big_is (digits_value 10 n), small) (behind_big (length n) ns ∙ ap (λ (k : ℕ). first_too_big k ns) e)
]

abbrev four : List (List ℕ) → List Number
four ns = number_found ns 0 ∷ number_found ns 1 ∷ number_found ns 2 ∷ number_found ns 3 ∷ []

four_big : (ns : List (List ℕ)) → length ns ≤ 4 → find is_big (four ns) ≡ find is_big (numbers_read ns)
four_big [] few = refl
four_big (a ∷ []) few = refl
four_big (a ∷ b ∷ []) few = refl
four_big (a ∷ b ∷ c ∷ []) few = refl
four_big (a ∷ b ∷ c ∷ d ∷ []) few = refl
four_big (a ∷ b ∷ c ∷ d ∷ e ∷ more) few = absurd (omega arith)

pub found_big : (p : Pieces) → ArePieces p → too_big_of (found_of p) ≡ first_too_big 0 p.numbers
unfolding found_of
found_big p are = ap place_of (four_big p.numbers are.few) ∙ read_big p.numbers

-- within the limit
abbrev pub IsSmall : Number → Type 0
IsSmall n = n.value ≤ 2147483647

pub record AreSmall (f : Found) : Type 0 where
  pub major : IsSmall f.major
  pub minor : IsSmall f.minor
  pub patch : IsSmall f.patch
  pub revision : IsSmall f.revision

none_big : (n : Number) (ns : List Number) → place_of (find is_big (n ∷ ns)) ≡ None → IsSmall n × (place_of (find is_big ns) ≡ None)
none_big n ns h = elim (cases_Bool (is_big n)) [
  | inl big ↦ cc (rw big at h)
  | inr small ↦ (let lt : n.value < 2147483648 = leb-false 2147483648 n.value small in omega arith, rw small at h)
]

pub small_numbers : (f : Found) → too_big_of f ≡ None → AreSmall f
small_numbers f h =
    let a = none_big f.major (f.minor ∷ f.patch ∷ f.revision ∷ []) h in
    let b = none_big f.minor (f.patch ∷ f.revision ∷ []) a.1 in
    let c = none_big f.patch (f.revision ∷ []) b.1 in
    let d = none_big f.revision [] c.1 in
    record { major = a.0; minor = b.0; patch = c.0; revision = d.0 }

some_small : (n : Number) (ns : List Number) → IsSmall n → place_of (find is_big ns) ≡ None → place_of (find is_big (n ∷ ns)) ≡ None
some_small n ns small h =
    let other : is_big n ≡ false = lt-leb 2147483648 n.value (omega (arith, small)) in
    rw other h

pub none_too_big : (f : Found) → AreSmall f → too_big_of f ≡ None
none_too_big f s =
    some_small f.major (f.minor ∷ f.patch ∷ f.revision ∷ []) s.major
    (some_small f.minor (f.patch ∷ f.revision ∷ []) s.minor
    (some_small f.patch (f.revision ∷ []) s.patch
    (some_small f.revision [] s.revision refl)))

-- what is found in a text of the grammar
pub record FieldsAre (text : List ℕ) (f : Found) (p : Pieces) : Type 0 where
  pub ascii : IsAscii text
  pub labels_fit : ForSome f.dash (λ at. at < unwrap_or f.plus (length text))
  pub end_fits : unwrap_or f.plus (length text) ≤ length text
  pub meta_fits : ForSome f.plus (λ at. at < length text)
  pub labels : behind_of text f.dash (unwrap_or f.plus (length text)) ≡ p.labels
  pub meta : behind_of text f.plus (length text) ≡ p.meta
  pub major : f.major.value ≡ min (number_at p 0) 2147483648
  pub minor : f.minor.value ≡ min (number_at p 1) 2147483648
  pub patch : f.patch.value ≡ min (number_at p 2) 2147483648
  pub revision : f.revision.value ≡ min (number_at p 3) 2147483648
  pub big : too_big_of f ≡ first_too_big 0 p.numbers

pieces_fields : (p : Pieces) → ArePieces p → FieldsAre (pieces_text p) (found_of p) p
unfolding found_of
pieces_fields p are =
    let front = join_dots p.numbers in
    record {
      ascii = pieces_ascii p are;
      labels_fit = labels_fit front p.labels p.meta;
      end_fits = end_fits front p.labels p.meta;
      meta_fits = meta_fits front p.labels p.meta;
      labels = labels_behind front p.labels p.meta;
      meta = meta_behind front p.labels p.meta;
      major = found_value p.numbers 0;
      minor = found_value p.numbers 1;
      patch = found_value p.numbers 2;
      revision = found_value p.numbers 3;
      big = found_big p are;
    }

-- two ways to take a text apart find the same
pub one_found : (text : List ℕ) (p q : Pieces) → IsMadeOf text p → IsMadeOf text q → found_of p ≡ found_of q
one_found text p q made again =
    let v = found_in p made.are in
    let w = found_in q again.are in
    same_found (place v.0 true) (place w.0 true) (found_of p) (found_of q)
    (sym v.1 ∙ ap walked (sym made.spelled) ∙ ap walked again.spelled ∙ w.1)

pub fields_of : (text : List ℕ) (f : Found) (p : Pieces) → IsMadeOf text p → f ≡ found_of p → FieldsAre text f p
fields_of text f p made is =
    subst (λ (l : List ℕ). FieldsAre l f p) (sym made.spelled) (subst (λ (g : Found). FieldsAre (pieces_text p) g p) (sym is) (pieces_fields p made.are))

-- a version that the text spells has what is found
pub record SameAs (text : List ℕ) (f : Found) (v : Version) : Type 0 where
  pub major : f.major.value ≡ v.major
  pub minor : f.minor.value ≡ v.minor
  pub patch : f.patch.value ≡ v.patch
  pub revision : f.revision.value ≡ v.revision
  pub labels : behind_of text f.dash (unwrap_or f.plus (length text)) ≡ v.labels
  pub meta : behind_of text f.plus (length text) ≡ v.meta

pub same_as : (text : List ℕ) (f : Found) (p : Pieces) → IsMadeOf text p → f ≡ found_of p → (v : Version) → Spells text v → SameAs text f v
same_as text f p made is v s =
    let q = fields_of text f s.pieces s.made (is ∙ one_found text p s.pieces made s.made) in
    record {
      major = omega (arith, q.major, s.major, v.major_fits);
      minor = omega (arith, q.minor, s.minor, v.minor_fits);
      patch = omega (arith, q.patch, s.patch, v.patch_fits);
      revision = omega (arith, q.revision, s.revision, v.revision_fits);
      labels = q.labels ∙ sym s.labels;
      meta = q.meta ∙ sym s.meta;
    }

pub spelled_small : (text : List ℕ) (f : Found) (v : Version) → SameAs text f v → too_big_of f ≡ None
spelled_small text f v s =
    none_too_big f (record {
      major = omega (arith, s.major, v.major_fits);
      minor = omega (arith, s.minor, v.minor_fits);
      patch = omega (arith, s.patch, v.patch_fits);
      revision = omega (arith, s.revision, v.revision_fits);
    })

pub found_fields : (text : List ℕ) (f : Found) (h : IsFoundIn text f) → FieldsAre text f h.pieces
found_fields text f h = fields_of text f h.pieces h.made h.found

-- what is found within the limits
pub record Exact (f : Found) (p : Pieces) : Type 0 where
  pub small : AreSmall f
  pub major : f.major.value ≡ number_at p 0
  pub minor : f.minor.value ≡ number_at p 1
  pub patch : f.patch.value ≡ number_at p 2
  pub revision : f.revision.value ≡ number_at p 3

pub exact : (text : List ℕ) (f : Found) (h : IsFoundIn text f) → Exact f h.pieces
exact text f h =
    let q = found_fields text f h in
    let s = small_numbers f (q.big ∙ h.small) in
    record {
      small = s;
      major = omega (arith, q.major, s.major);
      minor = omega (arith, q.minor, s.minor);
      patch = omega (arith, q.patch, s.patch);
      revision = omega (arith, q.revision, s.revision);
    }

pub labels_read : (text : List ℕ) (f : Found) (h : IsFoundIn text f) (end : ℕ) (t : List ℕ) → end ≡ unwrap_or f.plus (length text) → t ≡ behind_of text f.dash end → t ≡ h.pieces.labels
labels_read text f h end t is read = read ∙ ap (λ (k : ℕ). behind_of text f.dash k) is ∙ (found_fields text f h).labels

pub meta_read : (text : List ℕ) (f : Found) (h : IsFoundIn text f) (t : List ℕ) → t ≡ behind_of text f.plus (length text) → t ≡ h.pieces.meta
meta_read text f h t read = read ∙ (found_fields text f h).meta

-- a sum of lengths is the length of the full form
pub full_is : (a b c d : ℕ) (labels l meta m : List ℕ) (x y z : ℕ) → labels ≡ l → meta ≡ m
    → x ≡ length (numbers_of a b c d) → ((mark : ℕ) → y ≡ length (marked mark l)) → ((mark : ℕ) → z ≡ length (marked mark m))
    → x + y + z ≡ length (full_of a b c d labels meta)
full_is a b c d labels l meta m x y z labels_is meta_is numbers ly lz =
    rw (labels_is, meta_is) (omega (arith, numbers, ly 45, lz 43, length-full_of a b c d l m))

-- the full form of what was found is that of the pieces
pub pieces_full_is : (text : List ℕ) (f : Found) (h : IsFoundIn text f)
    → full_of f.major.value f.minor.value f.patch.value f.revision.value h.pieces.labels h.pieces.meta ≡ pieces_full h.pieces
pieces_full_is text f h =
    let e = exact text f h in
    rw (e.major, e.minor, e.patch, e.revision) refl

pub read_full_is : (text : List ℕ) (f : Found) (h : IsFoundIn text f) (labels meta : List ℕ) → labels ≡ h.pieces.labels → meta ≡ h.pieces.meta
    → full_of f.major.value f.minor.value f.patch.value f.revision.value labels meta ≡ pieces_full h.pieces
read_full_is text f h labels meta labels_is meta_is = rw (labels_is, meta_is) (pieces_full_is text f h)

-- and that of a version that the text spells
pub spelled_full_is : (text : List ℕ) (f : Found) (v : Version) → SameAs text f v → (labels meta : List ℕ) → labels ≡ v.labels → meta ≡ v.meta
    → length (full_of f.major.value f.minor.value f.patch.value f.revision.value labels meta) ≤ 64
spelled_full_is text f v s labels meta labels_is meta_is = rw (s.major, s.minor, s.patch, s.revision, labels_is, meta_is) v.short
