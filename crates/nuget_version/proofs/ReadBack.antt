-- Printed forms read back.
use Rattle.std.proofs.Common.{◌≡◌, ◌<◌, ◌≤◌, ℕ, List, [], ◌∷◌, ◌++◌, length, map, Bool, true, false, ◌||◌, refl, sym, ◌∙◌, ap, arith, inl, inr, append-nil}
use Rattle.std.proofs.lemmas.List.{map-append}
use Rattle.std.proofs.lemmas.List.Folds.{list_all-append}
use Rattle.std.specs.Prelude.{◌==◌, slice_index_or}
use Rattle.std.specs.List.{list_all}
use Rattle.std.specs.Char.{is_ascii_digit, to_ascii_lowercase}
use Rattle.std.specs.Fmt.{decimal}
use Rattle.std.specs.Str.{str_to_ascii_lowercase}
use Rattle.std.specs.Str.Parse.{AllDigits, digits_value}
use Rattle.std.proofs.lemmas.Bool.{and_from, and_parts, cases_Bool, eqb-true}
use Rattle.std.proofs.lemmas.Fmt.{decimal_is_IsNumeral}
use Rattle.std.proofs.lemmas.Str.Parse.{digit_from_value}
use Rattle.nuget_version.specs.Grammar.{IsMadeOf, Pieces, Spells, behind_dots, is_number, join_dots}
use Rattle.nuget_version.specs.Parts.{fourth_of, full_of, is_dotted, is_part_byte, marked, numbers_of}
use Rattle.nuget_version.specs.Printed.{full_text, key_text, normal_text}
use Rattle.nuget_version.specs.ReadBack.{ReadsAs}
use Rattle.nuget_version.specs.declared.version.Version.{Version}
use Rattle.nuget_version.proofs.Dotted.{dotted_is, is_dotted_from}
use Rattle.nuget_version.proofs.Forms.{key_fits, normal_fits}

-- printed numbers
all_digits : (ds : List ℕ) → AllDigits 10 ds → list_all is_ascii_digit ds ≡ true
all_digits [] h = refl
all_digits (d ∷ ds) h =
    let range = digit_from_value d h.0 in
    let is : is_ascii_digit d ≡ true = grind (arith, range) in
    and_from _ _ is (all_digits ds h.1)

number_from : (ds : List ℕ) → 0 < length ds → AllDigits 10 ds → is_number ds ≡ true
number_from [] some h = absurd (omega arith)
number_from (d ∷ ds) some h = all_digits (d ∷ ds) h

decimal_number : (n : ℕ) → n ≤ 2147483647 → is_number (decimal n) ≡ true
decimal_number n fits = let is = decimal_is_IsNumeral n (omega arith) in number_from (decimal n) is.0.0 is.0.1

decimal_value : (n : ℕ) → n ≤ 2147483647 → digits_value 10 (decimal n) ≡ n
decimal_value n fits = (decimal_is_IsNumeral n (omega arith)).1

-- the fourth number, where it is printed
abbrev fourth_number : Bool → ℕ → List (List ℕ)
fourth_number true n = []
fourth_number false n = decimal n ∷ []

abbrev printed_numbers : ℕ → ℕ → ℕ → ℕ → List (List ℕ)
printed_numbers a b c d = decimal a ∷ decimal b ∷ decimal c ∷ fourth_number (d == 0) d

fourth_joined : (n : ℕ) → fourth_of n ≡ behind_dots (fourth_number (n == 0) n)
fourth_joined n = elim (cases_Bool (n == 0)) [
  | inl none ↦ rw none refl
  | inr some ↦ rw (some, append-nil (decimal n)) refl
]

numbers_joined : (a b c d : ℕ) → numbers_of a b c d ≡ join_dots (printed_numbers a b c d)
numbers_joined a b c d = ap (λ (l : List ℕ). decimal a ++ (46 ∷ (decimal b ++ (46 ∷ (decimal c ++ l))))) (fourth_joined d)

fourth_is_number : (n : ℕ) → n ≤ 2147483647 → list_all is_number (fourth_number (n == 0) n) ≡ true
fourth_is_number n fits = elim (cases_Bool (n == 0)) [
  | inl none ↦ rw none refl
  | inr some ↦ rw some (and_from _ _ (decimal_number n fits) refl)
]

fourth_few : (n : ℕ) → length (fourth_number (n == 0) n) ≤ 1
fourth_few n = elim (cases_Bool (n == 0)) [
  | inl none ↦ rw none (omega arith)
  | inr some ↦ rw some (omega arith)
]

fourth_value : (n : ℕ) → n ≤ 2147483647 → n ≡ digits_value 10 (slice_index_or (fourth_number (n == 0) n) 0 [])
fourth_value n fits = elim (cases_Bool (n == 0)) [
  | inl none ↦ let is : n ≡ 0 = eqb-true n 0 none in rw none is
  | inr some ↦ rw some (sym (decimal_value n fits))
]

-- the text of a version's numbers with these labels and metadata
abbrev pub with_texts : Version → List ℕ → List ℕ → List ℕ
with_texts v labels meta = numbers_of v.major v.minor v.patch v.revision ++ (marked 45 labels ++ marked 43 meta)

pieces_of : Version → List ℕ → List ℕ → Pieces
pieces_of v labels meta = record { numbers = printed_numbers v.major v.minor v.patch v.revision; labels = labels; meta = meta }

pieces_made : (v : Version) (labels meta : List ℕ) → is_dotted labels ≡ true → is_dotted meta ≡ true → IsMadeOf (with_texts v labels meta) (pieces_of v labels meta)
unfolding pieces_of
pieces_made v labels meta ld md = record {
  are = record {
    some = omega arith;
    few = omega (arith, fourth_few v.revision);
    digits = and_from _ _ (decimal_number v.major v.major_fits) (and_from _ _ (decimal_number v.minor v.minor_fits) (and_from _ _ (decimal_number v.patch v.patch_fits) (fourth_is_number v.revision v.revision_fits)));
    labels = ld;
    meta = md;
  };
  spelled = ap (λ (l : List ℕ). l ++ (marked 45 labels ++ marked 43 meta)) (numbers_joined v.major v.minor v.patch v.revision);
}

-- the version with these numbers, labels and metadata
made_of : (v : Version) (labels meta : List ℕ) → is_dotted labels ≡ true → is_dotted meta ≡ true → length (with_texts v labels meta) ≤ 64 → Version
unfolding full_of
made_of v labels meta ld md fits = record {
  major = v.major;
  minor = v.minor;
  patch = v.patch;
  revision = v.revision;
  labels = labels;
  meta = meta;
  major_fits = v.major_fits;
  minor_fits = v.minor_fits;
  patch_fits = v.patch_fits;
  revision_fits = v.revision_fits;
  labels_dotted = ld;
  meta_dotted = md;
  short = fits;
}

spells_printed : (v w : Version) (labels meta : List ℕ) → is_dotted labels ≡ true → is_dotted meta ≡ true → length (with_texts v labels meta) ≤ 64
    → w.major ≡ v.major → w.minor ≡ v.minor → w.patch ≡ v.patch → w.revision ≡ v.revision → w.labels ≡ labels → w.meta ≡ meta
    → Spells (with_texts v labels meta) w
unfolding pieces_of
spells_printed v w labels meta ld md fits a b c d l m = record {
  short = fits;
  pieces = pieces_of v labels meta;
  made = pieces_made v labels meta ld md;
  major = a ∙ sym (decimal_value v.major v.major_fits);
  minor = b ∙ sym (decimal_value v.minor v.minor_fits);
  patch = c ∙ sym (decimal_value v.patch v.patch_fits);
  revision = d ∙ fourth_value v.revision v.revision_fits;
  labels = l;
  meta = m;
}

pub full_reads : (v : Version) → Spells (full_text v) v
unfolding full_text full_of
full_reads v = spells_printed v v v.labels v.meta v.labels_dotted v.meta_dotted v.short refl refl refl refl refl refl

nothing_dotted : is_dotted [] ≡ true
unfolding is_dotted
nothing_dotted = refl

reads_as : (v : Version) (labels text : List ℕ) → is_dotted labels ≡ true → text ≡ with_texts v labels [] → length text ≤ 64 → ReadsAs text v labels
unfolding made_of
reads_as v labels text ld is fits =
    let short : length (with_texts v labels []) ≤ 64 = rw is at fits in
    let w = made_of v labels [] ld nothing_dotted short in
    record {
      version = w;
      spelled = rw is (spells_printed v w labels [] ld nothing_dotted short refl refl refl refl refl refl);
      same_major = refl;
      same_minor = refl;
      same_patch = refl;
      same_revision = refl;
      has_labels = refl;
      no_meta = refl;
    }

normal_is : (v : Version) → normal_text v ≡ with_texts v v.labels []
unfolding normal_text
normal_is v = ap (λ (l : List ℕ). numbers_of v.major v.minor v.patch v.revision ++ l) (sym (append-nil (marked 45 v.labels)))

pub normal_reads : (v : Version) → ReadsAs (normal_text v) v v.labels
normal_reads v = reads_as v v.labels (normal_text v) v.labels_dotted (normal_is v) (normal_fits v)

-- lower case
lower-dot : (b : ℕ) → (to_ascii_lowercase b == 46) ≡ (b == 46)
lower-dot b = grind arith

lower-part : (b : ℕ) → is_part_byte (to_ascii_lowercase b) ≡ is_part_byte b
lower-part b = grind arith

lower-dotted_from : (g : Bool) (t : List ℕ) → is_dotted_from g (map to_ascii_lowercase t) ≡ is_dotted_from g t
lower-dotted_from g [] = refl
lower-dotted_from g (b ∷ t) = rw (lower-part b, lower-dot b, lower-dotted_from true t, lower-dotted_from false t) refl

pub lower_dotted : (t : List ℕ) → is_dotted t ≡ true → is_dotted (map to_ascii_lowercase t) ≡ true
lower_dotted [] h = h
lower_dotted (b ∷ t) h = dotted_is (to_ascii_lowercase b) (map to_ascii_lowercase t) ∙ lower-dotted_from false (b ∷ t) ∙ sym (dotted_is b t) ∙ h

-- digits and dots have no case
abbrev has_no_case : ℕ → Bool
has_no_case b = is_ascii_digit b || (b == 46)

lower_same : (t : List ℕ) → list_all has_no_case t ≡ true → map to_ascii_lowercase t ≡ t
lower_same [] h = refl
lower_same (b ∷ t) h =
    let p = and_parts (has_no_case b) (list_all has_no_case t) h in
    let is : to_ascii_lowercase b ≡ b = grind arith in
    rw (is, lower_same t p.1) refl

digits_no_case : (ds : List ℕ) → list_all is_ascii_digit ds ≡ true → list_all has_no_case ds ≡ true
digits_no_case [] h = refl
digits_no_case (d ∷ ds) h =
    let p = and_parts (is_ascii_digit d) (list_all is_ascii_digit ds) h in
    let is : has_no_case d ≡ true = rw p.0 refl in
    and_from _ _ is (digits_no_case ds p.1)

number_no_case : (n : List ℕ) → is_number n ≡ true → list_all has_no_case n ≡ true
number_no_case [] h = refl
number_no_case (b ∷ n) h = digits_no_case (b ∷ n) h

behind_no_case : (numbers : List (List ℕ)) → list_all is_number numbers ≡ true → list_all has_no_case (behind_dots numbers) ≡ true
behind_no_case [] h = refl
behind_no_case (n ∷ more) h =
    let p = and_parts (is_number n) (list_all is_number more) h in
    rw (list_all-append has_no_case n (behind_dots more), number_no_case n p.0, behind_no_case more p.1) refl

joined_no_case : (numbers : List (List ℕ)) → list_all is_number numbers ≡ true → list_all has_no_case (join_dots numbers) ≡ true
joined_no_case [] h = refl
joined_no_case (n ∷ more) h =
    let p = and_parts (is_number n) (list_all is_number more) h in
    rw (list_all-append has_no_case n (behind_dots more), number_no_case n p.0, behind_no_case more p.1) refl

lower_numbers : (v : Version) → map to_ascii_lowercase (numbers_of v.major v.minor v.patch v.revision) ≡ numbers_of v.major v.minor v.patch v.revision
lower_numbers v =
    let digits = and_from _ _ (decimal_number v.major v.major_fits) (and_from _ _ (decimal_number v.minor v.minor_fits) (and_from _ _ (decimal_number v.patch v.patch_fits) (fourth_is_number v.revision v.revision_fits))) in
    rw (numbers_joined v.major v.minor v.patch v.revision)
    (lower_same (join_dots (printed_numbers v.major v.minor v.patch v.revision)) (joined_no_case (printed_numbers v.major v.minor v.patch v.revision) digits))

lower-marked : (t : List ℕ) → map to_ascii_lowercase (marked 45 t) ≡ marked 45 (map to_ascii_lowercase t)
lower-marked [] = refl
lower-marked (b ∷ t) = refl

-- a key is the numbers and the labels in lower case
pub key_is : (v : Version) → key_text v ≡ with_texts v (str_to_ascii_lowercase v.labels) []
unfolding key_text normal_text
key_is v =
    let n = numbers_of v.major v.minor v.patch v.revision in
    map-append to_ascii_lowercase n (marked 45 v.labels)
    ∙ ap (λ (l : List ℕ). l ++ map to_ascii_lowercase (marked 45 v.labels)) (lower_numbers v)
    ∙ ap (λ (l : List ℕ). n ++ l) (lower-marked v.labels ∙ sym (append-nil (marked 45 (map to_ascii_lowercase v.labels))))

pub key_reads : (v : Version) → ReadsAs (key_text v) v (str_to_ascii_lowercase v.labels)
key_reads v = reads_as v (str_to_ascii_lowercase v.labels) (key_text v) (lower_dotted v.labels v.labels_dotted) (key_is v) (key_fits v)
