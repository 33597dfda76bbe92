-- What every printed form has.
use Rattle.std.proofs.Common.{◌≡◌, ◌<◌, ◌≤◌, ◌^◌, ℕ, List, [], ◌∷◌, ◌++◌, length, true, refl, arith, inl, inr, length-append, map}
use Rattle.std.specs.Prelude.{◌==◌, not}
use Rattle.std.specs.List.{list_all}
use Rattle.std.specs.Char.{to_ascii_lowercase}
use Rattle.std.specs.Fmt.{decimal}
use Rattle.std.specs.Str.Parse.{AllDigits}
use Rattle.std.proofs.lemmas.Bool.{cases_Bool, and_parts, and_from}
use Rattle.std.proofs.lemmas.Fmt.{decimal_is_IsNumeral, decimal_nonempty}
use Rattle.std.proofs.lemmas.List.{length-map}
use Rattle.std.proofs.lemmas.List.Folds.{list_all-append}
use Rattle.std.proofs.lemmas.Str.Parse.{digit_from_value}
use Rattle.nuget_version.specs.Parts.{full_of, marked, numbers_of, fourth_of}
use Rattle.nuget_version.specs.Printed.{full_text, key_text, normal_text}
use Rattle.nuget_version.specs.Forms.{is_key_byte}
use Rattle.nuget_version.specs.declared.version.Version.{Version}
use Rattle.nuget_version.proofs.Dotted.{dotted_bytes, is_text_byte}

pub normal_fits : (v : Version) → length (normal_text v) ≤ 64
unfolding normal_text full_of
normal_fits v =
    let n = numbers_of v.major v.minor v.patch v.revision in
    omega (arith, v.short, length-append n (marked 45 v.labels), length-append n (marked 45 v.labels ++ marked 43 v.meta), length-append (marked 45 v.labels) (marked 43 v.meta))

pub full_fits : (v : Version) → length (full_text v) ≤ 64
unfolding full_text
full_fits v = v.short

pub key_fits : (v : Version) → length (key_text v) ≤ 64
unfolding key_text
key_fits v = rw (length-map (normal_text v) to_ascii_lowercase) (normal_fits v)

-- digits
digit_bytes : (ds : List ℕ) → AllDigits 10 ds → list_all is_text_byte ds ≡ true
digit_bytes [] all = refl
digit_bytes (d ∷ ds) all =
    let range = digit_from_value d all.0 in
    let is : is_text_byte d ≡ true = grind (arith, range) in
    and_from _ _ is (digit_bytes ds all.1)

decimal_bytes : (n : ℕ) → n < 2 ^ 64 → list_all is_text_byte (decimal n) ≡ true
decimal_bytes n fits = digit_bytes (decimal n) (decimal_is_IsNumeral n fits).0.1

-- each byte is one of a part, or a dot
record IsPlain (t : List ℕ) : Type 0 where
  bytes : list_all is_text_byte t ≡ true

joined : (xs ys : List ℕ) → IsPlain xs → IsPlain ys → IsPlain (xs ++ ys)
joined xs ys p q = record { bytes = rw (list_all-append is_text_byte xs ys, p.bytes, q.bytes) refl }

dot : (xs : List ℕ) → IsPlain xs → IsPlain (46 ∷ xs)
dot xs p = record { bytes = p.bytes }

number : (n : ℕ) → n < 2 ^ 64 → IsPlain (decimal n)
number n fits = record { bytes = decimal_bytes n fits }

fourth : (n : ℕ) → n < 2 ^ 64 → IsPlain (fourth_of n)
fourth n fits = record {
  bytes = elim (cases_Bool (n == 0)) [
    | inl none ↦ rw none refl
    | inr some ↦ rw some (decimal_bytes n fits)
  ];
}

labelled : (t : List ℕ) → list_all is_text_byte t ≡ true → IsPlain (marked 45 t)
labelled [] h = record { bytes = refl }
labelled (b ∷ rest) h = record { bytes = h }

normal_bytes : (v : Version) → IsPlain (normal_text v)
unfolding normal_text
normal_bytes v =
    let a = number v.major (omega (arith, v.major_fits)) in
    let b = number v.minor (omega (arith, v.minor_fits)) in
    let c = number v.patch (omega (arith, v.patch_fits)) in
    let d = fourth v.revision (omega (arith, v.revision_fits)) in
    joined _ _ (joined _ _ a (dot _ (joined _ _ b (dot _ (joined _ _ c d))))) (labelled v.labels (dotted_bytes v.labels v.labels_dotted))

lower_byte : (b : ℕ) → is_text_byte b ≡ true → is_key_byte (to_ascii_lowercase b) ≡ true
lower_byte b h = grind arith

lower_bytes : (t : List ℕ) → list_all is_text_byte t ≡ true → list_all is_key_byte (map to_ascii_lowercase t) ≡ true
lower_bytes [] h = refl
lower_bytes (b ∷ rest) h =
    let p = and_parts (is_text_byte b) (list_all is_text_byte rest) h in
    and_from _ _ (lower_byte b p.0) (lower_bytes rest p.1)

pub key_bytes : (v : Version) → list_all is_key_byte (key_text v) ≡ true
unfolding key_text
key_bytes v = lower_bytes (normal_text v) (normal_bytes v).bytes

pub key_filled : (v : Version) → 0 < length (key_text v)
unfolding key_text normal_text
key_filled v =
    let some = decimal_nonempty v.major (omega (arith, v.major_fits)) in
    let n = numbers_of v.major v.minor v.patch v.revision in
    rw (length-map (n ++ marked 45 v.labels) to_ascii_lowercase) (omega (arith, length-append n (marked 45 v.labels), length-append (decimal v.major) (46 ∷ (decimal v.minor ++ (46 ∷ (decimal v.patch ++ fourth_of v.revision))))))

without_slash : (t : List ℕ) → list_all is_key_byte t ≡ true → list_all (λ b. not (b == 47)) t ≡ true
without_slash [] h = refl
without_slash (b ∷ rest) h =
    let p = and_parts (is_key_byte b) (list_all is_key_byte rest) h in
    let is : not (b == 47) ≡ true = grind arith in
    and_from _ _ is (without_slash rest p.1)

-- a key has no `/`
pub key-no_slash : (v : Version) → list_all (λ b. not (b == 47)) (key_text v) ≡ true
key-no_slash v = without_slash (key_text v) (key_bytes v)
