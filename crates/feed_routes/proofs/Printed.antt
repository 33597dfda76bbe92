-- What names are made of can stand in paths.
use Rattle.std.proofs.Common.{◌≡◌, ◌<◌, ◌^◌, ℕ, zero, suc, List, [], ◌∷◌, length, get_or, true, decimal, refl, sym, ap, ap₂, ◌∙◌, ◌&&◌, arith}
use Rattle.std.proofs.lemmas.Bool.Decides.{nat_tests}
use Rattle.std.proofs.lemmas.Fmt.{decimal_is_IsNumeral, decimal_nonempty, first_decimal}
use Rattle.std.proofs.lemmas.Str.Parse.{digit_from_value}
use Rattle.std.proofs.lemmas.List.{length-map}
use Rattle.std.specs.Char.{digit_value, is_ascii_digit, to_ascii_lowercase}
use Rattle.std.specs.List.{list_all}
use Rattle.std.specs.Str.{str_to_ascii_lowercase}
use Rattle.std.specs.Fmt.{digits}
use Rattle.std.specs.Str.Parse.{AllDigits}
use Rattle.nuget_version.proofs.ReadBack.{key_is, key_reads}
use Rattle.nuget_version.specs.Printed.{key_text}
use Rattle.nuget_version.specs.declared.version.Version.{Version}
use Rattle.package_id.proofs.Bytes.{is_id-key, key-key}
use Rattle.package_id.specs.Ids.{IsShortId, id_key}
use Rattle.feed_routes.specs.Segments.{IsIdKey, IsNumber, IsVersionKey}

pub id_key_own : (text : List ℕ) → IsShortId text → IsIdKey (id_key text)
id_key_own text id = record { is_id = (is_id-key text ∙ id.0, omega (arith, length-map text to_ascii_lowercase, id.1)); own = key-key text }

pub version_key_own : (v : Version) → IsVersionKey (key_text v)
version_key_own v =
    let x = key_reads v in
    let low : str_to_ascii_lowercase x.version.labels ≡ str_to_ascii_lowercase v.labels = ap str_to_ascii_lowercase x.has_labels ∙ key-key v.labels in
    (x.version, x.spelled, key_is x.version ∙ rw (low, x.same_major, x.same_minor, x.same_patch, x.same_revision) (sym (key_is v)))

digit : (d : ℕ) → digit_value d < 10 → is_ascii_digit d ≡ true
digit d low = let range = digit_from_value d low in grind (arith, nat_tests, range)

digits_all : (ds : List ℕ) → AllDigits 10 ds → list_all is_ascii_digit ds ≡ true
digits_all [] h = refl
digits_all (d ∷ ds) h = ap₂ (λ x y. x && y) (digit d h.0) (digits_all ds h.1)

number_bare : (n : ℕ) → n < 2 ^ 64 → (rest : List ℕ) → decimal n ≡ 48 ∷ rest → rest ≡ []
unfolding digits
number_bare zero h rest e = let nought : decimal 0 ≡ 48 ∷ [] = refl in cc (nought, e)
number_bare (suc n) h rest e = absurd (omega (arith, first_decimal (suc n) (omega arith) h, ap (λ (l : List ℕ). get_or l 0 0) e))

filled : (text : List ℕ) → 0 < length text → text ≡ [] → ⊥
filled text long e = omega (arith, ap length e)

pub number_own : (n : ℕ) → n < 2 ^ 64 → IsNumber (decimal n)
number_own n h = record {
  filled = filled (decimal n) (decimal_nonempty n h);
  digits = digits_all (decimal n) (decimal_is_IsNumeral n h).0.1;
  bare = number_bare n h;
}
