-- A version's key begins with a digit.
use Rattle.std.proofs.Common.{◌≡◌, ◌<◌, ◌^◌, ℕ, List, [], ◌∷◌, ◌++◌, length, map, refl, sym, subst, append_assoc, arith}
use Rattle.std.specs.Char.{to_ascii_lowercase}
use Rattle.std.specs.Fmt.{decimal}
use Rattle.std.specs.Str.Parse.{AllDigits}
use Rattle.std.proofs.lemmas.Fmt.{decimal_is_IsNumeral, decimal_nonempty}
use Rattle.std.proofs.lemmas.Str.Parse.{digit_from_value}
use Rattle.nuget_version.specs.Parts.{fourth_of, marked}
use Rattle.nuget_version.specs.Printed.{key_text, normal_text}
use Rattle.nuget_version.specs.declared.version.Version.{Version}

-- a text that begins with a digit
pub record BeginsWithDigit (t : List ℕ) : Type 0 where
  pub first : ℕ
  pub rest : List ℕ
  pub parts : t ≡ first ∷ rest
  pub digit : first < 58

digits_begin : (ds more : List ℕ) → AllDigits 10 ds → 0 < length ds → BeginsWithDigit (map to_ascii_lowercase (ds ++ more))
digits_begin [] more all some = absurd (omega arith)
digits_begin (d ∷ ds) more all some =
    let range = digit_from_value d all.0 in
    record { first = to_ascii_lowercase d; rest = map to_ascii_lowercase (ds ++ more); parts = refl; digit = grind (arith, range) }

pub key_starts : (v : Version) → BeginsWithDigit (key_text v)
unfolding key_text normal_text
key_starts v =
    let numbers = 46 ∷ (decimal v.minor ++ (46 ∷ (decimal v.patch ++ fourth_of v.revision))) in
    let fits : v.major < 2 ^ 64 = omega (arith, v.major_fits) in
    subst (λ (t : List ℕ). BeginsWithDigit (map to_ascii_lowercase t)) (sym (append_assoc (decimal v.major) numbers (marked 45 v.labels)))
    (digits_begin (decimal v.major) (numbers ++ marked 45 v.labels) (decimal_is_IsNumeral v.major fits).0.1 (decimal_nonempty v.major fits))
