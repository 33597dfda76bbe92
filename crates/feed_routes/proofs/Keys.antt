-- What stands in the segments of a path.
use Rattle.std.proofs.Common.{◌≡◌, ◌≢◌, ◌<◌, ℕ, List, [], ◌∷◌, ◌++◌, length, get_or, not, true, sym, ap, ◌∙◌, subst, arith, Option, Some, None, MatchOption, Bor, zero, suc}
use Rattle.std.proofs.lemmas.List.{append_cancel_left}
use Rattle.std.specs.Prelude.{◌==◌}
use Rattle.std.specs.Char.{is_ascii_digit}
use Rattle.std.specs.List.{list_all}
use Rattle.std.proofs.lemmas.Bool.{and_parts}
use Rattle.std.proofs.lemmas.Bool.Decides.{nat_tests}
use Rattle.nuget_version.specs.Grammar.{Spells}
use Rattle.nuget_version.specs.Printed.{key_text}
use Rattle.nuget_version.specs.declared.version.Version.{Version}
use Rattle.nuget_version.proofs.Forms.{key-no_slash}
use Rattle.nuget_version.proofs.OneValue.{one_value}
use Rattle.package_id.proofs.Bytes.{IsSegment-key, list_all_weaker}
use Rattle.feed_routes.specs.Cuts.{IsFreeSegment}
use Rattle.feed_routes.specs.Segments.{IsIdKey, IsNumber, IsVersionKey}

pub free_byte : (mark : ℕ) (text : List ℕ) → IsFreeSegment mark text → (i : ℕ) → i < length text → get_or text i 0 ≢ mark
free_byte mark [] free i low = absurd (omega arith)
free_byte mark (b ∷ text) free zero low = let p = and_parts (not (b == mark)) (list_all (λ b. not (b == mark)) text) free in grind (arith, nat_tests)
free_byte mark (b ∷ text) free (suc i) low =
    let p = and_parts (not (b == mark)) (list_all (λ b. not (b == mark)) text) free in free_byte mark text p.1 i (omega arith)

-- what stands between, of what stands behind the prefix
pub between_is : (text prefix suffix : List ℕ) (rest : List ℕ) (r : Option (Bor (List ℕ))) → text ≡ prefix ++ rest
    → MatchOption r ((front : List ℕ) → rest ≡ front ++ suffix → ⊥) (λ front. rest ≡ front.now ++ suffix)
    → MatchOption r ((middle : List ℕ) → text ≡ prefix ++ (middle ++ suffix) → ⊥) (λ middle. text ≡ prefix ++ (middle.now ++ suffix))
between_is text prefix suffix rest None found h = λ middle e. h middle (append_cancel_left prefix rest (middle ++ suffix) (sym found ∙ e))
between_is text prefix suffix rest (Some x) found h = found ∙ ap (λ (l : List ℕ). prefix ++ l) h

-- a key has no slash
pub free_id_key : (text : List ℕ) → IsIdKey text → IsFreeSegment 47 text
free_id_key text key = subst (λ (t : List ℕ). IsFreeSegment 47 t) key.own (IsSegment-key text key.is_id.0).whole

pub free_version_key : (text : List ℕ) → IsVersionKey text → IsFreeSegment 47 text
free_version_key text key = subst (λ (t : List ℕ). IsFreeSegment 47 t) key.2 (key-no_slash key.0)

digit_no_slash : (b : ℕ) → is_ascii_digit b ≡ true → not (b == 47) ≡ true
digit_no_slash b held = grind (arith, nat_tests)

pub free_number : (text : List ℕ) → IsNumber text → IsFreeSegment 47 text
free_number text number = list_all_weaker is_ascii_digit (λ b. not (b == 47)) digit_no_slash text number.digits

-- the key of the version that the text spells
pub key_of : (text : List ℕ) (v : Version) → Spells text v → IsVersionKey text → key_text v ≡ text
key_of text v spelled key = ap key_text (one_value text v key.0 spelled key.1) ∙ key.2
