-- The precedence of versions: SemVer 2.0.0, section 11, with NuGet's fourth number behind the third
-- and with labels compared in lower case. Metadata doesn't count.
use Rattle.std.specs.Prelude.{◌≡◌, ◌↔◌, ℕ, ◌==◌, ◌&&◌, not, nat_lt, if◌then◌else◌, Bool, false, List, [], ◌∷◌, length}
use Rattle.std.specs.Cmp.{IsTotalOrder}
use Rattle.std.specs.Cmp.Lexicographic.{slice_cmp}
use Rattle.std.specs.Ordering.{nat_cmp, on, then_cmp}
use Rattle.std.specs.Str.{str_to_ascii_lowercase}
use Rattle.std.specs.Str.Parse.{digits_value}
use Rattle.std.specs.declared.cmp.Ordering.{Ordering}
use Rattle.std.specs.declared.cmp.Ordering.TheVariants.{Less, Equal, Greater}
use Rattle.nuget_version.specs.Grammar.{is_number}
use Rattle.nuget_version.specs.Parts.{parts}
use Rattle.nuget_version.specs.Printed.{key_text}
use Rattle.nuget_version.specs.declared.version.Version.{Version}

-- a 0 before further digits
abbrev pub has_leading_zero : List ℕ → Bool
has_leading_zero [] = false
has_leading_zero (b ∷ rest) = (b == 48) && nat_lt 0 (length rest)

-- a part that counts as a number: `0`, or digits without a leading zero
abbrev pub is_numeric : List ℕ → Bool
is_numeric part = is_number part && not (has_leading_zero part)

-- numbers come before other parts; two numbers go by value, two other parts by their bytes
abbrev pub part_cmp : List ℕ → List ℕ → Ordering
part_cmp x y =
    if is_numeric x then (if is_numeric y then nat_cmp (digits_value 10 x) (digits_value 10 y) else Less)
    else (if is_numeric y then Greater else slice_cmp nat_cmp x y)

-- a version without labels comes after those with labels
abbrev pub labels_rank : List ℕ → ℕ
labels_rank labels = if length labels == 0 then 1 else 0

-- labels go part by part, and where one list of parts begins the other, the shorter comes first
abbrev pub labels_cmp : List ℕ → List ℕ → Ordering
labels_cmp = then_cmp (on labels_rank nat_cmp) (on parts (slice_cmp part_cmp))

-- the four numbers in order, and then the labels
unfoldable pub precedence : Version → Version → Ordering
precedence = then_cmp (on (λ (v : Version). v.major) nat_cmp) (then_cmp (on (λ (v : Version). v.minor) nat_cmp)
    (then_cmp (on (λ (v : Version). v.patch) nat_cmp) (then_cmp (on (λ (v : Version). v.revision) nat_cmp)
    (on (λ (v : Version). str_to_ascii_lowercase v.labels) labels_cmp))))

-- it is a total order
abbrev pub IsTotal : Type 0
IsTotal = IsTotalOrder precedence

-- two versions tie exactly where their keys are equal
abbrev pub TiesByKey : Type 0
TiesByKey = (u v : Version) → (precedence u v ≡ Equal) ↔ (key_text u ≡ key_text v)
