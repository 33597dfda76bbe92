-- When a text is refused, in the order of the refusals: each has what the earlier ones leave.
use Rattle.std.specs.Prelude.{◌≡◌, ◌≢◌, ◌<◌, ◌≤◌, ◌⊎◌, ℕ, ⊤, List, [], length, Some, None}
use Rattle.nuget_version.specs.Parts.{full_of}
use Rattle.nuget_version.specs.Grammar.{IsLongestFront, IsMadeOf, IsVersionText, Pieces, Spells, first_too_big, number_at}
use Rattle.nuget_version.specs.declared.version.Version.{Version}
use Rattle.nuget_version.specs.declared.errors.VersionErr.{VersionErr}
use Rattle.nuget_version.specs.declared.errors.VersionErr.TheVariants.{Empty, TooLong, BadByte, NumberTooBig, Memory}

-- the full form of these pieces
abbrev pub pieces_full : Pieces → List ℕ
pieces_full p = full_of (number_at p 0) (number_at p 1) (number_at p 2) (number_at p 3) p.labels p.meta

-- a text in the grammar, with its numbers within the limit, whose full form has too many bytes
abbrev pub IsLongInFull : List ℕ → ℕ → Type 0
IsLongInFull text len =
    (p : Pieces) × IsMadeOf text p × (length text ≤ 64) × (first_too_big 0 p.numbers ≡ None) × (len ≡ length (pieces_full p)) × (64 < len)

-- when each refusal comes
abbrev pub IsRefused : List ℕ → VersionErr → Type 0
IsRefused text Empty = text ≡ []
IsRefused text (TooLong len) = ((len ≡ length text) × (64 < len)) ⊎ IsLongInFull text len
IsRefused text (BadByte at) = (0 < length text) × (length text ≤ 64) × (IsVersionText text → ⊥) × IsLongestFront text at
IsRefused text (NumberTooBig at) = (p : Pieces) × IsMadeOf text p × (length text ≤ 64) × (first_too_big 0 p.numbers ≡ Some at)
IsRefused text Memory = ⊤

-- out of memory apart, a text has one refusal at most, and none where it spells a version
abbrev pub HasOneAnswer : Type 0
HasOneAnswer =
    (text : List ℕ) (e : VersionErr) → e ≢ Memory → IsRefused text e
    → ((f : VersionErr) → f ≢ Memory → IsRefused text f → f ≡ e) × ((v : Version) → Spells text v → ⊥)
