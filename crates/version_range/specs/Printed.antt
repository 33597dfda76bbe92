-- The printed form of a range.
use Rattle.std.specs.Prelude.{◌≡◌, ◌==◌, ◌&&◌, not, ℕ, List, [], ◌∷◌, ◌++◌, Bool, IsTrue, Option, Some, None}
use Rattle.std.specs.Int.{is_in_range}
use Rattle.std.specs.List.{list_all}
use Rattle.nuget_version.specs.Printed.{full_text}
use Rattle.nuget_version.specs.declared.version.Version.{Version}
use Rattle.version_range.specs.Grammar.{opening, closing, SpellsRange}
use Rattle.version_range.specs.declared.range.VersionRange.{VersionRange}

-- the full form, and nothing for an absent end
abbrev pub end_text : Option Version → List ℕ
end_text None = []
end_text (Some v) = full_text v

-- bracket, lower end, comma, space, upper end, bracket: `[1.0.0, )`
unfoldable pub range_text : VersionRange → List ℕ
range_text r = opening r.low_in ∷ (end_text r.low ++ (44 ∷ 32 ∷ (end_text r.high ++ closing r.high_in ∷ [])))

-- the printed form reads back
abbrev pub PrintedReadsBack : Type 0
PrintedReadsBack = (r : VersionRange) → SpellsRange (range_text r) r

-- a text has one range at most
abbrev pub HasOneRange : Type 0
HasOneRange = (text : List ℕ) (r s : VersionRange) → SpellsRange text r → SpellsRange text s → r ≡ s

-- an ASCII byte that JSON writes as it is: no control character, no `"` and no `\`
abbrev pub is_bare_byte : ℕ → Bool
is_bare_byte b = is_in_range 32 126 b && (not (b == 34) && not (b == 92))

-- the printed form needs no escape in JSON
abbrev pub PrintedIsBare : Type 0
PrintedIsBare = (r : VersionRange) → IsTrue (list_all is_bare_byte (range_text r))
