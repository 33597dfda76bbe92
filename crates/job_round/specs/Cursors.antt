-- The number that a hive's cursor tells.
use Rattle.std.specs.Prelude.{◌≡◌, ◌⊎◌, ◌<◌, ℕ, List, length, Option, Some, None}
use Rattle.pkg_meta.specs.Catalog.{Catalog}
use Rattle.cursor_doc.specs.Cursor.{cursor_text}
use Rattle.cursor_doc.specs.Reading.{IsMarkValue}
use Rattle.cursor_doc.specs.declared.mark.Mark.{Mark}

-- the cursor found tells this number: 0 where there is none
abbrev pub IsCursor : Option (List ℕ) → ℕ → Type 0
IsCursor None n = n ≡ 0
IsCursor (Some bytes) n = (mark : Mark) × IsMarkValue mark × (bytes ≡ cursor_text mark.number mark.stamp) × (mark.number ≡ n)

-- what is found is the cursor document of no commit
abbrev pub IsNoCursor : Option (List ℕ) → Type 0
IsNoCursor None = ⊥
IsNoCursor (Some bytes) = (mark : Mark) → IsMarkValue mark → bytes ≡ cursor_text mark.number mark.stamp → ⊥

-- the cursor found tells a number beyond the catalog's last commit, for each catalog that may be meant
abbrev pub IsBeyond : (Catalog → Type 0) → Option (List ℕ) → Type 0
IsBeyond Q found = (n : ℕ) × IsCursor found n × ((cs : Catalog) → Q cs → length cs < n)

-- what is found as the cursor is no spelling, or beyond the last commit
abbrev pub IsDamagedCursor : (Catalog → Type 0) → Option (List ℕ) → Type 0
IsDamagedCursor Q found = IsNoCursor found ⊎ IsBeyond Q found

-- a cursor document's bytes tell this number, or none
abbrev pub IsReadAsCursor : List ℕ → Option ℕ → Type 0
IsReadAsCursor bytes None = IsNoCursor (Some bytes)
IsReadAsCursor bytes (Some n) = IsCursor (Some bytes) n
