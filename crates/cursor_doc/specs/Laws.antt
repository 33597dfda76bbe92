-- What holds of all cursor documents.
use Rattle.std.specs.Prelude.{◌≡◌, ℕ, List, codes}
use Rattle.cursor_doc.specs.Cursor.{cursor_text}
use Rattle.cursor_doc.specs.Reading.{IsMarkValue}
use Rattle.cursor_doc.specs.declared.mark.Mark.{Mark}

-- the cursor of the commit 1 of 2024-01-01T00:00:00
abbrev pub first_cursor : List ℕ
first_cursor = codes "{\"commitId\":\"00000000-0000-0000-0000-000000000001\",\"commitTimeStamp\":\"2024-01-01T00:00:00.0000000Z\"}"

-- a cursor's text tells its mark
abbrev pub CursorsDiffer : Type 0
CursorsDiffer = (mark other : Mark) → IsMarkValue mark → IsMarkValue other
    → cursor_text mark.number mark.stamp ≡ cursor_text other.number other.stamp → mark ≡ other
