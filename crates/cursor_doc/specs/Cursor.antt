-- The cursor document: which commit a hive has taken up last.
use Rattle.std.specs.Prelude.{ℕ, List, codes}
use Rattle.serde_json.specs.Data.{Data, string, object, member, no_members}
use Rattle.serde_json.specs.Written.{compact_text}
use Rattle.ticks.specs.Stamp.{stamp_text}
use Rattle.catalog_doc.specs.Documents.{commit_id}

-- the name of the document in a hive's area
abbrev pub cursor_name : List ℕ
cursor_name = codes "cursor.json"

-- the commit's id and stamp
abbrev pub cursor_object : List ℕ → List ℕ → Data
cursor_object commit stamp = object
    (member (codes "commitId") (string commit)
    (member (codes "commitTimeStamp") (string stamp)
    no_members))

-- of the commit with this number and this stamp
abbrev pub cursor_data : ℕ → ℕ → Data
cursor_data number stamp = cursor_object (commit_id number) (stamp_text stamp)

-- the document's bytes
unfoldable pub cursor_text : ℕ → ℕ → List ℕ
cursor_text number stamp = compact_text (cursor_data number stamp)
