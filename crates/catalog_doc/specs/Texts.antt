-- What the texts of a page and of its rows say, and how a member is sent.
use Rattle.std.specs.Prelude.{ℕ, List, length, map, string_bytes}
use Rattle.serde.specs.Event.{Log, Logs, field_key, text}
use Rattle.serde.specs.declared.name.Case.TheVariants.{AsIs}
use Rattle.serde_json.specs.Data.{Data}
use Rattle.catalog_doc.specs.Documents.{page_object, row_object}
use Rattle.catalog_doc.specs.declared.page.PageTexts.{PageTexts}
use Rattle.catalog_doc.specs.declared.page.RowTexts.{RowTexts}

-- a key is sent, and then a text
abbrev pub SendsText : List ℕ → List ℕ → Log → Log → Type 0
SendsText key value old new = (named : Log) × Logs old named (field_key key AsIs) × Logs named new (text value)

-- a row with these texts
abbrev pub told_row : RowTexts → Data
told_row row = row_object (string_bytes row.url) row.kind.now (string_bytes row.commit) (string_bytes row.stamp) row.id.now (string_bytes row.version)

-- a page with these texts
abbrev pub told_page : PageTexts → Data
told_page page = page_object (string_bytes page.url) (string_bytes page.commit) (string_bytes page.stamp) (length page.rows.items)
    (map told_row page.rows.items) (string_bytes page.parent)
