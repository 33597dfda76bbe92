use Rattle.std.proofs.Common.{◌≡◌, ◌++◌, List, drop, map}
use Rattle.json.specs.Value.{items_view}
use Rattle.serde_json.specs.View.{items_of}
use Rattle.serde_json.specs.Written.{items_outline}
use Rattle.catalog_doc.specs.Documents.{row_data}
use Rattle.catalog_doc.specs.Reading.{AreRowValues}
use Rattle.catalog_doc.specs.declared.row.Row.{Row}
use Rattle.catalog_reading.proofs.reading.rows_of.Given as goal

abbrev pub invariant-loop-value : goal.invariant-loop-value
invariant-loop-value l = (wanted : List Row) → AreRowValues wanted → items_view l.values ≡ items_outline (items_of (map (row_data l.base) wanted)) → l.rows ++ drop l.value-index wanted ≡ wanted
