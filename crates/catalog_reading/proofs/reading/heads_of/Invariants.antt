use Rattle.std.proofs.Common.{◌≡◌, ◌++◌, ℕ, List, drop}
use Rattle.json.specs.Value.{items_view}
use Rattle.serde_json.specs.View.{items_of}
use Rattle.serde_json.specs.Written.{items_outline}
use Rattle.catalog_doc.specs.Documents.{heads_data}
use Rattle.catalog_doc.specs.Reading.{AreHeadValues}
use Rattle.catalog_doc.specs.declared.head.PageHead.{PageHead}
use Rattle.catalog_reading.proofs.reading.heads_of.Given as goal

abbrev pub invariant-loop-value : goal.invariant-loop-value
invariant-loop-value l = (base : List ℕ) (wanted : List PageHead) → AreHeadValues wanted → items_view l.values ≡ items_outline (items_of (heads_data base 0 wanted)) → l.heads ++ drop l.value-index wanted ≡ wanted
