use Rattle.std.proofs.Common.{◌≡◌, ◌++◌, drop, map}
use Rattle.serde_json.specs.View.{view}
use Rattle.catalog_doc.specs.Documents.{heads_data}
use Rattle.catalog_doc.proofs.index.head_values.Given as goal

abbrev pub invariant-loop-head : goal.invariant-loop-head
invariant-loop-head l = record {
  place : l.page ≡ l.head-index;
  so_far : map view l.values.items ++ heads_data l.base l.page (drop l.head-index l.heads) ≡ heads_data l.base 0 l.heads;
}
