use Rattle.std.proofs.Common.{◌≡◌, List, Some, length, take}
use Rattle.blob_store.specs.Area.{Area}
use Rattle.blob_store.specs.Plans.{Makes}
use Rattle.catalog_doc.specs.declared.row.Row.{Row}
use Rattle.catalog_opening.specs.Pages.{HoldsPages, rows_on}
use Rattle.catalog_opening.specs.Plans.{page_gets}
use Rattle.catalog_opening.proofs.reading.read_front.Given as goal

-- the pages so far were got, and their rows are kept
abbrev pub invariant-loop-head : goal.invariant-loop-head
invariant-loop-head g l = record {
  counted : l.page ≡ l.head-index;
  made : Makes (page_gets 0 l.head-index) (g.B.Blobs.seen l.fn.area) (g.B.Blobs.seen l.area);
  rows : (m : Area) (pages : List (List Row)) → (g.B.Blobs.seen l.fn.area).held ≡ Some m → HoldsPages m l.base 0 pages → length pages ≡ length l.heads → l.rows.items ≡ rows_on (take l.head-index pages);
}
