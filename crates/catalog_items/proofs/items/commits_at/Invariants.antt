use Rattle.std.proofs.Common.{◌≡◌, [], List, Some, drop, take}
use Rattle.blob_store.specs.Area.{Area}
use Rattle.pkg_meta.specs.declared.item.Item.{Item}
use Rattle.catalog_items.specs.Framing.{OnlyGets}
use Rattle.catalog_items.specs.Leaves.{AreCommitsAt, AreItemValues, commits_with, HoldsLeaves}
use Rattle.catalog_items.proofs.LeafReads.{ComesTo}
use Rattle.catalog_items.proofs.items.commits_at.Given as goal

abbrev pub invariant-loop-row : goal.invariant-loop-row
invariant-loop-row g l = record {
  gets : OnlyGets (g.B.Blobs.seen l.fn.area) (g.B.Blobs.seen l.area) ⊥;
  ok : (m : Area) → (g.B.Blobs.seen l.fn.area).held ≡ Some m → AreCommitsAt m l.base (take l.row-index l.rows) l.commits.items;
  exact : (m : Area) (items : List Item) → (g.B.Blobs.seen l.fn.area).held ≡ Some m → AreItemValues items → HoldsLeaves m l.base l.rows items
      → ComesTo m l.base (drop l.row-index l.rows) l.commits.items (commits_with [] l.rows items);
}
