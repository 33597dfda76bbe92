use Rattle.std.proofs.Common.{◌≡◌, [], None, length, take}
use Rattle.blob_store.specs.Plans.{Makes}
use Rattle.pkg_meta.specs.Catalog.{Catalog}
use Rattle.catalog_doc.specs.Verdict.{already, first_reason, unfit}
use Rattle.catalog_rows.proofs.Places.{Seeks}
use Rattle.commit_plan.specs.Lookups.{IsKnown, listing_gets}
use Rattle.commit_plan.specs.Plans.{AreKnownFor}
use Rattle.commit_plan.proofs.known.last_items.Given as goal

abbrev pub invariant-loop-place : goal.invariant-loop-place
invariant-loop-place g l = record {
  made : Makes (listing_gets l.rows.rows (take l.place l.changes)) (g.B.Blobs.seen l.fn.area) (g.B.Blobs.seen l.area);
  count : length l.lasts ≡ l.place;
  known : (cs : Catalog) → IsKnown l.rows (g.B.Blobs.seen l.fn.area) l.base cs → first_reason (unfit cs) [] 0 l.changes ≡ None → AreKnownFor cs (take l.place l.changes) l.lasts;
  fits : (cs : Catalog) → first_reason (unfit cs) [] 0 l.changes ≡ None → Seeks (unfit cs) l.changes l.place None;
  seeks : (cs : Catalog) → IsKnown l.rows (g.B.Blobs.seen l.fn.area) l.base cs → first_reason (unfit cs) [] 0 l.changes ≡ None → Seeks (already cs) l.changes l.place (first_reason (already cs) [] 0 l.changes);
}
