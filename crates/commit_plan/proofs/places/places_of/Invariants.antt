use Rattle.std.proofs.Common.{◌≡◌, ◌++◌, drop, map}
use Rattle.catalog_doc.specs.CatDocs.{rows_from}
use Rattle.catalog_doc.specs.Commits.{place_puts, staged_of}
use Rattle.commit_plan.specs.Plans.{made_with}
use Rattle.commit_plan.proofs.places.places_of.Given as goal

abbrev pub invariant-loop-place : goal.invariant-loop-place
invariant-loop-place l = record {
  rows : l.rows ++ rows_from l.number l.stamp l.place (made_with l.number l.stamp l.place (drop l.place l.lasts) (drop l.place l.changes))
      ≡ rows_from l.number l.stamp 0 (made_with l.number l.stamp 0 l.lasts l.changes);
  calls : l.calls ++ place_puts l.base l.number l.stamp l.place (made_with l.number l.stamp l.place (drop l.place l.lasts) (drop l.place l.changes)) (map staged_of (drop l.place l.changes))
      ≡ place_puts l.base l.number l.stamp 0 (made_with l.number l.stamp 0 l.lasts l.changes) (map staged_of l.changes);
}
