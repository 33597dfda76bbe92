use Rattle.std.proofs.Common.{◌≡◌, [], None}
use Rattle.pkg_meta.specs.Catalog.{Catalog}
use Rattle.catalog_doc.specs.CatDocs.{all_rows}
use Rattle.catalog_doc.specs.Verdict.{first_reason, twice}
use Rattle.catalog_rows.proofs.Counts.{StandsAt}
use Rattle.catalog_rows.proofs.rows.Rows.first_unfit.Given as goal

abbrev pub invariant-loop-at : goal.invariant-loop-at
invariant-loop-at l = (cs : Catalog) → all_rows cs ≡ l.self.rows → first_reason twice [] 0 l.changes ≡ None → StandsAt cs l.changes l.at
