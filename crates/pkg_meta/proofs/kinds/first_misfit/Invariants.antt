use Rattle.std.proofs.Common.{◌≡◌, drop, map}
use Rattle.serde_json.specs.View.{view}
use Rattle.pkg_meta.specs.Kinds.{first_misfit}
use Rattle.pkg_meta.specs.Rows.{row_of}
use Rattle.pkg_meta.proofs.kinds.first_misfit.Given as goal

-- the rows so far fit
abbrev pub invariant-loop-row : goal.invariant-loop-row
invariant-loop-row l = first_misfit (map row_of (drop l.row-index l.rows)) (view l.value) ≡ first_misfit (map row_of l.rows) (view l.value)
