use Rattle.std.proofs.Common.{◌≡◌, map, take}
use Rattle.serde_json.specs.View.{view}
use Rattle.pkg_meta.specs.Trees.{dep_tree}
use Rattle.pkg_meta.proofs.trees.dep_values.Given as goal

-- the values so far
abbrev pub invariant-loop-dep : goal.invariant-loop-dep
invariant-loop-dep l = map view l.values.items ≡ map dep_tree (take l.dep-index l.deps)
