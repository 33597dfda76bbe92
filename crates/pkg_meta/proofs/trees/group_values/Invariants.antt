use Rattle.std.proofs.Common.{◌≡◌, map, take}
use Rattle.serde_json.specs.View.{view}
use Rattle.pkg_meta.specs.Trees.{group_tree}
use Rattle.pkg_meta.proofs.trees.group_values.Given as goal

-- the values so far
abbrev pub invariant-loop-group : goal.invariant-loop-group
invariant-loop-group l = map view l.values.items ≡ map group_tree (take l.group-index l.groups)
