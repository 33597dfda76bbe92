use Rattle.std.proofs.Common.{◌≡◌, ◌++◌, List, drop, map}
use Rattle.serde_json.specs.View.{view}
use Rattle.pkg_meta.specs.Trees.{group_tree}
use Rattle.pkg_meta.specs.declared.dependency.DepGroup.{DepGroup}
use Rattle.catalog_reading.proofs.dependencies.groups_of.Given as goal

abbrev pub invariant-loop-value : goal.invariant-loop-value
invariant-loop-value l = (wanted : List DepGroup) → map view l.values ≡ map group_tree wanted → l.groups ++ drop l.value-index wanted ≡ wanted
