use Rattle.std.proofs.Common.{◌≡◌, ◌++◌, List, drop, map}
use Rattle.serde_json.specs.View.{view}
use Rattle.pkg_meta.specs.Trees.{dep_tree}
use Rattle.pkg_meta.specs.declared.dependency.Dep.{Dep}
use Rattle.catalog_reading.proofs.dependencies.deps_of.Given as goal

abbrev pub invariant-loop-value : goal.invariant-loop-value
invariant-loop-value l = (wanted : List Dep) → map view l.values ≡ map dep_tree wanted → l.deps ++ drop l.value-index wanted ≡ wanted
