use Rattle.std.proofs.Common.{All, IfSome, take}
use Rattle.std.specs.Prelude.{IsUtf8}
use Rattle.pkg_meta.specs.declared.dependency.DepGroup.{DepGroup}
use Rattle.catalog_core.proofs.values.see_frameworks.Given as goal

abbrev pub invariant-loop-group : goal.invariant-loop-group
invariant-loop-group l = All (λ (g : DepGroup). IfSome g.framework IsUtf8) (take l.group-index l.groups)
