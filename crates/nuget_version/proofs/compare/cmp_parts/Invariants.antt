use Rattle.std.proofs.Common.{◌≡◌, length}
use Rattle.std.specs.Cmp.Lexicographic.{slice_cmp}
use Rattle.nuget_version.specs.Parts.{parts}
use Rattle.nuget_version.proofs.Compared.{cmp_lower}
use Rattle.nuget_version.proofs.compare.cmp_parts.Given as goal

-- what is left compares as the whole
abbrev pub invariant-loop-left_rest : goal.invariant-loop-left_rest
invariant-loop-left_rest l = slice_cmp cmp_lower (parts l.left) (parts l.right) ≡ slice_cmp cmp_lower (parts l.fn.a) (parts l.fn.b)

abbrev pub decreases-loop-left_rest : goal.decreases-loop-left_rest
decreases-loop-left_rest l = length l.left
