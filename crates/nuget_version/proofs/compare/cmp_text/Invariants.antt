use Rattle.std.proofs.Common.{◌≡◌}
use Rattle.nuget_version.proofs.Compared.{texts_from}
use Rattle.nuget_version.proofs.compare.cmp_text.Given as goal

abbrev pub invariant-loop-i : goal.invariant-loop-i
invariant-loop-i l = texts_from l.i l.x l.y ≡ texts_from 0 l.x l.y
