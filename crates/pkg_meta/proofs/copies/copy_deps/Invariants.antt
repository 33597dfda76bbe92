use Rattle.std.proofs.Common.{◌≡◌, take}
use Rattle.pkg_meta.proofs.copies.copy_deps.Given as goal

-- the items so far are copied
abbrev pub invariant-loop-dep : goal.invariant-loop-dep
invariant-loop-dep l = l.copies ≡ take l.dep-index l.dep-items
