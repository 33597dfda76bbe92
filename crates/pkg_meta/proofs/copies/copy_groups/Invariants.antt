use Rattle.std.proofs.Common.{◌≡◌, take}
use Rattle.pkg_meta.proofs.copies.copy_groups.Given as goal

-- the items so far are copied
abbrev pub invariant-loop-group : goal.invariant-loop-group
invariant-loop-group l = l.copies ≡ take l.group-index l.group-items
