use Rattle.std.proofs.Common.{◌≡◌, take}
use Rattle.pkg_meta.proofs.copies.copy_texts.Given as goal

-- the items so far are copied
abbrev pub invariant-loop-text : goal.invariant-loop-text
invariant-loop-text l = l.copies ≡ take l.text-index l.text-items
