use Rattle.std.proofs.Common.{◌≡◌, ◌++◌, map, take}
use Rattle.reg_docs.specs.Documents.{registration_leaf_doc}
use Rattle.reg_docs.proofs.docs.push_leaves.Given as goal

-- the leaves so far
abbrev pub invariant-loop-entry : goal.invariant-loop-entry
invariant-loop-entry l = l.docs ≡ l.fn.docs ++ map (registration_leaf_doc l.base l.root l.key) (take l.entry-index l.entries)
