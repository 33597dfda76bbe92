use Rattle.std.proofs.Common.{◌≡◌, ◌++◌, drop, length}
use Rattle.id_pass.specs.Named.{bodies_of, by_name}
use Rattle.id_pass.proofs.by_name.by_name.Given as goal

abbrev pub invariant-loop-doc : goal.invariant-loop-doc
invariant-loop-doc l = (l.fn.docs ≡ l.docs.items ++ drop (length l.docs.items) l.fn.docs) × (bodies_of l.named ≡ by_name (drop (length l.docs.items) l.fn.docs))

abbrev pub decreases-loop-doc : goal.decreases-loop-doc
decreases-loop-doc l = length l.docs.items
