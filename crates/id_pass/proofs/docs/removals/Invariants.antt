use Rattle.std.proofs.Common.{◌≡◌, ◌++◌, drop, map}
use Rattle.std.specs.List.{filter}
use Rattle.id_pass.specs.Named.{bodies_of}
use Rattle.id_pass.specs.Passes.{is_left_over, removals}
use Rattle.id_pass.specs.declared.call.Call.TheVariants.{Remove}
use Rattle.id_pass.proofs.docs.removals.Given as goal

abbrev pub invariant-loop-name : goal.invariant-loop-name
invariant-loop-name l = l.calls ++ map Remove (filter (is_left_over l.index (bodies_of l.docs)) (drop l.name-index l.names)) ≡ removals l.index (bodies_of l.docs) l.names
