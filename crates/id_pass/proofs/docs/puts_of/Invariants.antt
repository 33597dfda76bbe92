use Rattle.std.proofs.Common.{◌≡◌, ◌++◌, map}
use Rattle.std.specs.List.{filter}
use Rattle.id_pass.specs.Named.{bodies_of}
use Rattle.id_pass.specs.Passes.{doc_put, is_missing}
use Rattle.id_pass.proofs.Named.{as_named}
use Rattle.id_pass.proofs.docs.puts_of.Given as goal

abbrev pub invariant-loop-name : goal.invariant-loop-name
invariant-loop-name l = l.calls ++ map doc_put (filter (is_missing (bodies_of l.given)) (map as_named l.name-iterator))
    ≡ map doc_put (filter (is_missing (bodies_of l.given)) (map as_named l.fn.docs.entries))
