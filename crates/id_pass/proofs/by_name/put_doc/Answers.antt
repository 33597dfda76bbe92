use Rattle.std.proofs.Common.{List, ℕ, ap, ◌∙◌}
use Rattle.std.specs.FinMap.{insert}
use Rattle.std.specs.String.{string_bytes}
use Rattle.id_pass.specs.Named.{bodies_of}
use Rattle.id_pass.proofs.Named.{bodies_of-with}
use Rattle.id_pass.proofs.by_name.put_doc.Goals as goal

pub returns : goal.returns
returns c =
    bodies_of-with (string_bytes c.into_string.result) c.args.named.now c.insert.new.self c.args.doc.body c.in_ok-insert.ensures.updates
    ∙ ap (λ (name : List ℕ). insert (bodies_of c.args.named.now) name c.args.doc.body) c.into_string.ensures
