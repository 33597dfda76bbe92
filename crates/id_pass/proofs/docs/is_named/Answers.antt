use Rattle.std.proofs.Common.{sym, ap, ◌∙◌}
use Rattle.std.specs.Option.{is_some}
use Rattle.id_pass.proofs.Named.{get-bodies_of}
use Rattle.id_pass.proofs.docs.is_named.Goals as goal

pub returns : goal.returns
returns c = c.contains_key.ensures ∙ ap is_some (sym (get-bodies_of c.args.docs.now c.args.name.now))
