use Rattle.std.proofs.Common.{◌∙◌, sym}
use Rattle.auto_docs.proofs.Turns.{last_is}
use Rattle.auto_docs.proofs.index.last_id.Goals as goal

pub returns-in-Some : goal.returns-in-Some
returns-in-Some c = c.as_str.ensures ∙ sym (last_is c.args.entries.now c.in-Some.entry.now (sym c.in-Some.ensures.value))
