use Rattle.std.proofs.Common.{◌∙◌, ap, length, sym}
use Rattle.catalog_core.proofs.Settling.{nothing_more}
use Rattle.catalog_core.proofs.catalog.take_in.Goals as goal

pub returns-then-len-eq0-clause-took : goal.returns-then-len-eq0-clause-took
returns-then-len-eq0-clause-took c = λ cs last lawful keeps is.
    nothing_more c.args.rows.now cs last lawful keeps (ap length (sym is) ∙ sym c.len.ensures ∙ c.if-len-eq0.true)
