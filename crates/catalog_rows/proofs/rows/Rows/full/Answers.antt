use Rattle.std.proofs.Common.{◌∙◌, arith}
use Rattle.catalog_rows.proofs.Newest.{is_full, not_full}
use Rattle.catalog_rows.proofs.rows.Rows.full.Goals as goal

pub returns-then-items-more-clause-exact : goal.returns-then-items-more-clause-exact
returns-then-items-more-clause-exact c = λ cs is are changes more.
    not_full c.args.self.now.rows cs changes are (omega (arith, c.if-items-more.true, c.len-items.ensures, c.requires.few, more))

pub returns-clause-exact : goal.returns-clause-exact
returns-clause-exact c = λ cs is are changes more.
    is_full c.args.self.now.rows cs changes c.at_most_u32.result is are (omega (arith, c.if-items-more.false, c.len-items.ensures, c.requires.few, more))
    (λ fits. c.at_most_u32.ensures (omega (arith, fits, c.len-items.ensures)) ∙ c.len-items.ensures)
