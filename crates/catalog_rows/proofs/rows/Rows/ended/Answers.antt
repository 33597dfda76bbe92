use Rattle.std.proofs.Common.{◌∙◌, ap, arith}
use Rattle.catalog_doc.specs.Documents.{last_stamp}
use Rattle.catalog_rows.proofs.Newest.{an_end, is_ended, no_end, not_ended, tells_last}
use Rattle.catalog_rows.proofs.rows.Rows.ended.Goals as goal

pub returns-in-Some-clause-exact : goal.returns-in-Some-clause-exact
returns-in-Some-clause-exact c = λ cs is are.
    let told = tells_last c.args.self.now.rows cs is are in
    let last = c.last_of-last.result.1 in
    let stamp = c.last_of-last.ensures.stamp ∙ ap last_stamp c.as_slice.ensures ∙ told.stamp in
    not_ended _ (omega (arith, stamp, told.moment, no_end c.after.result last c.in-Some.field-0 c.in-Some.is c.after.ensures.none.1))

pub returns-in-None-clause-exact : goal.returns-in-None-clause-exact
returns-in-None-clause-exact c = λ cs is are.
    let told = tells_last c.args.self.now.rows cs is are in
    let stamp = c.last_of-last.ensures.stamp ∙ ap last_stamp c.as_slice.ensures ∙ told.stamp in
    is_ended _ (omega (arith, stamp, c.after.ensures.none.0 (an_end c.after.result c.in-None.is)))
