use Rattle.std.proofs.Common.{◌∙◌, ◌+◌, ap, sym, ℕ, max, arith}
use Rattle.std.proofs.lemmas.Option.{IfSome_then}
use Rattle.catalog_doc.specs.Documents.{last_stamp}
use Rattle.catalog_rows.proofs.Newest.{is_ended, none_told, tells_last}
use Rattle.catalog_rows.proofs.rows.Rows.next_stamp.Goals as goal

pub returns-clause-stamp : goal.returns-clause-stamp
returns-clause-stamp c = IfSome_then c.after.result c.after.ensures.value (λ t made cs is are.
    let told = tells_last c.args.self.now.rows cs is are in
    made ∙ ap (λ (n : ℕ). max c.args.now (n + 1)) (c.last_of-last.ensures.stamp ∙ ap last_stamp c.as_slice.ensures ∙ told.stamp))

pub returns-clause-none : goal.returns-clause-none
returns-clause-none c = none_told c.after.result _ (λ none cs is are.
    let told = tells_last c.args.self.now.rows cs is are in
    let stamp = c.last_of-last.ensures.stamp ∙ ap last_stamp c.as_slice.ensures ∙ told.stamp in
    sym (is_ended _ (omega (arith, stamp, c.after.ensures.none.0 none))))
