use Rattle.std.proofs.Common.{◌∙◌, Err, IfSome, Option, ap, arith, length, subst}
use Rattle.std.proofs.lemmas.Result.{err_from_is_err_and}
use Rattle.blob_store.proofs.OneCall.{none}
use Rattle.catalog_doc.specs.declared.error.CommitErr.{CommitErr}
use Rattle.catalog_doc.specs.declared.error.CommitErr.TheVariants as commit
use Rattle.catalog_laws.proofs.RowValues.{lengths}
use Rattle.catalog_rows.specs.Reasons.{IsOfRows}
use Rattle.commit_plan.proofs.Looking.{looking_told, unlooked, unlooked_out}
use Rattle.commit_plan.proofs.committing.plan_changes.Goals as goal

pub returns-in_err-error-clause-runs : goal.returns-in_err-error-clause-runs
returns-in_err-error-clause-runs g c =
    let p = err_from_is_err_and c.from_residual.result c.from_residual.ensures.1 in
    looking_told c.args.rows.now.rows c.args.changes.now _ _ c.from_residual.result commit.Memory (p.1 ∙ ap Err p.2)
    (unlooked_out c.args.rows.now.rows c.args.changes.now (g.B.Blobs.seen c.args.area.now) (g.met.B.Blobs.now c.args.area.now))

pub returns-in-Some-clause-runs : goal.returns-in-Some-clause-runs
returns-in-Some-clause-runs g c =
    unlooked c.args.rows.now.rows c.args.changes.now (g.B.Blobs.seen c.args.area.now) c.in-Some.error (g.met.B.Blobs.now c.args.area.now)
    (subst (λ (found : Option CommitErr). IfSome found IsOfRows) c.in-Some.is c.in_ok-error.ensures.kind)

pub returns-in_default-next_stamp-clause-runs : goal.returns-in_default-next_stamp-clause-runs
returns-in_default-next_stamp-clause-runs g c = none (g.B.Blobs.seen c.args.area.now) (g.met.B.Blobs.now c.args.area.now)

pub returns-then-pages-gt-PAGES_AT_MOST-clause-runs : goal.returns-then-pages-gt-PAGES_AT_MOST-clause-runs
returns-then-pages-gt-PAGES_AT_MOST-clause-runs g c = none (g.B.Blobs.seen c.args.area.now) (g.met.B.Blobs.now c.args.area.now)

pub returns-then-pages-gt-PAGES_AT_MOST-clause-refused : goal.returns-then-pages-gt-PAGES_AT_MOST-clause-refused
returns-then-pages-gt-PAGES_AT_MOST-clause-refused g c = λ cs known.
    absurd (omega (arith, c.if-pages-gt-PAGES_AT_MOST.true, (lengths cs known.lawful.lawful).pages, ap length known.keeps.pages, ap length c.pages.ensures))
