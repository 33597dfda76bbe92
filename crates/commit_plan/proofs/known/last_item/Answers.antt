use Rattle.std.proofs.Common.{◌∙◌, Err, ap, subst, sym}
use Rattle.std.proofs.lemmas.Result.{err_from_is_err_and}
use Rattle.blob_store.specs.Plans.{Makes}
use Rattle.blob_store.proofs.OneCall.{none}
use Rattle.catalog_doc.specs.declared.change.Change.{Change}
use Rattle.catalog_opening.specs.declared.error.ReadErr.TheVariants.{Memory}
use Rattle.catalog_opening.proofs.Halting.{halts_unstarted, reading_told}
use Rattle.commit_plan.specs.Lookups.{gets_for}
use Rattle.commit_plan.proofs.Lasts.{delete_known, relist_known, unlist_known}
use Rattle.commit_plan.proofs.known.last_item.Goals as goal

pub returns-in_err-last-in-Delete-clause-runs : goal.returns-in_err-last-in-Delete-clause-runs
returns-in_err-last-in-Delete-clause-runs g c =
    let p = err_from_is_err_and c.from_residual.result c.from_residual.ensures.1 in
    reading_told _ (g.B.Blobs.seen c.args.area.now) (g.B.Blobs.seen c.args.area.now) c.from_residual.result Memory (p.1 ∙ ap Err p.2)
    (halts_unstarted _ (g.B.Blobs.seen c.args.area.now) (g.met.B.Blobs.now c.args.area.now))

pub returns-in-Publish-clause-runs : goal.returns-in-Publish-clause-runs
returns-in-Publish-clause-runs g c =
    subst (λ (change : Change). Makes (gets_for c.args.rows.now.rows change) (g.B.Blobs.seen c.args.area.now) (g.B.Blobs.seen c.args.area.now)) (sym c.in-Publish.is)
    (none (g.B.Blobs.seen c.args.area.now) (g.met.B.Blobs.now c.args.area.now))

pub returns-in_ok-last-in-Delete-clause-runs : goal.returns-in_ok-last-in-Delete-clause-runs
returns-in_ok-last-in-Delete-clause-runs g c =
    subst (λ (change : Change). Makes (gets_for c.args.rows.now.rows change) (g.B.Blobs.seen c.args.area.now) (g.B.Blobs.seen c.args.area.now)) (sym c.in-Delete.is)
    (none (g.B.Blobs.seen c.args.area.now) (g.met.B.Blobs.now c.args.area.now))

pub returns-in-Unlist-clause-known : goal.returns-in-Unlist-clause-known
returns-in-Unlist-clause-known g c = λ cs known live.
    unlist_known cs c.in-Unlist.id c.in-Unlist.version c.args.change.now c.in-Unlist.is c.listing_at.result live (λ last is. c.listing_at.ensures.known cs last known is)

pub returns-in-Relist-clause-known : goal.returns-in-Relist-clause-known
returns-in-Relist-clause-known g c = λ cs known live.
    relist_known cs c.in-Relist.id c.in-Relist.version c.args.change.now c.in-Relist.is c.listing_at-in-Relist.result live (λ last is. c.listing_at-in-Relist.ensures.known cs last known is)

pub returns-in_ok-last-in-Delete-clause-known : goal.returns-in_ok-last-in-Delete-clause-known
returns-in_ok-last-in-Delete-clause-known g c = λ cs known live.
    delete_known cs c.in-Delete.id c.in-Delete.version c.args.change.now c.in-Delete.is c.in_ok-last-in-Delete.last live (λ last is. c.in_ok-last-in-Delete.ensures cs last known.keeps is)
