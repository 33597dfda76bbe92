use Rattle.std.proofs.Common.{inl}
use Rattle.catalog_opening.specs.Pages.{IsDamagedIn}
use Rattle.catalog_opening.specs.Settlings.{IsDamagedOrTooMany}
use Rattle.catalog_opening.proofs.CatalogSettle.{settles, too_many, wider_damage}
use Rattle.catalog_opening.proofs.settling.settle.Goals as goal

pub returns-then-pages-gt-PAGES_AT_MOST-clause-answers : goal.returns-then-pages-gt-PAGES_AT_MOST-clause-answers
returns-then-pages-gt-PAGES_AT_MOST-clause-answers g c = λ cs more known store. absurd (too_many cs more c.args.pages.now known c.if-pages-gt-PAGES_AT_MOST.true)

pub returns-then-pages-gt-PAGES_AT_MOST-clause-moments : goal.returns-then-pages-gt-PAGES_AT_MOST-clause-moments
returns-then-pages-gt-PAGES_AT_MOST-clause-moments g c = λ cs more known store. absurd (too_many cs more c.args.pages.now known c.if-pages-gt-PAGES_AT_MOST.true)

pub returns-then-pages-gt-PAGES_AT_MOST-clause-runs : goal.returns-then-pages-gt-PAGES_AT_MOST-clause-runs
returns-then-pages-gt-PAGES_AT_MOST-clause-runs g c = λ cs more known store. absurd (too_many cs more c.args.pages.now known c.if-pages-gt-PAGES_AT_MOST.true)

pub returns-clause-answers : goal.returns-clause-answers
returns-clause-answers g c = λ cs more known store.
    (settles cs more c.args.base.now c.args.pages.now known (g.B.Blobs.seen c.args.area.now) (g.B.Blobs.seen c.settle_pages.new.area) c.settle_pages.result store c.settle_pages.ensures.more c.settle_pages.ensures.runs c.settle_pages.ensures.damaged).answers

pub returns-clause-settled : goal.returns-clause-settled
returns-clause-settled g c = λ cs more known store.
    (settles cs more c.args.base.now c.args.pages.now known (g.B.Blobs.seen c.args.area.now) (g.B.Blobs.seen c.settle_pages.new.area) c.settle_pages.result store c.settle_pages.ensures.more c.settle_pages.ensures.runs c.settle_pages.ensures.damaged).settled

pub returns-clause-spelled : goal.returns-clause-spelled
returns-clause-spelled g c = λ cs more known store.
    (settles cs more c.args.base.now c.args.pages.now known (g.B.Blobs.seen c.args.area.now) (g.B.Blobs.seen c.settle_pages.new.area) c.settle_pages.result store c.settle_pages.ensures.more c.settle_pages.ensures.runs c.settle_pages.ensures.damaged).spelled

pub returns-clause-moments : goal.returns-clause-moments
returns-clause-moments g c = λ cs more known store.
    (settles cs more c.args.base.now c.args.pages.now known (g.B.Blobs.seen c.args.area.now) (g.B.Blobs.seen c.settle_pages.new.area) c.settle_pages.result store c.settle_pages.ensures.more c.settle_pages.ensures.runs c.settle_pages.ensures.damaged).moments

pub returns-clause-runs : goal.returns-clause-runs
returns-clause-runs g c = λ cs more known store.
    (settles cs more c.args.base.now c.args.pages.now known (g.B.Blobs.seen c.args.area.now) (g.B.Blobs.seen c.settle_pages.new.area) c.settle_pages.result store c.settle_pages.ensures.more c.settle_pages.ensures.runs c.settle_pages.ensures.damaged).runs

pub returns-clause-damaged : goal.returns-clause-damaged
returns-clause-damaged g c = λ m is.
    wider_damage (IsDamagedIn m c.args.base.now c.args.pages.now) (IsDamagedOrTooMany m c.args.base.now c.args.pages.now) c.settle_pages.result (λ name told. inl told) (c.settle_pages.ensures.damaged m is)
