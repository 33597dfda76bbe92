use Rattle.std.proofs.Common.{option_map}
use Rattle.catalog_opening.proofs.CatalogOpen.{its_pages, opened, runs_planned}
use Rattle.catalog_opening.proofs.opening.read_catalog.Goals as goal

pub returns-clause-answers : goal.returns-clause-answers
returns-clause-answers g c = λ base cs whole store.
    (opened store.0 base cs whole store.2 (option_map (λ t. t.now) c.args.given) (g.B.Blobs.seen c.args.area.now) (g.B.Blobs.seen c.open.new.area) c.open.result store.1
    (λ heads acts openable. c.open.ensures.opens store.0 base heads (its_pages store.0 base cs whole store.2) acts store.1 openable)).answers

pub returns-clause-opened : goal.returns-clause-opened
returns-clause-opened g c = λ base cs whole store.
    (opened store.0 base cs whole store.2 (option_map (λ t. t.now) c.args.given) (g.B.Blobs.seen c.args.area.now) (g.B.Blobs.seen c.open.new.area) c.open.result store.1
    (λ heads acts openable. c.open.ensures.opens store.0 base heads (its_pages store.0 base cs whole store.2) acts store.1 openable)).settled

pub returns-clause-spelled : goal.returns-clause-spelled
returns-clause-spelled g c = λ base cs whole store.
    (opened store.0 base cs whole store.2 (option_map (λ t. t.now) c.args.given) (g.B.Blobs.seen c.args.area.now) (g.B.Blobs.seen c.open.new.area) c.open.result store.1
    (λ heads acts openable. c.open.ensures.opens store.0 base heads (its_pages store.0 base cs whole store.2) acts store.1 openable)).spelled

pub returns-clause-moments : goal.returns-clause-moments
returns-clause-moments g c = λ base cs whole store.
    (opened store.0 base cs whole store.2 (option_map (λ t. t.now) c.args.given) (g.B.Blobs.seen c.args.area.now) (g.B.Blobs.seen c.open.new.area) c.open.result store.1
    (λ heads acts openable. c.open.ensures.opens store.0 base heads (its_pages store.0 base cs whole store.2) acts store.1 openable)).moments

pub returns-clause-runs : goal.returns-clause-runs
returns-clause-runs g c = λ m base cs plan whole is spells planned.
    runs_planned m base cs whole spells (option_map (λ t. t.now) c.args.given) (g.B.Blobs.seen c.args.area.now) (g.B.Blobs.seen c.open.new.area) c.open.result plan planned
    (λ heads acts openable. c.open.ensures.opens m base heads (its_pages m base cs whole spells) acts is openable)
