use Rattle.std.proofs.Common.{◌≡◌, ◌∙◌, ap, sym, subst}
use Rattle.catalog_opening.specs.Openings.{IsSettledStoreOf}
use Rattle.catalog_rows.specs.Kept.{IsKeptOf, Kept}
use Rattle.catalog_core.specs.Opened.{Opened}
use Rattle.catalog_core.specs.declared.opening.Opening.{Opening}
use Rattle.catalog_core.proofs.Answered.{mends_opened, open_as}
use Rattle.catalog_core.proofs.opening.open_catalog.Goals as goal

pub returns-in-Ok-clause-opened : goal.returns-in-Ok-clause-opened
returns-in-Ok-clause-opened g c = λ b cs lawful store.
    let told = c.in-Ok.ensures.opens b cs lawful store in
    let o = c.of.result in
    let base : o.base ≡ b = ap (λ (x : Opened _). x.base) c.of.ensures ∙ sym (ap (λ (x : Opening). x.base) c.in-Ok.field-0-is) ∙ told.opened.base_is in
    let kept : o.kept ≡ c.in-Ok.field-0.rows = ap (λ (x : Opened _). x.kept) c.of.ensures ∙ sym (ap (λ (x : Opening). x.rows) c.in-Ok.field-0-is) in
    let settled = ap (λ (x : Opened _). x.settled) c.of.ensures in
    let keeps = subst (λ (k : Kept). IsKeptOf k cs) (sym kept) told.opened.keeps in
    let stands = subst (λ (x : _). IsSettledStoreOf (g.B.Blobs.seen x) b cs) (sym (ap (λ (x : Opened _). x.area) c.of.ensures)) told.settled in
    (told.opened.allowed, base, settled, open_as o (g.B.Blobs.seen o.area) b cs lawful keeps base settled stands)

pub returns-in-Ok-clause-moments : goal.returns-in-Ok-clause-moments
returns-in-Ok-clause-moments g c = λ b cs lawful store. rw c.of.ensures (c.in-Ok.ensures.opens b cs lawful store).moments

pub returns-in-Ok-clause-runs : goal.returns-in-Ok-clause-runs
returns-in-Ok-clause-runs g c = λ m b cs plan lawful is spells planned. rw c.of.ensures (c.in-Ok.ensures.runs m b cs plan lawful is spells planned)

pub returns-in-Ok-clause-mends : goal.returns-in-Ok-clause-mends
returns-in-Ok-clause-mends g c = rw c.of.ensures (mends_opened (g.B.Blobs.seen c.args.area) (g.B.Blobs.seen c.open.new.area) _ c.in-Ok.ensures.mends)

pub returns-in-Err-clause-refused : goal.returns-in-Err-clause-refused
returns-in-Err-clause-refused g c = λ b cs lawful store.
    let told = c.in-Err.ensures.opens b cs lawful store in (told.refused, told.store)

pub returns-in-Err-clause-moments_refused : goal.returns-in-Err-clause-moments_refused
returns-in-Err-clause-moments_refused g c = λ b cs lawful store. (c.in-Err.ensures.opens b cs lawful store).moments
