use Rattle.std.proofs.Common.{◌∙◌, Err, Result, ap, inr, option_map, subst, sym}
use Rattle.std.proofs.lemmas.Result.{err_from_is_err_and}
use Rattle.blob_store.proofs.InMemory.{some_all}
use Rattle.catalog_doc.specs.CatDocs.{all_rows, heads_of}
use Rattle.catalog_opening.specs.Openings.{RunsOpening}
use Rattle.catalog_opening.specs.declared.error.OpenErr.{OpenErr}
use Rattle.catalog_core.specs.declared.opening.Opening.{Opening}
use Rattle.catalog_core.proofs.Answered.{opens_forgetful, opens_known, opens_refused}
use Rattle.catalog_core.proofs.opening.open.Goals as goal

pub returns-in_err-base-clause-opens : goal.returns-in_err-base-clause-opens
returns-in_err-base-clause-opens g c = λ base cs lawful store.
    let p = err_from_is_err_and c.from_residual.result c.from_residual.ensures.1 in
    opens_refused (option_map (λ t. t.now) c.args.given) base cs (g.B.Blobs.seen c.args.area.now) (g.B.Blobs.seen c.read_catalog.new.area)
    (c.in_err-base.ensures.spelled base cs lawful store) (c.in_err-base.ensures.moments base cs lawful store) (all_rows cs) (heads_of cs) c.from_residual.result c.in_err-base.field-0.0 (p.1 ∙ ap Err p.2)
    (c.in_err-base.ensures.answers base cs lawful store)

pub returns-in_err-base-clause-runs : goal.returns-in_err-base-clause-runs
returns-in_err-base-clause-runs g c = λ m base cs plan lawful is spells planned.
    let p = err_from_is_err_and c.from_residual.result c.from_residual.ensures.1 in
    subst (λ (r : Result Opening OpenErr). RunsOpening plan (g.B.Blobs.seen c.args.area.now) (g.B.Blobs.seen c.read_catalog.new.area) r) (sym (p.1 ∙ ap Err p.2))
    (c.in_err-base.ensures.runs m base cs plan lawful is spells planned)

pub returns-in-Ok-clause-opens : goal.returns-in-Ok-clause-opens
returns-in-Ok-clause-opens g c = λ base cs lawful store.
    let told = c.in_ok-base.ensures.answers base cs lawful store in
    opens_known (option_map (λ t. t.now) c.args.given) base cs (g.B.Blobs.seen c.args.area.now) (g.B.Blobs.seen c.read_catalog.new.area)
    (c.in_ok-base.ensures.spelled base cs lawful store) (c.in_ok-base.ensures.moments base cs lawful store) c.in-Ok.rows c.in_ok-base.field-0.base
    (record { allowed = told.0; base_is = told.1.base_is; keeps = record { rows = sym (c.in-Ok.ensures.rows ∙ told.1.rows_are); pages = sym (c.in-Ok.ensures.pages ∙ told.1.pages_are) } })
    (c.in_ok-base.ensures.opened base cs lawful store)

pub returns-in-Err-clause-opens : goal.returns-in-Err-clause-opens
returns-in-Err-clause-opens g c = λ base cs lawful store.
    opens_forgetful (option_map (λ t. t.now) c.args.given) base cs (g.B.Blobs.seen c.args.area.now) (g.B.Blobs.seen c.read_catalog.new.area)
    (c.in_ok-base.ensures.spelled base cs lawful store) (c.in_ok-base.ensures.moments base cs lawful store)

pub returns-in-Err-clause-runs : goal.returns-in-Err-clause-runs
returns-in-Err-clause-runs g c = λ m base cs plan lawful is spells planned.
    inr (some_all plan (g.B.Blobs.seen c.args.area.now) (g.B.Blobs.seen c.read_catalog.new.area) (c.in_ok-base.ensures.runs m base cs plan lawful is spells planned))
