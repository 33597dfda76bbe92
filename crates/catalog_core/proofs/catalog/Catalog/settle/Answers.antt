use Rattle.std.proofs.Common.{◌∙◌, [], Err, Ok, ap, inl, refl, sym}
use Rattle.std.proofs.lemmas.Result.{err_from_is_err_and}
use Rattle.catalog_opening.specs.Settlings.{IsDamagedOrTooMany}
use Rattle.catalog_opening.proofs.Halting.{damaged_told, differs}
use Rattle.catalog_items.proofs.Getting.{done_quietly, fault_told, memory_quietly}
use Rattle.blob_store.proofs.OneCall.{none}
use Rattle.catalog_core.specs.Opened.{IsUnsettled, Opened}
use Rattle.catalog_core.proofs.Frames.{stays_as}
use Rattle.catalog_core.proofs.Settling.{damaged_as, settling_out, settling_runs, settling_stopped, stopped, undamaged, whole}
use Rattle.catalog_core.proofs.catalog.Catalog.settle.Goals as goal

pub returns-then-self-clause-stays : goal.returns-then-self-clause-stays
returns-then-self-clause-stays g c = rw (← c.self.view_is) (stays_as _ _ _ (g.met.B.Blobs.now c.self.inside.area) (λ is. let no : ⊥ = cc in no))

pub returns-in_err-more-clause-stays : goal.returns-in_err-more-clause-stays
returns-in_err-more-clause-stays g c =
    let p = err_from_is_err_and c.from_residual.result c.from_residual.ensures.1 in
    let is = p.1 ∙ ap Err p.2 in
    let error = c.in_err-more.field-0.0 in
    rw (← c.self.view_is) (stopped _ _ _ _ c.as_str.result.now c.pages.result.now c.as_str.ensures c.pages.ensures c.if-self.false
    _ _ c.in_err-more.ensures.mends
    (fault_told (Err error) c.from_residual.result error refl is)
    (fault_told c.from_residual.result (Err error) error is refl)
    c.in_err-more.ensures.spelled c.in_err-more.ensures.moments refl refl refl)

pub returns-in_err-more-clause-whole : goal.returns-in_err-more-clause-whole
returns-in_err-more-clause-whole g c =
    let p = err_from_is_err_and c.from_residual.result c.from_residual.ensures.1 in
    let is = p.1 ∙ ap Err p.2 in
    rw (← c.self.view_is) (λ cs open_for. damaged_told (λ name. ⊥) (λ name. ⊥) c.from_residual.result c.in_err-more.field-0.0 is (λ name no. no)
    (undamaged _ c.as_str.result.now c.pages.result.now c.as_str.ensures c.pages.ensures c.if-self.false (g.B.Blobs.seen c.self.inside.area) c.in_err-more.field-0.0 c.in_err-more.ensures.answers cs open_for))

pub returns-in_err-more-clause-damaged : goal.returns-in_err-more-clause-damaged
returns-in_err-more-clause-damaged g c = λ m held.
    let p = err_from_is_err_and c.from_residual.result c.from_residual.ensures.1 in
    let o = c.args.self.now in
    let base = c.as_str.ensures ∙ ap (λ (x : Opened _). x.base) c.self.view_is in
    let pages = c.pages.ensures ∙ ap (λ (x : Opened _). x.kept.pages) c.self.view_is in
    let unsettled = sym (ap (λ (x : Opened _). x.settled) c.self.view_is) ∙ c.if-self.false in
    damaged_told (IsDamagedOrTooMany m c.as_str.result.now c.pages.result.now) (IsUnsettled m o) c.from_residual.result c.in_err-more.field-0.0 (p.1 ∙ ap Err p.2)
    (λ name told. damaged_as o c.as_str.result.now c.pages.result.now base pages unsettled m name told)
    (c.in_err-more.ensures.damaged m (ap (λ (x : Opened _). (g.B.Blobs.seen x.area).held) c.self.view_is ∙ held))

pub returns-in_err-take_in-clause-stays : goal.returns-in_err-take_in-clause-stays
returns-in_err-take_in-clause-stays g c =
    let p = err_from_is_err_and c.from_residual-in_err-take_in.result c.from_residual-in_err-take_in.ensures.1 in
    let is = p.1 ∙ ap Err p.2 in
    rw (← c.self.view_is) (stopped _ _ _ _ c.as_str.result.now c.pages.result.now c.as_str.ensures c.pages.ensures c.if-self.false
    _ _ c.in_ok-more.ensures.mends
    (λ failed. absurd (done_quietly (Ok c.in_ok-more.more) c.in_ok-more.more refl failed))
    (λ failed. absurd (memory_quietly c.from_residual-in_err-take_in.result (is ∙ ap Err c.in_err-take_in.ensures.kind) failed))
    c.in_ok-more.ensures.spelled c.in_ok-more.ensures.moments c.in_err-take_in.ensures.same refl refl)

pub returns-clause-stays : goal.returns-clause-stays
returns-clause-stays g c =
    rw (← c.self.view_is) (whole _ _ _ _ c.as_str.result.now c.pages.result.now c.as_str.ensures c.pages.ensures c.if-self.false
    _ _ c.in_ok-more.ensures.mends
    (λ failed. absurd (done_quietly (Ok c.in_ok-more.more) c.in_ok-more.more refl failed))
    (λ failed. absurd (done_quietly (Ok tt) tt refl failed))
    c.in_ok-more.ensures.spelled c.in_ok-more.ensures.moments c.in_ok-more.ensures.settled c.in_ok-more.more c.in_ok-more.ensures.answers
    c.in_ok-take_in.ensures.took refl refl)

pub returns-then-self-clause-runs : goal.returns-then-self-clause-runs
returns-then-self-clause-runs g c = rw (← c.self.view_is) (λ cs open_for. ([], inl (c.if-self.true, refl), none (g.B.Blobs.seen c.self.inside.area) (g.met.B.Blobs.now c.self.inside.area)))

pub returns-in_err-more-clause-runs : goal.returns-in_err-more-clause-runs
returns-in_err-more-clause-runs g c =
    let p = err_from_is_err_and c.from_residual.result c.from_residual.ensures.1 in
    rw (← c.self.view_is) (λ cs open_for.
    settling_stopped _ c.as_str.result.now c.pages.result.now c.as_str.ensures c.pages.ensures c.if-self.false (g.B.Blobs.seen c.self.inside.area) (g.B.Blobs.seen c.settle.new.area)
    c.in_err-more.field-0.0 c.from_residual.result (p.1 ∙ ap Err p.2) c.in_err-more.ensures.runs cs open_for)

pub returns-in_err-take_in-clause-runs : goal.returns-in_err-take_in-clause-runs
returns-in_err-take_in-clause-runs g c =
    let p = err_from_is_err_and c.from_residual-in_err-take_in.result c.from_residual-in_err-take_in.ensures.1 in
    rw (← c.self.view_is) (λ cs open_for.
    settling_out _ c.as_str.result.now c.pages.result.now c.as_str.ensures c.pages.ensures c.if-self.false (g.B.Blobs.seen c.self.inside.area) (g.B.Blobs.seen c.settle.new.area)
    c.in_ok-more.more c.from_residual-in_err-take_in.result (p.1 ∙ ap Err p.2 ∙ ap Err c.in_err-take_in.ensures.kind) c.in_ok-more.ensures.runs cs open_for)

pub returns-clause-runs : goal.returns-clause-runs
returns-clause-runs g c =
    rw (← c.self.view_is) (λ cs open_for.
    settling_runs {A = Unit {0}} _ c.as_str.result.now c.pages.result.now c.as_str.ensures c.pages.ensures c.if-self.false (g.B.Blobs.seen c.self.inside.area) (g.B.Blobs.seen c.settle.new.area) (Ok tt)
    c.in_ok-more.ensures.runs cs open_for)

pub returns-then-self-clause-same : goal.returns-then-self-clause-same
returns-then-self-clause-same g c = λ settled. (refl, tt)

pub returns-in_err-more-clause-same : goal.returns-in_err-more-clause-same
returns-in_err-more-clause-same g c = λ settled. absurd (differs (sym (ap (λ (x : Opened _). x.settled) c.self.view_is) ∙ c.if-self.false) settled)

pub returns-in_err-take_in-clause-same : goal.returns-in_err-take_in-clause-same
returns-in_err-take_in-clause-same g c = λ settled. absurd (differs (sym (ap (λ (x : Opened _). x.settled) c.self.view_is) ∙ c.if-self.false) settled)

pub returns-clause-same : goal.returns-clause-same
returns-clause-same g c = λ settled. absurd (differs (sym (ap (λ (x : Opened _). x.settled) c.self.view_is) ∙ c.if-self.false) settled)
