use Rattle.std.proofs.Common.{[], ap, ◌∙◌, ℕ, Err, List, subst, sym, map}
use Rattle.std.proofs.lemmas.Result.{err_from_is_err_and}
use Rattle.catalog_core.specs.Opened.{IsOpenFor}
use Rattle.fold_core.specs.Folds.{fold_of}
use Rattle.id_pass.specs.declared.error.RoundOut.TheVariants.{Done}
use Rattle.job_round.specs.Ids.{by_id, key_of_id}
use Rattle.job_round.specs.Plans.{AreTold, PassesMade, RunsPasses}
use Rattle.blob_store.proofs.OneCall.{none}
use Rattle.job_round.specs.Reads.{HaveOwnRows, PassesRead, ReadsPasses, StopsReading}
use Rattle.job_round.specs.declared.ids.IdRows.{IdRows}
use Rattle.job_round.specs.declared.stop.Stop.TheVariants.{Memory}
use Rattle.job_round.proofs.Ending.{taking_cut, taking_done, taking_stopped, taking_unbegun}
use Rattle.job_round.proofs.Halting.{halts_before}
use Rattle.job_round.proofs.ReadPasses.{some_all, some_unbegun, taking_read, taking_told}
use Rattle.job_round.proofs.Reading.{reads_behind}
use Rattle.job_round.proofs.Staying.{memory_quiet, stays_still}
use Rattle.job_round.proofs.Targets.{own_ids}
use Rattle.job_round.proofs.round.take_up.Goals as goal

pub returns-in_err-ids-clause-stays : goal.returns-in_err-ids-clause-stays
returns-in_err-ids-clause-stays g c =
    let p = err_from_is_err_and c.from_residual.result c.from_residual.ensures.1 in
    stays_still _ _ c.from_residual.result (g.met.B.Blobs.now c.args.catalog.now.area) (memory_quiet c.from_residual.result (p.1 ∙ ap Err p.2))

pub returns-in_err-ids-clause-runs : goal.returns-in_err-ids-clause-runs
returns-in_err-ids-clause-runs g c = λ n.
    let p = err_from_is_err_and c.from_residual.result c.from_residual.ensures.1 in
    taking_unbegun (fold_of g.H.Hive.keeps g.H.Hive.makes c.args.catalog.now.base) (AreTold n (by_id c.args.rows) (IsOpenFor c.args.catalog.now (g.B.Blobs.seen c.args.catalog.now.area))) n c.args.target.now.number c.args.target.now.stamp (map key_of_id (by_id c.args.rows)) (g.B.Blobs.seen c.args.area.now) (g.B.Blobs.seen c.args.area.now) (g.B.Blobs.seen c.args.area.now)
    Memory c.from_residual.result (p.1 ∙ ap Err p.2) (halts_before [] Memory (g.B.Blobs.seen c.args.area.now) tt (g.met.B.Blobs.now c.args.area.now))

pub returns-in_err-passes-clause-runs : goal.returns-in_err-passes-clause-runs
returns-in_err-passes-clause-runs g c = λ n.
    let p = err_from_is_err_and c.from_residual-in_err-passes.result c.from_residual-in_err-passes.ensures.1 in
    taking_cut (fold_of g.H.Hive.keeps g.H.Hive.makes c.args.catalog.now.base) (AreTold n (by_id c.args.rows) (IsOpenFor c.args.catalog.now (g.B.Blobs.seen c.args.catalog.now.area))) n c.args.target.now.number c.args.target.now.stamp
    (map key_of_id (by_id c.args.rows)) (g.B.Blobs.seen c.args.area.now) (g.B.Blobs.seen c.passes.new.area) (g.B.Blobs.seen c.passes.new.area) c.in_err-passes.field-0.0 c.from_residual-in_err-passes.result (p.1 ∙ ap Err p.2)
    (subst (λ (l : List IdRows). RunsPasses {A = Unit {0}} (fold_of g.H.Hive.keeps g.H.Hive.makes c.args.catalog.now.base) (AreTold n l (IsOpenFor c.args.catalog.now (g.B.Blobs.seen c.args.catalog.now.area))) n c.args.target.now.number
    (map key_of_id l) (g.B.Blobs.seen c.args.area.now) (g.B.Blobs.seen c.passes.new.area) (Err c.in_err-passes.field-0.0)) (c.deref.ensures.value ∙ c.in_ok-ids.ensures) (c.in_err-passes.ensures.runs n))

pub returns-in_err-put_cursor-clause-runs : goal.returns-in_err-put_cursor-clause-runs
returns-in_err-put_cursor-clause-runs g c = λ n.
    let p = err_from_is_err_and c.from_residual-in_err-put_cursor.result c.from_residual-in_err-put_cursor.ensures.1 in
    taking_stopped (fold_of g.H.Hive.keeps g.H.Hive.makes c.args.catalog.now.base) (AreTold n (by_id c.args.rows) (IsOpenFor c.args.catalog.now (g.B.Blobs.seen c.args.catalog.now.area))) n c.args.target.now.number c.args.target.now.stamp
    (map key_of_id (by_id c.args.rows)) (g.B.Blobs.seen c.args.area.now) (g.B.Blobs.seen c.passes.new.area) (g.B.Blobs.seen c.put_cursor.new.area) c.in_err-put_cursor.field-0.0 c.from_residual-in_err-put_cursor.result (p.1 ∙ ap Err p.2)
    (subst (λ (l : List IdRows). PassesMade (fold_of g.H.Hive.keeps g.H.Hive.makes c.args.catalog.now.base) (AreTold n l (IsOpenFor c.args.catalog.now (g.B.Blobs.seen c.args.catalog.now.area))) n c.args.target.now.number
    (map key_of_id l) (g.B.Blobs.seen c.args.area.now) (g.B.Blobs.seen c.passes.new.area)) (c.deref.ensures.value ∙ c.in_ok-ids.ensures) (c.in_ok-passes.ensures.runs n))
    c.in_err-put_cursor.ensures.runs

pub returns-clause-runs : goal.returns-clause-runs
returns-clause-runs g c = λ n.
    taking_done (fold_of g.H.Hive.keeps g.H.Hive.makes c.args.catalog.now.base) (AreTold n (by_id c.args.rows) (IsOpenFor c.args.catalog.now (g.B.Blobs.seen c.args.catalog.now.area))) n c.args.target.now.number c.args.target.now.stamp
    (map key_of_id (by_id c.args.rows)) (g.B.Blobs.seen c.args.area.now) (g.B.Blobs.seen c.passes.new.area) (g.B.Blobs.seen c.put_cursor.new.area) (Done c.args.target.now.number)
    (subst (λ (l : List IdRows). PassesMade (fold_of g.H.Hive.keeps g.H.Hive.makes c.args.catalog.now.base) (AreTold n l (IsOpenFor c.args.catalog.now (g.B.Blobs.seen c.args.catalog.now.area))) n c.args.target.now.number
    (map key_of_id l) (g.B.Blobs.seen c.args.area.now) (g.B.Blobs.seen c.passes.new.area)) (c.deref.ensures.value ∙ c.in_ok-ids.ensures) (c.in_ok-passes.ensures.runs n))
    c.in_ok-put_cursor.ensures.runs

pub returns-in_err-ids-clause-reads : goal.returns-in_err-ids-clause-reads
returns-in_err-ids-clause-reads g c = λ n settled same.
    let p = err_from_is_err_and c.from_residual.result c.from_residual.ensures.1 in
    taking_told (fold_of g.H.Hive.keeps g.H.Hive.makes c.args.catalog.now.base) (AreTold n (by_id c.args.rows) (IsOpenFor c.args.catalog.now (g.B.Blobs.seen c.args.catalog.now.area))) n c.args.target.now.number c.args.catalog.now.kept.rows c.args.target.now.stamp (map key_of_id (by_id c.args.rows)) (g.B.Blobs.seen c.args.area.now) (g.B.Blobs.seen c.args.area.now) (g.B.Blobs.seen c.args.catalog.now.area) (g.B.Blobs.seen c.args.catalog.now.area) Memory c.from_residual.result (p.1 ∙ ap Err p.2)
    (some_unbegun (fold_of g.H.Hive.keeps g.H.Hive.makes c.args.catalog.now.base) (AreTold n (by_id c.args.rows) (IsOpenFor c.args.catalog.now (g.B.Blobs.seen c.args.catalog.now.area))) n c.args.target.now.number c.args.catalog.now.kept.rows (map key_of_id (by_id c.args.rows)) (g.B.Blobs.seen c.args.area.now).held (λ plan. StopsReading plan Memory (g.B.Blobs.seen c.args.catalog.now.area) (g.B.Blobs.seen c.args.catalog.now.area))
    (reads_behind [] (g.B.Blobs.seen c.args.catalog.now.area) (g.B.Blobs.seen c.args.catalog.now.area) (none (g.B.Blobs.seen c.args.catalog.now.area) (g.met.B.Blobs.now c.args.catalog.now.area)) (λ x. ⊥) Memory tt))

pub returns-in_err-passes-clause-reads : goal.returns-in_err-passes-clause-reads
returns-in_err-passes-clause-reads g c = λ n settled same.
    let p = err_from_is_err_and c.from_residual-in_err-passes.result c.from_residual-in_err-passes.ensures.1 in
    taking_told (fold_of g.H.Hive.keeps g.H.Hive.makes c.args.catalog.now.base) (AreTold n (by_id c.args.rows) (IsOpenFor c.args.catalog.now (g.B.Blobs.seen c.args.catalog.now.area))) n c.args.target.now.number c.args.catalog.now.kept.rows c.args.target.now.stamp (map key_of_id (by_id c.args.rows)) (g.B.Blobs.seen c.args.area.now) (g.B.Blobs.seen c.passes.new.area) (g.B.Blobs.seen c.args.catalog.now.area) (g.B.Blobs.seen c.passes.new.catalog.area)
    c.in_err-passes.field-0.0 c.from_residual-in_err-passes.result (p.1 ∙ ap Err p.2)
    (subst (λ (l : List IdRows). ReadsPasses (fold_of g.H.Hive.keeps g.H.Hive.makes c.args.catalog.now.base) (AreTold n l (IsOpenFor c.args.catalog.now (g.B.Blobs.seen c.args.catalog.now.area))) n c.args.target.now.number c.args.catalog.now.kept.rows {A = Unit {0}}
    (map key_of_id l) (g.B.Blobs.seen c.args.area.now) (g.B.Blobs.seen c.passes.new.area) (g.B.Blobs.seen c.args.catalog.now.area) (g.B.Blobs.seen c.passes.new.catalog.area) (Err c.in_err-passes.field-0.0)) (c.deref.ensures.value ∙ c.in_ok-ids.ensures)
    (c.in_err-passes.ensures.reads n settled (subst (λ (l : List IdRows). HaveOwnRows n c.args.catalog.now.kept.rows l) (sym (c.deref.ensures.value ∙ c.in_ok-ids.ensures)) (own_ids n c.args.catalog.now.kept.rows c.args.rows same))))

pub returns-in_err-passes-clause-cause : goal.returns-in_err-passes-clause-cause
returns-in_err-passes-clause-cause g c = λ n settled same.
    let p = err_from_is_err_and c.from_residual-in_err-passes.result c.from_residual-in_err-passes.ensures.1 in
    rw (p.1, p.2) (c.in_err-passes.ensures.cause n settled (subst (λ (l : List IdRows). HaveOwnRows n c.args.catalog.now.kept.rows l) (sym (c.deref.ensures.value ∙ c.in_ok-ids.ensures)) (own_ids n c.args.catalog.now.kept.rows c.args.rows same)))

pub returns-in_err-put_cursor-clause-reads : goal.returns-in_err-put_cursor-clause-reads
returns-in_err-put_cursor-clause-reads g c = λ n settled same.
    let p = err_from_is_err_and c.from_residual-in_err-put_cursor.result c.from_residual-in_err-put_cursor.ensures.1 in
    taking_told (fold_of g.H.Hive.keeps g.H.Hive.makes c.args.catalog.now.base) (AreTold n (by_id c.args.rows) (IsOpenFor c.args.catalog.now (g.B.Blobs.seen c.args.catalog.now.area))) n c.args.target.now.number c.args.catalog.now.kept.rows c.args.target.now.stamp (map key_of_id (by_id c.args.rows)) (g.B.Blobs.seen c.args.area.now) (g.B.Blobs.seen c.put_cursor.new.area) (g.B.Blobs.seen c.args.catalog.now.area) (g.B.Blobs.seen c.passes.new.catalog.area)
    c.in_err-put_cursor.field-0.0 c.from_residual-in_err-put_cursor.result (p.1 ∙ ap Err p.2)
    (some_all (fold_of g.H.Hive.keeps g.H.Hive.makes c.args.catalog.now.base) (AreTold n (by_id c.args.rows) (IsOpenFor c.args.catalog.now (g.B.Blobs.seen c.args.catalog.now.area))) n c.args.target.now.number c.args.catalog.now.kept.rows (λ x. ⊥) c.in_err-put_cursor.field-0.0 (map key_of_id (by_id c.args.rows)) (g.B.Blobs.seen c.args.area.now) (g.B.Blobs.seen c.passes.new.area) (g.B.Blobs.seen c.args.catalog.now.area) (g.B.Blobs.seen c.passes.new.catalog.area)
    c.in_err-put_cursor.ensures.cause
    (subst (λ (l : List IdRows). PassesRead (fold_of g.H.Hive.keeps g.H.Hive.makes c.args.catalog.now.base) (AreTold n l (IsOpenFor c.args.catalog.now (g.B.Blobs.seen c.args.catalog.now.area))) n c.args.target.now.number c.args.catalog.now.kept.rows
    (map key_of_id l) (g.B.Blobs.seen c.args.area.now) (g.B.Blobs.seen c.passes.new.area) (g.B.Blobs.seen c.args.catalog.now.area) (g.B.Blobs.seen c.passes.new.catalog.area)) (c.deref.ensures.value ∙ c.in_ok-ids.ensures)
    (c.in_ok-passes.ensures.reads n settled (subst (λ (l : List IdRows). HaveOwnRows n c.args.catalog.now.kept.rows l) (sym (c.deref.ensures.value ∙ c.in_ok-ids.ensures)) (own_ids n c.args.catalog.now.kept.rows c.args.rows same)))))

pub returns-clause-reads : goal.returns-clause-reads
returns-clause-reads g c = λ n settled same.
    taking_read (fold_of g.H.Hive.keeps g.H.Hive.makes c.args.catalog.now.base) (AreTold n (by_id c.args.rows) (IsOpenFor c.args.catalog.now (g.B.Blobs.seen c.args.catalog.now.area))) n c.args.target.now.number c.args.catalog.now.kept.rows (Done c.args.target.now.number) c.args.target.now.stamp (map key_of_id (by_id c.args.rows)) (g.B.Blobs.seen c.args.area.now) (g.B.Blobs.seen c.passes.new.area) (g.B.Blobs.seen c.put_cursor.new.area)
    (g.B.Blobs.seen c.args.catalog.now.area) (g.B.Blobs.seen c.passes.new.catalog.area)
    (subst (λ (l : List IdRows). PassesRead (fold_of g.H.Hive.keeps g.H.Hive.makes c.args.catalog.now.base) (AreTold n l (IsOpenFor c.args.catalog.now (g.B.Blobs.seen c.args.catalog.now.area))) n c.args.target.now.number c.args.catalog.now.kept.rows
    (map key_of_id l) (g.B.Blobs.seen c.args.area.now) (g.B.Blobs.seen c.passes.new.area) (g.B.Blobs.seen c.args.catalog.now.area) (g.B.Blobs.seen c.passes.new.catalog.area)) (c.deref.ensures.value ∙ c.in_ok-ids.ensures)
    (c.in_ok-passes.ensures.reads n settled (subst (λ (l : List IdRows). HaveOwnRows n c.args.catalog.now.kept.rows l) (sym (c.deref.ensures.value ∙ c.in_ok-ids.ensures)) (own_ids n c.args.catalog.now.kept.rows c.args.rows same))))
    c.in_ok-put_cursor.ensures.runs
