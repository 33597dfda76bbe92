use Rattle.std.proofs.Common.{◌≡◌, ◌∷◌, [], ℕ, List, Some, Option, IfErr, ap, subst, sym, ◌∙◌, Err}
use Rattle.std.specs.Prelude.{Result}
use Rattle.std.proofs.lemmas.Result.{err_from_is_err_and}
use Rattle.blob_store.specs.Events.{Get}
use Rattle.blob_store.specs.Plans.{Makes}
use Rattle.cursor_doc.specs.Cursor.{cursor_name}
use Rattle.job_round.specs.Cursors.{IsCursor, IsNoCursor, IsReadAsCursor}
use Rattle.job_round.specs.Stops.{IfHiveDamaged}
use Rattle.job_round.specs.declared.stop.Stop.{Stop}
use Rattle.job_round.specs.declared.stop.Stop.TheVariants.{Memory}
use Rattle.job_round.proofs.Finding.{damage_halts, damage_of_hive, damage_told, found_as, no_damage, with_found}
use Rattle.job_round.proofs.Halting.{halts_behind, halts_told}
use Rattle.job_round.proofs.cursor.cursor_in.Goals as goal

pub returns-in_err-number-clause-runs : goal.returns-in_err-number-clause-runs
returns-in_err-number-clause-runs g c =
    let p = err_from_is_err_and c.from_residual-in_err-number.result c.from_residual-in_err-number.ensures.1 in
    halts_told (Get cursor_name ∷ []) c.from_residual-in_err-number.result Memory (g.B.Blobs.seen c.args.area.now) (g.B.Blobs.seen c.get.new.area) (p.1 ∙ ap Err p.2)
    (halts_behind (Get cursor_name ∷ []) Memory (g.B.Blobs.seen c.args.area.now) (g.B.Blobs.seen c.get.new.area) tt c.in_ok-bytes.ensures.runs)

pub returns-in-Some-2-clause-number : goal.returns-in-Some-2-clause-number
returns-in-Some-2-clause-number g c =
    let read : IsCursor (Some c.as_slice.result.now) c.in-Some-2.number = subst (IsReadAsCursor c.as_slice.result.now) c.in-Some-2.is c.in_ok-number.ensures in
    with_found (g.B.Blobs.seen c.args.area.now).held cursor_name (Some c.as_slice.result.now) (λ (found : Option (List ℕ)). IsCursor found c.in-Some-2.number)
    (found_as (g.B.Blobs.seen c.args.area.now).held cursor_name _ (Some c.as_slice.result.now) (c.in-Some.is ∙ ap Some (sym c.as_slice.ensures)) c.in_ok-bytes.ensures.found) read

pub returns-clause-runs : goal.returns-clause-runs
returns-clause-runs g c = damage_halts (λ name. name ≡ cursor_name) (Get cursor_name ∷ []) c.damaged_cursor.result (g.B.Blobs.seen c.args.area.now) (g.B.Blobs.seen c.get.new.area) c.damaged_cursor.ensures c.in_ok-bytes.ensures.runs

pub returns-clause-cause : goal.returns-clause-cause
returns-clause-cause g c =
    let read : IsNoCursor (Some c.as_slice.result.now) = subst (IsReadAsCursor c.as_slice.result.now) c.in-None.is c.in_ok-number.ensures in
    damage_of_hive (λ name. name ≡ cursor_name) _ c.damaged_cursor.result (λ name is. (
      is,
      with_found (g.B.Blobs.seen c.args.area.now).held cursor_name (Some c.as_slice.result.now) IsNoCursor
          (found_as (g.B.Blobs.seen c.args.area.now).held cursor_name _ (Some c.as_slice.result.now) (c.in-Some.is ∙ ap Some (sym c.as_slice.ensures)) c.in_ok-bytes.ensures.found) read,
    )) c.damaged_cursor.ensures

pub returns-in_err-bytes-clause-got : goal.returns-in_err-bytes-clause-got
returns-in_err-bytes-clause-got g c =
    let p = err_from_is_err_and c.from_residual.result c.from_residual.ensures.1 in
    let M = Makes (Get cursor_name ∷ []) (g.B.Blobs.seen c.args.area.now) (g.B.Blobs.seen c.get.new.area) in
    subst (λ (r : Result _ Stop). IfErr r (λ stop. IfHiveDamaged stop M)) (sym (p.1 ∙ ap Err p.2)) (no_damage M c.in_err-bytes.field-0.0 c.in_err-bytes.ensures.cause)

pub returns-in_err-number-clause-got : goal.returns-in_err-number-clause-got
returns-in_err-number-clause-got g c =
    let p = err_from_is_err_and c.from_residual-in_err-number.result c.from_residual-in_err-number.ensures.1 in
    let M = Makes (Get cursor_name ∷ []) (g.B.Blobs.seen c.args.area.now) (g.B.Blobs.seen c.get.new.area) in
    subst (λ (r : Result _ Stop). IfErr r (λ stop. IfHiveDamaged stop M)) (sym (p.1 ∙ ap Err p.2)) tt

pub returns-clause-got : goal.returns-clause-got
returns-clause-got g c = damage_told (Makes (Get cursor_name ∷ []) (g.B.Blobs.seen c.args.area.now) (g.B.Blobs.seen c.get.new.area)) c.damaged_cursor.result c.in_ok-bytes.ensures.runs
