use Rattle.ticks.proofs.Scanning.{zone_stops_at}
use Rattle.ticks.proofs.form.zone.Goals as goal
use Rattle.ticks.proofs.form.zone.Goals.{else-at-form-via-then-at-form+else-at-text, else-at-form-via-else-at-form}

pub returns-else-at-form : goal.returns-else-at-form
returns-else-at-form c =
    let at = c.fitting-at.ensures in
    zone_stops_at c.args.text.now c.zone_form-form.result.now c.fitting-at.result c.zone_form-form.ensures at.value at.within_text at.within_form
    (λ fit whole. elim c.else-at-form.branch [
      | else-at-form-via-then-at-form+else-at-text w ↦ w.if-at-text.false whole
      | else-at-form-via-else-at-form w ↦ w.if-at-form.false fit
    ])
