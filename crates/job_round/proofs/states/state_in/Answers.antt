use Rattle.std.proofs.Common.{◌≡◌, Some, ap, sym, ◌∙◌}
use Rattle.hive_state.specs.State.{state_text}
use Rattle.job_round.proofs.states.state_in.Goals as goal

pub returns-in-Ok : goal.returns-in-Ok
returns-in-Ok c = (
  ap Some c.in-Ok.ensures.ok,
  λ other value same. let own : c.args.bytes.now ≡ state_text other = cc in sym (c.in-Ok.ensures.exact other value own),
  sym c.fits_id.ensures ∙ c.if-fits_id.true,
)
