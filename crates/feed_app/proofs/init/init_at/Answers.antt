use Rattle.std.proofs.Common.{Ok, Err, refl}
use Rattle.feed_app.proofs.Inits.{not_made}
use Rattle.feed_app.proofs.init.init_at.Goals as goal

pub returns-in-Err-clause-is : goal.returns-in-Err-clause-is
returns-in-Err-clause-is g c = rw c.of_init.ensures
    (not_made c.in-Err.error c.args.base.now _ _ (λ m is e. c.in-Err.ensures.already m is e) c.in-Err.ensures.left)

pub returns-in-Ok-clause-calls : goal.returns-in-Ok-clause-calls
returns-in-Ok-clause-calls g c = rw c.into_area.ensures (Ok tt, refl, c.in-Ok.ensures.runs)

pub returns-in-Err-clause-calls : goal.returns-in-Err-clause-calls
returns-in-Err-clause-calls g c = (Err c.in-Err.error, c.of_init.ensures, c.in-Err.ensures.runs_refused)
