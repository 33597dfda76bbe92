use Rattle.std.proofs.Common.{ap, Err}
use Rattle.feed_app.proofs.Asked.{post_served}
use Rattle.feed_app.proofs.target.target_of.Goals as goal

pub returns-in-Err-Method : goal.returns-in-Err-Method
returns-in-Err-Method c =
    post_served c.args.path.now c.in-Err-Method.field-0-0 (c.in-Err-Method.ensures.method c.in-Err-Method.field-0-0 (ap Err c.in-Err-Method.field-0-is))

pub returns-in-Err-NotFound : goal.returns-in-Err-NotFound
returns-in-Err-NotFound c = c.in-Err-NotFound.ensures.missing (ap Err c.in-Err-NotFound.field-0-is)
