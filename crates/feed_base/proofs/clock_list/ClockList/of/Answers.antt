use Rattle.std.proofs.Common.{Some, ap}
use Rattle.feed_base.proofs.Answered.{answers_of-none}
use Rattle.feed_base.proofs.clock_list.ClockList.of.Goals as goal

pub returns-clause-answers : goal.returns-clause-answers
returns-clause-answers c = ap Some (answers_of-none c.in_ok-to_vec.field-0.items)
