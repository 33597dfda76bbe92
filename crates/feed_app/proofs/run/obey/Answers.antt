use Rattle.std.proofs.Common.{option_map}
use Rattle.feed_app.specs.Outside.{input_of}
use Rattle.feed_app.proofs.run.obey.Goals as goal

pub returns-in-Init-clause-done : goal.returns-in-Init-clause-done
returns-in-Init-clause-done g c = rw c.in-Init.is (c.init.ensures (option_map (λ t. t.now) c.args.base) (input_of g.I.Source c.args.input.now)
    (g.C.Clock.answers c.args.clock.now))

pub returns-in-Names-clause-done : goal.returns-in-Names-clause-done
returns-in-Names-clause-done g c = rw c.in-Names.is (c.commit_names.ensures (input_of g.I.Source c.args.input.now))

pub returns-in-Job-clause-done : goal.returns-in-Job-clause-done
returns-in-Job-clause-done g c = rw c.in-Job.is (c.job.ensures (input_of g.I.Source c.args.input.now) (g.C.Clock.answers c.args.clock.now))

pub returns-in-Cursor-clause-done : goal.returns-in-Cursor-clause-done
returns-in-Cursor-clause-done g c = rw c.in-Cursor.is (c.cursor.ensures (input_of g.I.Source c.args.input.now) (g.C.Clock.answers c.args.clock.now))

pub returns-in-Get-clause-done : goal.returns-in-Get-clause-done
returns-in-Get-clause-done g c = rw c.in-Get.is (c.get.ensures (input_of g.I.Source c.args.input.now) (g.C.Clock.answers c.args.clock.now))
