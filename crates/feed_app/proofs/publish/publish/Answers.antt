use Rattle.std.proofs.Common.{inr, option_map, rules}
use Rattle.feed_app.specs.Outside.{input_of, over}
use Rattle.feed_app.specs.Publishes.{publish_meaning}
use Rattle.feed_app.proofs.Ended.{end_explains}
use Rattle.feed_app.proofs.publish.publish.Goals as goal

pub returns : goal.returns
returns g c = record {
  keeps = search rules;
  explains =
      end_explains g.B.Blobs (over (option_map (λ t. t.now) c.args.base) c.args.stores (input_of g.I.Source c.args.input.now) (g.C.Clock.answers c.args.clock.now))
      (over (option_map (λ t. t.now) c.args.base) (record c.args.stores { catalog = c.commit_into-answer.result.1 }) (input_of g.I.Source c.take_publish.new.input)
      (g.C.Clock.answers c.commit_into-answer.new.clock))
      (publish_meaning g.B.Blobs).reach tt c.in-Ok.changes _ _ c.commit_into-answer.result.0 c.commit_into-answer.ensures.cause
      c.commit_into-answer.ensures.ends;
  acts = inr (c.in-Ok.changes, c.in-Ok.ensures.taken, c.commit_into-answer.ensures.ends);
}
