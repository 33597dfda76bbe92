use Rattle.std.proofs.Common.{inr, option_map, rules}
use Rattle.feed_app.specs.Commands.{pairs_of}
use Rattle.feed_words.specs.Words.{texts}
use Rattle.feed_app.specs.Names.{names_meaning}
use Rattle.feed_app.specs.Outside.{over}
use Rattle.feed_app.proofs.Ended.{end_explains}
use Rattle.feed_app.proofs.names.commit_names.Goals as goal

pub returns : goal.returns
returns g c = λ input. record {
  keeps = search rules;
  explains =
      end_explains g.B.Blobs (over (option_map (λ t. t.now) c.args.base) c.args.stores input (g.C.Clock.answers c.args.clock.now))
      (over (option_map (λ t. t.now) c.args.base) (record c.args.stores { catalog = c.commit_into-answer.result.1 }) input (g.C.Clock.answers c.commit_into-answer.new.clock))
      (names_meaning g.B.Blobs c.args.kind (pairs_of (texts c.args.words.now))).reach tt c.in-Ok.changes _ _ c.commit_into-answer.result.0
      c.commit_into-answer.ensures.cause c.commit_into-answer.ensures.ends;
  acts = inr (c.in-Ok.changes, c.in-Ok.ensures.ok, c.commit_into-answer.ensures.ends);
}
