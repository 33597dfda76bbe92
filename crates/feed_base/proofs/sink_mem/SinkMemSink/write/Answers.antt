use Rattle.std.proofs.Common.{◌<◌, ◌+◌, length, inl, inr, refl, rules, arith, Contains}
use Rattle.feed_base.specs.Counts.{raised}
use Rattle.feed_base.proofs.sink_mem.SinkMemSink.write.Goals as goal
use Rattle.feed_base.proofs.sink_mem.SinkMemSink.write.Goals.{then-contains-via-then-contains, then-contains-via-else-contains+then-piece-self}

-- a write fails where it is named, or where its piece finds no room
pub returns-then-contains-clause-exact : goal.returns-then-contains-clause-exact
returns-then-contains-clause-exact c = elim c.then-contains.branch [
  | then-contains-via-then-contains w ↦
      let named : Contains c.args.self.now.fails.items (raised c.args.self.now.calls) = search rules in
      ((λ _. inl named), (λ _. refl))
  | then-contains-via-else-contains+then-piece-self w ↦
      let full : c.args.self.now.room < length c.args.self.now.taken.items + length c.args.piece.now = omega arith in
      ((λ _. inr full), (λ _. refl))
]
