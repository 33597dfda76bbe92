use Rattle.std.proofs.Common.{arith}
use Rattle.catalog_doc.proofs.Lists.{head_turn}
use Rattle.catalog_doc.proofs.index.head_values.Goals as goal

pub loop-head-preserved : goal.loop-head-preserved
loop-head-preserved c = record {
  place = omega arith;
  so_far = head_turn _ _ _ _ _ _ _ _ _ c.loop-head-test.true c.head-item.is c.in_ok-head_value.ensures c.in_ok-push.ensures.items c.loop-head.invariant.so_far;
}
