use Rattle.admin_wire.proofs.records.publish_of.Goals as goal

pub returns-in-Err : goal.returns-in-Err
returns-in-Err c = record {
  ok = tt;
  refused = λ other.
      let told = c.meta_refused.ensures other in
      (c.in-Err.why, told.0, c.in-Err.ensures.refused told.1);
}
