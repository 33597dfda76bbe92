use Rattle.std.proofs.Common.{◌∙◌}
use Rattle.id_pass.proofs.Sets.{name_more}
use Rattle.id_pass.proofs.names.add_names.Goals as goal

pub loop-name-preserved : goal.loop-name-preserved
loop-name-preserved c = λ name. name_more c.args.names.now c.loop-name.name-index name _ c.loop-name.all c.insert.new.self c.in_ok-from_str.field-0
    c.loop-name-test.true c.name-item.is (c.in_ok-from_str.ensures.ok ∙ c.as_str.ensures) c.in_ok-insert.ensures.updates _ (c.loop-name.invariant name)
