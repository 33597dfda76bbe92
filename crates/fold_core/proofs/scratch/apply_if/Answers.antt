use Rattle.std.proofs.Common.{sym, ◌∙◌}
use Rattle.fold_core.proofs.Gathered.{applied_one}
use Rattle.fold_core.proofs.scratch.apply_if.Goals as goal

pub returns-in_ok-apply : goal.returns-in_ok-apply
returns-in_ok-apply g c = λ before stamp were.
    applied_one g.H.Hive.keeps before c.args.key.now (record { number = c.args.number; place = c.args.place; stamp = stamp; what = c.args.item.now })
    c.args.entries.now c.apply.new.entries (sym c.is_of.ensures ∙ c.if-is_of.true) were c.in_ok-apply.ensures.ok
