use Rattle.std.proofs.Common.{List, ap, ◌∙◌}
use Rattle.pkg_meta.specs.declared.entry.Entry.{Entry}
use Rattle.id_pass.specs.Named.{bodies_of, by_name}
use Rattle.id_pass.specs.Placing.{all_as_placed}
use Rattle.id_pass.proofs.Gathered.{gathered}
use Rattle.id_pass.proofs.Sets.{in_ok}
use Rattle.id_pass.proofs.pass.make_plan.Goals as goal

pub returns-clause-calls : goal.returns-clause-calls
returns-clause-calls g c =
    let docs = c.in_ok-docs-2.ensures ∙ ap by_name (c.in_ok-docs.ensures
    ∙ ap (λ (es : List Entry). g.H.Hive.makes c.args.base.now c.args.key.now c.in_ok-taken.taken.touched c.in_ok-taken.taken.touched_stamp es) c.as_slice-entries.ensures) in
    in_ok _ _
    (λ plan from _. gathered g.H.Hive.keeps g.H.Hive.makes c.args.base.now c.args.key.now _ (all_as_placed c.args.items.now) c.args.target c.in_ok-taken.taken
    c.in_ok-taken.ensures.touched c.in_ok-taken.ensures.stamp c.in_ok-taken.ensures.entries
    from.0 from.1 c.names_in.result.now (bodies_of c.in_ok-given.given) (bodies_of c.in_ok-docs-2.docs) plan from.2 c.names_in.ensures c.in_ok-given.ensures docs from.3)
    c.plan_of.result c.plan_of.ensures
