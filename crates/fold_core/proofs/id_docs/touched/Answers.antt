use Rattle.std.proofs.Common.{List, ap, sym, ◌∙◌, arith}
use Rattle.std.proofs.lemmas.List.{take_all}
use Rattle.fold_core.specs.Items.{touched}
use Rattle.pkg_meta.specs.declared.commit.Commit.{Commit}
use Rattle.fold_core.proofs.Counts.{touched_here, touched_not}
use Rattle.fold_core.proofs.id_docs.touched.Goals.{then-has_item, else-has_item}
use Rattle.fold_core.proofs.id_docs.touched.Goals as goal

pub loop-at-preserved : goal.loop-at-preserved
loop-at-preserved c =
    let commits = c.args.commits.now in
    let key = c.args.key.now in
    let commit = c.index-commits-at.result in
    elim c.if-has_item.branch [
      | then-has_item w ↦ w.last-is ∙ touched_here commits c.loop-at.at commit key c.loop-at-test.true c.index-commits-at.is (sym c.has_item.ensures ∙ w.if-has_item.true)
      | else-has_item w ↦ w.last-is ∙ c.loop-at.invariant ∙ touched_not commits c.loop-at.at commit key c.loop-at-test.true c.index-commits-at.is (sym c.has_item.ensures ∙ w.if-has_item.false)
    ]

pub returns : goal.returns
returns c = c.loop-at.invariant ∙ ap (λ (l : List Commit). touched l c.args.key.now) (take_all c.loop-at.at c.args.commits.now (omega arith))
