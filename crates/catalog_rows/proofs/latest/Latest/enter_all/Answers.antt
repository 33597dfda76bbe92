use Rattle.std.proofs.Common.{◌∙◌, subst, take}
use Rattle.std.proofs.lemmas.List.Elements.{All-more, All-weaker}
use Rattle.catalog_rows.specs.Latest.{IsEntered}
use Rattle.catalog_rows.proofs.Keys.{keys_more}
use Rattle.catalog_rows.proofs.latest.Latest.enter_all.Goals as goal

pub returns-in_err-enter-clause-same : goal.returns-in_err-enter-clause-same
returns-in_err-enter-clause-same c = λ rows is. c.enter.ensures.same rows (c.loop-row.invariant.same rows is)

pub returns-in_err-push-clause-same : goal.returns-in_err-push-clause-same
returns-in_err-push-clause-same c = λ rows is. c.enter.ensures.same rows (c.loop-row.invariant.same rows is)

pub loop-row-preserved : goal.loop-row-preserved
loop-row-preserved c =
    let was = c.loop-row.invariant in
    let rows = c.args.rows.now in
    let at = c.loop-row.row-index in
    record {
      keys = keys_more c.loop-row.keys.items c.push.new.self.items c.into_string-key.result rows c.row-item.result at c.loop-row-test.true c.row-item.is
          was.keys (c.into_string-key.ensures ∙ c.in_ok-key.ensures) c.in_ok-push.ensures.items;
      entered = All-more (IsEntered c.enter.new.self) rows at c.row-item.result c.loop-row-test.true
          (All-weaker (IsEntered c.loop-row.self) (IsEntered c.enter.new.self) c.enter.ensures.keeps (take at rows) was.entered)
          (subst (IsEntered c.enter.new.self) c.row-item.is c.in_ok-enter.ensures.entered);
      keeps = λ other entered. c.enter.ensures.keeps other (was.keeps other entered);
      same = λ earlier is. c.enter.ensures.same earlier (was.same earlier is);
    }
