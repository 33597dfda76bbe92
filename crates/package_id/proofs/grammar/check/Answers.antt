use Rattle.std.proofs.Common.{get_or, refl, sym, ◌∙◌}
use Rattle.package_id.proofs.Fronts.{not_id, bad_place, end_place, end_value, differ}
use Rattle.package_id.proofs.grammar.check.Goals as goal

pub returns-else-ends_part-clause-refused : goal.returns-else-ends_part-clause-refused
returns-else-ends_part-clause-refused c =
    not_id c.args.text.now c.loop-at.at c.loop-at.in_part (get_or c.args.text.now c.loop-at.at 0) c.loop-at-test.true refl c.loop-at.invariant (sym c.is_word.ensures ∙ c.if-is_word.false) (sym c.ends_part.ensures ∙ c.if-ends_part.false)

pub returns-else-ends_part-clause-place : goal.returns-else-ends_part-clause-place
returns-else-ends_part-clause-place c =
    bad_place c.args.text.now c.loop-at.at c.loop-at.in_part (get_or c.args.text.now c.loop-at.at 0) c.loop-at-test.true refl c.loop-at.invariant (sym c.is_word.ensures ∙ c.if-is_word.false) (sym c.ends_part.ensures ∙ c.if-ends_part.false)

pub returns-then-in_part-clause-ok : goal.returns-then-in_part-clause-ok
returns-then-in_part-clause-ok c = end_value c.args.text.now c.loop-at.at c.loop-at.in_part c.loop-at-test.false c.loop-at.invariant ∙ c.if-in_part.true

pub returns-else-in_part-clause-refused : goal.returns-else-in_part-clause-refused
returns-else-in_part-clause-refused c held =
    differ _ (end_value c.args.text.now c.loop-at.at c.loop-at.in_part c.loop-at-test.false c.loop-at.invariant ∙ c.if-in_part.false) held

pub returns-else-in_part-clause-place : goal.returns-else-in_part-clause-place
returns-else-in_part-clause-place c = end_place c.args.text.now c.loop-at.at c.loop-at.in_part c.loop-at-test.false c.loop-at.invariant
