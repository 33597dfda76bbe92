use Rattle.std.proofs.Common.{sym, ◌∙◌}
use Rattle.nuget_version.proofs.Compared.{equal_from, first_ends, second_ends}
use Rattle.nuget_version.proofs.compare.cmp_parts.Goals as goal

pub returns-in-None-Some : goal.returns-in-None-Some
returns-in-None-Some c =
    sym (first_ends c.loop-left_rest.left.now c.loop-left_rest.right.now c.first_part.result.0.now c.first_part-in-loop-left_rest.result.0.now c.in-None-Some.field-0-1.now
    (rw c.in-None-Some.is-0 at c.first_part.ensures.last)
    (rw c.in-None-Some.is-1 at c.first_part-in-loop-left_rest.ensures.more)
    (sym c.cmp_part-ordering.ensures ∙ equal_from c.cmp_part-ordering.result (sym c.ne.ensures ∙ c.if-ne.false)))
    ∙ c.loop-left_rest.invariant

pub returns-in-Some-None : goal.returns-in-Some-None
returns-in-Some-None c =
    sym (second_ends c.loop-left_rest.left.now c.loop-left_rest.right.now c.first_part.result.0.now c.first_part-in-loop-left_rest.result.0.now c.in-Some-None.field-0-0.now
    (rw c.in-Some-None.is-0 at c.first_part.ensures.more)
    (rw c.in-Some-None.is-1 at c.first_part-in-loop-left_rest.ensures.last)
    (sym c.cmp_part-ordering.ensures ∙ equal_from c.cmp_part-ordering.result (sym c.ne.ensures ∙ c.if-ne.false)))
    ∙ c.loop-left_rest.invariant
