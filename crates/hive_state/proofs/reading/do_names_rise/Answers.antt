use Rattle.std.proofs.Common.{rules}
use Rattle.std.proofs.lemmas.Cmp.{nat_list_cmp_total}
use Rattle.std.proofs.lemmas.List.Sorted.{answers_always}
use Rattle.std.specs.Cmp.Lexicographic.{slice_cmp}
use Rattle.std.specs.Ordering.{is_lt, nat_cmp}
use Rattle.hive_state.proofs.Rising.{tells}
use Rattle.hive_state.proofs.reading.do_names_rise.Goals as goal

pub returns : goal.returns
returns c =
    tells (slice_cmp nat_cmp) nat_list_cmp_total c.args.names.now c.is_sorted_by.result
    (c.is_sorted_by.ensures.cases (λ x y. is_lt (slice_cmp nat_cmp x y)) (answers_always _ _ _ (λ f a r g called. search rules)))
