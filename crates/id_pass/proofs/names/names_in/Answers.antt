use Rattle.std.proofs.Common.{List, String, Global, map, refl, sym, subst}
use Rattle.std.specs.Cmp.Lexicographic.{slice_cmp}
use Rattle.std.specs.List.Sorted.{IsStrictlySortedBy}
use Rattle.std.specs.Ordering.{nat_cmp}
use Rattle.std.specs.String.{string_bytes}
use Rattle.id_pass.proofs.Named.{bytes_rise}
use Rattle.id_pass.proofs.Puts.{ended}
use Rattle.id_pass.proofs.names.names_in.Goals as goal

pub returns-clause-rising : goal.returns-clause-rising
returns-clause-rising c =
    subst (IsStrictlySortedBy (slice_cmp nat_cmp))
    (sym (ended (λ (ks : List (String Global)). map string_bytes ks) c.loop-name.names _ c.loop-name.name-iterator c.in-None.ensures.steps.0 refl c.loop-name.invariant))
    (bytes_rise c.args.all.keys c.into_iter-name-iterator.ensures.into_iter_gives.4)
