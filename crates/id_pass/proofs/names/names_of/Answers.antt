use Rattle.std.proofs.Common.{All, IsUtf8, ◌≡◌, List, String, Global, map, refl, sym, subst, ◌∙◌}
use Rattle.std.specs.BTreeMap.{keys}
use Rattle.std.specs.Cmp.Lexicographic.{slice_cmp}
use Rattle.std.specs.List.Sorted.{IsStrictlySortedBy}
use Rattle.std.specs.Ordering.{nat_cmp}
use Rattle.std.specs.String.{string_bytes}
use Rattle.id_pass.proofs.Named.{bytes_rise, keys-bodies_of, keys_are_texts}
use Rattle.id_pass.proofs.Puts.{ended}
use Rattle.id_pass.proofs.names.names_of.Goals as goal

all_named : (c : goal.In-None) → c.loop-name.names ≡ map string_bytes (keys c.args.named.now)
all_named c = ended (λ (ks : List (String Global)). map string_bytes ks) c.loop-name.names _ c.loop-name.name-iterator c.in-None.ensures.steps.0 refl c.loop-name.invariant

pub returns-clause-names : goal.returns-clause-names
returns-clause-names c = all_named c ∙ sym (keys-bodies_of c.args.named.now c.keys-name-items.ensures.ordered)

pub returns-clause-rising : goal.returns-clause-rising
returns-clause-rising c = subst (IsStrictlySortedBy (slice_cmp nat_cmp)) (sym (all_named c)) (bytes_rise (keys c.args.named.now) c.keys-name-items.ensures.ordered)

pub returns-clause-texts : goal.returns-clause-texts
returns-clause-texts c = subst (All IsUtf8) (sym (all_named c)) (keys_are_texts (keys c.args.named.now))
