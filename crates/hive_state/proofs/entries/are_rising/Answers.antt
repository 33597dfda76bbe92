use Rattle.std.proofs.Common.{rules}
use Rattle.std.proofs.lemmas.List.Sorted.{answers_always}
use Rattle.std.specs.Ordering.{is_lt}
use Rattle.nuget_version.specs.Precedence.{precedence}
use Rattle.nuget_version.proofs.Order.{precedence_total}
use Rattle.pkg_meta.specs.Entries.{version_in}
use Rattle.hive_state.proofs.Rising.{tells_keys}
use Rattle.hive_state.proofs.entries.are_rising.Goals as goal

pub returns : goal.returns
returns c =
    tells_keys precedence version_in precedence_total c.args.entries.now c.is_sorted_by.result
    (c.is_sorted_by.ensures.cases (λ x y. is_lt (precedence (version_in x) (version_in y))) (answers_always _ _ _ (λ f a r g called. search rules)))
