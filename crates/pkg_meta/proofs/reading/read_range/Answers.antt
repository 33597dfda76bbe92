use Rattle.std.proofs.Common.{IfNone, IfOk, List, Option, subst, sym, ℕ}
use Rattle.pkg_meta.specs.Refusals.{IsNoRange}
use Rattle.pkg_meta.proofs.Matches.{seen_some}
use Rattle.pkg_meta.proofs.reading.read_range.Goals as goal

pub returns-in-Some-clause-none : goal.returns-in-Some-clause-none
returns-in-Some-clause-none c =
    subst (λ (text : Option (List ℕ)). IfOk c.read_range_text.result (λ o. IfNone o (IsNoRange text))) (sym (seen_some _ _ _ _ c.in-Some.is c.text_in.ensures)) c.read_range_text.ensures.none
