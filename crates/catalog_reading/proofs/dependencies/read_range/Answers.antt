use Rattle.std.proofs.Common.{List, ℕ, ap, Some, subst, sym}
use Rattle.std.proofs.lemmas.Result.{IfOk-weaker}
use Rattle.version_range.specs.Grammar.{SpellsRange}
use Rattle.version_range.proofs.OneRange.{one_range}
use Rattle.version_range.proofs.ReadBack.{reads_back}
use Rattle.catalog_reading.proofs.dependencies.read_range.Goals as goal

pub returns-in-Ok : goal.returns-in-Ok
returns-in-Ok c = λ r is. ap Some (one_range c.args.text.now c.in-Ok.range r c.in-Ok.ensures.ok (subst (λ (t : List ℕ). SpellsRange t r) (sym is) (reads_back r)))

pub returns-in-Err : goal.returns-in-Err
returns-in-Err c = λ r is.
    IfOk-weaker c.refused.result _ _ (λ o h. absurd (h.0 (c.in-Err.ensures.accepts r (subst (λ (t : List ℕ). SpellsRange t r) (sym is) (reads_back r))))) c.refused.ensures
