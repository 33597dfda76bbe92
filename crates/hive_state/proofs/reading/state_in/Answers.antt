use Rattle.std.proofs.Common.{◌∙◌, sym}
use Rattle.std.proofs.lemmas.Option.{same_Some}
use Rattle.hive_state.proofs.reading.state_in.Goals as goal

pub returns : goal.returns
returns c = λ s v seen.
    c.state_of.ensures s (same_Some _ _ (sym c.in-Some.is ∙ c.marks_in.ensures s v seen)) (c.in_ok-names.ensures s seen) (same_Some _ _ (sym c.in-Some-2.is ∙ c.in_ok-entries.ensures s v seen))
