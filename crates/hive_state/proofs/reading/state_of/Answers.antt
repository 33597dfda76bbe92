use Rattle.std.proofs.Common.{Some, ap}
use Rattle.hive_state.specs.declared.reading.Marks.{Marks}
use Rattle.hive_state.proofs.Parts.{same_fields, same_state}
use Rattle.hive_state.proofs.reading.state_of.Goals as goal

pub returns : goal.returns
returns c = λ s marks names entries.
    ap Some (same_state _ s (same_fields _ _ (ap (λ (m : Marks). m.at) marks) (ap (λ (m : Marks). m.touched) marks) (ap (λ (m : Marks). m.stamp) marks)
    (ap (λ (m : Marks). m.dirty) marks) names entries))
