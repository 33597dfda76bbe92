use Rattle.hive_laws.proofs.AreaRounds.{pass_clean, pass_sound, prefix_changes, prefix_sound}
use Rattle.hive_laws.proofs.areas.passes_keep_areas.Goals as goal

pub returns-clause-sound : goal.returns-clause-sound
returns-clause-sound c = λ f cs laws at k key states m plan starts n.
    (_, prefix_sound f cs laws at k key states m plan starts.area starts.item starts.reached starts.leads n)

pub returns-clause-others : goal.returns-clause-others
returns-clause-others c = λ f cs laws at k key states m plan starts. prefix_changes f cs laws at k key states m plan starts.area starts.item starts.reached starts.leads

pub returns-clause-done : goal.returns-clause-done
returns-clause-done c = λ f cs laws at k key states m plan starts. pass_sound f cs laws at k key states m plan starts.area starts.item starts.reached starts.leads

pub returns-clause-clean : goal.returns-clause-clean
returns-clause-clean c = λ f cs laws at k key states m plan starts. pass_clean f cs laws at k key states m plan starts.area starts.item starts.reached starts.leads
