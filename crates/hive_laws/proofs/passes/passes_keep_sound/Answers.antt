use Rattle.std.proofs.Common.{Option, subst}
use Rattle.pkg_meta.specs.declared.state.StateDoc.{StateDoc}
use Rattle.fold_core.specs.Folds.{Clean}
use Rattle.hive_laws.specs.Plans.{pass_steps}
use Rattle.hive_laws.specs.Steps.{after_steps}
use Rattle.hive_laws.proofs.OnePass.{pass_allowed, pass_cleans, pass_stored, steps_keep}
use Rattle.hive_laws.proofs.passes.passes_keep_sound.Goals as goal

pub returns-clause-allowed : goal.returns-clause-allowed
returns-clause-allowed c = λ f cs laws at k key kept plan starts. pass_allowed f cs laws at k key kept plan starts.sound starts.item starts.leads

pub returns-clause-sound : goal.returns-clause-sound
returns-clause-sound c = λ f cs laws at k key kept plan starts. steps_keep f cs laws at k key starts.item starts.reached (pass_steps key plan) kept starts.sound
    (pass_allowed f cs laws at k key kept plan starts.sound starts.item starts.leads)

pub returns-clause-clean : goal.returns-clause-clean
returns-clause-clean c = λ f cs laws at k key kept plan starts. subst (λ (o : Option StateDoc). Clean f cs key k o (after_steps (pass_steps key plan) kept).held)
    (pass_stored f cs laws at k key kept plan starts.sound starts.item starts.leads) (pass_cleans f cs laws at k key kept plan starts.sound starts.item starts.leads)

pub returns-clause-stored : goal.returns-clause-stored
returns-clause-stored c = λ f cs laws at k key kept plan starts. pass_stored f cs laws at k key kept plan starts.sound starts.item starts.leads
