use Rattle.hive_laws.proofs.OnePass.{steps_keep}
use Rattle.hive_laws.proofs.passes.steps_keep_sound.Goals as goal

pub returns : goal.returns
returns c = λ f cs laws at k key steps kept sound item reached. steps_keep f cs laws at k key item reached steps kept sound
