use Rattle.hive_laws.proofs.OneId.{idle, taken_up}
use Rattle.hive_laws.proofs.ids.sound_ids_are_clean.Goals as goal

pub returns-clause-idle : goal.returns-clause-idle
returns-clause-idle c = λ f cs laws at k key. idle f cs laws key at k

pub returns-clause-taken_up : goal.returns-clause-taken_up
returns-clause-taken_up c = λ f cs laws at k key. taken_up f cs laws key at k
