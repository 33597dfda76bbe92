use Rattle.std.proofs.Common.{arith}
use Rattle.hive_laws.proofs.OneId.{advance, empty_sound}
use Rattle.hive_laws.proofs.ids.cursors_move_on.Goals as goal

pub returns-clause-start : goal.returns-clause-start
returns-clause-start c = λ f cs laws. record { cursor = omega arith; ids = λ key. empty_sound f cs laws key }

pub returns-clause-id : goal.returns-clause-id
returns-clause-id c = λ f cs laws at k key. advance f cs laws key at k

pub returns-clause-hive : goal.returns-clause-hive
returns-clause-hive c = λ f cs laws at k states held sound le settled.
    record { cursor = le; ids = λ key. advance f cs laws key at k (states key) held (sound.ids key) le (settled key) }
