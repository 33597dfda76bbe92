use Rattle.std.proofs.Common.{sym, ◌∙◌}
use Rattle.hive_laws.proofs.AreaTells.{cursor_tells, no_cursor_tells, stored_is}
use Rattle.hive_laws.proofs.areas.areas_tell_states.Goals as goal

pub returns-clause-states : goal.returns-clause-states
returns-clause-states c = λ cs before at k states others m area other key.
    stored_is cs at states m area key (others key) (other.values key) (other.held key)

pub returns-clause-cursor : goal.returns-clause-cursor
returns-clause-cursor c = λ cs at states m lawful le area mark value is. cursor_tells cs at lawful le mark value (sym area.cursor ∙ is)

pub returns-clause-no_cursor : goal.returns-clause-no_cursor
returns-clause-no_cursor c = λ cs at states m area is. no_cursor_tells cs at (sym area.cursor ∙ is)
