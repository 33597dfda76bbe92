use Rattle.hive_laws.proofs.AreaRounds.{on_the_way, round_changes, round_settles, round_sound}
use Rattle.hive_laws.proofs.areas.rounds_settle_areas.Goals as goal

pub returns-clause-led : goal.returns-clause-led
returns-clause-led c = round_sound

pub returns-clause-on_the_way : goal.returns-clause-on_the_way
returns-clause-on_the_way c = on_the_way

pub returns-clause-settled : goal.returns-clause-settled
returns-clause-settled c = round_settles

pub returns-clause-others : goal.returns-clause-others
returns-clause-others c = round_changes
