use Rattle.hive_laws.proofs.AreaRounds.{empty_area, ended}
use Rattle.hive_laws.proofs.MoreArea.{more_area}
use Rattle.hive_laws.proofs.areas.areas_stay_sound.Goals as goal

pub returns-clause-start : goal.returns-clause-start
returns-clause-start c = empty_area

pub returns-clause-more : goal.returns-clause-more
returns-clause-more c = more_area

pub returns-clause-ended : goal.returns-clause-ended
returns-clause-ended c = ended
