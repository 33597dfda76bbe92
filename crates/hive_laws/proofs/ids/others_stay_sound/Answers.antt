use Rattle.hive_laws.proofs.OneId.{carry}
use Rattle.hive_laws.proofs.More.{clean_more, more_sound}
use Rattle.hive_laws.proofs.ids.others_stay_sound.Goals as goal

pub returns-clause-carried : goal.returns-clause-carried
returns-clause-carried c = λ f cs laws at key stored held new same. carry f cs laws key held new same at stored

pub returns-clause-more : goal.returns-clause-more
returns-clause-more c = more_sound

pub returns-clause-more_clean : goal.returns-clause-more_clean
returns-clause-more_clean c = λ f cs x k key. clean_more f cs x key k
