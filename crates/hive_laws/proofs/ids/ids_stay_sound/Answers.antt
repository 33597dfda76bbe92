use Rattle.hive_laws.proofs.OneId.{delete_doc, put_clean, put_dirty, put_doc}
use Rattle.hive_laws.proofs.ids.ids_stay_sound.Goals as goal

pub returns-clause-dirty : goal.returns-clause-dirty
returns-clause-dirty c = λ f cs laws at key. put_dirty f cs laws key at

pub returns-clause-clean : goal.returns-clause-clean
returns-clause-clean c = λ f cs laws at key. put_clean f cs laws key at

pub returns-clause-put : goal.returns-clause-put
returns-clause-put c = λ f cs laws at key. put_doc f cs laws key at

pub returns-clause-removal : goal.returns-clause-removal
returns-clause-removal c = λ f cs laws at key. delete_doc f cs laws key at
