use Rattle.feed_laws.proofs.Called.{commit_meets}
use Rattle.feed_laws.proofs.HiveCalled.{pass_meets}
use Rattle.feed_laws.proofs.laws.calls_meet_conditions.Goals as goal

pub returns-clause-commit : goal.returns-clause-commit
returns-clause-commit c = λ m base cs x whole spells settled. commit_meets base cs x m whole spells settled

pub returns-clause-pass : goal.returns-clause-pass
returns-clause-pass c = λ f cs laws cursor k key states m plan starts.
    pass_meets f cs k laws cursor key (states key) m plan (starts.area.sound.ids key)
    (record { value = starts.area.area.values key; held = starts.area.area.held key }) starts.item starts.reached starts.leads
