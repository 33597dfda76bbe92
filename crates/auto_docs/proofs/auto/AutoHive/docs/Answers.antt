use Rattle.auto_docs.proofs.auto.AutoHive.docs.Goals as goal

pub returns : goal.returns
returns c = c.auto_docs.ensures c.args._base.now c.args._touched c.args._touched_stamp
