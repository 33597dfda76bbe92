use Rattle.flat_container.proofs.content.ContentHive.docs.Goals as goal

pub returns : goal.returns
returns c = c.content_docs.ensures c.args._base.now c.args._touched c.args._touched_stamp
