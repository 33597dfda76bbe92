use Rattle.id_pass.proofs.Named.{all_left, spells_none, none_named}
use Rattle.id_pass.proofs.by_name.by_name.Goals as goal

pub loop-doc-init : goal.loop-doc-init
loop-doc-init c = (
  all_left c.args.docs c.into_vec-docs.result.items c.into_vec-docs.ensures,
  none_named c.args.docs c.into_vec-docs.result.items c.into_vec-docs.ensures _ (spells_none c.new-named.result c.new-named.ensures.empty),
)
