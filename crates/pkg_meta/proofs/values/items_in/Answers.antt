use Rattle.pkg_meta.proofs.Lists.{items_found}
use Rattle.pkg_meta.proofs.values.items_in.Goals as goal

pub returns-in-Some : goal.returns-in-Some
returns-in-Some c = items_found _ _ _ _ c.in-Some.is c.array_in.ensures c.as_slice.ensures.value
