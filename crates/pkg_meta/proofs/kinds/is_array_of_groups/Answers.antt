use Rattle.pkg_meta.proofs.Lists.{array_all}
use Rattle.pkg_meta.specs.Kinds.{is_group}
use Rattle.pkg_meta.proofs.kinds.is_array_of_groups.Goals as goal

pub returns-in-Some : goal.returns-in-Some
returns-in-Some c = array_all _ _ _ _ is_group c.in-Some.is c.as_array.ensures c.as_slice.ensures.value c.are_groups.ensures
