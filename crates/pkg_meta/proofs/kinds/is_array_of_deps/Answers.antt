use Rattle.pkg_meta.proofs.Lists.{array_all}
use Rattle.pkg_meta.specs.Kinds.{is_dep}
use Rattle.pkg_meta.proofs.kinds.is_array_of_deps.Goals as goal

pub returns-in-Some : goal.returns-in-Some
returns-in-Some c = array_all _ _ _ _ is_dep c.in-Some.is c.as_array.ensures c.as_slice.ensures.value c.are_deps.ensures
