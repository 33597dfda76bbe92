-- The state worked out, byte for byte.
use Rattle.std.proofs.Common.{◌≡◌, refl}
use Rattle.std.specs.Fmt.{digits}
use Rattle.serde_json.proofs.OnLiterals.{serde_json_on_literals}
use Rattle.ticks.proofs.Vectors.{stamp_text-of_2024}
use Rattle.nuget_version.specs.Parts.{full_of}
use Rattle.nuget_version.specs.Printed.{full_text, normal_text}
use Rattle.pkg_meta.specs.Trees.{details_tree}
use Rattle.hive_state.specs.First.{first_state, first_state_text, first_version}
use Rattle.hive_state.specs.State.{state_text}

pub first_is : state_text first_state ≡ first_state_text
unfolding state_text first_state first_version details_tree full_text normal_text full_of digits serde_json_on_literals
first_is = rw stamp_text-of_2024 refl
