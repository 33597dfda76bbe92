use Rattle.std.proofs.Common.{take}
use Rattle.std.specs.Prelude.{IsTrue}
use Rattle.std.specs.List.{list_all}
use Rattle.nuget_version.specs.Parts.{is_part_byte}
use Rattle.nuget_version.proofs.walk.part_len.Given as goal

abbrev pub invariant-loop-at : goal.invariant-loop-at
invariant-loop-at l = IsTrue (list_all is_part_byte (take l.at l.text))
