-- What the reader of a cursor document reads: marks of the values that the code's types have.
use Rattle.std.specs.Prelude.{◌<◌, ◌≤◌, ◌^◌}
use Rattle.cursor_doc.specs.declared.mark.Mark.{Mark}

-- a number of 32 bits, and a moment
pub record IsMarkValue (mark : Mark) : Type 0 where
  pub number : mark.number < 2 ^ 32
  pub stamp : mark.stamp ≤ 3_155_378_975_999_999_999
