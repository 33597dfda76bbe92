-- Why a text is refused as an id.
use Rattle.std.specs.Prelude.{◌≡◌, ◌<◌, ◌≤◌, ℕ, List, [], length}
use Rattle.package_id.specs.declared.error.IdErr.{IdErr}
use Rattle.package_id.specs.declared.error.IdErr.TheVariants.{Empty, TooLong, BadByte, Memory}
use Rattle.package_id.specs.Ids.{IsId, IsShortId, IsLongestIdFront}

-- the reason, of which each text has at most one
abbrev pub IsRefusedFor : List ℕ → IdErr → Type 0
IsRefusedFor text Empty = text ≡ []
IsRefusedFor text (TooLong len) = (100 < length text) × (len ≡ length text)
IsRefusedFor text (BadByte at) = (0 < length text) × (length text ≤ 100) × (¬ IsId text) × IsLongestIdFront text at
IsRefusedFor text Memory = IsShortId text
