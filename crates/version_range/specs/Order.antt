-- The ends of a range.
use Rattle.std.specs.Prelude.{Bool, true, false, ◌&&◌, Option, Some, None}
use Rattle.std.specs.declared.cmp.Ordering.{Ordering}
use Rattle.std.specs.declared.cmp.Ordering.TheVariants.{Less, Equal, Greater}
use Rattle.nuget_version.specs.declared.version.Version.{Version}
use Rattle.nuget_version.specs.Precedence.{precedence}

-- a lower end is below an upper one, or equal to it where both are included
abbrev pub may_meet : Ordering → Bool → Bool → Bool
may_meet Less low_in high_in = true
may_meet Equal low_in high_in = low_in && high_in
may_meet Greater low_in high_in = false

-- the ends aren't inverted; an absent end never is
abbrev pub are_ordered : Option Version → Bool → Option Version → Bool → Bool
are_ordered None low_in high high_in = true
are_ordered (Some low) low_in None high_in = true
are_ordered (Some low) low_in (Some high) high_in = may_meet (precedence low high) low_in high_in
