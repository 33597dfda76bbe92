use Rattle.std.proofs.Common.{map, take}
use Rattle.serde_json.specs.View.{view}
use Rattle.pkg_meta.specs.Publisher.{IsGroupOf, Match}
use Rattle.pkg_meta.proofs.reading.read_groups.Given as goal

-- the values so far are read
abbrev pub invariant-loop-place : goal.invariant-loop-place
invariant-loop-place l = Match IsGroupOf (take l.place (map view l.values)) l.groups
