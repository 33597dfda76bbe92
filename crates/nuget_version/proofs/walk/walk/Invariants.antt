use Rattle.std.proofs.Common.{◌≤◌, ◌-◌, length, take, false}
use Rattle.nuget_version.specs.Walk.{place}
use Rattle.nuget_version.proofs.Fronts.{Reaches}
use Rattle.nuget_version.proofs.walk.walk.Given as goal

abbrev pub invariant-loop-at : goal.invariant-loop-at
invariant-loop-at l = record {
  within : l.at ≤ length l.text;
  reaches : Reaches (take l.at l.text) l.at (place l.stage false) l.found;
}

abbrev pub decreases-loop-at : goal.decreases-loop-at
decreases-loop-at l = length l.text - l.at
