use Rattle.std.proofs.Common.{◌≡◌, ◌++◌, drop, map}
use Rattle.std.specs.List.{filter_map}
use Rattle.serde_json.specs.Find.{as_str}
use Rattle.serde_json.specs.View.{view}
use Rattle.pkg_meta.proofs.values.copy_texts_of.Given as goal

-- the texts so far and those of the values that are left
abbrev pub invariant-loop-value : goal.invariant-loop-value
invariant-loop-value l = l.texts ++ filter_map as_str (map view (drop l.value-index l.values)) ≡ filter_map as_str (map view l.values)
