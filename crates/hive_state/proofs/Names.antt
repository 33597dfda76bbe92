-- A state's name tells the id's key.
use Rattle.std.proofs.Common.{◌++◌, codes}
use Rattle.std.proofs.lemmas.List.{append_cancel_left, append_cancel_right}
use Rattle.hive_state.specs.Laws.{NamesDiffer}

pub names_differ : NamesDiffer
names_differ key other e = append_cancel_right key other (codes ".json") (append_cancel_left (codes "s/") (key ++ codes ".json") (other ++ codes ".json") e)
