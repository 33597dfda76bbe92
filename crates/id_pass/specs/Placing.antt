-- The items that a pass is given.
use Rattle.std.specs.Prelude.{List, map}
use Rattle.pkg_meta.specs.Lawful.{Placed}
use Rattle.id_pass.specs.declared.placed.Placed.{Placed as GivenItem}

-- an item with its commit's number and stamp, and its place there
abbrev pub as_placed : GivenItem → Placed
as_placed x = record { number = x.number; place = x.place; stamp = x.stamp; what = x.item }

-- each of these
abbrev pub all_as_placed : List GivenItem → List Placed
all_as_placed items = map as_placed items
