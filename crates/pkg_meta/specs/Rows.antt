-- The table of members and kinds as the code has it.
use Rattle.std.specs.Prelude.{ℕ, List}
use Rattle.pkg_meta.specs.declared.kinds.Kind.{Kind}
use Rattle.pkg_meta.specs.declared.kinds.Row.{Row}

-- a row as a pair
abbrev pub row_of : Row → List ℕ × Kind
row_of row = (row.name.now, row.kind)
