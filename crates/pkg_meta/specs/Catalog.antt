-- A catalog: a list of commits, with what each publish brought.
use Rattle.std.specs.Prelude.{List}
pub use Rattle.pkg_meta.specs.declared.commit.Staged.{Staged}
pub use Rattle.pkg_meta.specs.declared.commit.Stored.{Stored}

-- the commits of a feed, from the first on
abbrev pub Catalog : Type 0
Catalog = List Stored
