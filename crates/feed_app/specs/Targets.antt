-- What the path of a `get` asks for, by the routes.
use Rattle.std.specs.Prelude.{ℕ, List, ⊤}
use Rattle.feed_routes.specs.Table.{IsTargetOf, IsUnknown}
use Rattle.feed_routes.specs.declared.ask.Ask.{Ask}
use Rattle.feed_routes.specs.declared.ask.Ask.TheVariants as ask
use Rattle.fold_core.specs.declared.hive.HiveName.TheVariants as hives
use Rattle.feed_app.specs.declared.hives.ServedHive.{ServedHive}
use Rattle.feed_app.specs.declared.hives.ServedHive.TheVariants.{Plain, SemVer2, Content}
use Rattle.feed_app.specs.declared.target.Target.{Target}
use Rattle.feed_app.specs.declared.target.Target.TheVariants as target

-- what asks for this hive's document of a name in its area
abbrev pub hive_ask : ServedHive → List ℕ → Ask
hive_ask Plain name = ask.Registration hives.Plain name
hive_ask SemVer2 name = ask.Registration hives.SemVer2 name
hive_ask Content name = ask.Flat name

-- the path asks for this document of the catalog
abbrev pub IsCatalogPath : List ℕ → List ℕ → Type 0
IsCatalogPath path name = IsTargetOf path (ask.CatalogDoc name)

-- the path asks for this document of a hive
abbrev pub IsHivePath : ServedHive → List ℕ → List ℕ → Type 0
IsHivePath hive path name = IsTargetOf path (hive_ask hive name)

-- the path asks for the service index
abbrev pub IsIndexPath : List ℕ → Type 0
IsIndexPath path = IsTargetOf path ask.Index

-- a server alone answers this: autocomplete, and what stands under `/admin/`
abbrev pub IsOfServer : Ask → Type 0
IsOfServer (ask.Autocomplete query) = ⊤
IsOfServer (ask.Commit word) = ⊤
IsOfServer (ask.Job hive) = ⊤
IsOfServer (ask.Cursor hive) = ⊤
IsOfServer ask.Stop = ⊤
IsOfServer _ = ⊥

-- the path asks for something that a server alone answers
abbrev pub IsServerPath : List ℕ → Type 0
IsServerPath path = (asked : Ask) × IsTargetOf path asked × IsOfServer asked

-- what a path asks for
abbrev pub Names : List ℕ → Target → Type 0
Names path target.Index = IsIndexPath path
Names path (target.Catalog name) = IsCatalogPath path name
Names path (target.Hive hive name) = IsHivePath hive path name
Names path target.Served = IsServerPath path
Names path target.Unknown = IsUnknown path
