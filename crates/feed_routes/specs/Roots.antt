-- By what a path is looked up: the root of its route, and what stands behind it.
use Rattle.std.specs.Prelude.{◌≡◌, ℕ, List, [], ◌++◌, codes, MatchOption, Option}
use Rattle.fold_core.specs.declared.hive.HiveName.{HiveName}
use Rattle.fold_core.specs.declared.hive.HiveName.TheVariants.{Plain, SemVer2}
use Rattle.feed_routes.specs.Names.{IsCatalogName, IsContentRest, IsRegistrationRest}
use Rattle.feed_routes.specs.Table.{hive_segment}
use Rattle.feed_routes.specs.declared.ask.Ask.{Ask}
use Rattle.feed_routes.specs.declared.ask.Ask.TheVariants as ask
use Rattle.feed_routes.specs.declared.ask.CommitWord.TheVariants.{Publish, Unlist, Relist, Delete}
use Rattle.feed_routes.specs.declared.roots.Root.{Root}
use Rattle.feed_routes.specs.declared.roots.Root.TheVariants as root

-- the text of a root
abbrev pub root_text : Root → List ℕ
root_text root.Index = codes "/v3/index.json"
root_text root.Catalog = codes "/v3/catalog/"
root_text root.Plain = codes "/v3/registration/"
root_text root.SemVer2 = codes "/v3/registration-semver2/"
root_text root.Flat = codes "/v3/flat/"
root_text root.Autocomplete = codes "/v3/autocomplete"
root_text root.Publish = codes "/admin/publish"
root_text root.Unlist = codes "/admin/unlist"
root_text root.Relist = codes "/admin/list"
root_text root.Delete = codes "/admin/delete"
root_text root.Job = codes "/admin/job/"
root_text root.Cursor = codes "/admin/cursor/"
root_text root.Stop = codes "/admin/stop"

-- the second segment of a root, by which the roots are told apart
abbrev pub root_segment : Root → List ℕ
root_segment root.Index = codes "index.json"
root_segment root.Catalog = codes "catalog"
root_segment root.Plain = codes "registration"
root_segment root.SemVer2 = codes "registration-semver2"
root_segment root.Flat = codes "flat"
root_segment root.Autocomplete = codes "autocomplete"
root_segment root.Publish = codes "publish"
root_segment root.Unlist = codes "unlist"
root_segment root.Relist = codes "list"
root_segment root.Delete = codes "delete"
root_segment root.Job = codes "job"
root_segment root.Cursor = codes "cursor"
root_segment root.Stop = codes "stop"

-- what stands behind the root in the paths that begin with it
abbrev pub IsBehind : Root → List ℕ → Type 0
IsBehind root.Catalog rest = IsCatalogName rest
IsBehind root.Plain rest = IsRegistrationRest rest
IsBehind root.SemVer2 rest = IsRegistrationRest rest
IsBehind root.Flat rest = IsContentRest rest
IsBehind root.Job rest = (hive : HiveName) × (rest ≡ hive_segment hive)
IsBehind root.Cursor rest = (hive : HiveName) × (rest ≡ hive_segment hive)
IsBehind _ rest = rest ≡ []

-- what is asked by a root with this behind it, and this query
abbrev pub AsksBehind : Root → List ℕ → List ℕ → Ask → Type 0
AsksBehind root.Index rest query asked = asked ≡ ask.Index
AsksBehind root.Catalog rest query asked = asked ≡ ask.CatalogDoc rest
AsksBehind root.Plain rest query asked = asked ≡ ask.Registration Plain (codes "d/" ++ rest)
AsksBehind root.SemVer2 rest query asked = asked ≡ ask.Registration SemVer2 (codes "d/" ++ rest)
AsksBehind root.Flat rest query asked = asked ≡ ask.Flat (codes "d/" ++ rest)
AsksBehind root.Autocomplete rest query asked = asked ≡ ask.Autocomplete query
AsksBehind root.Publish rest query asked = asked ≡ ask.Commit Publish
AsksBehind root.Unlist rest query asked = asked ≡ ask.Commit Unlist
AsksBehind root.Relist rest query asked = asked ≡ ask.Commit Relist
AsksBehind root.Delete rest query asked = asked ≡ ask.Commit Delete
AsksBehind root.Job rest query asked = (hive : HiveName) × (rest ≡ hive_segment hive) × (asked ≡ ask.Job hive)
AsksBehind root.Cursor rest query asked = (hive : HiveName) × (rest ≡ hive_segment hive) × (asked ≡ ask.Cursor hive)
AsksBehind root.Stop rest query asked = asked ≡ ask.Stop

-- an answer that is this where such is the case, and nothing else
abbrev pub IsWhen : Type 0 → Ask → Option Ask → Type 0
IsWhen P asked found = MatchOption found (P → ⊥) (λ (a : Ask). P × (a ≡ asked))

-- what is found behind a root: what is asked for, and nothing where nothing that is asked for stands there
abbrev pub IsFound : Root → List ℕ → List ℕ → Option Ask → Type 0
IsFound r rest query found = MatchOption found (IsBehind r rest → ⊥) (λ (a : Ask). IsBehind r rest × AsksBehind r rest query a)
