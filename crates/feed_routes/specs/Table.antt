-- The table of routes. It is this project's own: the protocol leaves the paths below a base address to each feed.
use Rattle.std.specs.Prelude.{◌≡◌, ◌≢◌, ℕ, List, ◌++◌, codes}
use Rattle.fold_core.specs.declared.hive.HiveName.{HiveName}
use Rattle.fold_core.specs.declared.hive.HiveName.TheVariants.{Plain, SemVer2, Content, Auto}
use Rattle.http_wire.specs.Response.{verb_name}
use Rattle.http_wire.specs.declared.response.Verb.{Verb}
use Rattle.http_wire.specs.declared.response.Verb.TheVariants.{Get, Post}
use Rattle.feed_routes.specs.Cuts.{target_path, target_query}
use Rattle.feed_routes.specs.Names.{IsCatalogName, IsContentRest, IsRegistrationRest}
use Rattle.feed_routes.specs.declared.ask.Ask.{Ask}
use Rattle.feed_routes.specs.declared.ask.Ask.TheVariants as ask
use Rattle.feed_routes.specs.declared.ask.CommitWord.TheVariants.{Publish, Unlist, Relist, Delete}

-- the segment of a path that stands for a hive
abbrev pub hive_segment : HiveName → List ℕ
hive_segment Plain = codes "plain"
hive_segment SemVer2 = codes "semver2"
hive_segment Content = codes "content"
hive_segment Auto = codes "auto"

-- the path begins with the root, and what follows is the document's name without its `d/`
abbrev pub IsDocumentPath : List ℕ → (List ℕ → Type 0) → List ℕ → List ℕ → Type 0
IsDocumentPath root IsRest path name = (rest : List ℕ) × IsRest rest × (path ≡ root ++ rest) × (name ≡ codes "d/" ++ rest)

-- what a path and a query ask for, under the method that the table has for it
abbrev pub AsksFor : List ℕ → List ℕ → Ask → Type 0
AsksFor path query ask.Index = path ≡ codes "/v3/index.json"
AsksFor path query (ask.CatalogDoc name) = IsCatalogName name × (path ≡ codes "/v3/catalog/" ++ name)
AsksFor path query (ask.Registration Plain name) = IsDocumentPath (codes "/v3/registration/") IsRegistrationRest path name
AsksFor path query (ask.Registration SemVer2 name) = IsDocumentPath (codes "/v3/registration-semver2/") IsRegistrationRest path name
AsksFor path query (ask.Registration _ name) = ⊥
AsksFor path query (ask.Flat name) = IsDocumentPath (codes "/v3/flat/") IsContentRest path name
AsksFor path query (ask.Autocomplete text) = (path ≡ codes "/v3/autocomplete") × (text ≡ query)
AsksFor path query (ask.Commit Publish) = path ≡ codes "/admin/publish"
AsksFor path query (ask.Commit Unlist) = path ≡ codes "/admin/unlist"
AsksFor path query (ask.Commit Relist) = path ≡ codes "/admin/list"
AsksFor path query (ask.Commit Delete) = path ≡ codes "/admin/delete"
AsksFor path query (ask.Job hive) = path ≡ codes "/admin/job/" ++ hive_segment hive
AsksFor path query (ask.Cursor hive) = path ≡ codes "/admin/cursor/" ++ hive_segment hive
AsksFor path query ask.Stop = path ≡ codes "/admin/stop"

-- the table's method for it
abbrev pub verb_of : Ask → Verb
verb_of (ask.Commit word) = Post
verb_of (ask.Job hive) = Post
verb_of ask.Stop = Post
verb_of _ = Get

-- the path of the target is in the table, for this
abbrev pub IsTargetOf : List ℕ → Ask → Type 0
IsTargetOf target asked = AsksFor (target_path target) (target_query target) asked

-- the table has a route for the method and the target, which asks for this
pub record HasRoute (method target : List ℕ) (asked : Ask) : Type 0 where
  pub path : IsTargetOf target asked
  pub allowed : method ≡ verb_name (verb_of asked)

-- the path of the target has no route
abbrev pub IsUnknown : List ℕ → Type 0
IsUnknown target = (asked : Ask) → IsTargetOf target asked → ⊥

-- the path of the target has a route of this verb, which isn't the method
pub record NeedsVerb (method target : List ℕ) (verb : Verb) : Type 0 where
  pub known : (asked : Ask) × IsTargetOf target asked × (verb_of asked ≡ verb)
  pub other : method ≢ verb_name verb
