-- An id's documents by name.
use Rattle.std.specs.Prelude.{ℕ, List, map, Bool, false, not, ◌==◌, ◌&&◌, String, if◌then◌else◌}
use Rattle.std.specs.BTreeMap.{BTreeMap}
use Rattle.std.specs.Cmp.Lexicographic.{slice_cmp}
use Rattle.std.specs.FinMap.{FinMap, from_entries, get}
use Rattle.std.specs.Option.{option_map_or}
use Rattle.std.specs.Ordering.{nat_cmp}
use Rattle.std.specs.Str.{bytes_eq}
use Rattle.std.specs.String.{string_bytes}
use Rattle.fold_core.specs.declared.doc.Body.{Body}
use Rattle.fold_core.specs.declared.doc.Body.TheVariants.{Made, Staged as FromPublish}
use Rattle.fold_core.specs.declared.doc.Doc.{Doc}

-- bodies under their names, in byte order
abbrev pub NamedBodies : Type 0
NamedBodies = FinMap (slice_cmp nat_cmp) Body

-- these documents, each under its name
abbrev pub by_name : List Doc → NamedBodies
by_name docs = from_entries (map (λ (d : Doc). (d.name, d.body)) docs)

-- whether two bodies are the same bytes, or the same part of one publish
abbrev pub is_same_body : Body → Body → Bool
is_same_body (Made bytes) (Made others) = bytes_eq bytes others
is_same_body (Made bytes) (FromPublish number place nuspec) = false
is_same_body (FromPublish number place nuspec) (Made others) = false
is_same_body (FromPublish number place nuspec) (FromPublish n p other) = (number == n) && ((place == p) && (if nuspec then other else not other))

-- whether these have this body under this name
abbrev pub has_document : NamedBodies → List ℕ → Body → Bool
has_document docs name body = option_map_or (is_same_body body) (get docs name) false

-- what a map spells
unfoldable pub bodies_of : {Y : Type 0} → BTreeMap (String Y) Body → NamedBodies
bodies_of {Y} named = from_entries (map (λ (e : String Y × Body). (string_bytes e.0, e.1)) named.entries)
