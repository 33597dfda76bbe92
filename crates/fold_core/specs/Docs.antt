-- The documents of an id in a hive.
use Rattle.std.specs.Prelude.{ℕ, zero, suc, List, [], ◌∷◌, ◌++◌, codes, Bool, ◌==◌, ◌&&◌, Option, Some, None, if◌then◌else◌}
use Rattle.std.specs.List.{slice_get}
use Rattle.std.specs.Option.{option_and_then, option_map}
use Rattle.std.specs.Str.{bytes_eq}
use Rattle.pkg_meta.specs.Catalog.{Catalog}
use Rattle.pkg_meta.specs.declared.commit.Staged.{Staged}
use Rattle.pkg_meta.specs.declared.commit.Stored.{Stored}
use Rattle.pkg_meta.specs.declared.commit.Commit.{Commit}
use Rattle.fold_core.specs.Entries.{Keeps, entries_of}
use Rattle.fold_core.specs.Items.{commits_of, items_of, touched, touched_stamp}
use Rattle.fold_core.specs.declared.doc.Body.{Body}
use Rattle.fold_core.specs.declared.doc.Body.TheVariants.{Made, Staged as FromPublish}
use Rattle.fold_core.specs.declared.doc.Doc.{Doc}
use Rattle.pkg_meta.specs.declared.entry.Entry.{Entry}

-- the text before the first `/`, none where there is no `/`
abbrev pub before_slash : List ℕ → Option (List ℕ)
before_slash [] = None
before_slash (b ∷ bs) = if b == 47 then Some [] else option_map (λ (front : List ℕ). b ∷ front) (before_slash bs)

-- the key of the id whose document has this name: the text between `d/` and the next `/`
abbrev pub owner : List ℕ → Option (List ℕ)
owner [] = None
owner (a ∷ []) = None
owner (a ∷ b ∷ rest) = if (a == 100) && (b == 47) then before_slash rest else None

-- a name below an id's folder
abbrev pub name_below : List ℕ → List ℕ → List ℕ
name_below key rest = codes "d/" ++ (key ++ (codes "/" ++ rest))

-- the name of an id's index
abbrev pub id_index_name : List ℕ → List ℕ
id_index_name key = name_below key (codes "index.json")

-- which documents a hive makes of a base address, a key, the last commit that has an item of the id, its stamp, and the entries
abbrev pub MakesDocs : Type 0
MakesDocs = List ℕ → List ℕ → ℕ → ℕ → List Entry → List Doc

-- an id's documents after these commits
abbrev pub docs_of : Keeps → MakesDocs → List ℕ → List Commit → List ℕ → List Doc
docs_of keeps makes base cs key = makes base key (touched cs key) (touched_stamp cs key) (entries_of keeps (items_of cs key))

-- the document with this name
abbrev pub body_named : List ℕ → List Doc → Option Body
body_named name [] = None
body_named name (d ∷ docs) = if bytes_eq name d.name then Some d.body else body_named name docs

-- what the publish at this place of a commit brought
abbrev pub brought_in : ℕ → Stored → Option Staged
brought_in place c = option_and_then (λ (s : Option Staged). s) (slice_get c.staged place)

-- what the publish at this number and place brought
abbrev pub brought_at : Catalog → ℕ → ℕ → Option Staged
brought_at cs zero place = None
brought_at cs (suc n) place = option_and_then (brought_in place) (slice_get cs n)

-- a publish's manifest or its package
abbrev pub part : Bool → Staged → List ℕ
part nuspec s = if nuspec then s.nuspec else s.nupkg

-- the bytes of a body, where the catalog has them
abbrev pub body_bytes : Catalog → Body → Option (List ℕ)
body_bytes cs (Made bytes) = Some bytes
body_bytes cs (FromPublish number place nuspec) = option_map (part nuspec) (brought_at cs number place)

-- the bytes of the document that an id has under a name
abbrev pub id_doc : Keeps → MakesDocs → List ℕ → Catalog → List ℕ → List ℕ → Option (List ℕ)
id_doc keeps makes base cs key name = option_and_then (body_bytes cs) (body_named name (docs_of keeps makes base (commits_of cs) key))
