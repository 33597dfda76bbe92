-- What holds of the entries and the documents of every hive.
use Rattle.std.specs.Prelude.{◌≡◌, ◌≤◌, ℕ, List, Some, map, take, drop, true, ◌==◌, ◌&&◌, Bool, not, IsTrue, if◌then◌else◌}
use Rattle.std.specs.List.{AllByRecursion, IsDistinct, list_all, list_any}
use Rattle.std.specs.Ordering.{eq_by_cmp}
use Rattle.std.specs.Str.{bytes_eq}
use Rattle.nuget_version.specs.Precedence.{precedence}
use Rattle.nuget_version.specs.declared.version.Version.{Version}
use Rattle.pkg_meta.specs.Items.{version_of}
use Rattle.pkg_meta.specs.Lawful.{Placed}
use Rattle.pkg_meta.specs.declared.commit.Commit.{Commit}
use Rattle.fold_core.specs.Docs.{owner}
use Rattle.fold_core.specs.Entries.{Keeps, entries_of, entry_of, find_entry}
use Rattle.fold_core.specs.Items.{items_of}
use Rattle.fold_core.specs.Places.{all_applied, applied}
use Rattle.fold_core.specs.declared.doc.Body.{Body}
use Rattle.fold_core.specs.declared.doc.Body.TheVariants.{Made, Staged as FromPublish}
use Rattle.fold_core.specs.declared.doc.Doc.{Doc}
use Rattle.pkg_meta.specs.declared.entry.Entry.{Entry}

-- the text has no `/`, as no key has
abbrev pub IsWhole : List ℕ → Type 0
IsWhole key = IsTrue (list_all (λ (b : ℕ). not (b == 47)) key)

-- each document's name is owned by this key
abbrev pub AreOwned : List ℕ → List Doc → Type 0
AreOwned key docs = AllByRecursion (λ (d : Doc). owner d.name ≡ Some key) docs

-- no two documents have one name
abbrev pub HaveOwnNames : List Doc → Type 0
HaveOwnNames docs = IsDistinct bytes_eq (map (λ (d : Doc). d.name) docs)

-- whether the entry's publish stands at this number and place
abbrev pub has_origin : ℕ → ℕ → Entry → Bool
has_origin number place e = (e.details.origin_number == number) && (e.details.origin_place == place)

-- a publish's bytes are those of the publish at the origin of one of the entries
abbrev pub IsOfEntry : List Entry → Body → Type 0
IsOfEntry es (Made bytes) = Unit {0}
IsOfEntry es (FromPublish number place nuspec) = list_any (has_origin number place) es ≡ true

-- each of the documents is such
abbrev pub AreOfEntries : List Entry → List Doc → Type 0
AreOfEntries es docs = AllByRecursion (λ (d : Doc). IsOfEntry es d.body) docs

-- each entry's publish isn't after the entry's item, and that isn't after this number
abbrev pub AreAfterOrigins : ℕ → List Entry → Type 0
AreAfterOrigins top es = AllByRecursion (λ (e : Entry). (e.details.origin_number ≤ e.number) × (e.number ≤ top)) es

-- with an item applied its version has what the hive keeps of it, and another version has what it had
abbrev pub ChangesOneVersion : Keeps → List Entry → Placed → Type 0
ChangesOneVersion keeps es x =
    (v : Version) → find_entry v (applied keeps es x) ≡ (if eq_by_cmp precedence v (version_of x.what) then entry_of keeps x else find_entry v es)

-- the items behind the first k commits turn the entries after these into the entries after all
abbrev pub CarriesOn : Keeps → List Commit → List ℕ → ℕ → Type 0
CarriesOn keeps cs key k = all_applied keeps (entries_of keeps (items_of (take k cs) key)) (items_of (drop k cs) key) ≡ entries_of keeps (items_of cs key)
