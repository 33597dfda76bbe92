-- Why changes are refused, in parts: those that no catalog takes, and those that this one doesn't take by its rows.
use Rattle.std.specs.Prelude.{◌≡◌, ℕ, ◌+◌, List, [], ◌++◌, length, Bool, false, ◌&&◌, Option, ⊤}
use Rattle.std.specs.List.{count_by}
use Rattle.std.specs.Option.{option_or}
use Rattle.std.specs.Str.{bytes_eq}
use Rattle.nuget_version.specs.Printed.{key_text}
use Rattle.pkg_meta.specs.Catalog.{Catalog}
use Rattle.pkg_meta.specs.Lawful.{newest}
use Rattle.catalog_doc.specs.Catalogs.{all_items, live_count}
use Rattle.catalog_doc.specs.Commits.{changed_id, changed_version, made_from}
use Rattle.catalog_doc.specs.Verdict.{ended, first_reason, full, is_empty, too_many, twice, unfit}
use Rattle.catalog_doc.specs.declared.change.Change.{Change}
use Rattle.catalog_doc.specs.declared.change.Change.TheVariants.{Publish, Unlist, Relist, Delete}
use Rattle.catalog_doc.specs.declared.error.CommitErr.{CommitErr}
use Rattle.catalog_doc.specs.declared.error.CommitErr.TheVariants as the

-- whether two changes are of one version
abbrev pub is_of_same : Change → Change → Bool
is_of_same change other =
    bytes_eq (changed_id change).key (changed_id other).key && bytes_eq (key_text (changed_version change)) (key_text (changed_version other))

-- there are none, too many, or two of one version: the first of these reasons
abbrev pub misshapen : List Change → Option CommitErr
misshapen changes = option_or (is_empty changes) (option_or (too_many changes) (first_reason twice [] 0 changes))

-- a place that doesn't fit, no room for so many items, or no moment after the last: the first of these reasons
abbrev pub unready : Catalog → List Change → Option CommitErr
unready cs changes = option_or (first_reason (unfit cs) [] 0 changes) (option_or (full cs changes) (ended (newest cs)))

-- whether a change publishes a version of this id
abbrev pub is_publish_of : List ℕ → Change → Bool
is_publish_of id (Publish meta nuspec nupkg) = bytes_eq id meta.id.key
is_publish_of id (Unlist i v) = false
is_publish_of id (Relist i v) = false
is_publish_of id (Delete i v) = false

-- whether it deletes one
abbrev pub is_delete_of : List ℕ → Change → Bool
is_delete_of id (Publish meta nuspec nupkg) = false
is_delete_of id (Unlist i v) = false
is_delete_of id (Relist i v) = false
is_delete_of id (Delete i v) = bytes_eq id i.key

-- the live versions of an id after earlier changes: one more for each publish, one less for each delete
abbrev pub HasCounts : Catalog → List Change → Type 0
HasCounts cs earlier = (id : List ℕ) → live_count id (all_items cs ++ made_from cs (length cs + 1) 0 0 earlier) + count_by (is_delete_of id) earlier
    ≡ live_count id (all_items cs) + count_by (is_publish_of id) earlier

-- A refusal that needs no leaf: not of a listing. No call failed, nothing is damaged, and memory didn't run out.
abbrev pub IsOfRows : CommitErr → Type 0
IsOfRows the.Fault = ⊥
IsOfRows (the.Damaged name) = ⊥
IsOfRows the.Memory = ⊥
IsOfRows (the.Already place number) = ⊥
IsOfRows error = ⊤
