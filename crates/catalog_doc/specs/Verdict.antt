-- Which changes are committed onto a catalog, and why others are refused: the first reason that holds, in this order.
use Rattle.std.specs.Prelude.{ℕ, suc, ◌+◌, List, [], ◌∷◌, ◌++◌, length, Bool, true, false, ◌&&◌, ◌||◌, not, nat_le, Option, Some, None, Result, if◌then◌else◌}
use Rattle.std.specs.Option.{option_or}
use Rattle.std.specs.Str.{bytes_eq}
use Rattle.std.specs.declared.result.Result.TheVariants.{Ok, Err}
use Rattle.nuget_version.specs.Printed.{key_text}
use Rattle.pkg_meta.specs.Catalog.{Catalog}
use Rattle.pkg_meta.specs.declared.commit.Stored.{Stored}
use Rattle.pkg_meta.specs.Lawful.{Placed, newest}
use Rattle.pkg_meta.specs.declared.item.Details.{Details}
use Rattle.catalog_doc.specs.Catalogs.{all_items, id_room, live_count}
use Rattle.catalog_doc.specs.Commits.{changed_id, changed_version, last_changed, live_details, made, made_from}
use Rattle.catalog_doc.specs.declared.change.Change.{Change}
use Rattle.catalog_doc.specs.declared.change.Change.TheVariants.{Publish, Unlist, Relist, Delete}
use Rattle.catalog_doc.specs.declared.error.CommitErr.{CommitErr}
use Rattle.catalog_doc.specs.declared.error.CommitErr.TheVariants as the

-- the first place's reason, of changes that stand at these places on behind others
abbrev pub first_reason : (ℕ → List Change → Change → Option CommitErr) → List Change → ℕ → List Change → Option CommitErr
first_reason why earlier place [] = None
first_reason why earlier place (change ∷ changes) =
    option_or (why place earlier change) (first_reason why (earlier ++ change ∷ []) (suc place) changes)

-- there are no changes
abbrev pub is_empty : List Change → Option CommitErr
is_empty [] = Some the.Empty
is_empty (change ∷ changes) = None

-- there are more changes than a commit takes
abbrev pub too_many : List Change → Option CommitErr
too_many changes = if nat_le (length changes) 64 then None else Some (the.TooMany (length changes))

-- whether one of the changes is of this version
abbrev pub has_change : Change → List Change → Bool
has_change change [] = false
has_change change (other ∷ changes) =
    (bytes_eq (changed_id change).key (changed_id other).key && bytes_eq (key_text (changed_version change)) (key_text (changed_version other)))
    || has_change change changes

-- an earlier change is of the same version
abbrev pub twice : ℕ → List Change → Change → Option CommitErr
twice place earlier change = if has_change change earlier then Some (the.Twice place) else None

-- the number of a last item's commit, 0 where there is none
abbrev pub last_number_of : Option Placed → ℕ
last_number_of None = 0
last_number_of (Some last) = last.number

-- a version that is to be published is there
abbrev pub existing : ℕ → ℕ → Option Details → Option CommitErr
existing place number None = None
existing place number (Some d) = Some (the.Exists place number)

-- a version that is to be changed isn't there
abbrev pub absent : ℕ → ℕ → Option Details → Option CommitErr
absent place number None = Some (the.Absent place number)
absent place number (Some d) = None

-- the id has as many live versions as it may have, with the earlier changes
abbrev pub id_full : Catalog → ℕ → List Change → List ℕ → Option CommitErr
id_full cs place earlier id =
    if nat_le id_room (live_count id (all_items cs ++ made_from cs (length cs + 1) 0 0 earlier)) then Some (the.IdFull place) else None

-- a publish whose version is there, another change whose version isn't, or a publish that the id has no room for
abbrev pub unfit : Catalog → ℕ → List Change → Change → Option CommitErr
unfit cs place earlier (Publish meta nuspec nupkg) =
    let last = last_changed cs (Publish meta nuspec nupkg) in
    option_or (existing place (last_number_of last) (live_details last)) (id_full cs place earlier meta.id.key)
unfit cs place earlier (Unlist i v) = let last = last_changed cs (Unlist i v) in absent place (last_number_of last) (live_details last)
unfit cs place earlier (Relist i v) = let last = last_changed cs (Relist i v) in absent place (last_number_of last) (live_details last)
unfit cs place earlier (Delete i v) = let last = last_changed cs (Delete i v) in absent place (last_number_of last) (live_details last)

-- the catalog would have more than 200,000 items
abbrev pub full : Catalog → List Change → Option CommitErr
full cs changes = if nat_le (length (all_items cs) + length changes) 200_000 then None else Some (the.Full (length (all_items cs)))

-- the last stamp is the clock's last moment
abbrev pub ended : ℕ → Option CommitErr
ended last = if nat_le (last + 1) 3_155_378_975_999_999_999 then None else Some the.ClockEnd

-- a version has the listing that is wanted
abbrev pub has_listing : ℕ → ℕ → Bool → Option Details → Option CommitErr
has_listing place number wanted None = None
has_listing place number wanted (Some d) = if (if wanted then d.listed else not d.listed) then Some (the.Already place number) else None

-- a change of listing whose version has that listing
abbrev pub already : Catalog → ℕ → List Change → Change → Option CommitErr
already cs place earlier (Publish meta nuspec nupkg) = None
already cs place earlier (Unlist i v) = let last = last_changed cs (Unlist i v) in has_listing place (last_number_of last) false (live_details last)
already cs place earlier (Relist i v) = let last = last_changed cs (Relist i v) in has_listing place (last_number_of last) true (live_details last)
already cs place earlier (Delete i v) = None

-- why changes aren't committed onto a catalog: the first reason that holds
abbrev pub refusal : Catalog → List Change → Option CommitErr
refusal cs changes =
    option_or (is_empty changes)
    (option_or (too_many changes)
    (option_or (first_reason twice [] 0 changes)
    (option_or (first_reason (unfit cs) [] 0 changes)
    (option_or (full cs changes)
    (option_or (ended (newest cs))
    (first_reason (already cs) [] 0 changes))))))

-- the commit, unless there is a reason to refuse it
abbrev pub answer_for : Stored → Option CommitErr → Result Stored CommitErr
answer_for c None = Ok c
answer_for c (Some e) = Err e

-- the commit that changes make of a catalog, or why they are refused
abbrev pub verdict : Catalog → List Change → ℕ → Result Stored CommitErr
verdict cs changes now = answer_for (made cs changes now) (refusal cs changes)
