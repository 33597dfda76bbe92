-- Verdicts, computed.
use Rattle.std.proofs.Common.{◌≡◌, ◌≢◌, ◌≤◌, ◌+◌, ℕ, max, List, [], ◌∷◌, true, false, refl, ◌∙◌, ap, arith, ◌<◌, ◌++◌, length, Option, Some, None, append-nil}
use Rattle.std.specs.Prelude.{nat_le}
use Rattle.std.specs.Str.{bytes_eq}
use Rattle.std.specs.declared.result.Result.TheVariants.{Err}
use Rattle.std.proofs.lemmas.Bool.{le-leb, lt-leb}
use Rattle.nuget_version.specs.Printed.{key_text}
use Rattle.nuget_version.specs.declared.version.Version.{Version}
use Rattle.package_id.specs.declared.id.PackageId.{PackageId}
use Rattle.blob_store.proofs.Areas.{bytes_eq-other, bytes_eq-same}
use Rattle.pkg_meta.specs.Catalog.{Catalog}
use Rattle.pkg_meta.specs.Items.{is_gone}
use Rattle.pkg_meta.specs.Lawful.{IsFree, Placed}
use Rattle.pkg_meta.specs.declared.item.Item.{Item}
use Rattle.pkg_meta.specs.declared.item.Item.TheVariants as item
use Rattle.pkg_meta.specs.declared.meta.Meta.{Meta}
use Rattle.catalog_doc.specs.Catalogs.{all_items, live_count}
use Rattle.catalog_doc.specs.Commits.{changed_id, changed_version, details_of, last_changed, live_details}
use Rattle.catalog_doc.specs.Verdict.{verdict}
use Rattle.catalog_doc.specs.declared.change.Change.{Change}
use Rattle.catalog_doc.specs.declared.change.Change.TheVariants.{Publish, Unlist, Relist, Delete}
use Rattle.catalog_doc.specs.declared.error.CommitErr.TheVariants as the
use Rattle.catalog_laws.specs.Worked.{AreInTime, IsChangeOf, IsLetOn, one_publish, with_change}

pub first_taken : (meta : Meta) (nuspec nupkg : List ℕ) (now : ℕ) → IsLetOn [] (Publish meta nuspec nupkg) now
first_taken meta nuspec nupkg now = refl

pub none_taken : (cs : Catalog) (now : ℕ) → verdict cs [] now ≡ Err the.Empty
none_taken cs now = refl

pub twice_refused : (cs : Catalog) (change : Change) (now : ℕ) → verdict cs (change ∷ change ∷ []) now ≡ Err (the.Twice 1)
twice_refused cs change now = rw (bytes_eq-same (changed_id change).key, bytes_eq-same (key_text (changed_version change))) refl

pub absent_refused : (i : PackageId) (v : Version) (now : ℕ) → verdict [] (Delete i v ∷ []) now ≡ Err (the.Absent 0 0)
absent_refused i v now = refl

same_id : (meta : Meta) (change : Change) → IsChangeOf meta change → bytes_eq (changed_id change).key meta.id.key ≡ true
same_id meta change of = ap (λ (key : List ℕ). bytes_eq key meta.id.key) of.id ∙ bytes_eq-same meta.id.key

same_version : (meta : Meta) (change : Change) → IsChangeOf meta change → bytes_eq (key_text (changed_version change)) (key_text meta.version) ≡ true
same_version meta change of = ap (λ (key : List ℕ). bytes_eq key (key_text meta.version)) of.version ∙ bytes_eq-same (key_text meta.version)

pub existing_refused : (meta other : Meta) (nuspec nupkg : List ℕ) (now later : ℕ) → IsChangeOf meta (Publish other nuspec nupkg)
    → verdict (one_publish meta now) (Publish other nuspec nupkg ∷ []) later ≡ Err (the.Exists 0 1)
existing_refused meta other nuspec nupkg now later of =
    rw (same_id meta (Publish other nuspec nupkg) of, same_version meta (Publish other nuspec nupkg) of) refl

pub other_refused : (meta : Meta) (i : PackageId) (v : Version) (now later : ℕ) → i.key ≢ meta.id.key
    → verdict (one_publish meta now) (Delete i v ∷ []) later ≡ Err (the.Absent 0 0)
other_refused meta i v now later other = rw (bytes_eq-other i.key meta.id.key other) refl

in_time : (now : ℕ) → now ≤ 3_155_378_975_999_999_998 → nat_le (max now 1 + 1) 3_155_378_975_999_999_999 ≡ true
in_time now early = le-leb (max now 1 + 1) 3_155_378_975_999_999_999 (omega (arith, early))

too_late : (now : ℕ) → 3_155_378_975_999_999_999 ≤ now → nat_le (max now 1 + 1) 3_155_378_975_999_999_999 ≡ false
too_late now late = lt-leb (max now 1 + 1) 3_155_378_975_999_999_999 (omega (arith, late))

pub listed_refused : (meta : Meta) (i : PackageId) (v : Version) (now later : ℕ) → IsChangeOf meta (Relist i v) → now ≤ 3_155_378_975_999_999_998
    → verdict (one_publish meta now) (Relist i v ∷ []) later ≡ Err (the.Already 0 1)
listed_refused meta i v now later of early = rw (same_id meta (Relist i v) of, same_version meta (Relist i v) of, in_time now early) refl

pub late_refused : (meta : Meta) (i : PackageId) (v : Version) (now later : ℕ) → IsChangeOf meta (Delete i v) → 3_155_378_975_999_999_999 ≤ now
    → verdict (one_publish meta now) (Delete i v ∷ []) later ≡ Err the.ClockEnd
late_refused meta i v now later of late = rw (same_id meta (Delete i v) of, same_version meta (Delete i v) of, too_late now late) refl

pub unlisting_taken : (meta : Meta) (i : PackageId) (v : Version) (now later : ℕ) → IsChangeOf meta (Unlist i v) → now ≤ 3_155_378_975_999_999_998
    → IsLetOn (one_publish meta now) (Unlist i v) later
unlisting_taken meta i v now later of early = rw (same_id meta (Unlist i v) of, same_version meta (Unlist i v) of, in_time now early) refl

pub gone_refused : (meta : Meta) (i : PackageId) (v : Version) (now next later : ℕ) → IsChangeOf meta (Delete i v)
    → verdict (with_change (one_publish meta now) (Delete i v) next) (Delete i v ∷ []) later ≡ Err (the.Absent 0 2)
gone_refused meta i v now next later of =
    rw (same_id meta (Delete i v) of, same_version meta (Delete i v) of, same_id meta (Delete i v) of, same_version meta (Delete i v) of) refl

second_in_time : (now next : ℕ) → AreInTime now next → nat_le (max next (max now 1 + 1) + 1) 3_155_378_975_999_999_999 ≡ true
second_in_time now next early = le-leb (max next (max now 1 + 1) + 1) 3_155_378_975_999_999_999 (omega (arith, early.first, early.second))

-- the metadata's own keys
own_id : (meta : Meta) → bytes_eq meta.id.key meta.id.key ≡ true
own_id meta = bytes_eq-same meta.id.key

own_version : (meta : Meta) → bytes_eq (key_text meta.version) (key_text meta.version) ≡ true
own_version meta = bytes_eq-same (key_text meta.version)

pub again_taken : (meta : Meta) (i : PackageId) (v : Version) (nuspec nupkg : List ℕ) (now next later : ℕ) → IsChangeOf meta (Delete i v) → AreInTime now next
    → IsLetOn (with_change (one_publish meta now) (Delete i v) next) (Publish meta nuspec nupkg) later
again_taken meta i v nuspec nupkg now next later of early =
    rw (same_id meta (Delete i v) of, same_version meta (Delete i v) of, own_id meta, own_version meta, second_in_time now next early) refl

pub hidden_refused : (meta : Meta) (i : PackageId) (v : Version) (now next later : ℕ) → IsChangeOf meta (Unlist i v) → AreInTime now next
    → verdict (with_change (one_publish meta now) (Unlist i v) next) (Unlist i v ∷ []) later ≡ Err (the.Already 0 2)
hidden_refused meta i v now next later of early =
    rw (
      same_id meta (Unlist i v) of,
      same_version meta (Unlist i v) of,
      same_id meta (Unlist i v) of,
      same_version meta (Unlist i v) of,
      second_in_time now next early,
    ) refl

pub shown_taken : (meta : Meta) (i : PackageId) (v : Version) (now next later : ℕ) → IsChangeOf meta (Unlist i v) → AreInTime now next
    → IsLetOn (with_change (one_publish meta now) (Unlist i v) next) (Relist i v) later
shown_taken meta i v now next later of early =
    rw (
      same_id meta (Unlist i v) of,
      same_version meta (Unlist i v) of,
      same_id meta (Unlist i v) of,
      same_version meta (Unlist i v) of,
      second_in_time now next early,
    ) refl

pub many_refused : (cs : Catalog) (changes : List Change) (now : ℕ) → 64 < length changes → verdict cs changes now ≡ Err (the.TooMany (length changes))
many_refused cs [] now many = absurd (omega (arith, many))
many_refused cs (change ∷ changes) now many = rw (lt-leb (length (change ∷ changes)) 64 many) refl

-- a free version has no details
gone_details : (it : Item) → is_gone it ≡ true → details_of it ≡ None
gone_details (item.Details d) gone = cc
gone_details (item.Gone i v) gone = refl

free_details : (found : Option Placed) → IsFree found → live_details found ≡ None
free_details None free = refl
free_details (Some x) free = gone_details x.what free

-- the live versions, with no earlier changes
module _ (cs : Catalog) (meta : Meta) (nuspec nupkg : List ℕ) (now : ℕ) (free : IsFree (last_changed cs (Publish meta nuspec nupkg))) where
  abbrev living : ℕ
  living = live_count meta.id.key (all_items cs ++ [])

  same_living : living ≡ live_count meta.id.key (all_items cs)
  same_living = ap (live_count meta.id.key) (append-nil (all_items cs))

  pub full_id_refused : 2_048 ≤ live_count meta.id.key (all_items cs) → verdict cs (Publish meta nuspec nupkg ∷ []) now ≡ Err (the.IdFull 0)
  full_id_refused full = rw (free_details _ free, le-leb 2_048 living (omega (arith, full, same_living))) refl

  pub full_refused : live_count meta.id.key (all_items cs) < 2_048 → 200_000 ≤ length (all_items cs)
      → verdict cs (Publish meta nuspec nupkg ∷ []) now ≡ Err (the.Full (length (all_items cs)))
  full_refused room full = rw (
    free_details _ free,
    lt-leb 2_048 living (omega (arith, room, same_living)),
    lt-leb (length (all_items cs) + 1) 200_000 (omega (arith, full)),
  ) refl
