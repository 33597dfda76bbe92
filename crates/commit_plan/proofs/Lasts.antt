-- What is known of last items, and why changes are refused.
use Rattle.std.proofs.Common.{◌≡◌, ◌<◌, ℕ, length, take, get_or, List, [], ◌∷◌, ◌++◌, Option, Some, None, Ok, Err, Result, refl, sym, ◌∙◌, ap, subst}
use Rattle.nuget_version.specs.Printed.{key_text}
use Rattle.nuget_version.specs.declared.version.Version.{Version}
use Rattle.package_id.specs.declared.id.PackageId.{PackageId}
use Rattle.pkg_meta.specs.Catalog.{Catalog}
use Rattle.pkg_meta.specs.Items.{id_of, version_of}
use Rattle.pkg_meta.specs.Lawful.{all_placed, last_of, Placed}
use Rattle.pkg_meta.specs.declared.item.Details.{Details}
use Rattle.pkg_meta.specs.declared.item.Item.{Item}
use Rattle.pkg_meta.specs.declared.item.Item.TheVariants as the
use Rattle.catalog_doc.specs.Commits.{last_changed, live_details}
use Rattle.catalog_doc.specs.Verdict.{absent, last_number_of, unfit}
use Rattle.catalog_doc.specs.declared.change.Change.{Change}
use Rattle.catalog_doc.specs.declared.change.Change.TheVariants.{Publish, Unlist, Relist, Delete}
use Rattle.catalog_doc.specs.declared.error.CommitErr.{CommitErr}
use Rattle.catalog_doc.specs.declared.error.CommitErr.TheVariants as commit
use Rattle.catalog_laws.proofs.Items.{there}
use Rattle.catalog_opening.specs.Errors.{IfDamagedBy}
use Rattle.catalog_opening.specs.declared.error.ReadErr.{ReadErr}
use Rattle.catalog_opening.specs.declared.error.ReadErr.TheVariants as read
use Rattle.catalog_rows.specs.Reasons.{IsOfRows}
use Rattle.catalog_opening.proofs.Halting.{AreGets, gets_keep}
use Rattle.catalog_rows.specs.Kept.{Kept}
use Rattle.catalog_rows.proofs.Places.{found_here, Seeks}
use Rattle.blob_store.specs.Events.{Act}
use Rattle.blob_store.specs.Plans.{Makes}
use Rattle.blob_store.specs.Seen.{Seen}
use Rattle.commit_plan.specs.Plans.{AreKnownFor, IsAlreadyAt, IsKnownFor, IsListingOf, IsWrittenOf}
use Rattle.commit_plan.specs.declared.last.LastItem.{LastItem}
use Rattle.commit_plan.specs.declared.last.LastItem.TheVariants as the_last
use Rattle.commit_plan.specs.Lookups.{commit_err_for, IfDamagedRefusal, IsKnown, IsLive, IsOfSome, IsRefusalFor, listing_in}
use Rattle.catalog_items.specs.Reads.{IsRead, IsReadWith}

present : (place number : ℕ) (last : Option Placed) → absent place number (live_details last) ≡ None → IsOfSome last
present place number last e = let is = there place number last e in (is.item, is.details, is.found_is, is.item_is)

-- a change that fits is of a version that is there, unless it is a publish
pub fit_is_live : (cs : Catalog) (place : ℕ) (earlier : List Change) (change : Change) → unfit cs place earlier change ≡ None → IsLive cs change
fit_is_live cs place earlier (Publish meta nuspec nupkg) e = tt
fit_is_live cs place earlier (Unlist i v) e = present place (last_number_of (last_changed cs (Unlist i v))) (last_changed cs (Unlist i v)) e
fit_is_live cs place earlier (Relist i v) e = present place (last_number_of (last_changed cs (Relist i v))) (last_changed cs (Relist i v)) e
fit_is_live cs place earlier (Delete i v) e = present place (last_number_of (last_changed cs (Delete i v))) (last_changed cs (Delete i v)) e

-- the listing that was read
listing_is : (last : Option Placed) (x : Placed) (d : Details) → last ≡ Some x → x.what ≡ the.Details d → IsListingOf last (listing_in x.number x.what)
listing_is last x d is what = subst (λ (it : Item). IsListingOf last (listing_in x.number it)) (sym what)
    (ap last_number_of is, ap live_details is ∙ details_are x.what d what)
  where
    details_are : (it : Item) (d : Details) → it ≡ the.Details d → live_details (Some (record { number = x.number; place = x.place; stamp = x.stamp; what = it })) ≡ Some d
    details_are it d e = ap (λ (y : Item). live_details (Some (record { number = x.number; place = x.place; stamp = x.stamp; what = y }))) e

pub listing_known : (last : Option Placed) (r : Result LastItem ReadErr) → IsOfSome last → ((x : Placed) → last ≡ Some x → IsRead (listing_in x.number x.what) r) → IsReadWith (IsListingOf last) r
listing_known last (Ok known) some reads =
    subst (IsListingOf last) (sym (reads some.0 some.2)) (listing_is last some.0 some.1 some.2 some.3)
listing_known last (Err (read.Damaged name)) some reads = reads some.0 some.2
listing_known last (Err read.Fault) some reads = tt
listing_known last (Err read.Memory) some reads = tt

-- the texts of the last row
pub written_known : (last : Option Placed) (known : LastItem) → IsOfSome last → ((x : Placed) → last ≡ Some x → known ≡ the_last.Written (id_of x.what) (version_of x.what)) → IsWrittenOf last known
written_known last known some is =
    let x = some.0 in
    let d = some.1 in
    let own : known ≡ the_last.Written d.meta.id d.meta.version = is x some.2 ∙ ap (λ (it : Item). the_last.Written (id_of it) (version_of it)) some.3 in
    subst (IsWrittenOf last) (sym own) (d, ap live_details some.2 ∙ details_are x.what some.3, refl, refl)
  where
    details_are : (it : Item) → it ≡ the.Details some.1 → live_details (Some (record { number = some.0.number; place = some.0.place; stamp = some.0.stamp; what = it })) ≡ Some some.1
    details_are it e = ap (λ (y : Item). live_details (Some (record { number = some.0.number; place = some.0.place; stamp = some.0.stamp; what = y }))) e

-- one more
pub known_more : (cs : Catalog) (changes : List Change) (lasts : List LastItem) (change : Change) (last : LastItem) → AreKnownFor cs changes lasts → IsKnownFor cs change last
    → AreKnownFor cs (changes ++ change ∷ []) (lasts ++ last ∷ [])
known_more cs [] [] change last are is = (is, tt)
known_more cs [] (other ∷ lasts) change last are is = absurd are
known_more cs (other ∷ changes) [] change last are is = absurd are
known_more cs (other ∷ changes) (l ∷ lasts) change last are is = (are.0, known_more cs changes lasts change last are.1 is)

-- a refusal by the rows is for its reason
pub is_for : (reason : Option CommitErr) (error : CommitErr) → IsOfRows error → reason ≡ Some error → IsRefusalFor reason error
is_for reason commit.Empty kind is = is
is_for reason (commit.TooMany n) kind is = is
is_for reason (commit.Twice n) kind is = is
is_for reason (commit.Exists p n) kind is = is
is_for reason (commit.Absent p n) kind is = is
is_for reason (commit.IdFull p) kind is = is
is_for reason (commit.Full n) kind is = is
is_for reason commit.ClockEnd kind is = is
is_for reason (commit.Already at number) kind is = absurd kind
is_for reason commit.Fault kind is = absurd kind
is_for reason (commit.Damaged name) kind is = absurd kind
is_for reason commit.Memory kind is = absurd kind

-- and so is one for a listing
pub already_for : (place : ℕ) (reason : Option CommitErr) (error : CommitErr) → IsAlreadyAt place error → reason ≡ Some error → IsRefusalFor reason error
already_for place reason (commit.Already at number) kind is = is
already_for place reason commit.Empty kind is = absurd kind
already_for place reason (commit.TooMany n) kind is = absurd kind
already_for place reason (commit.Twice n) kind is = absurd kind
already_for place reason (commit.Exists p n) kind is = absurd kind
already_for place reason (commit.Absent p n) kind is = absurd kind
already_for place reason (commit.IdFull p) kind is = absurd kind
already_for place reason (commit.Full n) kind is = absurd kind
already_for place reason commit.ClockEnd kind is = absurd kind
already_for place reason commit.Fault kind is = absurd kind
already_for place reason (commit.Damaged name) kind is = absurd kind
already_for place reason commit.Memory kind is = absurd kind

-- what is told of a damaged blob
pub damage_for : (P : List ℕ → Type 0) (error : ReadErr) → IfDamagedBy error P → IfDamagedRefusal (commit_err_for error) P
damage_for P (read.Damaged name) holds = holds
damage_for P read.Fault holds = tt
damage_for P read.Memory holds = tt

-- the same of each kind of change
module _ (cs : Catalog) (i : PackageId) (v : Version) (change : Change) where
  pub unlist_known : change ≡ Unlist i v → (r : Result LastItem ReadErr) → IsLive cs change
      → ((x : Placed) → last_of i.key (key_text v) (all_placed cs) ≡ Some x → IsRead (listing_in x.number x.what) r) → IsReadWith (IsKnownFor cs change) r
  unlist_known is r live reads = subst (λ (x : Change). IsReadWith (IsKnownFor cs x) r) (sym is) (listing_known (last_changed cs (Unlist i v)) r (subst (IsLive cs) is live) reads)

  pub relist_known : change ≡ Relist i v → (r : Result LastItem ReadErr) → IsLive cs change
      → ((x : Placed) → last_of i.key (key_text v) (all_placed cs) ≡ Some x → IsRead (listing_in x.number x.what) r) → IsReadWith (IsKnownFor cs change) r
  relist_known is r live reads = subst (λ (x : Change). IsReadWith (IsKnownFor cs x) r) (sym is) (listing_known (last_changed cs (Relist i v)) r (subst (IsLive cs) is live) reads)

  pub delete_known : change ≡ Delete i v → (known : LastItem) → IsLive cs change
      → ((x : Placed) → last_of i.key (key_text v) (all_placed cs) ≡ Some x → known ≡ the_last.Written (id_of x.what) (version_of x.what)) → IsKnownFor cs change known
  delete_known is known live reads = subst (λ (x : Change). IsKnownFor cs x known) (sym is) (written_known (last_changed cs (Delete i v)) known (subst (IsLive cs) is live) reads)

-- a read that told an error, of whatever was read
pub read_err : {A C : Type 0} (x : A) (y : C) (error : ReadErr) (r : Result C ReadErr) → r ≡ Err error → IsRead x (Err error) → IsRead y r
read_err x y error r is whole = subst (IsRead y) (sym is) (by_error error whole)
  where
    by_error : (e : ReadErr) → IsRead x (Err e) → IsRead y (Err e)
    by_error (read.Damaged name) no_more = no_more
    by_error read.Fault no_more = tt
    by_error read.Memory no_more = tt

-- what is known stays so through gets
pub known_after : (kept : Kept) (a b : Seen) (base : List ℕ) (cs : Catalog) (plan : List Act) → AreGets plan → Makes plan a b → IsKnown kept a base cs → IsKnown kept b base cs
known_after kept a b base cs plan gets made known =
    record { lawful = known.lawful; keeps = known.keeps; store = (known.store.0, gets_keep plan a b gets made ∙ known.store.1, known.store.2) }

-- the refusal of a change is that of the changes where none before it is refused
pub first_for : (why : ℕ → List Change → Change → Option CommitErr) (changes : List Change) (i : ℕ) (change : Change) (whole : Option CommitErr) → i < length changes
    → change ≡ get_or changes i change → Seeks why changes i whole → (error : CommitErr) → IsRefusalFor (why i (take i changes) change) error → IsRefusalFor whole error
first_for why changes i change whole within own seeks commit.Fault reason = tt
first_for why changes i change whole within own seeks (commit.Damaged name) reason = absurd reason
first_for why changes i change whole within own seeks commit.Memory reason = tt
first_for why changes i change whole within own seeks commit.Empty reason = sym (found_here why changes i change commit.Empty whole within own seeks reason)
first_for why changes i change whole within own seeks (commit.TooMany n) reason = sym (found_here why changes i change (commit.TooMany n) whole within own seeks reason)
first_for why changes i change whole within own seeks (commit.Twice n) reason = sym (found_here why changes i change (commit.Twice n) whole within own seeks reason)
first_for why changes i change whole within own seeks (commit.Exists p n) reason = sym (found_here why changes i change (commit.Exists p n) whole within own seeks reason)
first_for why changes i change whole within own seeks (commit.Absent p n) reason = sym (found_here why changes i change (commit.Absent p n) whole within own seeks reason)
first_for why changes i change whole within own seeks (commit.Already p n) reason = sym (found_here why changes i change (commit.Already p n) whole within own seeks reason)
first_for why changes i change whole within own seeks (commit.IdFull p) reason = sym (found_here why changes i change (commit.IdFull p) whole within own seeks reason)
first_for why changes i change whole within own seeks (commit.Full n) reason = sym (found_here why changes i change (commit.Full n) whole within own seeks reason)
first_for why changes i change whole within own seeks commit.ClockEnd reason = sym (found_here why changes i change commit.ClockEnd whole within own seeks reason)
