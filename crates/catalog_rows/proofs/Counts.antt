-- The live versions of an id after changes that fit.
use Rattle.std.proofs.Common.{◌≡◌, ◌<◌, ◌+◌, ℕ, suc, List, [], ◌∷◌, ◌++◌, length, take, drop, get_or, Bool, true, false, not, ◌&&◌, ◌||◌, Option, Some, None, option_map, refl, sym, ◌∙◌, ap, ap₂, subst, arith, append-nil, append_assoc}
use Rattle.std.specs.Prelude.{cond, if◌then◌else◌}
use Rattle.std.specs.List.{count_by}
use Rattle.std.proofs.lemmas.List.{take_more}
use Rattle.std.proofs.lemmas.List.Sums.{sum_by-append}
use Rattle.std.specs.Option.{is_some, option_or}
use Rattle.std.specs.Str.{bytes_eq}
use Rattle.nuget_version.specs.Printed.{key_text}
use Rattle.nuget_version.specs.declared.version.Version.{Version}
use Rattle.package_id.specs.declared.id.PackageId.{PackageId}
use Rattle.pkg_meta.specs.Catalog.{Catalog}
use Rattle.pkg_meta.specs.Items.{id_of, version_of, is_gone}
use Rattle.pkg_meta.specs.Lawful.{all_placed, has_pair, last_of, or_earlier, Placed}
use Rattle.pkg_meta.specs.declared.item.Details.{Details}
use Rattle.pkg_meta.specs.declared.item.Item.{Item}
use Rattle.pkg_meta.specs.declared.item.Item.TheVariants as the
use Rattle.catalog_doc.specs.CatDocs.{all_rows, rows_from}
use Rattle.catalog_doc.specs.Catalogs.{all_items, live_count}
use Rattle.catalog_doc.specs.Commits.{changed_id, changed_version, deleted_item, details_of, last_changed, live_details, made_from, made_of, relisted_item}
use Rattle.catalog_doc.specs.Verdict.{absent, existing, first_reason, has_change, id_full, last_number_of, twice, unfit}
use Rattle.catalog_doc.specs.declared.change.Change.{Change}
use Rattle.catalog_doc.specs.declared.change.Change.TheVariants.{Publish, Unlist, Relist, Delete}
use Rattle.catalog_doc.specs.declared.row.Row.{Row}
use Rattle.catalog_doc.proofs.Spelling.{bytes_eq-true}
use Rattle.catalog_rows.specs.Last.{is_no_delete, is_of_keys, last_row, placed_row}
use Rattle.catalog_rows.specs.Reasons.{HasCounts, is_delete_of, is_of_same, is_publish_of}
use Rattle.catalog_rows.proofs.LastRows.{live_rows-push, one}
use Rattle.catalog_rows.proofs.OfItems.{AreOf, are_of-all, are_of-append, are_of-from, last_row-of, live_rows-items}
use Rattle.catalog_rows.proofs.Places.{Seeks, both_none, found_later, is_new, reason_here}

pub counts_start : (cs : Catalog) → HasCounts cs []
counts_start cs id = ap (λ (items : List Item). live_count id items + 0) (append-nil (all_items cs))

made_from-push : (cs : Catalog) (number stamp place : ℕ) (earlier : List Change) (change : Change)
    → (at : ℕ) × (made_from cs number stamp place (earlier ++ change ∷ [])
    ≡ made_from cs number stamp place earlier ++ made_of number stamp at (live_details (last_changed cs change)) change ∷ [])
made_from-push cs number stamp place [] change = (place, refl)
made_from-push cs number stamp place (x ∷ earlier) change =
    let rest = made_from-push cs number stamp (suc place) earlier change in
    (rest.0, ap (λ (items : List Item). made_of number stamp place (live_details (last_changed cs x)) x ∷ items) rest.1)

-- two keys that an item has
abbrev HasKeys : List ℕ → List ℕ → Item → Type 0
HasKeys id version it = (id ≡ (id_of it).key) × (version ≡ key_text (version_of it))

both_true : (a b : Bool) → (a && b) ≡ true → (a ≡ true) × (b ≡ true)
both_true true b e = (refl, e)
both_true false b e = cc

pair_keys : (id version : List ℕ) (it : Item) (has : Bool) → has_pair id version it ≡ has → has ≡ true → HasKeys id version it
pair_keys id version it has is holds =
    let both = both_true (bytes_eq id (id_of it).key) (bytes_eq version (key_text (version_of it))) (is ∙ holds) in
    (bytes_eq-true id (id_of it).key both.0, bytes_eq-true version (key_text (version_of it)) both.1)

abbrev LastHas : List ℕ → List ℕ → Option Placed → Type 0
LastHas id version None = Unit {0}
LastHas id version (Some x) = HasKeys id version x.what

or_has : (id version : List ℕ) (later : Option Placed) (x : Placed) (has : Bool) → has_pair id version x.what ≡ has → LastHas id version later
    → LastHas id version (or_earlier later (if has then Some x else None))
or_has id version (Some y) x has is keys = keys
or_has id version None x true is keys = pair_keys id version x.what true is refl
or_has id version None x false is keys = tt

last_has : (id version : List ℕ) (xs : List Placed) → LastHas id version (last_of id version xs)
last_has id version [] = tt
last_has id version (x ∷ xs) = or_has id version (last_of id version xs) x (has_pair id version x.what) refl (last_has id version xs)

relisted_keys : (i : PackageId) (v : Version) (what : Item) → HasKeys i.key (key_text v) what → HasKeys i.key (key_text v) (relisted_item i v (details_of what))
relisted_keys i v (the.Details d) keys = keys
relisted_keys i v (the.Gone j w) keys = (refl, refl)

deleted_keys : (i : PackageId) (v : Version) (what : Item) → HasKeys i.key (key_text v) what → HasKeys i.key (key_text v) (deleted_item i v (details_of what))
deleted_keys i v (the.Details d) keys = keys
deleted_keys i v (the.Gone j w) keys = (refl, refl)

relisted_last : (i : PackageId) (v : Version) (last : Option Placed) → LastHas i.key (key_text v) last → HasKeys i.key (key_text v) (relisted_item i v (live_details last))
relisted_last i v None keys = (refl, refl)
relisted_last i v (Some x) keys = relisted_keys i v x.what keys

deleted_last : (i : PackageId) (v : Version) (last : Option Placed) → LastHas i.key (key_text v) last → HasKeys i.key (key_text v) (deleted_item i v (live_details last))
deleted_last i v None keys = (refl, refl)
deleted_last i v (Some x) keys = deleted_keys i v x.what keys

-- the item that a change makes has the change's keys
made_keys : (cs : Catalog) (number stamp place : ℕ) (change : Change)
    → HasKeys (changed_id change).key (key_text (changed_version change)) (made_of number stamp place (live_details (last_changed cs change)) change)
made_keys cs number stamp place (Publish meta nuspec nupkg) = (refl, refl)
made_keys cs number stamp place (Unlist i v) = relisted_last i v (last_of i.key (key_text v) (all_placed cs)) (last_has i.key (key_text v) (all_placed cs))
made_keys cs number stamp place (Relist i v) = relisted_last i v (last_of i.key (key_text v) (all_placed cs)) (last_has i.key (key_text v) (all_placed cs))
made_keys cs number stamp place (Delete i v) = deleted_last i v (last_of i.key (key_text v) (all_placed cs)) (last_has i.key (key_text v) (all_placed cs))

or_assoc : (x y z : Option Row) → option_or (option_or x y) z ≡ option_or x (option_or y z)
or_assoc None y z = refl
or_assoc (Some x) y z = refl

or_nothing : (x : Option Row) → x ≡ option_or x None
or_nothing None = refl
or_nothing (Some x) = refl

last_row-append : (id version : List ℕ) (rows more : List Row) → last_row id version (rows ++ more) ≡ option_or (last_row id version more) (last_row id version rows)
last_row-append id version [] more = or_nothing (last_row id version more)
last_row-append id version (row ∷ rows) more =
    ap (λ (found : Option Row). option_or found (if is_of_keys id version row then Some row else None)) (last_row-append id version rows more)
    ∙ or_assoc (last_row id version more) (last_row id version rows) (if is_of_keys id version row then Some row else None)

neither : (a b : Bool) → (a || b) ≡ false → (a ≡ false) × (b ≡ false)
neither false b e = (refl, e)
neither true b e = cc

none_chosen : (found : Option Row) (b : Bool) (row : Row) → found ≡ None → b ≡ false → option_or found (if b then Some row else None) ≡ None
none_chosen found b row none isnt = λ i. option_or (none i) (if isnt i then Some row else None)

-- no item of earlier changes is of the version of a change that is new among them
none_made : (cs : Catalog) (number stamp place from : ℕ) (change : Change) (earlier : List Change) → has_change change earlier ≡ false
    → last_row (changed_id change).key (key_text (changed_version change)) (rows_from 0 0 from (made_from cs number stamp place earlier)) ≡ None
none_made cs number stamp place from change [] new = refl
none_made cs number stamp place from change (x ∷ earlier) new =
    let both = neither (is_of_same change x) (has_change change earlier) new in
    let keys = made_keys cs number stamp place x in
    let other : (bytes_eq (changed_id change).key (id_of (made_of number stamp place (live_details (last_changed cs x)) x)).key
    && bytes_eq (key_text (changed_version change)) (key_text (version_of (made_of number stamp place (live_details (last_changed cs x)) x)))) ≡ false =
    ap₂ (λ (i v : List ℕ). bytes_eq (changed_id change).key i && bytes_eq (key_text (changed_version change)) v) (sym keys.0) (sym keys.1) ∙ both.0 in
    none_chosen (last_row (changed_id change).key (key_text (changed_version change)) (rows_from 0 0 (suc from) (made_from cs number stamp (suc place) earlier))) _ _
    (none_made cs number stamp (suc place) (suc from) change earlier both.1) other

details_live : (what : Item) → not (is_gone what) ≡ is_some (details_of what)
details_live (the.Details d) = refl
details_live (the.Gone i v) = refl

live_last : (last : Option Placed) → is_no_delete (option_map placed_row last) ≡ is_some (live_details last)
live_last None = refl
live_last (Some x) = details_live x.what

-- the live versions with an item more
count_more : (id : List ℕ) (rows : List Row) (items : List Item) (it : Item) (was : Bool) → AreOf rows items
    → is_no_delete (last_row (id_of it).key (key_text (version_of it)) rows) ≡ was
    → live_count id (items ++ it ∷ []) + one (bytes_eq id (id_of it).key && was) ≡ live_count id items + one (bytes_eq id (id_of it).key && not (is_gone it))
count_more id rows items it was are live =
    let row : Row = record { number = 0; place = 0; stamp = 0; id = id_of it; version = version_of it; gone = is_gone it } in
    let longer : AreOf (rows ++ row ∷ []) (items ++ it ∷ []) = are_of-append rows items (row ∷ []) (it ∷ []) are (record { id = refl; version = refl; gone = refl }, tt) in
    let law = live_rows-push id rows row in
    ap₂ (λ (n : ℕ) (b : Bool). n + one (bytes_eq id (id_of it).key && b)) (sym (live_rows-items id (rows ++ row ∷ []) (items ++ it ∷ []) longer)) (sym live)
    ∙ law
    ∙ ap (λ (n : ℕ). n + one (bytes_eq id (id_of it).key && not (is_gone it))) (live_rows-items id rows items are)

sum_published : (own : Bool) (live later deletes before publishes : ℕ) → later + one (own && false) ≡ live + one (own && true) → live + deletes ≡ before + publishes
    → later + (deletes + 0) ≡ before + (publishes + one own)
sum_published true live later deletes before publishes step so_far = omega (arith, step, so_far)
sum_published false live later deletes before publishes step so_far = omega (arith, step, so_far)

sum_relisted : (own : Bool) (live later deletes before publishes : ℕ) → later + one (own && true) ≡ live + one (own && true) → live + deletes ≡ before + publishes
    → later + (deletes + 0) ≡ before + (publishes + 0)
sum_relisted own live later deletes before publishes step so_far = omega (arith, step, so_far)

sum_deleted : (own : Bool) (live later deletes before publishes : ℕ) → later + one (own && true) ≡ live + one (own && false) → live + deletes ≡ before + publishes
    → later + (deletes + one own) ≡ before + (publishes + 0)
sum_deleted true live later deletes before publishes step so_far = omega (arith, step, so_far)
sum_deleted false live later deletes before publishes step so_far = omega (arith, step, so_far)

count_by-push : {X : Type 0} (p : X → Bool) (xs : List X) (x : X) → count_by p (xs ++ x ∷ []) ≡ count_by p xs + one (p x)
count_by-push p xs x = sum_by-append (λ y. cond (p y) 1 0) xs (x ∷ []) ∙ omega arith

-- the items of earlier changes
abbrev made_by : Catalog → List Change → List Item
made_by cs changes = made_from cs (length cs + 1) 0 0 changes

-- the live versions of an id with the item of one more change, which is new among the earlier ones
stepped : (cs : Catalog) (earlier : List Change) (change : Change) (id : List ℕ) (at : ℕ) (was : Bool) → has_change change earlier ≡ false
    → made_by cs (earlier ++ change ∷ []) ≡ made_by cs earlier ++ made_of (length cs + 1) 0 at (live_details (last_changed cs change)) change ∷ []
    → is_some (live_details (last_changed cs change)) ≡ was
    → live_count id (all_items cs ++ made_by cs (earlier ++ change ∷ [])) + one (bytes_eq id (changed_id change).key && was)
    ≡ live_count id (all_items cs ++ made_by cs earlier)
    + one (bytes_eq id (changed_id change).key && not (is_gone (made_of (length cs + 1) 0 at (live_details (last_changed cs change)) change)))
stepped cs earlier change id at was new made live =
    let it : Item = made_of (length cs + 1) 0 at (live_details (last_changed cs change)) change in
    let items : List Item = all_items cs ++ made_by cs earlier in
    let rows : List Row = all_rows cs ++ rows_from 0 0 0 (made_by cs earlier) in
    let keys = made_keys cs (length cs + 1) 0 at change in
    let last : is_no_delete (last_row (id_of it).key (key_text (version_of it)) rows) ≡ was =
    ap₂ (λ (i v : List ℕ). is_no_delete (last_row i v rows)) (sym keys.0) (sym keys.1)
    ∙ ap is_no_delete (last_row-append (changed_id change).key (key_text (changed_version change)) (all_rows cs) (rows_from 0 0 0 (made_by cs earlier)))
    ∙ ap₂ (λ (f g : Option Row). is_no_delete (option_or f g)) (none_made cs (length cs + 1) 0 0 0 change earlier new)
    (last_row-of (changed_id change).key (key_text (changed_version change)) cs)
    ∙ live_last (last_changed cs change) ∙ live in
    let more = count_more id rows items it was
    (are_of-append (all_rows cs) (all_items cs) (rows_from 0 0 0 (made_by cs earlier)) (made_by cs earlier) (are_of-all cs) (are_of-from 0 0 0 (made_by cs earlier))) last in
    let whole : live_count id (all_items cs ++ made_by cs (earlier ++ change ∷ [])) ≡ live_count id (items ++ it ∷ []) =
    ap (λ (l : List Item). live_count id (all_items cs ++ l)) made ∙ ap (live_count id) (sym (append_assoc (all_items cs) (made_by cs earlier) (it ∷ []))) in
    ap₂ (λ (n : ℕ) (key : List ℕ). n + one (bytes_eq id key && was)) whole keys.0
    ∙ more
    ∙ ap (λ (key : List ℕ). live_count id items + one (bytes_eq id key && not (is_gone it))) (sym keys.0)

no_details : (place number : ℕ) (details : Option Details) → existing place number details ≡ None → is_some details ≡ false
no_details place number None e = refl
no_details place number (Some d) e = cc

some_details : (place number : ℕ) (details : Option Details) → absent place number details ≡ None → is_some details ≡ true
some_details place number None e = cc
some_details place number (Some d) e = refl

relisted_there : (i : PackageId) (v : Version) (details : Option Details) → is_some details ≡ true → is_gone (relisted_item i v details) ≡ false
relisted_there i v None e = cc
relisted_there i v (Some d) e = refl

deleted_gone : (i : PackageId) (v : Version) (details : Option Details) → is_gone (deleted_item i v details) ≡ true
deleted_gone i v None = refl
deleted_gone i v (Some d) = refl

abbrev Grows : Catalog → List Change → Change → List ℕ → Type 0
Grows cs earlier change id = live_count id (all_items cs ++ made_by cs (earlier ++ change ∷ [])) + count_by (is_delete_of id) (earlier ++ change ∷ [])
    ≡ live_count id (all_items cs) + count_by (is_publish_of id) (earlier ++ change ∷ [])

counted : (cs : Catalog) (earlier : List Change) (change : Change) (id : List ℕ) (deletes publishes : ℕ) → one (is_delete_of id change) ≡ deletes → one (is_publish_of id change) ≡ publishes
    → live_count id (all_items cs ++ made_by cs (earlier ++ change ∷ [])) + (count_by (is_delete_of id) earlier + deletes)
    ≡ live_count id (all_items cs) + (count_by (is_publish_of id) earlier + publishes)
    → Grows cs earlier change id
counted cs earlier change id deletes publishes d p sum =
    ap (λ (n : ℕ). live_count id (all_items cs ++ made_by cs (earlier ++ change ∷ [])) + n) (count_by-push (is_delete_of id) earlier change ∙ ap (λ (n : ℕ). count_by (is_delete_of id) earlier + n) d)
    ∙ sum
    ∙ sym (ap (λ (n : ℕ). live_count id (all_items cs) + n) (count_by-push (is_publish_of id) earlier change ∙ ap (λ (n : ℕ). count_by (is_publish_of id) earlier + n) p))

relisting_counts : (cs : Catalog) (earlier : List Change) (i : PackageId) (v : Version) (change : Change) (id : List ℕ) (at : ℕ) → HasCounts cs earlier
    → has_change change earlier ≡ false → (changed_id change).key ≡ i.key
    → made_of (length cs + 1) 0 at (live_details (last_changed cs change)) change ≡ relisted_item i v (live_details (last_changed cs change))
    → made_by cs (earlier ++ change ∷ []) ≡ made_by cs earlier ++ made_of (length cs + 1) 0 at (live_details (last_changed cs change)) change ∷ []
    → is_some (live_details (last_changed cs change)) ≡ true
    → live_count id (all_items cs ++ made_by cs (earlier ++ change ∷ [])) + (count_by (is_delete_of id) earlier + 0)
    ≡ live_count id (all_items cs) + (count_by (is_publish_of id) earlier + 0)
relisting_counts cs earlier i v change id at so_far new own is made live =
    let step = stepped cs earlier change id at true new made live in
    let there : is_gone (made_of (length cs + 1) 0 at (live_details (last_changed cs change)) change) ≡ false =
    ap is_gone is ∙ relisted_there i v (live_details (last_changed cs change)) live in
    sum_relisted (bytes_eq id (changed_id change).key) _ _ _ _ _
    (step ∙ ap (λ (gone : Bool). live_count id (all_items cs ++ made_by cs earlier) + one (bytes_eq id (changed_id change).key && not gone)) there) (so_far id)

-- one change more, which fits and is new
pub counts_more : (cs : Catalog) (place : ℕ) (earlier : List Change) (change : Change) → HasCounts cs earlier → unfit cs place earlier change ≡ None
    → has_change change earlier ≡ false → HasCounts cs (earlier ++ change ∷ [])
counts_more cs place earlier (Publish meta nuspec nupkg) so_far fits new id =
    let change : Change = Publish meta nuspec nupkg in
    let made = made_from-push cs (length cs + 1) 0 0 earlier change in
    let free = no_details place (last_number_of (last_changed cs change)) (live_details (last_changed cs change))
    (both_none (existing place (last_number_of (last_changed cs change)) (live_details (last_changed cs change))) (id_full cs place earlier meta.id.key) fits).0 in
    counted cs earlier change id 0 (one (bytes_eq id meta.id.key)) refl refl
    (sum_published (bytes_eq id meta.id.key) _ _ _ _ _ (stepped cs earlier change id made.0 false new made.1 free) (so_far id))
counts_more cs place earlier (Unlist i v) so_far fits new id =
    let change : Change = Unlist i v in
    let made = made_from-push cs (length cs + 1) 0 0 earlier change in
    let there = some_details place (last_number_of (last_changed cs change)) (live_details (last_changed cs change)) fits in
    counted cs earlier change id 0 0 refl refl (relisting_counts cs earlier i v change id made.0 so_far new refl refl made.1 there)
counts_more cs place earlier (Relist i v) so_far fits new id =
    let change : Change = Relist i v in
    let made = made_from-push cs (length cs + 1) 0 0 earlier change in
    let there = some_details place (last_number_of (last_changed cs change)) (live_details (last_changed cs change)) fits in
    counted cs earlier change id 0 0 refl refl (relisting_counts cs earlier i v change id made.0 so_far new refl refl made.1 there)
counts_more cs place earlier (Delete i v) so_far fits new id =
    let change : Change = Delete i v in
    let made = made_from-push cs (length cs + 1) 0 0 earlier change in
    let there = some_details place (last_number_of (last_changed cs change)) (live_details (last_changed cs change)) fits in
    let step = stepped cs earlier change id made.0 true new made.1 there in
    counted cs earlier change id (one (bytes_eq id i.key)) 0 refl refl
    (sum_deleted (bytes_eq id i.key) _ _ _ _ _
    (step ∙ ap (λ (gone : Bool). live_count id (all_items cs ++ made_by cs earlier) + one (bytes_eq id i.key && not gone)) (deleted_gone i v (live_details (last_changed cs change)))) (so_far id))

-- where a look through changes that are of distinct versions stands, when those before its place fit
pub record StandsAt (cs : Catalog) (changes : List Change) (at : ℕ) : Type 0 where
  pub reasons : Seeks (unfit cs) changes at (first_reason (unfit cs) [] 0 changes)
  pub distinct : Seeks twice changes at None
  pub counts : HasCounts cs (take at changes)

pub stands_first : (cs : Catalog) (changes : List Change) → first_reason twice [] 0 changes ≡ None → StandsAt cs changes 0
stands_first cs changes distinct = record { reasons = refl; distinct = distinct; counts = counts_start cs }

pub stands_next : (cs : Catalog) (changes : List Change) (at : ℕ) (change : Change) → at < length changes → change ≡ get_or changes at change
    → StandsAt cs changes at → unfit cs at (take at changes) change ≡ None → StandsAt cs changes (at + 1)
stands_next cs changes at change within is stands fits =
    let later = first_reason twice (take (at + 1) changes) (at + 1) (drop (at + 1) changes) in
    let new = both_none (twice at (take at changes) change) later (sym (reason_here twice changes at change within is) ∙ stands.distinct) in
    let done : take (at + 1) changes ≡ take at changes ++ change ∷ [] = take_more changes at change within ∙ ap (λ (x : Change). take at changes ++ x ∷ []) (sym is) in
    record {
      reasons = found_later (unfit cs) changes at change (first_reason (unfit cs) [] 0 changes) within is stands.reasons fits;
      distinct = new.1;
      counts = subst (HasCounts cs) (sym done) (counts_more cs at (take at changes) change stands.counts fits (is_new at (take at changes) change new.0));
    }
