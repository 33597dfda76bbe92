-- No id has more live versions than it may have, with the items of changes that fit a catalog.
use Rattle.std.proofs.Common.{◌≡◌, ◌<◌, ◌≤◌, ◌+◌, ℕ, suc, List, [], ◌∷◌, ◌++◌, length, map, Bool, true, false, not, Option, Some, None, refl, sym, ◌∙◌, ap, subst, arith, append_assoc, append-nil}
use Rattle.std.specs.Prelude.{◌&&◌, ◌||◌}
use Rattle.std.specs.Str.{bytes_eq}
use Rattle.std.proofs.lemmas.List.{map-append}
use Rattle.nuget_version.specs.Printed.{key_text}
use Rattle.nuget_version.specs.declared.version.Version.{Version}
use Rattle.package_id.specs.declared.id.PackageId.{PackageId}
use Rattle.blob_store.proofs.Areas.{bytes_eq-same}
use Rattle.pkg_meta.specs.Catalog.{Catalog}
use Rattle.pkg_meta.specs.Items.{id_of, is_gone, version_of}
use Rattle.pkg_meta.specs.Lawful.{all_placed, has_like, Placed, placed_from, placed_of}
use Rattle.pkg_meta.specs.declared.item.Details.{Details}
use Rattle.pkg_meta.specs.declared.item.Item.{Item}
use Rattle.catalog_doc.specs.Catalogs.{all_items, id_room, is_live, live_count}
use Rattle.catalog_doc.specs.Commits.{changed_id, changed_version, deleted_item, last_changed, live_details, made_from}
use Rattle.catalog_doc.specs.Verdict.{existing, first_reason, has_change, id_full, last_number_of, twice, unfit}
use Rattle.catalog_doc.specs.declared.change.Change.{Change}
use Rattle.catalog_doc.specs.declared.change.Change.TheVariants.{Publish, Unlist, Relist, Delete}
use Rattle.catalog_doc.proofs.Spelling.{bytes_eq-true}
use Rattle.catalog_laws.proofs.Items.{IsThere, there}
use Rattle.catalog_laws.proofs.Lives.{has_like-append, live_more, live_replaced, one_if}
use Rattle.catalog_laws.proofs.Pairs.{IsOfChange, item_by, keys_of, last_at, made_is, unlike_all, unlike_earlier}
use Rattle.catalog_laws.proofs.Reasons.{both_none, more_than, test_off}

-- the item of a placed one
abbrev what_of : Placed → Item
what_of x = x.what

items_placed_from : (number stamp place : ℕ) (items : List Item) → map what_of (placed_from number stamp place items) ≡ items
items_placed_from number stamp place [] = refl
items_placed_from number stamp place (it ∷ items) = ap (λ (l : List Item). it ∷ l) (items_placed_from number stamp (suc place) items)

-- the items of the placed ones are all items
pub items_placed : (cs : Catalog) → map what_of (all_placed cs) ≡ all_items cs
items_placed [] = refl
items_placed (c ∷ cs) =
    let own = items_placed_from c.commit.number c.commit.stamp 0 c.commit.items in
    let rest = items_placed cs in
    map-append what_of (placed_of c) (all_placed cs) ∙ (λ i. own i ++ rest i)

-- the items of changes behind others
pub made_from-push : (cs : Catalog) (number stamp place : ℕ) (xs : List Change) (y : Change)
    → made_from cs number stamp place (xs ++ y ∷ []) ≡ made_from cs number stamp place xs ++ item_by cs number stamp (place + length xs) y ∷ []
made_from-push cs number stamp place [] y = ap (λ (p : ℕ). item_by cs number stamp p y ∷ []) (omega arith)
made_from-push cs number stamp place (x ∷ xs) y =
    ap (λ (l : List Item). item_by cs number stamp place x ∷ l)
    (made_from-push cs number stamp (suc place) xs y
    ∙ ap (λ (p : ℕ). made_from cs number stamp (suc place) xs ++ item_by cs number stamp p y ∷ []) (omega arith))

-- whatever is deleted isn't live
deleted_gone : (i : PackageId) (v : Version) (o : Option Details) → is_gone (deleted_item i v o) ≡ true
deleted_gone i v None = refl
deleted_gone i v (Some d) = refl

dead : (id : List ℕ) (y : Item) → is_gone y ≡ true → is_live id y [] ≡ false
dead id y gone = ap (λ (b : Bool). bytes_eq id (id_of y).key && (not b && true)) gone ∙ never (bytes_eq id (id_of y).key)
  where
    never : (b : Bool) → (b && false) ≡ false
    never true = refl
    never false = refl

one_at_most : (b : Bool) → one_if b ≤ 1
one_at_most true = omega arith
one_at_most false = omega arith

module _ (cs : Catalog) where
  -- all items after the first changes
  abbrev with_items : List Change → List Item
  with_items earlier = all_items cs ++ made_from cs (length cs + 1) 0 0 earlier

  abbrev HasRoom : List Item → Type 0
  HasRoom items = (id : List ℕ) → live_count id items ≤ id_room

  -- a publish, whose id isn't full
  publish_room : (n : ℕ) (earlier : List Change) (key : List ℕ) (y : Item) → (id_of y).key ≡ key → id_full cs n earlier key ≡ None
      → HasRoom (with_items earlier) → HasRoom (with_items earlier ++ y ∷ [])
  publish_room n earlier key y own free room id = by_id (bytes_eq id key) refl
    where
      by_id : (b : Bool) → bytes_eq id key ≡ b → live_count id (with_items earlier ++ y ∷ []) ≤ id_room
      by_id true is =
          let same : id ≡ key = bytes_eq-true id key is in
          let fewer : live_count key (with_items earlier) < id_room = more_than id_room (live_count key (with_items earlier)) _ free in
          let less : live_count id (with_items earlier) < id_room = subst (λ (k : List ℕ). live_count k (with_items earlier) < id_room) (sym same) fewer in
          let one = one_at_most (is_live id y []) in
          let more = live_more id (with_items earlier) y in
          omega (arith, less, one, more)
      by_id false is =
          let other : is_live id y [] ≡ false =
          ap (λ (k : List ℕ). bytes_eq id k && (not (is_gone y) && true)) own ∙ ap (λ (b : Bool). b && (not (is_gone y) && true)) is in
          let none : one_if (is_live id y []) ≡ 0 = ap one_if other in
          let more = live_more id (with_items earlier) y in
          let old = room id in
          omega (arith, none, more, old)

  delete_room : (earlier : List Change) (y : Item) → is_gone y ≡ true → HasRoom (with_items earlier) → HasRoom (with_items earlier ++ y ∷ [])
  delete_room earlier y gone room id =
      let none : one_if (is_live id y []) ≡ 0 = ap one_if (dead id y gone) in
      let more = live_more id (with_items earlier) y in
      let old = room id in
      omega (arith, none, more, old)

  -- an item of a version whose last item is there, behind those of changes of other versions
  relist_room : (change : Change) (earlier : List Change) (y : Item) → IsOfChange change y → has_change change earlier ≡ false
      → IsThere (last_changed cs change)
      → HasRoom (with_items earlier) → HasRoom (with_items earlier ++ y ∷ [])
  relist_room change earlier y of unlike is room id =
      let key = (changed_id change).key in
      let version = key_text (changed_version change) in
      let x = is.item.what in
      let at = last_at key version (all_placed cs) is.item is.found_is in
      let own = keys_of key version x at.own in
      let made_items = made_from cs (length cs + 1) 0 0 earlier in
      let before = map what_of at.before in
      let after = map what_of at.after ++ made_items in
      let split : with_items earlier ≡ before ++ x ∷ after =
      ap (λ (l : List Item). l ++ made_items) (sym (items_placed cs) ∙ ap (map what_of) at.split ∙ map-append what_of at.before (is.item ∷ at.after))
      ∙ append_assoc before (x ∷ map what_of at.after) made_items in
      let alone : has_like x after ≡ false =
      has_like-append x (map what_of at.after) made_items
      ∙ (λ i. unlike_all key version x at.after own at.none i || unlike_earlier cs (length cs + 1) 0 change x 0 earlier own unlike i) in
      let same_id : (id_of x).key ≡ (id_of y).key = own.id_is ∙ sym of.id_is in
      let same_version : key_text (version_of x) ≡ key_text (version_of y) = own.version_is ∙ sym of.version_is in
      let covers : has_like x (y ∷ []) ≡ true =
      (λ i. (bytes_eq (same_id i) (id_of y).key && bytes_eq (same_version i) (key_text (version_of y))) || false)
      ∙ (λ i. (bytes_eq-same (id_of y).key i && bytes_eq-same (key_text (version_of y)) i) || false) in
      let kept : is_gone x ≡ false = ap is_gone is.item_is in
      let less = live_replaced id before after x y same_id same_version kept alone covers in
      let held : live_count id (before ++ x ∷ after) ≤ id_room = subst (λ (l : List Item). live_count id l ≤ id_room) split (room id) in
      subst (λ (l : List Item). live_count id (l ++ y ∷ []) ≤ id_room) (sym split) (omega (arith, less, held))

  -- one change more
  change_room : (n : ℕ) (earlier : List Change) (change : Change) → has_change change earlier ≡ false → unfit cs n earlier change ≡ None
      → HasRoom (with_items earlier) → HasRoom (with_items earlier ++ item_by cs (length cs + 1) 0 (0 + length earlier) change ∷ [])
  change_room n earlier (Publish meta nuspec nupkg) unlike fits room =
      let last = last_changed cs (Publish meta nuspec nupkg) in
      let parts = both_none (existing n (last_number_of last) (live_details last)) (id_full cs n earlier meta.id.key) fits in
      publish_room n earlier meta.id.key (item_by cs (length cs + 1) 0 (0 + length earlier) (Publish meta nuspec nupkg)) refl parts.1 room
  change_room n earlier (Unlist i v) unlike fits room =
      let last = last_changed cs (Unlist i v) in
      relist_room (Unlist i v) earlier _ (made_is cs (length cs + 1) 0 (0 + length earlier) (Unlist i v)) unlike (there n (last_number_of last) last fits) room
  change_room n earlier (Relist i v) unlike fits room =
      let last = last_changed cs (Relist i v) in
      relist_room (Relist i v) earlier _ (made_is cs (length cs + 1) 0 (0 + length earlier) (Relist i v)) unlike (there n (last_number_of last) last fits) room
  change_room n earlier (Delete i v) unlike fits room =
      delete_room earlier (item_by cs (length cs + 1) 0 (0 + length earlier) (Delete i v)) (deleted_gone i v (live_details (last_changed cs (Delete i v)))) room

  one_more : (n : ℕ) (earlier : List Change) (change : Change) → has_change change earlier ≡ false → unfit cs n earlier change ≡ None
      → HasRoom (with_items earlier) → HasRoom (with_items (earlier ++ change ∷ []))
  one_more n earlier change unlike fits room id =
      let made_items = made_from cs (length cs + 1) 0 0 earlier in
      let y = item_by cs (length cs + 1) 0 (0 + length earlier) change in
      let split : with_items (earlier ++ change ∷ []) ≡ with_items earlier ++ y ∷ [] =
      ap (λ (l : List Item). all_items cs ++ l) (made_from-push cs (length cs + 1) 0 0 earlier change)
      ∙ sym (append_assoc (all_items cs) made_items (y ∷ [])) in
      subst (λ (l : List Item). live_count id l ≤ id_room) (sym split) (change_room n earlier change unlike fits room id)

  -- and all of them
  pub all_room : (n : ℕ) (earlier changes : List Change) → first_reason twice earlier n changes ≡ None → first_reason (unfit cs) earlier n changes ≡ None
      → HasRoom (with_items earlier) → HasRoom (with_items (earlier ++ changes))
  all_room n earlier [] once fit room = subst (λ (l : List Change). HasRoom (with_items l)) (sym (append-nil earlier)) room
  all_room n earlier (change ∷ changes) once fit room =
      let apart = both_none (twice n earlier change) (first_reason twice (earlier ++ change ∷ []) (suc n) changes) once in
      let fits = both_none (unfit cs n earlier change) (first_reason (unfit cs) (earlier ++ change ∷ []) (suc n) changes) fit in
      let next = one_more n earlier change (test_off (has_change change earlier) _ apart.0) fits.0 room in
      subst (λ (l : List Change). HasRoom (with_items l)) (append_assoc earlier (change ∷ []) changes)
      (all_room (suc n) (earlier ++ change ∷ []) changes apart.1 fits.1 next)
