-- The versions that the items of changes are of, and that those of a commit are distinct.
use Rattle.std.proofs.Common.{◌≡◌, ℕ, suc, List, [], ◌∷◌, ◌++◌, map, Bool, true, false, Option, Some, None, refl, sym, ◌∙◌, ap, subst, append_assoc}
use Rattle.std.specs.Prelude.{if◌then◌else◌, ◌&&◌, ◌||◌}
use Rattle.std.specs.Str.{bytes_eq}
use Rattle.std.proofs.lemmas.Bool.{and_parts}
use Rattle.nuget_version.specs.Printed.{key_text}
use Rattle.nuget_version.specs.declared.version.Version.{Version}
use Rattle.package_id.specs.declared.id.PackageId.{PackageId}
use Rattle.blob_store.proofs.Areas.{bytes_eq-turned}
use Rattle.pkg_meta.specs.Catalog.{Catalog}
use Rattle.pkg_meta.specs.Items.{id_of, version_of}
use Rattle.pkg_meta.specs.Lawful.{all_placed, has_like, has_pair, HasDistinctPairs, last_of, or_earlier, Placed}
use Rattle.pkg_meta.specs.declared.item.Item.{Item}
use Rattle.pkg_meta.specs.declared.item.Item.TheVariants as the
use Rattle.catalog_doc.specs.Commits.{changed_id, changed_version, deleted_item, last_changed, live_details, made_from, made_of, relisted_item}
use Rattle.catalog_doc.specs.Verdict.{first_reason, has_change, twice}
use Rattle.catalog_doc.specs.declared.change.Change.{Change}
use Rattle.catalog_doc.specs.declared.change.Change.TheVariants.{Publish, Unlist, Relist, Delete}
use Rattle.catalog_doc.proofs.Spelling.{bytes_eq-true}
use Rattle.catalog_laws.proofs.Reasons.{both_none, test_off}

-- an item of the version of these two keys
pub record IsOfKeys (id version : List ℕ) (it : Item) : Type 0 where
  pub id_is : (id_of it).key ≡ id
  pub version_is : key_text (version_of it) ≡ version

pub keys_of : (id version : List ℕ) (it : Item) → has_pair id version it ≡ true → IsOfKeys id version it
keys_of id version it e =
    let both = and_parts (bytes_eq id (id_of it).key) (bytes_eq version (key_text (version_of it))) e in
    record { id_is = sym (bytes_eq-true id (id_of it).key both.0); version_is = sym (bytes_eq-true version (key_text (version_of it)) both.1) }

-- a version's last item stands among the items, with no later one of the version
pub record IsLastAt (id version : List ℕ) (x : Placed) (xs : List Placed) : Type 0 where
  pub before : List Placed
  pub after : List Placed
  pub split : xs ≡ before ++ x ∷ after
  pub own : has_pair id version x.what ≡ true
  pub none : last_of id version after ≡ None

-- the first of the items is the last one of the version, or it is another one
at_first : (id version : List ℕ) (y : Placed) (ys : List Placed) (x : Placed) (b : Bool) → has_pair id version y.what ≡ b → last_of id version ys ≡ None
    → or_earlier None (if b then Some y else None) ≡ Some x → IsLastAt id version x (y ∷ ys)
at_first id version y ys x true is none e =
    let same : y ≡ x = cc in
    subst (λ (z : Placed). IsLastAt id version z (y ∷ ys)) same (record { before = []; after = ys; split = refl; own = is; none = none })
at_first id version y ys x false is none e = cc

further : (id version : List ℕ) (y : Placed) (ys : List Placed) (x : Placed) (found : Option Placed) → last_of id version ys ≡ found
    → (last_of id version ys ≡ Some x → IsLastAt id version x ys)
    → or_earlier found (if has_pair id version y.what then Some y else None) ≡ Some x → IsLastAt id version x (y ∷ ys)
further id version y ys x None is rest e = at_first id version y ys x (has_pair id version y.what) refl is e
further id version y ys x (Some z) is rest e =
    let at = rest (is ∙ e) in
    record { before = y ∷ at.before; after = at.after; split = ap (λ (l : List Placed). y ∷ l) at.split; own = at.own; none = at.none }

pub last_at : (id version : List ℕ) (xs : List Placed) (x : Placed) → last_of id version xs ≡ Some x → IsLastAt id version x xs
last_at id version [] x e = cc
last_at id version (y ∷ ys) x e = further id version y ys x (last_of id version ys) refl (last_at id version ys x) e

-- no item of the version is like one of it
pub unlike_all : (id version : List ℕ) (it : Item) (xs : List Placed) → IsOfKeys id version it → last_of id version xs ≡ None
    → has_like it (map (λ (x : Placed). x.what) xs) ≡ false
unlike_all id version it [] keys none = refl
unlike_all id version it (x ∷ xs) keys none =
    let parts = earlier_none (last_of id version xs) (has_pair id version x.what) x none in
    (λ i. has_pair (keys.id_is i) (keys.version_is i) x.what || has_like it (map (λ (y : Placed). y.what) xs))
    ∙ ap (λ (b : Bool). b || has_like it (map (λ (y : Placed). y.what) xs)) parts.1
    ∙ unlike_all id version it xs keys parts.0
  where
    earlier_none : (found : Option Placed) (b : Bool) (x : Placed) → or_earlier found (if b then Some x else None) ≡ None → (found ≡ None) × (b ≡ false)
    earlier_none (Some y) b x e = cc
    earlier_none None true x e = cc
    earlier_none None false x e = (refl, refl)

-- the items that changes of listing and deletes make are of the version that they name
abbrev IsOfVersion : PackageId → Version → Item → Type 0
IsOfVersion i v it = IsOfKeys i.key (key_text v) it

relisted_keys : (i : PackageId) (v : Version) (it : Item) → IsOfVersion i v it
    → IsOfVersion i v (relisted_item i v (live_details (Some (record { number = 0; place = 0; stamp = 0; what = it }))))
relisted_keys i v (the.Details d) keys = record { id_is = keys.id_is; version_is = keys.version_is }
relisted_keys i v (the.Gone j w) keys = record { id_is = refl; version_is = refl }

deleted_keys : (i : PackageId) (v : Version) (it : Item) → IsOfVersion i v it
    → IsOfVersion i v (deleted_item i v (live_details (Some (record { number = 0; place = 0; stamp = 0; what = it }))))
deleted_keys i v (the.Details d) keys = record { id_is = keys.id_is; version_is = keys.version_is }
deleted_keys i v (the.Gone j w) keys = record { id_is = refl; version_is = refl }

-- the last item of a version is of it
last_keys : (i : PackageId) (v : Version) (xs : List Placed) (x : Placed) → last_of i.key (key_text v) xs ≡ Some x → IsOfVersion i v x.what
last_keys i v xs x e = keys_of i.key (key_text v) x.what (last_at i.key (key_text v) xs x e).own

relisted_is : (i : PackageId) (v : Version) (found : Option Placed) → ((x : Placed) → found ≡ Some x → IsOfVersion i v x.what)
    → IsOfVersion i v (relisted_item i v (live_details found))
relisted_is i v None of = record { id_is = refl; version_is = refl }
relisted_is i v (Some x) of = relisted_keys i v x.what (of x refl)

deleted_is : (i : PackageId) (v : Version) (found : Option Placed) → ((x : Placed) → found ≡ Some x → IsOfVersion i v x.what)
    → IsOfVersion i v (deleted_item i v (live_details found))
deleted_is i v None of = record { id_is = refl; version_is = refl }
deleted_is i v (Some x) of = deleted_keys i v x.what (of x refl)

-- the item that a change makes of a catalog
abbrev pub item_by : Catalog → ℕ → ℕ → ℕ → Change → Item
item_by cs number stamp place change = made_of number stamp place (live_details (last_changed cs change)) change

-- an item of the version that a change speaks of
abbrev pub IsOfChange : Change → Item → Type 0
IsOfChange change it = IsOfKeys (changed_id change).key (key_text (changed_version change)) it

pub made_is : (cs : Catalog) (number stamp place : ℕ) (change : Change) → IsOfChange change (item_by cs number stamp place change)
made_is cs number stamp place (Publish meta nuspec nupkg) = record { id_is = refl; version_is = refl }
made_is cs number stamp place (Unlist i v) = relisted_is i v (last_of i.key (key_text v) (all_placed cs)) (last_keys i v (all_placed cs))
made_is cs number stamp place (Relist i v) = relisted_is i v (last_of i.key (key_text v) (all_placed cs)) (last_keys i v (all_placed cs))
made_is cs number stamp place (Delete i v) = deleted_is i v (last_of i.key (key_text v) (all_placed cs)) (last_keys i v (all_placed cs))

-- whether two changes speak of one version
abbrev same_version : Change → Change → Bool
same_version change other =
    bytes_eq (changed_id change).key (changed_id other).key && bytes_eq (key_text (changed_version change)) (key_text (changed_version other))

no_or : (a b : Bool) → (a || b) ≡ false → (a ≡ false) × (b ≡ false)
no_or true b e = cc
no_or false b e = (refl, e)

-- a change that none before it is like isn't like one of them
not_like : (change x : Change) (front back : List Change) → has_change change (front ++ x ∷ back) ≡ false → same_version change x ≡ false
not_like change x [] back none = (no_or (same_version change x) (has_change change back) none).0
not_like change x (y ∷ front) back none = not_like change x front back (no_or (same_version change y) (has_change change (front ++ x ∷ back)) none).1

-- items of two changes of different versions differ
items_differ : (change x : Change) (it own : Item) → IsOfChange x it → IsOfChange change own → same_version change x ≡ false
    → has_pair (id_of it).key (key_text (version_of it)) own ≡ false
items_differ change x it own p q apart =
    (λ i. bytes_eq (p.id_is i) (q.id_is i) && bytes_eq (p.version_is i) (q.version_is i))
    ∙ (λ i. bytes_eq-turned (changed_id x).key (changed_id change).key i
    && bytes_eq-turned (key_text (changed_version x)) (key_text (changed_version change)) i)
    ∙ apart

module _ (cs : Catalog) (number stamp : ℕ) where
  -- an item of one change is like none of those of later ones
  unlike_later : (x : Change) (it : Item) (front back : List Change) (n place : ℕ) (changes : List Change) → IsOfChange x it
      → first_reason twice (front ++ x ∷ back) n changes ≡ None → has_like it (made_from cs number stamp place changes) ≡ false
  unlike_later x it front back n place [] of once = refl
  unlike_later x it front back n place (change ∷ changes) of once =
      let parts = both_none (twice n (front ++ x ∷ back) change) (first_reason twice ((front ++ x ∷ back) ++ change ∷ []) (suc n) changes) once in
      let apart = not_like change x front back (test_off (has_change change (front ++ x ∷ back)) _ parts.0) in
      let rest = subst (λ (l : List Change). first_reason twice l (suc n) changes ≡ None) (append_assoc front (x ∷ back) (change ∷ [])) parts.1 in
      ap (λ (b : Bool). b || has_like it (made_from cs number stamp (suc place) changes))
      (items_differ change x it (item_by cs number stamp place change) of (made_is cs number stamp place change) apart)
      ∙ unlike_later x it front (back ++ change ∷ []) (suc n) (suc place) changes of rest

  -- nor like one of those of earlier ones
  pub unlike_earlier : (change : Change) (it : Item) (place : ℕ) (earlier : List Change) → IsOfChange change it → has_change change earlier ≡ false
      → has_like it (made_from cs number stamp place earlier) ≡ false
  unlike_earlier change it place [] of none = refl
  unlike_earlier change it place (x ∷ earlier) of none =
      let parts = no_or (same_version change x) (has_change change earlier) none in
      let own = made_is cs number stamp place x in
      ap (λ (b : Bool). b || has_like it (made_from cs number stamp (suc place) earlier))
      ((λ i. bytes_eq (of.id_is i) (own.id_is i) && bytes_eq (of.version_is i) (own.version_is i)) ∙ parts.0)
      ∙ unlike_earlier change it (suc place) earlier of parts.1

  -- the items of changes of distinct versions speak of distinct ones
  pub distinct_items : (earlier : List Change) (n place : ℕ) (changes : List Change) → first_reason twice earlier n changes ≡ None
      → HasDistinctPairs (made_from cs number stamp place changes)
  distinct_items earlier n place [] once = tt
  distinct_items earlier n place (change ∷ changes) once =
      let parts = both_none (twice n earlier change) (first_reason twice (earlier ++ change ∷ []) (suc n) changes) once in (
        unlike_later change (item_by cs number stamp place change) earlier [] (suc n) (suc place) changes (made_is cs number stamp place change) parts.1,
        distinct_items (earlier ++ change ∷ []) (suc n) (suc place) changes parts.1,
      )
