-- The data of a leaf: its numbers and keys fit, it is flat, and it has no float.
use Rattle.std.proofs.Common.{◌≡◌, ◌<◌, ◌≤◌, ◌^◌, ℕ, List, [], ◌∷◌, Bool, false, ◌||◌, Option, IfSome, codes, map, refl, ap, ◌∙◌, arith}
use Rattle.std.specs.Bool.{⊤}
use Rattle.serde_json.specs.Data.{Data, array, boolean, depth, item, items_depth, no_items, number, string, unsigned}
use Rattle.serde_json.specs.View.{items_of}
use Rattle.serde_json.specs.Written.{has_float, items_have_float}
use Rattle.json_law.specs.Fits.{Fits, ItemsFit}
use Rattle.pkg_meta.specs.Trees.{dep_tree, group_table, group_tree, later_table, text_if}
use Rattle.pkg_meta.specs.declared.dependency.Dep.{Dep}
use Rattle.pkg_meta.specs.declared.dependency.DepGroup.{DepGroup}
use Rattle.pkg_meta.specs.declared.item.Details.{Details}
use Rattle.pkg_meta.specs.declared.item.Item.{Item}
use Rattle.pkg_meta.specs.declared.item.Item.TheVariants as the
use Rattle.catalog_doc.specs.Documents.{details_leaf_table, leaf_data}
use Rattle.catalog_doc.proofs.Slotted.{Each, array_if_each, flag_if_each, table_deep, table_fits, table_plain, text_if_each}

-- what holds of the values of a details leaf
module _ (P : Data → Type 0) (texts : (s : List ℕ) → P (string s)) (flags : (b : Bool) → P (boolean b)) (d : Details)
    (size : P (number (unsigned d.size))) (kind : P (array (item (string (codes "PackageDetails")) no_items)))
    (tags : P (array (items_of (map string d.meta.tags)))) (groups : P (array (items_of (map group_tree d.meta.groups)))) where
  given : (text : Option (List ℕ)) → IfSome (text_if text) P
  given text = text_if_each P text (λ s is. texts s)

  later_each : Each P (later_table d)
  later_each = (
    texts _,
    (
      array_if_each P (map group_tree d.meta.groups) groups,
      (
        given d.meta.description,
        (
          given d.meta.icon_url,
          (
            texts _,
            (
              flags _,
              (
                given d.meta.license_url,
                (
                  flags _,
                  (
                    given d.meta.min_client,
                    (
                      texts _,
                      (
                        texts _,
                        (
                          texts _,
                          (
                            size,
                            (
                              given d.meta.project_url,
                              (
                                texts _,
                                (
                                  given d.meta.release_notes,
                                  (
                                    flag_if_each P d.meta.require_license flags,
                                    (given d.meta.summary, (array_if_each P (map string d.meta.tags) tags, (given d.meta.title, (texts _, (texts _, tt))))),
                                  ),
                                ),
                              ),
                            ),
                          ),
                        ),
                      ),
                    ),
                  ),
                ),
              ),
            ),
          ),
        ),
      ),
    ),
  )

  pub leaf_each : (base : List ℕ) (n p stamp : ℕ) → Each P (details_leaf_table base n p stamp d)
  leaf_each base n p stamp = (texts _, (kind, (given d.meta.authors, (texts _, (texts _, later_each)))))

strings_fit : (ss : List (List ℕ)) → ItemsFit (items_of (map string ss))
strings_fit [] = tt
strings_fit (s ∷ ss) = (tt, strings_fit ss)

deps_fit : (deps : List Dep) → ItemsFit (items_of (map dep_tree deps))
deps_fit [] = tt
deps_fit (dep ∷ deps) = ((refl, tt, (tt, tt, tt)), deps_fit deps)

groups_fit : (gs : List DepGroup) → ItemsFit (items_of (map group_tree gs))
groups_fit [] = tt
groups_fit (g ∷ gs) =
    (table_fits (group_table g) refl (array_if_each Fits (map dep_tree g.deps) (deps_fit g.deps), (text_if_each Fits g.framework (λ s is. tt), tt)), groups_fit gs)

-- the size of an item's package is a number of 64 bits
abbrev pub SizeFits : Item → Type 0
SizeFits (the.Details d) = d.size < 2 ^ 64
SizeFits (the.Gone i v) = ⊤

pub leaf_fits : (base : List ℕ) (n p stamp : ℕ) (it : Item) → SizeFits it → Fits (leaf_data base n p stamp it)
leaf_fits base n p stamp (the.Details d) size =
    table_fits (details_leaf_table base n p stamp d) refl
    (leaf_each Fits (λ s. tt) (λ b. tt) d size (tt, tt) (strings_fit d.meta.tags) (groups_fit d.meta.groups) base n p stamp)
leaf_fits base n p stamp (the.Gone i v) size = (refl, tt, (refl, (tt, tt), (refl, tt, (refl, tt, (refl, tt, (refl, tt, (tt, tt, tt)))))))

strings_flat : (ss : List (List ℕ)) → items_depth (items_of (map string ss)) ≤ 0
strings_flat [] = omega arith
strings_flat (s ∷ ss) = let rest = strings_flat ss in omega (arith, rest)

deps_flat : (deps : List Dep) → items_depth (items_of (map dep_tree deps)) ≤ 1
deps_flat [] = omega arith
deps_flat (dep ∷ deps) = let rest = deps_flat deps in omega (arith, rest)

groups_flat : (gs : List DepGroup) → items_depth (items_of (map group_tree gs)) ≤ 3
groups_flat [] = omega arith
groups_flat (g ∷ gs) =
    let deps = deps_flat g.deps in
    let first : depth (group_tree g) ≤ 3 =
    table_deep 2 (group_table g) (array_if_each (λ d. depth d ≤ 2) (map dep_tree g.deps) (omega (arith, deps)), (text_if_each (λ d. depth d ≤ 2) g.framework (λ s is. omega arith), tt)) in
    let rest = groups_flat gs in
    omega (arith, first, rest)

pub leaf_flat : (base : List ℕ) (n p stamp : ℕ) (it : Item) → depth (leaf_data base n p stamp it) ≤ 127
leaf_flat base n p stamp (the.Details d) =
    let tags = strings_flat d.meta.tags in
    let groups = groups_flat d.meta.groups in
    let all : depth (leaf_data base n p stamp (the.Details d)) ≤ 5 =
    table_deep 4 (details_leaf_table base n p stamp d)
    (leaf_each (λ x. depth x ≤ 4) (λ s. omega arith) (λ b. omega arith) d (omega arith) (omega arith) (omega (arith, tags)) (omega (arith, groups)) base n p stamp) in
    omega (arith, all)
leaf_flat base n p stamp (the.Gone i v) = omega arith

strings_plain : (ss : List (List ℕ)) → items_have_float (items_of (map string ss)) ≡ false
strings_plain [] = refl
strings_plain (s ∷ ss) = strings_plain ss

deps_plain : (deps : List Dep) → items_have_float (items_of (map dep_tree deps)) ≡ false
deps_plain [] = refl
deps_plain (dep ∷ deps) = deps_plain deps

groups_plain : (gs : List DepGroup) → items_have_float (items_of (map group_tree gs)) ≡ false
groups_plain [] = refl
groups_plain (g ∷ gs) =
    let first : has_float (group_tree g) ≡ false =
    table_plain (group_table g)
    (array_if_each (λ d. has_float d ≡ false) (map dep_tree g.deps) (deps_plain g.deps), (text_if_each (λ d. has_float d ≡ false) g.framework (λ s is. refl), tt)) in
    ap (λ (b : Bool). b || items_have_float (items_of (map group_tree gs))) first ∙ groups_plain gs

pub leaf_plain : (base : List ℕ) (n p stamp : ℕ) (it : Item) → has_float (leaf_data base n p stamp it) ≡ false
leaf_plain base n p stamp (the.Details d) =
    table_plain (details_leaf_table base n p stamp d)
    (leaf_each (λ x. has_float x ≡ false) (λ s. refl) (λ b. refl) d refl refl (strings_plain d.meta.tags) (groups_plain d.meta.groups) base n p stamp)
leaf_plain base n p stamp (the.Gone i v) = refl
