-- What data says that shows details.
use Rattle.std.proofs.Common.{◌≡◌, ℕ, List, [], ◌∷◌, Bool, codes, map, Option, Some, None, IfOk, Result, Ok, Err, option_map, refl, sym, ◌∙◌, ap, subst}
use Rattle.std.specs.List.{filter_map}
use Rattle.std.specs.Option.{option_and_then, option_map_or}
use Rattle.serde_json.specs.Data.{Data, boolean, object, string}
use Rattle.serde_json.specs.Find.{as_array, as_bool, as_number, as_str, as_u64, get}
use Rattle.nuget_version.specs.Printed.{full_text}
use Rattle.ticks.specs.Stamp.{stamp_text}
use Rattle.pkg_meta.specs.Members.{Slot, present, slot_value}
use Rattle.version_range.specs.Printed.{range_text}
use Rattle.pkg_meta.specs.Texts.{texts_at, texts_of}
use Rattle.pkg_meta.specs.Trees.{array_if, dep_tree, details_table, details_tree, group_table, group_tree, text_if}
use Rattle.pkg_meta.specs.Values.{flag_at, items_at, list_of, text_at}
use Rattle.pkg_meta.specs.declared.dependency.Dep.{Dep}
use Rattle.pkg_meta.specs.declared.dependency.DepGroup.{DepGroup}
use Rattle.pkg_meta.specs.declared.item.Details.{Details}
use Rattle.pkg_meta.specs.declared.item.Item.TheVariants as the
use Rattle.pkg_meta.proofs.Lists.{list_of-items_of}
use Rattle.catalog_doc.specs.Documents.{details_leaf_table, leaf_data}
use Rattle.catalog_doc.specs.Names.{place_name}
use Rattle.catalog_doc.proofs.Slotted.{table_get}
use Rattle.catalog_reading.specs.Shown.{number_under, ShowsDetails}

module _ (base : List ℕ) (n p stamp : ℕ) (d : Details) where
  abbrev leaf_table : List Slot
  leaf_table = details_leaf_table base n p stamp d

  in_leaf : (k : List ℕ) → get k (object (present leaf_table)) ≡ slot_value k leaf_table
  in_leaf k = table_get k leaf_table refl

  leaf_shown : ShowsDetails d (object (present leaf_table))
  leaf_shown = (
    in_leaf (codes "authors"),
    (
      in_leaf (codes "created"),
      (
        in_leaf (codes "dependencyGroups"),
        (
          in_leaf (codes "description"),
          (
            in_leaf (codes "iconUrl"),
            (
              in_leaf (codes "id"),
              (
                in_leaf (codes "isPrerelease"),
                (
                  in_leaf (codes "licenseUrl"),
                  (
                    in_leaf (codes "listed"),
                    (
                      in_leaf (codes "minClientVersion"),
                      (
                        in_leaf (codes "origin"),
                        (
                          in_leaf (codes "packageHash"),
                          (
                            in_leaf (codes "packageHashAlgorithm"),
                            (
                              in_leaf (codes "packageSize"),
                              (
                                in_leaf (codes "projectUrl"),
                                (
                                  in_leaf (codes "published"),
                                  (
                                    in_leaf (codes "releaseNotes"),
                                    (
                                      in_leaf (codes "requireLicenseAcceptance"),
                                      (
                                        in_leaf (codes "summary"),
                                        (
                                          in_leaf (codes "tags"),
                                          (
                                            in_leaf (codes "title"),
                                            (
                                              in_leaf (codes "verbatimVersion"),
                                              (
                                                in_leaf (codes "version"),
                                                tt,
                                              ),
                                            ),
                                          ),
                                        ),
                                      ),
                                    ),
                                  ),
                                ),
                              ),
                            ),
                          ),
                        ),
                      ),
                    ),
                  ),
                ),
              ),
            ),
          ),
        ),
      ),
    ),
  )

-- the leaf of details shows them
pub leaf_shows : (base : List ℕ) (n p stamp : ℕ) (d : Details) (leaf : Data) → leaf ≡ leaf_data base n p stamp (the.Details d) → ShowsDetails d leaf
leaf_shows base n p stamp d leaf is = subst (ShowsDetails d) (sym is) (leaf_shown base n p stamp d)

module _ (d : Details) where
  in_tree : (k : List ℕ) → get k (object (present (details_table d))) ≡ slot_value k (details_table d)
  in_tree k = table_get k (details_table d) refl

  tree_shown : ShowsDetails d (object (present (details_table d)))
  tree_shown = (
    in_tree (codes "authors"),
    (
      in_tree (codes "created"),
      (
        in_tree (codes "dependencyGroups"),
        (
          in_tree (codes "description"),
          (
            in_tree (codes "iconUrl"),
            (
              in_tree (codes "id"),
              (
                in_tree (codes "isPrerelease"),
                (
                  in_tree (codes "licenseUrl"),
                  (
                    in_tree (codes "listed"),
                    (
                      in_tree (codes "minClientVersion"),
                      (
                        in_tree (codes "origin"),
                        (
                          in_tree (codes "packageHash"),
                          (
                            in_tree (codes "packageHashAlgorithm"),
                            (
                              in_tree (codes "packageSize"),
                              (
                                in_tree (codes "projectUrl"),
                                (
                                  in_tree (codes "published"),
                                  (
                                    in_tree (codes "releaseNotes"),
                                    (
                                      in_tree (codes "requireLicenseAcceptance"),
                                      (
                                        in_tree (codes "summary"),
                                        (
                                          in_tree (codes "tags"),
                                          (
                                            in_tree (codes "title"),
                                            (
                                              in_tree (codes "verbatimVersion"),
                                              (
                                                in_tree (codes "version"),
                                                tt,
                                              ),
                                            ),
                                          ),
                                        ),
                                      ),
                                    ),
                                  ),
                                ),
                              ),
                            ),
                          ),
                        ),
                      ),
                    ),
                  ),
                ),
              ),
            ),
          ),
        ),
      ),
    ),
  )

-- and so does the tree of details
pub tree_shows : (d : Details) (tree : Data) → tree ≡ details_tree d → ShowsDetails d tree
unfolding details_tree
tree_shows d tree is = subst (ShowsDetails d) (sym is) (tree_shown d)

-- a text, a truth value and an array where they are given
text_given : (text : Option (List ℕ)) → option_and_then as_str (text_if text) ≡ text
text_given None = refl
text_given (Some s) = refl

flag_given : (flag : Option Bool) → option_and_then as_bool (option_map boolean flag) ≡ flag
flag_given None = refl
flag_given (Some b) = refl

items_given : (ds : List Data) → option_map_or list_of (option_and_then as_array (array_if ds)) [] ≡ ds
items_given [] = refl
items_given (d ∷ ds) = list_of-items_of (d ∷ ds)

pub strings_back : (ss : List (List ℕ)) → filter_map as_str (map string ss) ≡ ss
strings_back [] = refl
strings_back (s ∷ ss) = ap (λ (rest : List (List ℕ)). s ∷ rest) (strings_back ss)

-- the member of this name, for what is read of it
pub text_found : (k : List ℕ) (x : Data) (text : Option (List ℕ)) → get k x ≡ text_if text → text_at k x ≡ text
text_found k x text is = ap (option_and_then as_str) is ∙ text_given text

pub items_found : (k : List ℕ) (x : Data) (ds : List Data) → get k x ≡ array_if ds → items_at k x ≡ ds
items_found k x ds is = ap (λ (o : Option Data). option_map_or list_of (option_and_then as_array o) []) is ∙ items_given ds

-- an answer that is one thing is another that is equal
pub told : {A E : Type 0} {x y : A} (r : Result A E) → IfOk r (λ found. found ≡ x) → x ≡ y → IfOk r (λ found. found ≡ y)
told (Ok found) is e = is ∙ e
told (Err error) is e = tt

module _ (d : Details) (leaf : Data) (shows : ShowsDetails d leaf) where
  pub shows_created : text_at (codes "created") leaf ≡ Some (stamp_text d.created)
  shows_created = ap (option_and_then as_str) (shows.1.0)

  pub shows_origin : text_at (codes "origin") leaf ≡ Some (place_name d.origin_number d.origin_place)
  shows_origin = ap (option_and_then as_str) (shows.1.1.1.1.1.1.1.1.1.1.0)

  pub shows_id : text_at (codes "id") leaf ≡ Some d.meta.id.text
  shows_id = ap (option_and_then as_str) (shows.1.1.1.1.1.0)

  pub shows_hash : text_at (codes "packageHash") leaf ≡ Some d.hash
  shows_hash = ap (option_and_then as_str) (shows.1.1.1.1.1.1.1.1.1.1.1.0)

  pub shows_verbatim : text_at (codes "verbatimVersion") leaf ≡ Some d.meta.verbatim
  shows_verbatim = ap (option_and_then as_str) (shows.1.1.1.1.1.1.1.1.1.1.1.1.1.1.1.1.1.1.1.1.1.0)

  pub shows_version : text_at (codes "version") leaf ≡ Some (full_text d.meta.version)
  shows_version = ap (option_and_then as_str) (shows.1.1.1.1.1.1.1.1.1.1.1.1.1.1.1.1.1.1.1.1.1.1.0)

  pub shows_listed : flag_at (codes "listed") leaf ≡ Some d.listed
  shows_listed = ap (option_and_then as_bool) (shows.1.1.1.1.1.1.1.1.0)

  pub shows_size : number_under (codes "packageSize") leaf ≡ Some d.size
  shows_size = ap (λ (o : Option Data). option_and_then (λ (x : Data). option_and_then as_u64 (as_number x)) o) (shows.1.1.1.1.1.1.1.1.1.1.1.1.1.0)

  pub shows_require_license : flag_at (codes "requireLicenseAcceptance") leaf ≡ d.meta.require_license
  shows_require_license = ap (option_and_then as_bool) (shows.1.1.1.1.1.1.1.1.1.1.1.1.1.1.1.1.1.0) ∙ flag_given d.meta.require_license

  pub shows_tags : filter_map as_str (items_at (codes "tags") leaf) ≡ d.meta.tags
  shows_tags = ap (filter_map as_str) (items_found (codes "tags") leaf (map string d.meta.tags) (shows.1.1.1.1.1.1.1.1.1.1.1.1.1.1.1.1.1.1.1.0)) ∙ strings_back d.meta.tags

  pub shows_groups : items_at (codes "dependencyGroups") leaf ≡ map group_tree d.meta.groups
  shows_groups = items_found (codes "dependencyGroups") leaf (map group_tree d.meta.groups) (shows.1.1.0)

  pub shows_texts : texts_at leaf ≡ texts_of d.meta
  shows_texts =
      let icon_url_is = text_found (codes "iconUrl") leaf d.meta.icon_url (shows.1.1.1.1.0) in
      let license_url_is = text_found (codes "licenseUrl") leaf d.meta.license_url (shows.1.1.1.1.1.1.1.0) in
      let project_url_is = text_found (codes "projectUrl") leaf d.meta.project_url (shows.1.1.1.1.1.1.1.1.1.1.1.1.1.1.0) in
      let authors_is = text_found (codes "authors") leaf d.meta.authors (shows.0) in
      let description_is = text_found (codes "description") leaf d.meta.description (shows.1.1.1.0) in
      let summary_is = text_found (codes "summary") leaf d.meta.summary (shows.1.1.1.1.1.1.1.1.1.1.1.1.1.1.1.1.1.1.0) in
      let title_is = text_found (codes "title") leaf d.meta.title (shows.1.1.1.1.1.1.1.1.1.1.1.1.1.1.1.1.1.1.1.1.0) in
      let min_client_is = text_found (codes "minClientVersion") leaf d.meta.min_client (shows.1.1.1.1.1.1.1.1.1.0) in
      let release_notes_is = text_found (codes "releaseNotes") leaf d.meta.release_notes (shows.1.1.1.1.1.1.1.1.1.1.1.1.1.1.1.1.0) in
      λ i. record {
        addresses = record { icon_url = icon_url_is i; license_url = license_url_is i; project_url = project_url_is i };
        prose = record { authors = authors_is i; description = description_is i; summary = summary_is i; title = title_is i };
        release = record { min_client = min_client_is i; release_notes = release_notes_is i };
      }

-- what a group and a dependency show
pub group_framework : (g : DepGroup) (x : Data) → x ≡ group_tree g → text_at (codes "targetFramework") x ≡ g.framework
group_framework g x is = text_found (codes "targetFramework") x g.framework (ap (get (codes "targetFramework")) is ∙ table_get (codes "targetFramework") (group_table g) refl)

pub group_deps : (g : DepGroup) (x : Data) → x ≡ group_tree g → items_at (codes "dependencies") x ≡ map dep_tree g.deps
group_deps g x is = items_found (codes "dependencies") x (map dep_tree g.deps) (ap (get (codes "dependencies")) is ∙ table_get (codes "dependencies") (group_table g) refl)

pub dep_id : (dep : Dep) (x : Data) → x ≡ dep_tree dep → text_at (codes "id") x ≡ Some dep.id.text
dep_id dep x is = ap (text_at (codes "id")) is

pub dep_range : (dep : Dep) (x : Data) → x ≡ dep_tree dep → text_at (codes "range") x ≡ Some (range_text dep.range)
dep_range dep x is = ap (text_at (codes "range")) is
