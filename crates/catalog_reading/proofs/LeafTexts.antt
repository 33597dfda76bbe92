-- The leaf of an item is a text that is read back.
use Rattle.std.proofs.Common.{◌≡◌, ◌<◌, ◌^◌, ℕ, zero, suc, List, [], ◌∷◌, ◌++◌, All, map, codes, decimal, refl, arith, Bool, true, false, Option, None, Some, IfSome, IsUtf8, option_map}
use Rattle.std.specs.Prelude.{if◌then◌else◌}
use Rattle.std.proofs.lemmas.Str.{IsUtf8-append}
use Rattle.serde_json.specs.Data.{boolean, string}
use Rattle.serde_json.specs.View.{items_of}
use Rattle.serde_json.specs.Written.{compact_text}
use Rattle.json_law.specs.Fits.{IsReadable, IsText, ItemsAreText}
use Rattle.nuget_version.specs.declared.version.Version.{Version}
use Rattle.package_id.proofs.Bytes.{IsUtf8-id}
use Rattle.version_range.specs.Grammar.{closing, opening}
use Rattle.version_range.specs.Printed.{end_text, range_text}
use Rattle.version_range.specs.declared.range.VersionRange.{VersionRange}
use Rattle.ticks.specs.Stamp.{stamp_text}
use Rattle.pkg_meta.specs.Trees.{dep_tree, group_table, group_tree, text_if}
use Rattle.pkg_meta.specs.declared.dependency.Dep.{Dep}
use Rattle.pkg_meta.specs.declared.dependency.DepGroup.{DepGroup}
use Rattle.pkg_meta.specs.declared.item.Details.{Details}
use Rattle.pkg_meta.specs.declared.item.Item.{Item}
use Rattle.pkg_meta.specs.declared.item.Item.TheVariants as the
use Rattle.catalog_doc.specs.Documents.{details_leaf_table, leaf_data, leaf_text}
use Rattle.catalog_doc.specs.Names.{leaf_name, place_name}
use Rattle.catalog_doc.specs.Reading.{IsDetailsValue, IsItemValue}
use Rattle.catalog_doc.proofs.LeafData.{SizeFits, leaf_fits, leaf_flat}
use Rattle.catalog_doc.proofs.Slotted.{array_if_each, table_is_text}
use Rattle.catalog_reading.proofs.Readable.{commit_id_text, literal, url_text}
use Rattle.catalog_reading.proofs.Texts.{decimal_is_text, full_is_text, leaf_name_is_text, stamp_is_text}

pub place_name_is_text : (n p : ℕ) → n < 2 ^ 64 → p < 2 ^ 64 → IsUtf8 (place_name n p)
place_name_is_text n p fits other =
    IsUtf8-append (decimal n) _ (decimal_is_text n fits) (IsUtf8-append (codes "/") _ (literal (codes "/") refl) (decimal_is_text p other))

moment_or_1900 : (listed : Bool) (created : ℕ) → IsUtf8 (if listed then stamp_text created else codes "1900-01-01T00:00:00.0000000Z")
moment_or_1900 true created = stamp_is_text created
moment_or_1900 false created = literal (codes "1900-01-01T00:00:00.0000000Z") refl

given : (text : Option (List ℕ)) → IfSome text IsUtf8 → IfSome (text_if text) IsText
given None is = tt
given (Some s) is = is

strings_are_text : (ss : List (List ℕ)) → All IsUtf8 ss → ItemsAreText (items_of (map string ss))
strings_are_text [] all = tt
strings_are_text (s ∷ ss) all = (all zero s (omega arith), strings_are_text ss (λ k x lt. all (suc k) x (omega (arith, lt))))

opening_is_text : (square : Bool) → IsUtf8 (opening square ∷ [])
opening_is_text true = literal (opening true ∷ []) refl
opening_is_text false = literal (opening false ∷ []) refl

closing_is_text : (square : Bool) → IsUtf8 (closing square ∷ [])
closing_is_text true = literal (closing true ∷ []) refl
closing_is_text false = literal (closing false ∷ []) refl

end_is_text : (end : Option Version) → IsUtf8 (end_text end)
end_is_text None = literal [] refl
end_is_text (Some v) = full_is_text v

range_is_text : (r : VersionRange) → IsUtf8 (range_text r)
unfolding range_text
range_is_text r =
    IsUtf8-append (opening r.low_in ∷ []) (end_text r.low ++ (44 ∷ 32 ∷ (end_text r.high ++ closing r.high_in ∷ []))) (opening_is_text r.low_in)
    (IsUtf8-append (end_text r.low) (44 ∷ 32 ∷ (end_text r.high ++ closing r.high_in ∷ [])) (end_is_text r.low)
    (IsUtf8-append (44 ∷ 32 ∷ []) (end_text r.high ++ closing r.high_in ∷ []) (literal (44 ∷ 32 ∷ []) refl)
    (IsUtf8-append (end_text r.high) (closing r.high_in ∷ []) (end_is_text r.high) (closing_is_text r.high_in))))

deps_are_text : (deps : List Dep) → ItemsAreText (items_of (map dep_tree deps))
deps_are_text [] = tt
deps_are_text (dep ∷ deps) = (
  (literal (codes "id") refl, IsUtf8-id dep.id.text dep.id.spelled, (literal (codes "range") refl, range_is_text dep.range, tt)),
  deps_are_text deps,
)

groups_are_text : (gs : List DepGroup) → All (λ (g : DepGroup). IfSome g.framework IsUtf8) gs → ItemsAreText (items_of (map group_tree gs))
groups_are_text [] all = tt
groups_are_text (g ∷ gs) all = (
  table_is_text (group_table g) refl (array_if_each IsText (map dep_tree g.deps) (deps_are_text g.deps), (given g.framework (all zero g (omega arith)), tt)),
  groups_are_text gs (λ k x lt. all (suc k) x (omega (arith, lt))),
)

flag_given : (flag : Option Bool) → IfSome (option_map boolean flag) IsText
flag_given None = tt
flag_given (Some b) = tt

details_are_text : (base : List ℕ) (n p stamp : ℕ) (d : Details) → IsUtf8 base → n < 2 ^ 32 → p < 2 ^ 32 → IsDetailsValue d → IsText (leaf_data base n p stamp (the.Details d))
details_are_text base n p stamp d text fits other is =
    let own = is.texts in
    table_is_text (details_leaf_table base n p stamp d) refl (
      url_text base (leaf_name n p) text (leaf_name_is_text n p (omega arith) (omega arith)),
      (
        (literal (codes "PackageDetails") refl, tt),
        (
          given d.meta.authors own.authors,
          (
            commit_id_text n,
            (
              stamp_is_text stamp,
              (
                stamp_is_text d.created,
                (
                  array_if_each IsText (map group_tree d.meta.groups) (groups_are_text d.meta.groups own.frameworks),
                  (
                    given d.meta.description own.description,
                    (
                      given d.meta.icon_url own.icon_url,
                      (
                        IsUtf8-id d.meta.id.text d.meta.id.spelled,
                        (
                          tt,
                          (
                            given d.meta.license_url own.license_url,
                            (
                              tt,
                              (
                                given d.meta.min_client own.min_client,
                                (
                                  place_name_is_text d.origin_number d.origin_place (omega (arith, is.origin_number)) (omega (arith, is.origin_place)),
                                  (
                                    is.hash,
                                    (
                                      literal (codes "SHA512") refl,
                                      (
                                        tt,
                                        (
                                          given d.meta.project_url own.project_url,
                                          (
                                            moment_or_1900 d.listed d.created,
                                            (
                                              given d.meta.release_notes own.release_notes,
                                              (
                                                flag_given d.meta.require_license,
                                                (
                                                  given d.meta.summary own.summary,
                                                  (
                                                    array_if_each IsText (map string d.meta.tags) (strings_are_text d.meta.tags own.tags),
                                                    (given d.meta.title own.title, (own.verbatim, (full_is_text d.meta.version, tt))),
                                                  ),
                                                ),
                                              ),
                                            ),
                                          ),
                                        ),
                                      ),
                                    ),
                                  ),
                                ),
                              ),
                            ),
                          ),
                        ),
                      ),
                    ),
                  ),
                ),
              ),
            ),
          ),
        ),
      ),
    )

size_fits : (it : Item) → IsItemValue it → SizeFits it
size_fits (the.Details d) is = is.size
size_fits (the.Gone i v) is = tt

leaf_is_text : (base : List ℕ) (n p stamp : ℕ) (it : Item) → IsUtf8 base → n < 2 ^ 32 → p < 2 ^ 32 → IsItemValue it → IsText (leaf_data base n p stamp it)
leaf_is_text base n p stamp (the.Details d) text fits other is = details_are_text base n p stamp d text fits other is
leaf_is_text base n p stamp (the.Gone i v) text fits other is = (
  literal (codes "@id") refl,
  url_text base (leaf_name n p) text (leaf_name_is_text n p (omega arith) (omega arith)),
  (
    literal (codes "@type") refl,
    (literal (codes "PackageDelete") refl, tt),
    (
      literal (codes "catalog:commitId") refl,
      commit_id_text n,
      (
        literal (codes "catalog:commitTimeStamp") refl,
        stamp_is_text stamp,
        (
          literal (codes "id") refl,
          IsUtf8-id i.text i.spelled,
          (
            literal (codes "published") refl,
            stamp_is_text stamp,
            (literal (codes "version") refl, full_is_text v, tt),
          ),
        ),
      ),
    ),
  ),
)

-- the leaf of an item is read back
pub leaf_readable : (base : List ℕ) (n p stamp : ℕ) (it : Item) → IsUtf8 base → n < 2 ^ 32 → p < 2 ^ 32 → IsItemValue it → IsReadable (leaf_data base n p stamp it)
leaf_readable base n p stamp it text fits other is = record {
  fits = leaf_fits base n p stamp it (size_fits it is);
  shallow = leaf_flat base n p stamp it;
  text = leaf_is_text base n p stamp it text fits other is;
}

pub is_compact_leaf : (bytes base : List ℕ) (n p stamp : ℕ) (it : Item) → bytes ≡ leaf_text base n p stamp it → bytes ≡ compact_text (leaf_data base n p stamp it)
unfolding leaf_text
is_compact_leaf bytes base n p stamp it is = is
