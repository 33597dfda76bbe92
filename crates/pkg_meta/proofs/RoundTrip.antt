-- What metadata prints as is read back.
use Rattle.std.proofs.Common.{◌≡◌, ◌≤◌, ℕ, List, [], ◌∷◌, length, Bool, true, ◌&&◌, Option, Some, None, option_map, option_and_then, unwrap_or, codes, map, refl, sym, ap, ◌∙◌, subst, arith}
use Rattle.std.specs.List.{filter_map, list_all}
use Rattle.std.specs.Option.{option_map_or}
use Rattle.serde_json.specs.Data.{Data, boolean, object, string}
use Rattle.serde_json.specs.Find.{as_array, as_bool, as_str, get}
use Rattle.serde_json.specs.Written.{compact_text}
use Rattle.json_law.proofs.Back.{read-compact_text}
use Rattle.json_law.proofs.Utf8.{IsUtf8-compact_text}
use Rattle.nuget_version.proofs.ReadBack.{full_reads}
use Rattle.version_range.proofs.ReadBack.{reads_back}
use Rattle.pkg_meta.specs.Kinds.{first_misfit, is_dep, is_group, is_of_kind, kinds}
use Rattle.pkg_meta.specs.Laws.{restated}
use Rattle.pkg_meta.specs.Members.{present, slot_value}
use Rattle.pkg_meta.specs.Publisher.{IsDepOf, IsGroupOf, IsMetaOf, IsMetaText, Match}
use Rattle.pkg_meta.specs.TextMeta.{IsTextMeta}
use Rattle.pkg_meta.specs.Texts.{texts_at, texts_of}
use Rattle.pkg_meta.specs.Trees.{array_if, dep_tree, group_table, group_tree, meta_table, meta_tree, text_if}
use Rattle.pkg_meta.specs.Values.{flag_at, is_array_of, is_flag, is_optional, is_required, is_text, items_at, list_of, text_at}
use Rattle.pkg_meta.specs.declared.dependency.Dep.{Dep}
use Rattle.pkg_meta.specs.declared.dependency.DepGroup.{DepGroup}
use Rattle.pkg_meta.specs.declared.kinds.Kind.{Kind}
use Rattle.pkg_meta.specs.declared.meta.Meta.{Meta}
use Rattle.pkg_meta.proofs.Lists.{list_of-items_of}
use Rattle.pkg_meta.proofs.Printed.{meta_is}
use Rattle.pkg_meta.proofs.Slots.{get_slot}

text_from : (d : Data) (k : List ℕ) (text : Option (List ℕ)) → get k d ≡ text_if text → text ≡ text_at k d
text_from d k None is = sym (ap (option_and_then as_str) is)
text_from d k (Some t) is = sym (ap (option_and_then as_str) is)

flag_from : (d : Data) (k : List ℕ) (flag : Option Bool) → get k d ≡ option_map boolean flag → flag ≡ flag_at k d
flag_from d k None is = sym (ap (option_and_then as_bool) is)
flag_from d k (Some b) is = sym (ap (option_and_then as_bool) is)

array_items : (ds : List Data) → option_map_or list_of (option_and_then as_array (array_if ds)) [] ≡ ds
array_items [] = refl
array_items (d ∷ ds) = list_of-items_of (d ∷ ds)

items_from : (d : Data) (k : List ℕ) (ds : List Data) → get k d ≡ array_if ds → items_at k d ≡ ds
items_from d k ds is = ap (λ (o : Option Data). option_map_or list_of (option_and_then as_array o) []) is ∙ array_items ds

text_if_fits : (text : Option (List ℕ)) → is_optional is_text (text_if text) ≡ true
text_if_fits None = refl
text_if_fits (Some t) = refl

text_fits : (d : Data) (k : List ℕ) (text : Option (List ℕ)) → get k d ≡ text_if text → is_optional is_text (get k d) ≡ true
text_fits d k text is = ap (is_optional is_text) is ∙ text_if_fits text

flag_if_fits : (flag : Option Bool) → is_optional is_flag (option_map boolean flag) ≡ true
flag_if_fits None = refl
flag_if_fits (Some b) = refl

flag_fits : (d : Data) (k : List ℕ) (flag : Option Bool) → get k d ≡ option_map boolean flag → is_optional is_flag (get k d) ≡ true
flag_fits d k flag is = ap (is_optional is_flag) is ∙ flag_if_fits flag

array_if_fits : (kind : Data → Bool) (ds : List Data) → list_all kind ds ≡ true → is_optional (is_array_of kind) (array_if ds) ≡ true
array_if_fits kind [] all = refl
array_if_fits kind (d ∷ ds) all = ap (list_all kind) (list_of-items_of (d ∷ ds)) ∙ all

array_fits : (kind : Data → Bool) (d : Data) (k : List ℕ) (ds : List Data) → get k d ≡ array_if ds → list_all kind ds ≡ true → is_optional (is_array_of kind) (get k d) ≡ true
array_fits kind d k ds is all = ap (is_optional (is_array_of kind)) is ∙ array_if_fits kind ds all

both : (a b : Bool) → a ≡ true → b ≡ true → (a && b) ≡ true
both a b p q = rw p q

texts_fit : (texts : List (List ℕ)) → list_all is_text (map string texts) ≡ true
texts_fit [] = refl
texts_fit (t ∷ ts) = texts_fit ts

deps_fit : (deps : List Dep) → list_all is_dep (map dep_tree deps) ≡ true
deps_fit [] = refl
deps_fit (dep ∷ deps) = deps_fit deps

group_at : (g : DepGroup) (k : List ℕ) → get k (group_tree g) ≡ slot_value k (group_table g)
group_at g k = get_slot k (group_table g) refl

group_fits : (g : DepGroup) → is_group (group_tree g) ≡ true
group_fits g = both _ _
    (text_fits (group_tree g) (codes "targetFramework") g.framework (group_at g (codes "targetFramework")))
    (array_fits is_dep (group_tree g) (codes "dependencies") (map dep_tree g.deps) (group_at g (codes "dependencies")) (deps_fit g.deps))

groups_fit : (groups : List DepGroup) → list_all is_group (map group_tree groups) ≡ true
groups_fit [] = refl
groups_fit (g ∷ gs) = both (is_group (group_tree g)) (list_all is_group (map group_tree gs)) (group_fits g) (groups_fit gs)

dep_says : (dep : Dep) → IsDepOf (dep_tree dep) dep
dep_says dep = record { id = refl; range = reads_back dep.range }

deps_say : (deps : List Dep) → Match IsDepOf (map dep_tree deps) deps
deps_say [] = tt
deps_say (dep ∷ deps) = (dep_says dep, deps_say deps)

group_says : (g : DepGroup) → IsGroupOf (group_tree g) g
group_says g = record {
  framework = text_from (group_tree g) (codes "targetFramework") g.framework (group_at g (codes "targetFramework"));
  deps = subst (λ (ds : List Data). Match IsDepOf ds g.deps) (sym (items_from (group_tree g) (codes "dependencies") (map dep_tree g.deps) (group_at g (codes "dependencies")))) (deps_say g.deps);
}

groups_say : (groups : List DepGroup) → Match IsGroupOf (map group_tree groups) groups
groups_say [] = tt
groups_say (g ∷ gs) = (group_says g, groups_say gs)

tags_back : (tags : List (List ℕ)) → filter_map as_str (map string tags) ≡ tags
tags_back [] = refl
tags_back (t ∷ ts) = ap (λ (rest : List (List ℕ)). t ∷ rest) (tags_back ts)

abbrev tree : Meta → Data
tree m = object (present (meta_table m))

at : (m : Meta) (k : List ℕ) → get k (tree m) ≡ slot_value k (meta_table m)
at m k = get_slot k (meta_table m) refl

-- each of the rows fits
AllFit : List (List ℕ × Kind) → Data → Type 0
AllFit [] d = Unit {0}
AllFit (row ∷ rows) d = (is_of_kind row.1 (get row.0 d) ≡ true) × AllFit rows d

no_misfit : (rows : List (List ℕ × Kind)) (d : Data) → AllFit rows d → first_misfit rows d ≡ None
unfolding AllFit
no_misfit [] d fit = refl
no_misfit (row ∷ rows) d fit = rw fit.0 (no_misfit rows d fit.1)

tree_fits : (m : Meta) → first_misfit kinds (tree m) ≡ None
unfolding AllFit
tree_fits m = no_misfit kinds (tree m) (
  text_fits (tree m) (codes "authors") m.authors (at m (codes "authors")),
  (
    array_fits is_group (tree m) (codes "dependencyGroups") (map group_tree m.groups) (at m (codes "dependencyGroups")) (groups_fit m.groups),
    (
      text_fits (tree m) (codes "description") m.description (at m (codes "description")),
      (
        text_fits (tree m) (codes "iconUrl") m.icon_url (at m (codes "iconUrl")),
        (
          ap (is_required is_text) (at m (codes "id")),
          (
            text_fits (tree m) (codes "licenseUrl") m.license_url (at m (codes "licenseUrl")),
            (
              text_fits (tree m) (codes "minClientVersion") m.min_client (at m (codes "minClientVersion")),
              (
                text_fits (tree m) (codes "projectUrl") m.project_url (at m (codes "projectUrl")),
                (
                  text_fits (tree m) (codes "releaseNotes") m.release_notes (at m (codes "releaseNotes")),
                  (
                    flag_fits (tree m) (codes "requireLicenseAcceptance") m.require_license (at m (codes "requireLicenseAcceptance")),
                    (
                      text_fits (tree m) (codes "summary") m.summary (at m (codes "summary")),
                      (
                        array_fits is_text (tree m) (codes "tags") (map string m.tags) (at m (codes "tags")) (texts_fit m.tags),
                        (
                          text_fits (tree m) (codes "title") m.title (at m (codes "title")),
                          (
                            ap (is_required is_text) (at m (codes "version")),
                            tt,
                          ),
                        ),
                      ),
                    ),
                  ),
                ),
              ),
            ),
          ),
        ),
      ),
    ),
  ),
)

texts_back : (m : Meta) → texts_of (restated m) ≡ texts_at (tree m)
texts_back m =
    let icon_url_is = text_from (tree m) (codes "iconUrl") m.icon_url (at m (codes "iconUrl")) in
    let license_url_is = text_from (tree m) (codes "licenseUrl") m.license_url (at m (codes "licenseUrl")) in
    let project_url_is = text_from (tree m) (codes "projectUrl") m.project_url (at m (codes "projectUrl")) in
    let authors_is = text_from (tree m) (codes "authors") m.authors (at m (codes "authors")) in
    let description_is = text_from (tree m) (codes "description") m.description (at m (codes "description")) in
    let summary_is = text_from (tree m) (codes "summary") m.summary (at m (codes "summary")) in
    let title_is = text_from (tree m) (codes "title") m.title (at m (codes "title")) in
    let min_client_is = text_from (tree m) (codes "minClientVersion") m.min_client (at m (codes "minClientVersion")) in
    let release_notes_is = text_from (tree m) (codes "releaseNotes") m.release_notes (at m (codes "releaseNotes")) in
    λ i. record {
      addresses = record { icon_url = icon_url_is i; license_url = license_url_is i; project_url = project_url_is i };
      prose = record { authors = authors_is i; description = description_is i; summary = summary_is i; title = title_is i };
      release = record { min_client = min_client_is i; release_notes = release_notes_is i };
    }

tree_says : (m : Meta) → IsMetaOf (tree m) (restated m)
tree_says m = record {
  id = sym (ap (λ (o : Option Data). unwrap_or (option_and_then as_str o) []) (at m (codes "id")));
  verbatim = sym (ap (λ (o : Option Data). unwrap_or (option_and_then as_str o) []) (at m (codes "version")));
  version = full_reads m.version;
  texts = texts_back m;
  require_license = flag_from (tree m) (codes "requireLicenseAcceptance") m.require_license (at m (codes "requireLicenseAcceptance"));
  tags = sym (ap (filter_map as_str) (items_from (tree m) (codes "tags") (map string m.tags) (at m (codes "tags"))) ∙ tags_back m.tags);
  groups = subst (λ (ds : List Data). Match IsGroupOf ds m.groups) (sym (items_from (tree m) (codes "dependencyGroups") (map group_tree m.groups) (at m (codes "dependencyGroups")))) (groups_say m.groups);
}

pub meta_back : (m : Meta) → IsTextMeta m → length (compact_text (meta_tree m)) ≤ 32_768 → IsMetaText (compact_text (meta_tree m)) (restated m)
unfolding meta_tree
meta_back m is short =
    let readable = meta_is m is in
    record {
      object = tree m;
      fits = record {
        text = record {
          short = short;
          utf8 = IsUtf8-compact_text (tree m) readable.fits readable.text;
          says = read-compact_text (tree m) readable.fits (omega (arith, readable.shallow));
          whole = refl;
        };
        fits = tree_fits m;
      };
      says = tree_says m;
    }
