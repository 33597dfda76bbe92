-- A leaf is that of one item.
use Rattle.std.proofs.Common.{◌≡◌, ◌<◌, ◌^◌, ℕ, List, [], ◌∷◌, ◌++◌, codes, decimal, map, get_or, true, false, refl, sym, ◌∙◌, ap, subst, arith, append_assoc}
use Rattle.std.proofs.lemmas.Option.{same_Some}
use Rattle.serde_json.specs.Data.{Data}
use Rattle.json_law.proofs.Back.{compact_text-injective}
use Rattle.nuget_version.specs.Printed.{full_text}
use Rattle.nuget_version.specs.declared.version.Version.{Version}
use Rattle.package_id.specs.declared.id.PackageId.{PackageId}
use Rattle.version_range.specs.Printed.{range_text}
use Rattle.version_range.specs.Grammar.{SpellsRange}
use Rattle.version_range.proofs.OneRange.{one_range}
use Rattle.version_range.proofs.ReadBack.{reads_back}
use Rattle.pkg_meta.specs.Trees.{dep_tree, group_tree}
use Rattle.pkg_meta.specs.declared.dependency.Dep.{Dep}
use Rattle.pkg_meta.specs.declared.dependency.DepGroup.{DepGroup}
use Rattle.pkg_meta.specs.declared.item.Details.{Details}
use Rattle.pkg_meta.specs.declared.item.Item.{Item}
use Rattle.pkg_meta.specs.declared.item.Item.TheVariants as the
use Rattle.catalog_doc.specs.Documents.{leaf_data, leaf_text}
use Rattle.catalog_doc.specs.Names.{leaf_name, place_name}
use Rattle.catalog_doc.specs.Reading.{IsDetailsValue, IsItemValue}
use Rattle.catalog_doc.proofs.DocNames.{leaf_name-number, leaf_name-place}
use Rattle.catalog_doc.proofs.LeafData.{leaf_fits, leaf_flat, SizeFits}
use Rattle.catalog_doc.proofs.RowData.{same_id, same_stamp, same_version, text_in}
use Rattle.catalog_reading.specs.Shown.{leaf_kind, ShowsDetails}
use Rattle.catalog_reading.proofs.Leaves.{gone_id, gone_version, leaf_type}
use Rattle.catalog_reading.proofs.Shows.{dep_id, dep_range, group_deps, group_framework, leaf_shows, shows_created, shows_groups, shows_hash, shows_id, shows_listed, shows_origin, shows_require_license, shows_size, shows_tags, shows_texts, shows_verbatim, shows_version}

-- the trees of dependencies and of their groups tell them
same_dep : (a b : Dep) → dep_tree a ≡ dep_tree b → a ≡ b
same_dep a b e =
    let id : a.id ≡ b.id = same_id a.id b.id (same_Some a.id.text b.id.text (sym (dep_id a (dep_tree b) (sym e)) ∙ dep_id b (dep_tree b) refl)) in
    let text : range_text a.range ≡ range_text b.range =
    same_Some (range_text a.range) (range_text b.range) (sym (dep_range a (dep_tree b) (sym e)) ∙ dep_range b (dep_tree b) refl) in
    let range : a.range ≡ b.range =
    one_range (range_text b.range) a.range b.range (subst (λ (t : List ℕ). SpellsRange t a.range) text (reads_back a.range)) (reads_back b.range) in
    λ i. record { id = id i; range = range i }

first_data : (x y : Data) (xs ys : List Data) → x ∷ xs ≡ y ∷ ys → (x ≡ y) × (xs ≡ ys)
first_data x y xs ys e = (cc, cc)

same_deps : (xs ys : List Dep) → map dep_tree xs ≡ map dep_tree ys → xs ≡ ys
same_deps [] [] e = refl
same_deps [] (y ∷ ys) e = cc
same_deps (x ∷ xs) [] e = cc
same_deps (x ∷ xs) (y ∷ ys) e =
    let parts = first_data (dep_tree x) (dep_tree y) (map dep_tree xs) (map dep_tree ys) e in
    let own = same_dep x y parts.0 in
    let rest = same_deps xs ys parts.1 in
    λ i. own i ∷ rest i

same_group : (g h : DepGroup) → group_tree g ≡ group_tree h → g ≡ h
same_group g h e =
    let framework : g.framework ≡ h.framework = sym (group_framework g (group_tree h) (sym e)) ∙ group_framework h (group_tree h) refl in
    let deps : g.deps ≡ h.deps = same_deps g.deps h.deps (sym (group_deps g (group_tree h) (sym e)) ∙ group_deps h (group_tree h) refl) in
    λ i. record { framework = framework i; deps = deps i }

same_groups : (gs hs : List DepGroup) → map group_tree gs ≡ map group_tree hs → gs ≡ hs
same_groups [] [] e = refl
same_groups [] (h ∷ hs) e = cc
same_groups (g ∷ gs) [] e = cc
same_groups (g ∷ gs) (h ∷ hs) e =
    let parts = first_data (group_tree g) (group_tree h) (map group_tree gs) (map group_tree hs) e in
    let own = same_group g h parts.0 in
    let rest = same_groups gs hs parts.1 in
    λ i. own i ∷ rest i

-- a place's text as the middle of a leaf's name
as_leaf_name : (n p : ℕ) → codes "data/" ++ (place_name n p ++ codes ".json") ≡ leaf_name n p
as_leaf_name n p = ap (λ (l : List ℕ). codes "data/" ++ l) (append_assoc (decimal n) (codes "/" ++ decimal p) (codes ".json"))

same_place : (m n p q : ℕ) → m < 2 ^ 32 → n < 2 ^ 32 → p < 2 ^ 32 → q < 2 ^ 32 → place_name m p ≡ place_name n q → (m ≡ n) × (p ≡ q)
same_place m n p q fm fn fp fq e =
    let names : leaf_name m p ≡ leaf_name n q = sym (as_leaf_name m p) ∙ ap (λ (l : List ℕ). codes "data/" ++ (l ++ codes ".json")) e ∙ as_leaf_name n q in (
      leaf_name-number m n p q (omega (arith, fm)) (omega (arith, fn)) names,
      leaf_name-place m n p q (omega (arith, fm)) (omega (arith, fn)) (omega (arith, fp)) (omega (arith, fq)) names,
    )

module _ (d e : Details) (leaf : Data) (v : IsDetailsValue d) (w : IsDetailsValue e) (p : ShowsDetails d leaf) (q : ShowsDetails e leaf) where
  meta_same : d.meta ≡ e.meta
  meta_same =
      let id : d.meta.id ≡ e.meta.id = same_id d.meta.id e.meta.id (same_Some d.meta.id.text e.meta.id.text (sym (shows_id d leaf p) ∙ shows_id e leaf q)) in
      let version : d.meta.version ≡ e.meta.version =
      same_version d.meta.version e.meta.version
      (same_Some (full_text d.meta.version) (full_text e.meta.version) (sym (shows_version d leaf p) ∙ shows_version e leaf q)) in
      let verbatim : d.meta.verbatim ≡ e.meta.verbatim = same_Some d.meta.verbatim e.meta.verbatim (sym (shows_verbatim d leaf p) ∙ shows_verbatim e leaf q) in
      let texts = sym (shows_texts d leaf p) ∙ shows_texts e leaf q in
      let license : d.meta.require_license ≡ e.meta.require_license = sym (shows_require_license d leaf p) ∙ shows_require_license e leaf q in
      let tags : d.meta.tags ≡ e.meta.tags = sym (shows_tags d leaf p) ∙ shows_tags e leaf q in
      let groups : d.meta.groups ≡ e.meta.groups = same_groups d.meta.groups e.meta.groups (sym (shows_groups d leaf p) ∙ shows_groups e leaf q) in
      λ i. record {
        id = id i;
        version = version i;
        verbatim = verbatim i;
        authors = (texts i).prose.authors;
        description = (texts i).prose.description;
        icon_url = (texts i).addresses.icon_url;
        license_url = (texts i).addresses.license_url;
        min_client = (texts i).release.min_client;
        project_url = (texts i).addresses.project_url;
        release_notes = (texts i).release.release_notes;
        summary = (texts i).prose.summary;
        title = (texts i).prose.title;
        require_license = license i;
        tags = tags i;
        groups = groups i;
      }

  -- details that one value shows are the same
  pub details_same : d ≡ e
  details_same =
      let created : d.created ≡ e.created =
      same_stamp d.created e.created v.created w.created (same_Some _ _ (sym (shows_created d leaf p) ∙ shows_created e leaf q)) in
      let origin = same_place d.origin_number e.origin_number d.origin_place e.origin_place v.origin_number w.origin_number v.origin_place w.origin_place
      (same_Some (place_name d.origin_number d.origin_place) (place_name e.origin_number e.origin_place)
      (sym (shows_origin d leaf p) ∙ shows_origin e leaf q)) in
      let listed : d.listed ≡ e.listed = same_Some d.listed e.listed (sym (shows_listed d leaf p) ∙ shows_listed e leaf q) in
      let size : d.size ≡ e.size = same_Some d.size e.size (sym (shows_size d leaf p) ∙ shows_size e leaf q) in
      let hash : d.hash ≡ e.hash = same_Some d.hash e.hash (sym (shows_hash d leaf p) ∙ shows_hash e leaf q) in
      λ i. record {
        meta = meta_same i;
        listed = listed i;
        created = created i;
        origin_number = origin.0 i;
        origin_place = origin.1 i;
        size = size i;
        hash = hash i;
      }

sized : (it : Item) → IsItemValue it → SizeFits it
sized (the.Details d) value = value.size
sized (the.Gone i v) value = tt

-- the text of the first of data
abbrev first_text : List Data → List ℕ
first_text [] = []
first_text (x ∷ xs) = text_in x

kinds_differ : (base : List ℕ) (n p stamp : ℕ) (d : Details) (i : PackageId) (v : Version)
    → leaf_data base n p stamp (the.Details d) ≡ leaf_data base n p stamp (the.Gone i v) → ⊥
kinds_differ base n p stamp d i v e =
    let leaf = leaf_data base n p stamp (the.Gone i v) in
    let kinds = sym (leaf_type base n p stamp (the.Details d) leaf (sym e)) ∙ leaf_type base n p stamp (the.Gone i v) leaf refl in
    let texts : leaf_kind false ≡ leaf_kind true = ap first_text kinds in
    let place : get_or (leaf_kind false) 9 0 ≡ get_or (leaf_kind true) 9 0 = ap (λ (l : List ℕ). get_or l 9 0) texts in
    omega (arith, place)

data_tells : (base : List ℕ) (n p stamp : ℕ) (it other : Item) → IsItemValue it → IsItemValue other
    → leaf_data base n p stamp it ≡ leaf_data base n p stamp other → it ≡ other
data_tells base n p stamp (the.Details d) (the.Details c) v w e =
    let same : d ≡ c =
    details_same d c (leaf_data base n p stamp (the.Details c)) v w (leaf_shows base n p stamp d _ (sym e)) (leaf_shows base n p stamp c _ refl) in
    ap the.Details same
data_tells base n p stamp (the.Details d) (the.Gone i x) v w e = absurd (kinds_differ base n p stamp d i x e)
data_tells base n p stamp (the.Gone i x) (the.Details d) v w e = absurd (kinds_differ base n p stamp d i x (sym e))
data_tells base n p stamp (the.Gone i x) (the.Gone j y) v w e =
    let leaf = leaf_data base n p stamp (the.Gone j y) in
    let id : i ≡ j = same_id i j (same_Some i.text j.text (sym (gone_id base n p stamp i x leaf (sym e)) ∙ gone_id base n p stamp j y leaf refl)) in
    let version : x ≡ y =
    same_version x y (same_Some (full_text x) (full_text y) (sym (gone_version base n p stamp i x leaf (sym e)) ∙ gone_version base n p stamp j y leaf refl)) in
    λ k. the.Gone (id k) (version k)

-- a leaf is that of one item
pub leaf_tells : (base : List ℕ) (n p stamp : ℕ) (it other : Item) → IsItemValue it → IsItemValue other
    → leaf_text base n p stamp it ≡ leaf_text base n p stamp other → it ≡ other
unfolding leaf_text
leaf_tells base n p stamp it other v w e =
    data_tells base n p stamp it other v w
    (compact_text-injective (leaf_data base n p stamp it) (leaf_data base n p stamp other)
    (leaf_fits base n p stamp it (sized it v)) (leaf_flat base n p stamp it)
    (leaf_fits base n p stamp other (sized other w)) (leaf_flat base n p stamp other) e)
