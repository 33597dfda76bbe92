-- Each allowed put keeps the catalog's area spelling: the catalog as it was, or with the commit from its page on.
use Rattle.std.proofs.Common.{◌≡◌, ◌≢◌, ◌<◌, ◌+◌, ◌^◌, ◌⊎◌, inl, inr, ⊎_elim, ℕ, zero, suc, List, [], ◌∷◌, ◌++◌, length, codes, decimal, Some, refl, sym, ◌∙◌, subst, arith, length-append}
use Rattle.std.proofs.lemmas.List.Elements.{Contains-append_cases}
use Rattle.std.specs.FinMap.{get}
use Rattle.std.specs.List.{Contains}
use Rattle.blob_store.specs.Area.{Area, with_blob}
use Rattle.blob_store.specs.declared.call.Call.TheVariants.{Put}
use Rattle.pkg_meta.specs.Catalog.{Catalog}
use Rattle.pkg_meta.specs.declared.commit.Stored.{Stored}
use Rattle.catalog_doc.specs.CatDocs.{doc_at, heads_of}
use Rattle.catalog_doc.specs.Catalogs.{IsCatalog}
use Rattle.catalog_doc.specs.Documents.{index_text}
use Rattle.catalog_doc.specs.Events.{IsPagePut, next_page}
use Rattle.catalog_doc.specs.Names.{index_name, leaf_name, nupkg_name, nuspec_name, page_name}
use Rattle.catalog_doc.specs.Spelled.{HoldsCommit, HoldsIndex, HoldsOldIndex, IsNameAt, SpellsCatalog}
use Rattle.catalog_doc.proofs.DocNames.{leaf_name-not_index, leaf_name-not_page, leaf_name-number, nupkg_name-no_document, nuspec_name-no_document, page_name-not_index, staged_rest}
use Rattle.catalog_doc.proofs.LookUps.{elsewhere_stays}
use Rattle.catalog_doc.proofs.Numbered.{few_commits, number_within}
use Rattle.catalog_doc.proofs.Spelling.{get_past, get_put, holds_by, index_apart, known_after, page_apart, wider}
use Rattle.hive_laws.proofs.Looks.{decide}

module _ (m : Area) (base : List ℕ) (cs : Catalog) (whole : IsCatalog cs) (spells : SpellsCatalog m base cs) where
  -- the index's put
  pub index_kept : SpellsCatalog (with_blob index_name (index_text base (heads_of cs)) m) base cs
  index_kept = record {
    base_text = spells.base_text;
    pages = λ k. get_past (Put index_name (index_text base (heads_of cs))) m (page_name k) (page_name-not_index k) ∙ spells.pages k;
    commits = λ d there. holds_by m (with_blob index_name (index_text base (heads_of cs)) m) base d (index_apart (index_text base (heads_of cs)) m d) (spells.commits d there);
    index = inl (get_put index_name (index_text base (heads_of cs)) m);
    others = known_after (length cs + 1) (Put index_name (index_text base (heads_of cs))) m (inl refl) spells.others;
  }

  -- a leaf's or a staged blob's, of the commit behind the last
  module _ (name bytes : List ℕ) (q : ℕ) (at : IsNameAt (length cs + 1) q name) where
    abbrev number : ℕ
    number = length cs + 1

    fits : number < 2 ^ 64
    fits = let all = few_commits cs whole.lawful in omega (arith, all)

    earlier : (d : Stored) → Contains cs d → d.commit.number < number
    earlier d there = let n = number_within cs d whole.lawful.commits there in omega (arith, n.1)

    not_page : (k : ℕ) → page_name k ≢ name
    not_page k same = ⊎_elim (λ e. leaf_name-not_page number q k (sym (same ∙ e)))
        (λ staged. ⊎_elim (λ e. (nupkg_name-no_document number q).page k (sym (same ∙ e))) (λ e. (nuspec_name-no_document number q).page k (sym (same ∙ e))) staged) at

    not_index : index_name ≢ name
    not_index same = ⊎_elim (λ e. leaf_name-not_index number q (sym (same ∙ e)))
        (λ staged. ⊎_elim (λ e. (nupkg_name-no_document number q).index (sym (same ∙ e))) (λ e. (nuspec_name-no_document number q).index (sym (same ∙ e))) staged) at

    staged_apart : (d : Stored) → Contains cs d → (x y : List ℕ) → codes "staged/" ++ (decimal d.commit.number ++ (codes "/" ++ x)) ≢ codes "staged/" ++ (decimal number ++ (codes "/" ++ y))
    staged_apart d there x y e =
        let under = earlier d there in
        let same = (staged_rest d.commit.number number x y (omega (arith, under, fits)) fits e).0 in
        omega (arith, same, under)

    not_leaf : (d : Stored) → Contains cs d → (place : ℕ) → leaf_name d.commit.number place ≢ name
    not_leaf d there place same = ⊎_elim
        (λ e. (let under = earlier d there in let number_ = leaf_name-number d.commit.number number place q (omega (arith, under, fits)) fits (same ∙ e) in omega (arith, number_, under)))
        (λ staged. ⊎_elim (λ e. (nupkg_name-no_document number q).leaf d.commit.number place (sym (same ∙ e))) (λ e. (nuspec_name-no_document number q).leaf d.commit.number place (sym (same ∙ e))) staged) at

    not_nupkg : (d : Stored) → Contains cs d → (place : ℕ) → nupkg_name d.commit.number place ≢ name
    not_nupkg d there place same = ⊎_elim
        (λ e. (nupkg_name-no_document d.commit.number place).leaf number q (same ∙ e))
        (λ staged. ⊎_elim (λ e. staged_apart d there (decimal place ++ codes ".nupkg") (decimal q ++ codes ".nupkg") (same ∙ e))
        (λ e. staged_apart d there (decimal place ++ codes ".nupkg") (decimal q ++ codes ".nuspec") (same ∙ e)) staged) at

    not_nuspec : (d : Stored) → Contains cs d → (place : ℕ) → nuspec_name d.commit.number place ≢ name
    not_nuspec d there place same = ⊎_elim
        (λ e. (nuspec_name-no_document d.commit.number place).leaf number q (same ∙ e))
        (λ staged. ⊎_elim (λ e. staged_apart d there (decimal place ++ codes ".nuspec") (decimal q ++ codes ".nupkg") (same ∙ e))
        (λ e. staged_apart d there (decimal place ++ codes ".nuspec") (decimal q ++ codes ".nuspec") (same ∙ e)) staged) at

    index_stays : (i : HoldsIndex m base cs ⊎ HoldsOldIndex m base cs) → HoldsIndex (with_blob name bytes m) base cs ⊎ HoldsOldIndex (with_blob name bytes m) base cs
    index_stays (inl is) = inl (get_past (Put name bytes) m index_name not_index ∙ is)
    index_stays (inr (before, last, split, is)) = inr (before, last, split, get_past (Put name bytes) m index_name not_index ∙ is)

    pub object_kept : SpellsCatalog (with_blob name bytes m) base cs
    object_kept = record {
      base_text = spells.base_text;
      pages = λ k. get_past (Put name bytes) m (page_name k) (not_page k) ∙ spells.pages k;
      commits = λ d there. holds_by m (with_blob name bytes m) base d (record {
        leaf = λ place. get_past (Put name bytes) m (leaf_name d.commit.number place) (not_leaf d there place);
        nupkg = λ place. get_past (Put name bytes) m (nupkg_name d.commit.number place) (not_nupkg d there place);
        nuspec = λ place. get_past (Put name bytes) m (nuspec_name d.commit.number place) (not_nuspec d there place);
      }) (spells.commits d there);
      index = index_stays spells.index;
      others = known_after (length cs + 1) (Put name bytes) m (inr (inr (length cs + 1, q, omega arith, at))) spells.others;
    }

-- the page's put
module _ (m : Area) (base : List ℕ) (cs : Catalog) (c : Stored) (spells : SpellsCatalog m base cs) (objects : HoldsCommit m base c) (settled : HoldsIndex m base cs) where
  abbrev more : Catalog
  more = cs ++ c ∷ []

  abbrev last : ℕ
  last = next_page cs c

  module _ (bytes : List ℕ) (text : doc_at base more (page_name last) ≡ Some bytes) where
    abbrev paged : Area
    paged = with_blob (page_name last) bytes m

    page_there : (k : ℕ) → get paged (page_name k) ≡ doc_at base more (page_name k)
    page_there k = ⊎_elim
        (λ same. subst (λ (name : List ℕ). get paged name ≡ doc_at base more name) (sym same) (get_put (page_name last) bytes m ∙ sym text))
        (λ other. get_past (Put (page_name last) bytes) m (page_name k) other ∙ spells.pages k ∙ sym (elsewhere_stays base cs c (page_name k) (record {
          index = page_name-not_index k;
          page = other;
          leaves = λ place e. leaf_name-not_page c.commit.number place k (sym e);
        })))
        (decide (page_name k) (page_name last))

    with_commit : (d : Stored) → Contains cs d ⊎ Contains (c ∷ []) d → HoldsCommit m base d
    with_commit d (inl there) = spells.commits d there
    with_commit d (inr there) = subst (HoldsCommit m base) (only c d there) objects
      where
        only : (x y : Stored) → Contains (x ∷ []) y → x ≡ y
        only x y (zero, within, is) = is
        only x y (suc i, within, is) = absurd (omega (arith, within))

    pub page_spelled : SpellsCatalog paged base more
    page_spelled =
        let longer : length more ≡ length cs + 1 = length-append cs (c ∷ []) in
        record {
          base_text = spells.base_text;
          pages = page_there;
          commits = λ d there. holds_by m paged base d (page_apart last bytes m d) (with_commit d (Contains-append_cases cs (c ∷ []) d there));
          index = inr (cs, c, refl, get_past (Put (page_name last) bytes) m index_name (λ e. page_name-not_index last (sym e)) ∙ settled);
          others = wider (length cs + 1) (length more + 1) paged (omega (arith, longer)) (known_after (length cs + 1) (Put (page_name last) bytes) m (inr (inl (last, refl))) spells.others);
        }

pub page_put_kept : (m : Area) (base : List ℕ) (cs : Catalog) (c : Stored) (name bytes : List ℕ) → SpellsCatalog m base cs → IsPagePut m base cs c name bytes
    → SpellsCatalog (with_blob name bytes m) base (cs ++ c ∷ [])
page_put_kept m base cs c name bytes spells put =
    subst (λ (n : List ℕ). SpellsCatalog (with_blob n bytes m) base (cs ++ c ∷ [])) (sym put.page)
    (page_spelled m base cs c spells put.objects put.index bytes (subst (λ (n : List ℕ). doc_at base (cs ++ c ∷ []) n ≡ Some bytes) put.page put.text))
