-- The index put into an area that spells a catalog.
use Rattle.std.proofs.Common.{◌≡◌, ◌≢◌, ℕ, List, Bool, true, false, IsSome, inl, refl, ◌∙◌, subst}
use Rattle.std.specs.FinMap.{get}
use Rattle.std.specs.Str.{bytes_eq}
use Rattle.blob_store.specs.Area.{Area, with_blob}
use Rattle.blob_store.proofs.Areas.{get_put_other, get_put_same}
use Rattle.pkg_meta.specs.Catalog.{Catalog}
use Rattle.pkg_meta.specs.declared.commit.Stored.{Stored}
use Rattle.catalog_doc.specs.CatDocs.{heads_of}
use Rattle.catalog_doc.specs.Documents.{index_text}
use Rattle.catalog_doc.specs.Names.{index_name, leaf_name, nupkg_name, nuspec_name, page_name}
use Rattle.catalog_doc.specs.Spelled.{HoldsCommit, HoldsIndex, IsNameUpTo, SpellsCatalog}
use Rattle.catalog_doc.proofs.DocNames.{leaf_name-not_index, nupkg_name-no_document, nuspec_name-no_document, page_name-not_index}
use Rattle.catalog_doc.proofs.Spelling.{bytes_eq-false, bytes_eq-true}

-- the area with the index of a catalog
abbrev pub with_index : List ℕ → Catalog → Area → Area
with_index base cs m = with_blob index_name (index_text base (heads_of cs)) m

module _ (m : Area) (base : List ℕ) (cs : Catalog) (spells : SpellsCatalog m base cs) where
  abbrev bytes : List ℕ
  bytes = index_text base (heads_of cs)

  stays : (name : List ℕ) → name ≢ index_name → get (with_index base cs m) name ≡ get m name
  stays name other = get_put_other m index_name bytes name other

  commit_stays : (c : Stored) → HoldsCommit m base c → HoldsCommit (with_index base cs m) base c
  commit_stays c holds = record {
    leaves = λ place it is. stays (leaf_name c.commit.number place) (leaf_name-not_index c.commit.number place) ∙ holds.leaves place it is;
    nupkgs = λ place s is. stays (nupkg_name c.commit.number place) (nupkg_name-no_document c.commit.number place).index ∙ holds.nupkgs place s is;
    nuspecs = λ place s is. stays (nuspec_name c.commit.number place) (nuspec_name-no_document c.commit.number place).index ∙ holds.nuspecs place s is;
  }

  known : (most : ℕ) → ((name : List ℕ) → IsSome (get m name) → IsNameUpTo most name) → (name : List ℕ) → IsSome (get (with_index base cs m) name) → IsNameUpTo most name
  known most all name some = by_test (bytes_eq name index_name) refl
    where
      by_test : (b : Bool) → bytes_eq name index_name ≡ b → IsNameUpTo most name
      by_test true same = inl (bytes_eq-true name index_name same)
      by_test false apart = all name (subst IsSome (stays name (bytes_eq-false name index_name apart)) some)

  pub index_mended : HoldsIndex (with_index base cs m) base cs
  index_mended = get_put_same m index_name bytes

  pub mended_spells : SpellsCatalog (with_index base cs m) base cs
  mended_spells = record {
    base_text = spells.base_text;
    pages = λ k. stays (page_name k) (page_name-not_index k) ∙ spells.pages k;
    commits = λ c there. commit_stays c (spells.commits c there);
    index = inl index_mended;
    others = known _ spells.others;
  }
