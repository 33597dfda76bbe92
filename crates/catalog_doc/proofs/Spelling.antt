-- The puts of a commit keep an area spelling: the catalog as it was up to the page, with the commit from the page on.
use Rattle.std.proofs.Common.{◌≡◌, ◌≢◌, ◌<◌, ◌≤◌, ◌+◌, ◌-◌, ◌^◌, ◌⊎◌, inl, inr, ⊎_elim, ℕ, zero, suc, List, [], ◌∷◌, ◌++◌, length, codes, decimal, Bool, true, false, Option, None, Some, IsSome, refl, sym, ◌∙◌, subst, arith, length-append}
use Rattle.std.proofs.lemmas.List.Elements.{Contains-append_cases}
use Rattle.std.proofs.lemmas.Slice.Eq.{bytes_eq-Decides}
use Rattle.std.specs.FinMap.{get}
use Rattle.std.specs.List.{Contains}
use Rattle.std.specs.Prelude.{flat_map}
use Rattle.std.specs.Str.{bytes_eq}
use Rattle.blob_store.specs.Area.{Area}
use Rattle.blob_store.specs.Runs.{IsAfterSome, LeavesAlone, after_call, after_calls, name_of}
use Rattle.blob_store.specs.declared.call.Call.{Call}
use Rattle.blob_store.specs.declared.call.Call.TheVariants.{Put}
use Rattle.blob_store.proofs.Fronts.{EachKeeps, after_calls-append, front_all, front_alone, front_keeps, front_of_append, front_of_more, front_of_none, get_alone, get_last}
use Rattle.pkg_meta.specs.Catalog.{Catalog}
use Rattle.pkg_meta.specs.declared.commit.Staged.{Staged}
use Rattle.pkg_meta.specs.declared.commit.Stored.{Stored}
use Rattle.pkg_meta.specs.Lawful.{IsNext, all_placed}
use Rattle.pkg_meta.specs.declared.item.Item.{Item}
use Rattle.catalog_doc.specs.CatDocs.{all_rows, doc_at, heads_of, last_page, leaves_of, look_up, page_docs, pages_of}
use Rattle.catalog_doc.specs.Catalogs.{IsCatalog}
use Rattle.catalog_doc.specs.Commits.{commit_puts, index_put, page_put, place_puts, staged_puts}
use Rattle.catalog_doc.specs.Documents.{index_text, leaf_text, page_text}
use Rattle.catalog_doc.specs.Names.{index_name, leaf_name, nupkg_name, nuspec_name, page_name}
use Rattle.catalog_doc.specs.Spelled.{HoldsCommit, HoldsIndex, IsNameAt, IsNameUpTo, SpellsCatalog}
use Rattle.catalog_doc.proofs.DocNames.{leaf_name-not_index, leaf_name-not_page, leaf_name-number, nupkg_name-no_document, nuspec_name-no_document, page_name-not_index, staged_rest}
use Rattle.catalog_doc.proofs.LookUps.{elsewhere_stays, past_index}
use Rattle.catalog_doc.proofs.NewDocs.{few_pages, found_first, last_has, some_page}
use Rattle.catalog_doc.proofs.Numbered.{brought_at, few_commits, item_at, last_is_next, number_within}
use Rattle.catalog_doc.proofs.Prefixes.{prefix_is_catalog}
use Rattle.catalog_doc.proofs.PlacePuts.{IsNotAt, leaf_put, nupkg_put, nuspec_put, places_alone}

-- a test of names that holds, and one that doesn't
pub bytes_eq-true : (xs ys : List ℕ) → bytes_eq xs ys ≡ true → xs ≡ ys
bytes_eq-true xs ys same = (bytes_eq-Decides xs ys).0 same

pub bytes_eq-false : (xs ys : List ℕ) → bytes_eq xs ys ≡ false → xs ≢ ys
bytes_eq-false xs ys apart e = not_both (bytes_eq xs ys) ((bytes_eq-Decides xs ys).1 e) apart
  where
    not_both : (b : Bool) → b ≡ true → b ≡ false → ⊥
    not_both b on off = cc

-- what the last page's put writes is the catalog's page
pub page_is : (base : List ℕ) (cs : Catalog) → 0 < length cs → length cs < 2 ^ 64
    → doc_at base cs (page_name (length (pages_of cs) - 1)) ≡ Some (page_text base (length (pages_of cs) - 1) (all_rows (last_page (pages_of cs))))
page_is base cs filled few =
    let some : 0 < length (pages_of cs) = some_page cs filled in
    let bound : length (pages_of cs) ≤ 0 + length cs = (few_pages [] cs).0 in
    past_index base (page_name (length (pages_of cs) - 1)) cs (page_name-not_index (length (pages_of cs) - 1))
    ∙ found_first (look_up (page_name (length (pages_of cs) - 1)) (page_docs base 0 (pages_of cs)))
    (look_up (page_name (length (pages_of cs) - 1)) (flat_map (leaves_of base) cs))
    (page_text base (length (pages_of cs) - 1) (all_rows (last_page (pages_of cs))))
    (last_has base 0 (pages_of cs) (length (pages_of cs) - 1) some (omega arith) (omega arith))

-- an area that holds at a commit's names what another one does
pub record AgreeAt (m left : Area) (c : Stored) : Type 0 where
  pub leaf : (place : ℕ) → get left (leaf_name c.commit.number place) ≡ get m (leaf_name c.commit.number place)
  pub nupkg : (place : ℕ) → get left (nupkg_name c.commit.number place) ≡ get m (nupkg_name c.commit.number place)
  pub nuspec : (place : ℕ) → get left (nuspec_name c.commit.number place) ≡ get m (nuspec_name c.commit.number place)

pub holds_by : (m left : Area) (base : List ℕ) (c : Stored) → AgreeAt m left c → HoldsCommit m base c → HoldsCommit left base c
holds_by m left base c agree holds = record {
  leaves = λ place it is. agree.leaf place ∙ holds.leaves place it is;
  nupkgs = λ place s is. agree.nupkg place ∙ holds.nupkgs place s is;
  nuspecs = λ place s is. agree.nuspec place ∙ holds.nuspecs place s is;
}

-- a put of another name
pub get_past : (call : Call) (m : Area) (name : List ℕ) → name ≢ name_of call → get (after_call call m) name ≡ get m name
get_past call m name other = get_alone (call ∷ []) m name (other, tt)

pub get_put : (name bytes : List ℕ) (m : Area) → get (after_call (Put name bytes) m) name ≡ Some bytes
get_put name bytes m = get_last [] [] (Put name bytes) m tt

-- a put of a page or of the index leaves each commit's blobs
document_apart : (call : Call) (m : Area) (c : Stored) → ((n p : ℕ) → leaf_name n p ≢ name_of call) → ((n p : ℕ) → nupkg_name n p ≢ name_of call) → ((n p : ℕ) → nuspec_name n p ≢ name_of call)
    → AgreeAt m (after_call call m) c
document_apart call m c leaf nupkg nuspec = record {
  leaf = λ place. get_past call m (leaf_name c.commit.number place) (leaf c.commit.number place);
  nupkg = λ place. get_past call m (nupkg_name c.commit.number place) (nupkg c.commit.number place);
  nuspec = λ place. get_past call m (nuspec_name c.commit.number place) (nuspec c.commit.number place);
}

pub page_apart : (k : ℕ) (bytes : List ℕ) (m : Area) (c : Stored) → AgreeAt m (after_call (Put (page_name k) bytes) m) c
page_apart k bytes m c = document_apart (Put (page_name k) bytes) m c (λ n p. leaf_name-not_page n p k) (λ n p. (nupkg_name-no_document n p).page k) (λ n p. (nuspec_name-no_document n p).page k)

pub index_apart : (bytes : List ℕ) (m : Area) (c : Stored) → AgreeAt m (after_call (Put index_name bytes) m) c
index_apart bytes m c = document_apart (Put index_name bytes) m c leaf_name-not_index (λ n p. (nupkg_name-no_document n p).index) (λ n p. (nuspec_name-no_document n p).index)

-- all names held are known, up to a number
abbrev pub AreKnown : ℕ → Area → Type 0
AreKnown most m = (name : List ℕ) → IsSome (get m name) → IsNameUpTo most name

pub known_after : (most : ℕ) (call : Call) (m : Area) → IsNameUpTo most (name_of call) → AreKnown most m → AreKnown most (after_call call m)
known_after most call m own known name some = by_test (bytes_eq name (name_of call)) refl
  where
    by_test : (b : Bool) → bytes_eq name (name_of call) ≡ b → IsNameUpTo most name
    by_test true same = subst (IsNameUpTo most) (sym (bytes_eq-true name (name_of call) same)) own
    by_test false apart = known name (subst IsSome (get_past call m name (bytes_eq-false name (name_of call) apart)) some)

pub wider : (most more : ℕ) (m : Area) → most ≤ more → AreKnown most m → AreKnown more m
wider most more m least known name some = ⊎_elim inl (λ rest. inr (⊎_elim inl (λ at. inr (at.0, at.1, omega (arith, at.2, least), at.3)) rest)) (known name some)

module _ (base : List ℕ) (number stamp most : ℕ) (within : number ≤ most) where
  abbrev own_name : (place : ℕ) (name : List ℕ) → IsNameAt number place name → IsNameUpTo most name
  own_name place name at = inr (inr (number, place, within, at))

  staged_known : (place : ℕ) (s : Option Staged) (calls : List Call) → EachKeeps (AreKnown most) calls → EachKeeps (AreKnown most) (staged_puts number place s ++ calls)
  staged_known place None calls keep = keep
  staged_known place (Some s) calls keep = (
    λ m known. known_after most (Put (nupkg_name number place) s.nupkg) m (own_name place (nupkg_name number place) (inr (inl refl))) known,
    (λ m known. known_after most (Put (nuspec_name number place) s.nuspec) m (own_name place (nuspec_name number place) (inr (inr refl))) known, keep),
  )

  places_known : (from : ℕ) (items : List Item) (staged : List (Option Staged)) → EachKeeps (AreKnown most) (place_puts base number stamp from items staged)
  places_known from [] staged = tt
  places_known from (it ∷ items) [] = (
    λ m known. known_after most (Put (leaf_name number from) (leaf_text base number from stamp it)) m (own_name from (leaf_name number from) (inl refl)) known,
    places_known (suc from) items [],
  )
  places_known from (it ∷ items) (s ∷ staged) =
      staged_known from s (Put (leaf_name number from) (leaf_text base number from stamp it) ∷ place_puts base number stamp (suc from) items staged) (
        λ m known. known_after most (Put (leaf_name number from) (leaf_text base number from stamp it)) m (own_name from (leaf_name number from) (inl refl)) known,
        places_known (suc from) items staged,
      )

module _ (m : Area) (base : List ℕ) (cs : Catalog) (c : Stored) (whole : IsCatalog (cs ++ c ∷ [])) (spells : SpellsCatalog m base cs) (settled : HoldsIndex m base cs) where
  abbrev number : ℕ
  number = c.commit.number

  abbrev places : List Call
  places = place_puts base number c.commit.stamp 0 c.commit.items c.staged

  abbrev more : Catalog
  more = cs ++ c ∷ []

  longer : length more ≡ length cs + 1
  longer = length-append cs (c ∷ [])

  few : length cs + 1 ≤ 200_000
  few = let all = few_commits more whole.lawful in omega (arith, all, longer)

  follows : IsNext cs c
  follows = last_is_next cs c whole.lawful.commits

  fits : number < 2 ^ 64
  fits = omega (arith, few, follows.number)

  -- an earlier commit's number is another
  earlier : (d : Stored) → Contains cs d → d.commit.number < number
  earlier d there =
      let at = number_within cs d (prefix_is_catalog cs (c ∷ []) whole).lawful.commits there in
      omega (arith, at.1, follows.number)

  old_apart : (d : Stored) (there : Contains cs d) (x y : List ℕ) → codes "staged/" ++ (decimal d.commit.number ++ (codes "/" ++ x)) ≢ codes "staged/" ++ (decimal number ++ (codes "/" ++ y))
  old_apart d there x y e =
      let under = earlier d there in
      let same = (staged_rest d.commit.number number x y (omega (arith, under, fits)) fits e).0 in
      omega (arith, same, under)

  old_leaf : (d : Stored) → Contains cs d → (place q : ℕ) → IsNotAt number q (leaf_name d.commit.number place)
  old_leaf d there place q =
      let under = earlier d there in
      record {
        leaf = λ e. (let same = leaf_name-number d.commit.number number place q (omega (arith, under, fits)) fits e in omega (arith, same, under));
        nupkg = λ e. (nupkg_name-no_document number q).leaf d.commit.number place (sym e);
        nuspec = λ e. (nuspec_name-no_document number q).leaf d.commit.number place (sym e);
      }

  old_nupkg : (d : Stored) → Contains cs d → (place q : ℕ) → IsNotAt number q (nupkg_name d.commit.number place)
  old_nupkg d there place q = record {
    leaf = (nupkg_name-no_document d.commit.number place).leaf number q;
    nupkg = old_apart d there (decimal place ++ codes ".nupkg") (decimal q ++ codes ".nupkg");
    nuspec = old_apart d there (decimal place ++ codes ".nupkg") (decimal q ++ codes ".nuspec");
  }

  old_nuspec : (d : Stored) → Contains cs d → (place q : ℕ) → IsNotAt number q (nuspec_name d.commit.number place)
  old_nuspec d there place q = record {
    leaf = (nuspec_name-no_document d.commit.number place).leaf number q;
    nupkg = old_apart d there (decimal place ++ codes ".nuspec") (decimal q ++ codes ".nupkg");
    nuspec = old_apart d there (decimal place ++ codes ".nuspec") (decimal q ++ codes ".nuspec");
  }

  page_not_at : (k q : ℕ) → IsNotAt number q (page_name k)
  page_not_at k q = record {
    leaf = λ e. leaf_name-not_page number q k (sym e);
    nupkg = λ e. (nupkg_name-no_document number q).page k (sym e);
    nuspec = λ e. (nuspec_name-no_document number q).page k (sym e);
  }

  index_not_at : (q : ℕ) → IsNotAt number q index_name
  index_not_at q = record {
    leaf = λ e. leaf_name-not_index number q (sym e);
    nupkg = λ e. (nupkg_name-no_document number q).index (sym e);
    nuspec = λ e. (nuspec_name-no_document number q).index (sym e);
  }

  alone : (name : List ℕ) → ((q : ℕ) → IsNotAt number q name) → LeavesAlone name places
  alone name other = places_alone base number c.commit.stamp fits name 0 c.commit.items c.staged (λ q low high. other q)

  -- up to the page the area spells the catalog as it was
  pub early : (left : Area) → IsAfterSome places m left → SpellsCatalog left base cs
  early left front =
      let stays : (name : List ℕ) → ((q : ℕ) → IsNotAt number q name) → get left name ≡ get m name = λ name other. front_alone places m left name (alone name other) front in
      record {
        base_text = spells.base_text;
        pages = λ k. stays (page_name k) (page_not_at k) ∙ spells.pages k;
        commits = λ d there. holds_by m left base d (record {
          leaf = λ place. stays (leaf_name d.commit.number place) (old_leaf d there place);
          nupkg = λ place. stays (nupkg_name d.commit.number place) (old_nupkg d there place);
          nuspec = λ place. stays (nuspec_name d.commit.number place) (old_nuspec d there place);
        }) (spells.commits d there);
        index = inl (stays index_name index_not_at ∙ settled);
        others = front_keeps (AreKnown (length cs + 1)) places m left
            (places_known base number c.commit.stamp (length cs + 1) (omega (arith, follows.number)) 0 c.commit.items c.staged) spells.others front;
      }

  abbrev mid : Area
  mid = after_calls places m

  mid_spells : SpellsCatalog mid base cs
  mid_spells = early mid (front_all places m)

  pub mid_settled : HoldsIndex mid base cs
  mid_settled = get_alone places m index_name (alone index_name index_not_at) ∙ settled

  -- before the page the commit's own blobs are held
  pub mid_holds : HoldsCommit mid base c
  mid_holds = record {
    leaves = λ place it is.
        let brought = brought_at (all_placed cs) number c.commit.stamp 0 c.commit.items c.staged follows.items place it is in
        leaf_put base number c.commit.stamp fits c.commit.items c.staged m place it brought.0 is brought.1 (omega (arith, follows.few));
    nupkgs = λ place s is.
        let own = item_at (all_placed cs) number c.commit.stamp 0 c.commit.items c.staged follows.items place (Some s) is in
        nupkg_put base number c.commit.stamp fits c.commit.items c.staged m place own.0 s own.1 is (omega (arith, follows.few));
    nuspecs = λ place s is.
        let own = item_at (all_placed cs) number c.commit.stamp 0 c.commit.items c.staged follows.items place (Some s) is in
        nuspec_put base number c.commit.stamp fits c.commit.items c.staged m place own.0 s own.1 is (omega (arith, follows.few));
  }

  abbrev last : ℕ
  last = length (pages_of more) - 1

  abbrev page_bytes : List ℕ
  page_bytes = page_text base last (all_rows (last_page (pages_of more)))

  abbrev paged : Area
  paged = after_call (page_put base more) mid

  page_there : (k : ℕ) (b : Bool) → bytes_eq (page_name k) (page_name last) ≡ b → get paged (page_name k) ≡ doc_at base more (page_name k)
  page_there k true same =
      let names : page_name k ≡ page_name last = bytes_eq-true (page_name k) (page_name last) same in
      subst (λ (name : List ℕ). get paged name ≡ doc_at base more name) (sym names)
      (get_put (page_name last) page_bytes mid ∙ sym (page_is base more (omega (arith, longer)) (omega (arith, longer, few))))
  page_there k false apart =
      let other : page_name k ≢ page_name last = bytes_eq-false (page_name k) (page_name last) apart in
      get_past (page_put base more) mid (page_name k) other
      ∙ mid_spells.pages k
      ∙ sym (elsewhere_stays base cs c (page_name k) (record {
        index = page_name-not_index k;
        page = other;
        leaves = λ place e. leaf_name-not_page number place k (sym e);
      }))

  with_commit : (d : Stored) → Contains cs d ⊎ Contains (c ∷ []) d → HoldsCommit mid base d
  with_commit d (inl there) = mid_spells.commits d there
  with_commit d (inr there) = subst (HoldsCommit mid base) (only c d there) mid_holds
    where
      only : (x y : Stored) → Contains (x ∷ []) y → x ≡ y
      only x y (zero, within, is) = is
      only x y (suc i, within, is) = absurd (omega (arith, within))

  -- the page put decides
  paged_spells : SpellsCatalog paged base more
  paged_spells = record {
    base_text = spells.base_text;
    pages = λ k. page_there k (bytes_eq (page_name k) (page_name last)) refl;
    commits = λ d there. holds_by mid paged base d (page_apart last page_bytes mid d) (with_commit d (Contains-append_cases cs (c ∷ []) d there));
    index = inr (cs, c, refl, get_past (page_put base more) mid index_name (λ e. page_name-not_index last (sym e)) ∙ mid_settled);
    others = wider (length cs + 1) (length more + 1) paged (omega (arith, longer))
        (known_after (length cs + 1) (page_put base more) mid (inr (inl (last, refl))) mid_spells.others);
  }

  abbrev indexed : Area
  indexed = after_call (index_put base more) paged

  indexed_spells : SpellsCatalog indexed base more
  indexed_spells = record {
    base_text = spells.base_text;
    pages = λ k. get_past (index_put base more) paged (page_name k) (page_name-not_index k) ∙ paged_spells.pages k;
    commits = λ d there. holds_by paged indexed base d (index_apart (index_text base (heads_of more)) paged d) (paged_spells.commits d there);
    index = inl (get_put index_name (index_text base (heads_of more)) paged);
    others = known_after (length more + 1) (index_put base more) paged (inl refl) paged_spells.others;
  }

  abbrev documents : List Call
  documents = page_put base more ∷ index_put base more ∷ []

  late : (left : Area) → IsAfterSome documents mid left → SpellsCatalog left base cs ⊎ SpellsCatalog left base more
  late left front = ⊎_elim
      (λ none. inl (subst (λ (x : Area). SpellsCatalog x base cs) (sym none) mid_spells))
      (λ after. inr (⊎_elim
      (λ none. subst (λ (x : Area). SpellsCatalog x base more) (sym none) paged_spells)
      (λ all. subst (λ (x : Area). SpellsCatalog x base more) (sym (front_of_none indexed left all)) indexed_spells)
      (front_of_more (index_put base more) [] paged left after)))
      (front_of_more (page_put base more) (index_put base more ∷ []) mid left front)

  pub each_spells : (left : Area) → IsAfterSome (commit_puts base cs c) m left → SpellsCatalog left base cs ⊎ SpellsCatalog left base more
  each_spells left front = ⊎_elim (λ first. inl (early left first)) (late left) (front_of_append places documents m left front)

  pub all_spell : SpellsCatalog (after_calls (commit_puts base cs c) m) base more × HoldsIndex (after_calls (commit_puts base cs c) m) base more
  all_spell = subst (λ (x : Area). SpellsCatalog x base more × HoldsIndex x base more) (sym (after_calls-append places documents m))
      (indexed_spells, get_put index_name (index_text base (heads_of more)) paged)
