-- An area spells one catalog.
use Rattle.std.proofs.Common.{◌≡◌, ⊎_elim, ℕ, suc, List, [], ◌∷◌, ◌++◌, length, Option, Some, None, refl, sym, ◌∙◌, ap, subst, arith, length-append, slice_get}
use Rattle.std.proofs.lemmas.Option.{same_Some}
use Rattle.std.specs.FinMap.{get}
use Rattle.std.specs.List.{Contains}
use Rattle.blob_store.specs.Area.{Area}
use Rattle.pkg_meta.specs.Catalog.{Catalog}
use Rattle.pkg_meta.specs.Lawful.{all_placed, IsNext, MayFollow}
use Rattle.pkg_meta.specs.declared.commit.Staged.{Staged}
use Rattle.pkg_meta.specs.declared.commit.Stored.{Stored}
use Rattle.pkg_meta.specs.declared.item.Item.{Item}
use Rattle.catalog_doc.specs.CatDocs.{all_rows, heads_of, rows_of}
use Rattle.catalog_doc.specs.Catalogs.{IsCatalog}
use Rattle.catalog_doc.specs.Documents.{index_text, leaf_text}
use Rattle.catalog_doc.specs.Names.{leaf_name, nupkg_name, nuspec_name}
use Rattle.catalog_doc.specs.Reading.{IsItemValue}
use Rattle.catalog_doc.specs.Spelled.{HoldsCommit, HoldsIndex, SpellsCatalog, SpellsOnly}
use Rattle.catalog_doc.proofs.AllPages.{counts_of, same_all_pages}
use Rattle.catalog_doc.proofs.InRange.{in_range}
use Rattle.catalog_doc.proofs.Numbered.{item_at}
use Rattle.catalog_doc.proofs.OnePage.{index_text-tells, length-rows_from}
use Rattle.catalog_doc.proofs.Prefixes.{prefix_is_catalog}
use Rattle.catalog_laws.proofs.ItemValues.{item_values}
use Rattle.area_laws.proofs.Leaves.{leaf_tells}
use Rattle.area_laws.proofs.Parts.{AreOfNumber, later_rows, lawful_at, length-staged, not_both, own_rows, same_list, same_stamps, split_rows}

-- what a commit's items are, and that the area holds them
record IsHeld (m : Area) (base : List ℕ) (c : Stored) : Type 0 where
  pub holds : HoldsCommit m base c
  pub values : (place : ℕ) (it : Item) → slice_get c.commit.items place ≡ Some it → IsItemValue it

module _ (m : Area) (base : List ℕ) (before : Catalog) (c d : Stored) (first : IsNext before c) (second : IsNext before d)
    (p : IsHeld m base c) (q : IsHeld m base d)
    (rows : rows_of c ≡ rows_of d) where
  number_same : c.commit.number ≡ d.commit.number
  number_same = first.number ∙ sym second.number

  stamp_same : c.commit.stamp ≡ d.commit.stamp
  stamp_same = same_stamps c.commit.number d.commit.number c.commit.stamp d.commit.stamp 0 c.commit.items d.commit.items first.some rows

  as_many : length c.commit.items ≡ length d.commit.items
  as_many =
      sym (length-rows_from c.commit.number c.commit.stamp 0 c.commit.items) ∙ ap length rows ∙ length-rows_from d.commit.number d.commit.stamp 0 d.commit.items

  item_same : (k : ℕ) (it jt : Item) → slice_get c.commit.items k ≡ Some it → slice_get d.commit.items k ≡ Some jt → it ≡ jt
  item_same k it jt at other =
      let held = sym (p.holds.leaves k it at) ∙ ap (λ (n : ℕ). get m (leaf_name n k)) number_same ∙ q.holds.leaves k jt other in
      let text : leaf_text base c.commit.number k c.commit.stamp it ≡ leaf_text base c.commit.number k c.commit.stamp jt =
      same_Some _ _ held ∙ sym (λ i. leaf_text base (number_same i) k (stamp_same i) jt) in
      leaf_tells base c.commit.number k c.commit.stamp it jt (p.values k it at) (q.values k jt other) text

  items_same : c.commit.items ≡ d.commit.items
  items_same = same_list c.commit.items d.commit.items as_many item_same

  -- what both brought at a place
  brought_same : (k : ℕ) (it : Item) (s t : Option Staged) → slice_get c.commit.items k ≡ Some it → slice_get d.commit.items k ≡ Some it
      → slice_get c.staged k ≡ Some s
      → slice_get d.staged k ≡ Some t → s ≡ t
  brought_same k it None None at other own its = refl
  brought_same k it (Some s) None at other own its =
      let publish = lawful_at (all_placed before) c.commit.number c.commit.stamp 0 c.commit.items c.staged first.items k it (Some s) at own in
      let relisting = lawful_at (all_placed before) d.commit.number d.commit.stamp 0 d.commit.items d.staged second.items k it None other its in
      absurd (not_both (all_placed before) c.commit.number c.commit.stamp publish.0 d.commit.number d.commit.stamp relisting.0 it s publish.1 relisting.1)
  brought_same k it None (Some t) at other own its =
      let publish = lawful_at (all_placed before) d.commit.number d.commit.stamp 0 d.commit.items d.staged second.items k it (Some t) other its in
      let relisting = lawful_at (all_placed before) c.commit.number c.commit.stamp 0 c.commit.items c.staged first.items k it None at own in
      absurd (not_both (all_placed before) d.commit.number d.commit.stamp publish.0 c.commit.number c.commit.stamp relisting.0 it t publish.1 relisting.1)
  brought_same k it (Some s) (Some t) at other own its =
      let nupkg : s.nupkg ≡ t.nupkg =
      same_Some s.nupkg t.nupkg (sym (p.holds.nupkgs k s own) ∙ ap (λ (n : ℕ). get m (nupkg_name n k)) number_same ∙ q.holds.nupkgs k t its) in
      let nuspec : s.nuspec ≡ t.nuspec =
      same_Some s.nuspec t.nuspec (sym (p.holds.nuspecs k s own) ∙ ap (λ (n : ℕ). get m (nuspec_name n k)) number_same ∙ q.holds.nuspecs k t its) in
      λ i. Some (record { nuspec = nuspec i; nupkg = nupkg i })

  staged_same : c.staged ≡ d.staged
  staged_same =
      let own = length-staged (all_placed before) c.commit.number c.commit.stamp 0 c.commit.items c.staged first.items in
      let other = length-staged (all_placed before) d.commit.number d.commit.stamp 0 d.commit.items d.staged second.items in
      same_list c.staged d.staged (own ∙ as_many ∙ sym other)
      (λ k s t at its.
      let it = item_at (all_placed before) c.commit.number c.commit.stamp 0 c.commit.items c.staged first.items k s at in
      brought_same k it.0 s t it.1 (ap (λ (l : List Item). slice_get l k) (sym items_same) ∙ it.1) at its)

  commit_same : c ≡ d
  commit_same = λ i. record {
    commit = record { number = number_same i; stamp = stamp_same i; items = items_same i };
    staged = staged_same i;
  }

-- the area holds each commit
abbrev AreHeld : Area → List ℕ → Catalog → Type 0
AreHeld m base [] = Unit {0}
AreHeld m base (c ∷ cs) = IsHeld m base c × AreHeld m base cs

no_rows : (m : Area) (base : List ℕ) (before : Catalog) (c : Stored) (cs : Catalog) → IsNext before c → all_rows (c ∷ cs) ≡ [] → ⊥
no_rows m base before c cs next e =
    let none = ap length e in
    let split = length-append (rows_of c) (all_rows cs) in
    let own = length-rows_from c.commit.number c.commit.stamp 0 c.commit.items in
    omega (arith, none, split, own, next.some)

same_commits : (m : Area) (base : List ℕ) (before cs ds : Catalog) → MayFollow before cs → MayFollow before ds → AreHeld m base cs → AreHeld m base ds
    → all_rows cs ≡ all_rows ds → cs ≡ ds
same_commits m base before [] [] f g p q e = refl
same_commits m base before [] (d ∷ ds) f g p q e = absurd (no_rows m base before d ds g.0 (sym e))
same_commits m base before (c ∷ cs) [] f g p q e = absurd (no_rows m base before c cs f.0 e)
same_commits m base before (c ∷ cs) (d ∷ ds) f g p q e =
    let longer = length-append before (c ∷ []) in
    let longest = length-append before (d ∷ []) in
    let number = f.0.number in
    let parts = split_rows c.commit.number (rows_of c) (rows_of d) (all_rows cs) (all_rows ds)
    (own_rows c.commit.number c.commit.stamp 0 c.commit.items)
    (subst (λ (n : ℕ). AreOfNumber n (rows_of d)) (g.0.number ∙ sym number) (own_rows d.commit.number d.commit.stamp 0 d.commit.items))
    (later_rows c.commit.number (before ++ c ∷ []) cs (omega (arith, longer, number)) f.1)
    (later_rows c.commit.number (before ++ d ∷ []) ds (omega (arith, longest, number)) g.1)
    e in
    let own : c ≡ d = commit_same m base before c d f.0 g.0 p.0 q.0 parts.0 in
    let rest : cs ≡ ds =
    same_commits m base (before ++ c ∷ []) cs ds f.1 (subst (λ (x : Stored). MayFollow (before ++ x ∷ []) ds) (sym own) g.1) p.1 q.1 parts.1 in
    λ i. own i ∷ rest i

held_in : (m : Area) (base : List ℕ) (cs : Catalog) → ((c : Stored) → Contains cs c → HoldsCommit m base c)
    → ((c : Stored) (place : ℕ) (it : Item) → Contains cs c → slice_get c.commit.items place ≡ Some it → IsItemValue it) → AreHeld m base cs
held_in m base [] holds values = tt
held_in m base (c ∷ cs) holds values = (
  record { holds = holds c (0, omega arith, refl); values = λ place it is. values c place it (0, omega arith, refl) is },
  held_in m base cs (λ d there. holds d (behind d there)) (λ d place it there is. values d place it (behind d there) is),
)
  where
    behind : (d : Stored) → Contains cs d → Contains (c ∷ cs) d
    behind d there = (suc there.0, (let within = there.1 in omega (arith, within)), there.2)

-- a catalog whose index the area holds
record HasIndexOf (m : Area) (base : List ℕ) : Type 0 where
  pub old : Catalog
  pub whole : IsCatalog old
  pub held : HoldsIndex m base old

index_there : (m : Area) (base : List ℕ) (cs : Catalog) → IsCatalog cs → SpellsCatalog m base cs → HasIndexOf m base
index_there m base cs whole spells = ⊎_elim
    (λ held. record { old = cs; whole = whole; held = held })
    (λ lag. record { old = lag.0; whole = prefix_is_catalog lag.0 (lag.1 ∷ []) (subst IsCatalog lag.2 whole); held = lag.3 })
    spells.index

base_same : (m : Area) (base other : List ℕ) → HasIndexOf m base → HasIndexOf m other → other ≡ base
base_same m base other p q =
    let own = counts_of p.old (in_range p.old p.whole.lawful) in
    let its = counts_of q.old (in_range q.old q.whole.lawful) in
    index_text-tells other base (heads_of q.old) (heads_of p.old) its.0 own.0 its.1 own.1
    (same_Some (index_text other (heads_of q.old)) (index_text base (heads_of p.old)) (sym q.held ∙ p.held))

-- the catalog and its base address
pub spells_one : (m : Area) (base : List ℕ) (cs : Catalog) → IsCatalog cs → SpellsCatalog m base cs → SpellsOnly m base cs
spells_one m base cs whole spells other ds also theirs =
    let bases : other ≡ base = base_same m base other (index_there m base cs whole spells) (index_there m other ds also theirs) in
    let below : SpellsCatalog m base ds = subst (λ (b : List ℕ). SpellsCatalog m b ds) bases theirs in
    let rows : all_rows ds ≡ all_rows cs =
    same_all_pages base base ds cs (in_range ds also.lawful) (in_range cs whole.lawful) (λ k. sym (below.pages k) ∙ spells.pages k) in (
      bases,
      same_commits m base [] ds cs also.lawful.commits whole.lawful.commits
          (held_in m base ds below.commits (item_values ds also)) (held_in m base cs spells.commits (item_values cs whole)) rows,
    )
