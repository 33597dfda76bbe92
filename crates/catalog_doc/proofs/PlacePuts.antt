-- What the puts at a commit's places leave, and what they leave alone.
use Rattle.std.proofs.Common.{◌≡◌, ◌≢◌, ◌<◌, ◌≤◌, ◌+◌, ◌^◌, ℕ, zero, suc, List, [], ◌∷◌, ◌++◌, length, Option, None, Some, sym, ◌∙◌, ap, arith, slice_get}
use Rattle.std.specs.FinMap.{get}
use Rattle.blob_store.specs.Area.{Area}
use Rattle.blob_store.specs.Runs.{LeavesAlone, after_calls}
use Rattle.blob_store.specs.declared.call.Call.{Call}
use Rattle.blob_store.specs.declared.call.Call.TheVariants.{Put}
use Rattle.blob_store.proofs.Fronts.{LeavesAlone-append, after_calls-append, get_last}
use Rattle.pkg_meta.specs.declared.commit.Staged.{Staged}
use Rattle.pkg_meta.specs.declared.item.Item.{Item}
use Rattle.catalog_doc.specs.Commits.{place_puts, staged_puts}
use Rattle.catalog_doc.specs.Documents.{leaf_text}
use Rattle.catalog_doc.specs.Names.{leaf_name, nupkg_name, nuspec_name}
use Rattle.catalog_doc.proofs.DocNames.{leaf_name-place, nupkg_name-no_document, nupkg_name-not_nuspec, nupkg_name-place, nuspec_name-no_document, nuspec_name-place}

-- the name is none of those at a place
pub record IsNotAt (number place : ℕ) (name : List ℕ) : Type 0 where
  pub leaf : name ≢ leaf_name number place
  pub nupkg : name ≢ nupkg_name number place
  pub nuspec : name ≢ nuspec_name number place

module _ (base : List ℕ) (number stamp : ℕ) (fits : number < 2 ^ 64) where
  staged_alone : (name : List ℕ) (place : ℕ) (s : Option Staged) → IsNotAt number place name → LeavesAlone name (staged_puts number place s)
  staged_alone name place None other = tt
  staged_alone name place (Some s) other = (other.nupkg, (other.nuspec, tt))

  -- the puts at these places leave every other name alone
  pub places_alone : (name : List ℕ) (from : ℕ) (items : List Item) (staged : List (Option Staged))
      → ((q : ℕ) → from ≤ q → q < from + length items → IsNotAt number q name) → LeavesAlone name (place_puts base number stamp from items staged)
  places_alone name from [] staged other = tt
  places_alone name from (it ∷ items) [] other =
      ((other from (omega arith) (omega arith)).leaf, places_alone name (suc from) items [] (λ q low high. other q (omega (arith, low)) (omega (arith, high))))
  places_alone name from (it ∷ items) (s ∷ staged) other =
      let own = other from (omega arith) (omega arith) in
      LeavesAlone-append name (staged_puts number from s) (Put (leaf_name number from) (leaf_text base number from stamp it) ∷ place_puts base number stamp (suc from) items staged)
      (staged_alone name from s own)
      (own.leaf, places_alone name (suc from) items staged (λ q low high. other q (omega (arith, low)) (omega (arith, high))))

  -- what is put at a place, with what is put before and behind it
  record IsPart (calls : List Call) (place : ℕ) (it : Item) (s : Option Staged) : Type 0 where
    before : List Call
    items : List Item
    staged : List (Option Staged)
    is : calls ≡ before ++ (staged_puts number place s ++ Put (leaf_name number place) (leaf_text base number place stamp it) ∷ place_puts base number stamp (suc place) items staged)
    few : suc place + length items ≤ 2 ^ 64

  part_at : (from : ℕ) (items : List Item) (staged : List (Option Staged)) (k place : ℕ) (it : Item) (s : Option Staged)
      → place ≡ from + k → slice_get items k ≡ Some it → slice_get staged k ≡ Some s → from + length items ≤ 2 ^ 64
      → IsPart (place_puts base number stamp from items staged) place it s
  part_at from [] staged k place it s is at there few = cc
  part_at from (x ∷ items) [] k place it s is at there few = cc
  part_at from (x ∷ items) (y ∷ staged) zero place it s is at there few =
      let same : from ≡ place = omega (arith, is) in
      let item : x ≡ it = cc in
      let brought : y ≡ s = cc in
      record {
        before = [];
        items = items;
        staged = staged;
        is = λ i. staged_puts number (same i) (brought i)
            ++ Put (leaf_name number (same i)) (leaf_text base number (same i) stamp (item i)) ∷ place_puts base number stamp (suc (same i)) items staged;
        few = omega (arith, is, few);
      }
  part_at from (x ∷ items) (y ∷ staged) (suc k) place it s is at there few =
      let rest = part_at (suc from) items staged k place it s (omega (arith, is)) at there (omega (arith, few)) in
      let own = staged_puts number from y ++ Put (leaf_name number from) (leaf_text base number from stamp x) ∷ [] in
      record {
        before = own ++ rest.before;
        items = rest.items;
        staged = rest.staged;
        is = two (staged_puts number from y) (Put (leaf_name number from) (leaf_text base number from stamp x)) rest.before _ _ rest.is;
        few = rest.few;
      }
    where
      two : (xs : List Call) (call : Call) (ys zs ws : List Call) → ws ≡ ys ++ zs → xs ++ call ∷ ws ≡ ((xs ++ call ∷ []) ++ ys) ++ zs
      two [] call ys zs ws e = ap (λ (l : List Call). call ∷ l) e
      two (x ∷ xs) call ys zs ws e = ap (λ (l : List Call). x ∷ l) (two xs call ys zs ws e)

  apart_later : (place q : ℕ) → place < q → q ≡ place → ⊥
  apart_later place q lt e = omega arith

  -- later places leave a place's names alone
  later_leaf : (place : ℕ) (items : List Item) (staged : List (Option Staged)) → suc place + length items ≤ 2 ^ 64
      → LeavesAlone (leaf_name number place) (place_puts base number stamp (suc place) items staged)
  later_leaf place items staged few = places_alone (leaf_name number place) (suc place) items staged (λ q low high. record {
    leaf = λ e. apart_later place q low (sym (leaf_name-place number number place q fits fits (omega (arith, few)) (omega (arith, few, high)) e));
    nupkg = λ e. (nupkg_name-no_document number q).leaf number place (sym e);
    nuspec = λ e. (nuspec_name-no_document number q).leaf number place (sym e);
  })

  later_nupkg : (place : ℕ) (items : List Item) (staged : List (Option Staged)) → suc place + length items ≤ 2 ^ 64
      → LeavesAlone (nupkg_name number place) (place_puts base number stamp (suc place) items staged)
  later_nupkg place items staged few = places_alone (nupkg_name number place) (suc place) items staged (λ q low high. record {
    leaf = (nupkg_name-no_document number place).leaf number q;
    nupkg = λ e. apart_later place q low (sym (nupkg_name-place number number place q fits fits (omega (arith, few)) (omega (arith, few, high)) e));
    nuspec = nupkg_name-not_nuspec number number place q fits fits (omega (arith, few)) (omega (arith, few, high));
  })

  later_nuspec : (place : ℕ) (items : List Item) (staged : List (Option Staged)) → suc place + length items ≤ 2 ^ 64
      → LeavesAlone (nuspec_name number place) (place_puts base number stamp (suc place) items staged)
  later_nuspec place items staged few = places_alone (nuspec_name number place) (suc place) items staged (λ q low high. record {
    leaf = (nuspec_name-no_document number place).leaf number q;
    nupkg = λ e. nupkg_name-not_nuspec number number q place fits fits (omega (arith, few, high)) (omega (arith, few)) (sym e);
    nuspec = λ e. apart_later place q low (sym (nuspec_name-place number number place q fits fits (omega (arith, few)) (omega (arith, few, high)) e));
  })

  -- each place's leaf is there afterwards
  pub leaf_put : (items : List Item) (staged : List (Option Staged)) (m : Area) (place : ℕ) (it : Item) (s : Option Staged)
      → slice_get items place ≡ Some it → slice_get staged place ≡ Some s → length items ≤ 2 ^ 64
      → get (after_calls (place_puts base number stamp 0 items staged) m) (leaf_name number place) ≡ Some (leaf_text base number place stamp it)
  leaf_put items staged m place it s at there few =
      let part = part_at 0 items staged place place it s (omega arith) at there (omega (arith, few)) in
      let rest = place_puts base number stamp (suc place) part.items part.staged in
      let call = Put (leaf_name number place) (leaf_text base number place stamp it) in
      ap (λ (calls : List Call). get (after_calls calls m) (leaf_name number place)) part.is
      ∙ ap (λ (x : Area). get x (leaf_name number place)) (after_calls-append part.before (staged_puts number place s ++ call ∷ rest) m)
      ∙ get_last (staged_puts number place s) rest call (after_calls part.before m) (later_leaf place part.items part.staged part.few)

  pub nupkg_put : (items : List Item) (staged : List (Option Staged)) (m : Area) (place : ℕ) (it : Item) (s : Staged)
      → slice_get items place ≡ Some it → slice_get staged place ≡ Some (Some s) → length items ≤ 2 ^ 64
      → get (after_calls (place_puts base number stamp 0 items staged) m) (nupkg_name number place) ≡ Some s.nupkg
  nupkg_put items staged m place it s at there few =
      let part = part_at 0 items staged place place it (Some s) (omega arith) at there (omega (arith, few)) in
      let rest = place_puts base number stamp (suc place) part.items part.staged in
      let leaf = Put (leaf_name number place) (leaf_text base number place stamp it) in
      let within : place < 2 ^ 64 = omega (arith, part.few) in
      ap (λ (calls : List Call). get (after_calls calls m) (nupkg_name number place)) part.is
      ∙ ap (λ (x : Area). get x (nupkg_name number place)) (after_calls-append part.before (staged_puts number place (Some s) ++ leaf ∷ rest) m)
      ∙ get_last [] (Put (nuspec_name number place) s.nuspec ∷ leaf ∷ rest) (Put (nupkg_name number place) s.nupkg) (after_calls part.before m) (
        nupkg_name-not_nuspec number number place place fits fits within within,
        ((nupkg_name-no_document number place).leaf number place, later_nupkg place part.items part.staged part.few),
      )

  pub nuspec_put : (items : List Item) (staged : List (Option Staged)) (m : Area) (place : ℕ) (it : Item) (s : Staged)
      → slice_get items place ≡ Some it → slice_get staged place ≡ Some (Some s) → length items ≤ 2 ^ 64
      → get (after_calls (place_puts base number stamp 0 items staged) m) (nuspec_name number place) ≡ Some s.nuspec
  nuspec_put items staged m place it s at there few =
      let part = part_at 0 items staged place place it (Some s) (omega arith) at there (omega (arith, few)) in
      let rest = place_puts base number stamp (suc place) part.items part.staged in
      let leaf = Put (leaf_name number place) (leaf_text base number place stamp it) in
      ap (λ (calls : List Call). get (after_calls calls m) (nuspec_name number place)) part.is
      ∙ ap (λ (x : Area). get x (nuspec_name number place)) (after_calls-append part.before (staged_puts number place (Some s) ++ leaf ∷ rest) m)
      ∙ get_last (Put (nupkg_name number place) s.nupkg ∷ []) (leaf ∷ rest) (Put (nuspec_name number place) s.nuspec) (after_calls part.before m)
      ((nuspec_name-no_document number place).leaf number place, later_nuspec place part.items part.staged part.few)
