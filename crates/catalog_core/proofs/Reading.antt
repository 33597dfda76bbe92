-- What the calls that read a settled catalog answer.
use Rattle.std.proofs.Common.{◌≡◌, ◌≤◌, ℕ, List, [], ◌∷◌, length, map, Bool, true, false, Option, Some, None, IfSome, IfNone, IfOk, Ok, Err, Result, refl, sym, ◌∙◌, ap, ap₂, subst}
use Rattle.std.specs.Prelude.{Contains, slice_get, if◌then◌else◌}
use Rattle.std.specs.FinMap.{get}
use Rattle.std.specs.Option.{is_some}
use Rattle.blob_store.specs.Area.{Area}
use Rattle.blob_store.specs.Events.{Act, Get}
use Rattle.blob_store.specs.Seen.{IsSure, Seen}
use Rattle.pkg_meta.specs.Catalog.{Catalog}
use Rattle.pkg_meta.specs.declared.commit.Commit.{Commit}
use Rattle.pkg_meta.specs.declared.commit.Staged.{Staged}
use Rattle.pkg_meta.specs.declared.commit.Stored.{Stored}
use Rattle.pkg_meta.specs.declared.item.Item.{Item}
use Rattle.catalog_doc.specs.CatDocs.{all_rows, doc_at}
use Rattle.catalog_doc.specs.Catalogs.{all_items}
use Rattle.catalog_doc.specs.Reading.{IsItemValue}
use Rattle.catalog_doc.specs.Names.{nupkg_name, nuspec_name, staged_name}
use Rattle.catalog_doc.specs.declared.head.PageHead.{PageHead}
use Rattle.catalog_doc.specs.declared.row.Row.{Row}
use Rattle.catalog_laws.proofs.ItemValues.{item_values}
use Rattle.catalog_laws.proofs.RowValues.{lengths}
use Rattle.catalog_opening.specs.Errors.{IfDamagedRead}
use Rattle.catalog_opening.specs.Plans.{RunsReading}
use Rattle.catalog_opening.specs.declared.error.ReadErr.{ReadErr}
use Rattle.catalog_opening.specs.declared.error.ReadErr.TheVariants.{Damaged, Fault, Memory}
use Rattle.catalog_opening.proofs.Halting.{AreGets, halts_unstarted, reading_told}
use Rattle.catalog_items.specs.ByRows.{has_doc}
use Rattle.catalog_items.specs.Leaves.{AreItemValues, commits_with, HoldsLeaf, HoldsLeaves, leaf_gets, row_with}
use Rattle.catalog_items.specs.Reads.{IsAbsent, IsRead}
use Rattle.catalog_items.proofs.DocsByRows.{doc_by_rows}
use Rattle.catalog_items.proofs.Held.{spelled_doc}
use Rattle.catalog_items.proofs.ItemRows.{item_row, row_for}
use Rattle.catalog_core.specs.Opened.{IsReady, Opened, staged_bytes}
use Rattle.catalog_core.proofs.AllCommits.{all_commits, all_held, all_values}
use Rattle.catalog_core.proofs.Frames.{ready_keeps, ready_store}

none_if : (o : Option (List ℕ)) → is_some o ≡ false → o ≡ None
none_if None e = refl
none_if (Some bytes) e = absurd (let no : ⊥ = cc in no)

some_if : (o : Option (List ℕ)) → is_some o ≡ true → (bytes : List ℕ) × (o ≡ Some bytes)
some_if None e = absurd (let no : ⊥ = cc in no)
some_if (Some bytes) e = (bytes, refl)

-- what is told below a base address of rows that are passed
pub below : {base own : List ℕ} {rows kept : List Row} (P : List ℕ → List Row → Type 0) → base ≡ own → rows ≡ kept → P base rows → P own kept
below {base = base} {own = own} {rows = rows} {kept = kept} P same are here = subst (λ (b : List ℕ). P b kept) same (subst (P base) are here)

-- the gets of a document
pub doc_gets_are : (there : Bool) (name : List ℕ) → AreGets (if there then Get name ∷ [] else [])
doc_gets_are true name = tt
doc_gets_are false name = tt

pub leaf_gets_are : (row : Option Row) → AreGets (leaf_gets row)
leaf_gets_are None = tt
leaf_gets_are (Some row) = tt

module _ {B : Type 0} (o : Opened B) (s : Seen) (cs : Catalog) (ready : IsReady o s cs) where
  pub few_pages : length o.kept.pages ≤ 200_000
  few_pages = subst (λ (l : List PageHead). length l ≤ 200_000) (ready_keeps o s cs ready).pages (lengths cs ready.open_for.lawful.lawful).pages

  pub has_by : (name : List ℕ) (rows : List Row) (pages : ℕ) → rows ≡ o.kept.rows → pages ≡ length o.kept.pages → is_some (doc_at o.base cs name) ≡ has_doc name rows pages
  has_by name rows pages are count =
      doc_by_rows o.base name cs
      ∙ ap₂ (λ (l : List Row) (n : ℕ). has_doc name l n) ((ready_keeps o s cs ready).rows ∙ sym are) (ap length (ready_keeps o s cs ready).pages ∙ sym count)

  -- a document
  pub doc_read : (name : List ℕ) (rows : List Row) (pages : ℕ) → rows ≡ o.kept.rows → pages ≡ length o.kept.pages → (r : Result (Option (List ℕ)) ReadErr)
      → IfOk r (λ found. IfNone found (has_doc name rows pages ≡ false))
      → IfOk r (λ found. IfSome found (λ bytes. has_doc name rows pages ≡ true))
      → ((m : Area) → s.held ≡ Some m → IfOk r (λ found. IfSome found (λ bytes. get m name ≡ Some bytes)))
      → IfDamagedRead r (λ n. has_doc name rows pages ≡ true)
      → ((m : Area) → s.held ≡ Some m → IfDamagedRead r (IsAbsent name m))
      → IsRead (doc_at o.base cs name) r
  doc_read name rows pages are count (Ok None) none some found own damaged = sym (none_if (doc_at o.base cs name) (has_by name rows pages are count ∙ none))
  doc_read name rows pages are count (Ok (Some bytes)) none some found own damaged =
      let store = ready_store o s cs ready in
      let there = some_if (doc_at o.base cs name) (has_by name rows pages are count ∙ some) in
      sym (found store.0 store.1) ∙ spelled_doc store.0 o.base cs store.2 store.3 name there.0 there.1 ∙ sym there.1
  doc_read name rows pages are count (Err (Damaged n)) none some found own damaged =
      let store = ready_store o s cs ready in
      let there = some_if (doc_at o.base cs name) (has_by name rows pages are count ∙ own) in
      let held = spelled_doc store.0 o.base cs store.2 store.3 name there.0 there.1 in
      let gone = (damaged store.0 store.1).1 in
      let no : ⊥ = cc in no
  doc_read name rows pages are count (Err Fault) none some found own damaged = tt
  doc_read name rows pages are count (Err Memory) none some found own damaged = tt

  -- bytes that are held
  held_read : (name bytes : List ℕ) → ((m : Area) → s.held ≡ Some m → get m name ≡ Some bytes) → (r : Result (List ℕ) ReadErr)
      → ((m : Area) → s.held ≡ Some m → IfOk r (λ found. get m name ≡ Some found))
      → ((m : Area) → s.held ≡ Some m → IfDamagedRead r (IsAbsent name m)) → IsRead bytes r
  held_read name bytes held (Ok found) own damaged =
      let store = ready_store o s cs ready in
      let one = held store.0 store.1 in
      let other = own store.0 store.1 in
      let same : found ≡ bytes = cc in same
  held_read name bytes held (Err (Damaged n)) own damaged =
      let store = ready_store o s cs ready in
      let one = held store.0 store.1 in
      let gone = (damaged store.0 store.1).1 in
      let no : ⊥ = cc in no
  held_read name bytes held (Err Fault) own damaged = tt
  held_read name bytes held (Err Memory) own damaged = tt

  -- the staged blobs of a publish are held
  staged_held : (c : Stored) (brought : Staged) (number place : ℕ) (nuspec : Bool) → Contains cs c → c.commit.number ≡ number → slice_get c.staged place ≡ Some (Some brought)
      → (m : Area) → s.held ≡ Some m → get m (staged_name number place nuspec) ≡ Some (staged_bytes nuspec brought)
  staged_held c brought number place true there at is m held =
      let store = ready_store o s cs ready in
      let same : m ≡ store.0 = let e : Some m ≡ Some store.0 = sym held ∙ store.1 in cc in
      subst (λ (n : ℕ). get m (nuspec_name n place) ≡ Some brought.nuspec) at
      (subst (λ (x : Area). get x (nuspec_name c.commit.number place) ≡ Some brought.nuspec) (sym same) ((store.2.commits c there).nuspecs place brought is))
  staged_held c brought number place false there at is m held =
      let store = ready_store o s cs ready in
      let same : m ≡ store.0 = let e : Some m ≡ Some store.0 = sym held ∙ store.1 in cc in
      subst (λ (n : ℕ). get m (nupkg_name n place) ≡ Some brought.nupkg) at
      (subst (λ (x : Area). get x (nupkg_name c.commit.number place) ≡ Some brought.nupkg) (sym same) ((store.2.commits c there).nupkgs place brought is))

  pub staged_read : (c : Stored) (brought : Staged) (number place : ℕ) (nuspec : Bool) (name : List ℕ) → name ≡ staged_name number place nuspec → Contains cs c → c.commit.number ≡ number
      → slice_get c.staged place ≡ Some (Some brought) → (r : Result (List ℕ) ReadErr)
      → ((m : Area) → s.held ≡ Some m → IfOk r (λ found. get m name ≡ Some found))
      → ((m : Area) → s.held ≡ Some m → IfDamagedRead r (IsAbsent name m)) → IsRead (staged_bytes nuspec brought) r
  staged_read c brought number place nuspec name named there at is r own damaged =
      held_read name (staged_bytes nuspec brought)
      (λ m held. ap (get m) named ∙ staged_held c brought number place nuspec there at is m held) r own damaged

  -- the item at a place
  pub leaf_read : (c : Stored) (it : Item) (number place : ℕ) (base : List ℕ) (rows : List Row) → base ≡ o.base → rows ≡ o.kept.rows
      → Contains cs c → c.commit.number ≡ number → slice_get c.commit.items place ≡ Some it → (r : Result Item ReadErr)
      → ((m : Area) (row : Row) (x : Item) → s.held ≡ Some m → row_with number place rows ≡ Some row → IsItemValue x → HoldsLeaf m base row x → IsRead x r) → IsRead it r
  leaf_read c it number place base rows below are there numbered at r exact =
      let store = ready_store o s cs ready in
      let same : all_rows cs ≡ rows = (ready_keeps o s cs ready).rows ∙ sym are in
      let found : row_with number place rows ≡ Some (row_for c place it) =
      ap₂ (λ (n : ℕ) (l : List Row). row_with n place l) (sym numbered) (sym same) ∙ item_row cs ready.open_for.lawful.lawful.commits c there place it at in
      exact store.0 (row_for c place it) it store.1 found (item_values cs ready.open_for.lawful c place it there at)
      (subst (λ (b : List ℕ). HoldsLeaf store.0 b (row_for c place it) it) (sym below)
      (record { own = record { id = refl; version = refl; kind = refl }; leaf = (store.2.commits c there).leaves place it at }))

  -- all commits
  pub commits_read : (base : List ℕ) (rows : List Row) → base ≡ o.base → rows ≡ o.kept.rows → (r : Result (List Commit) ReadErr)
      → ((m : Area) (items : List Item) → s.held ≡ Some m → AreItemValues items → HoldsLeaves m base rows items → IsRead (commits_with [] rows items) r)
      → IsRead (map (λ (c : Stored). c.commit) cs) r
  commits_read base rows same are r exact =
      let store = ready_store o s cs ready in
      let own : all_rows cs ≡ rows = (ready_keeps o s cs ready).rows ∙ sym are in
      let held = all_held store.0 o.base cs store.2.commits in
      subst (λ (l : List Commit). IsRead l r) (ap (λ (l : List Row). commits_with [] l (all_items cs)) (sym own) ∙ all_commits cs ready.open_for.lawful)
      (exact store.0 (all_items cs) store.1 (all_values cs ready.open_for.lawful)
      (below (λ (b : List ℕ) (l : List Row). HoldsLeaves store.0 b l (all_items cs)) (sym same) own held))

-- a read of a settled catalog, said of the catalog as it was
pub settled_runs : {A B : Type 0} (seen : B → Seen) (o mid : Opened B) (plan : Opened B → List Act) (b : Seen) (r : Result A ReadErr) → mid ≡ o
    → RunsReading (plan mid) (seen mid.area) b r → RunsReading (plan o) (seen o.area) b r
settled_runs {A} seen o mid plan b r same ran = subst (λ (x : Opened _). RunsReading (plan x) (seen x.area) b r) same ran

-- one that called nothing
pub settled_quiet : {A B : Type 0} (seen : B → Seen) (o mid : Opened B) (plan : List Act) (r : Result A ReadErr) → mid ≡ o → IsSure (seen mid.area) → r ≡ Err Memory
    → RunsReading plan (seen o.area) (seen mid.area) r
settled_quiet {A} seen o mid plan r same sure told =
    subst (λ (x : Opened _). RunsReading plan (seen x.area) (seen mid.area) r) same
    (reading_told plan (seen mid.area) (seen mid.area) r Memory told (halts_unstarted plan (seen mid.area) sure))
