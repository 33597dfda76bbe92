-- Settling an area that spells the catalog known, or that with one commit more.
use Rattle.std.proofs.Common.{◌≡◌, ◌<◌, ◌∙◌, ◌+◌, ℕ, zero, suc, List, [], ◌∷◌, ◌++◌, length, map, drop, Some, None, Option, Ok, Err, Result, IfOk, OnOk, inr, refl, sym, ap, subst, arith, append-nil, length-append}
use Rattle.std.specs.Prelude.{flat_map}
use Rattle.std.proofs.Math.Seq.{drop-append_seam}
use Rattle.std.proofs.lemmas.Grind.{flat_map-append}
use Rattle.blob_store.specs.Area.{Area}
use Rattle.blob_store.specs.Events.{Act, Change}
use Rattle.blob_store.specs.Plans.{RunsInMemory}
use Rattle.blob_store.specs.Seen.{Seen}
use Rattle.blob_store.specs.declared.error.BlobErr.{BlobErr}
use Rattle.blob_store.specs.declared.error.BlobErr.TheVariants as blob
use Rattle.pkg_meta.specs.Catalog.{Catalog}
use Rattle.pkg_meta.specs.declared.commit.Stored.{Stored}
use Rattle.catalog_doc.specs.CatDocs.{all_rows, heads_of, pages_of, rows_of}
use Rattle.catalog_doc.specs.Catalogs.{IsCatalog}
use Rattle.catalog_doc.specs.Commits.{index_put}
use Rattle.catalog_doc.specs.Documents.{head_of, last_head}
use Rattle.catalog_doc.specs.Spelled.{SpellsCatalog}
use Rattle.catalog_doc.specs.declared.head.PageHead.{PageHead}
use Rattle.catalog_doc.specs.declared.row.Row.{Row}
use Rattle.catalog_doc.proofs.Prefixes.{prefix_is_catalog}
use Rattle.catalog_opening.specs.Errors.{IfDamagedRead}
use Rattle.catalog_opening.specs.Openings.{IsSettledStoreOf, IsStoreOf, KeepsSpelling}
use Rattle.catalog_opening.specs.Pages.{IsDamagedIn, IsHeldAs, rows_on}
use Rattle.catalog_opening.specs.Plans.{RunsReading, index_change, last_gets}
use Rattle.catalog_opening.specs.Reads.{counted_rows, rows_before_last}
use Rattle.catalog_opening.specs.Settlings.{IsKnownBefore, AreReadRows, more_rows, settling_plan, with_more}
use Rattle.catalog_opening.specs.declared.error.ReadErr.{ReadErr}
use Rattle.catalog_opening.specs.declared.error.ReadErr.TheVariants.{Damaged, Fault, Memory}
use Rattle.catalog_opening.proofs.CatalogOpen.{few_in_index, held_before, held_own, made_mends, run_keeps, run_spells}
use Rattle.catalog_opening.proofs.CatalogPages.{heads-pages, its_rows, page_rows, rows_on-pages}
use Rattle.catalog_opening.proofs.Fitting.{not_damaged}
use Rattle.catalog_opening.proofs.Halting.{AreGets, page_gets-gets}

pub last_gets-gets : (n : ℕ) → AreGets (last_gets n)
last_gets-gets zero = page_gets-gets 0 1
last_gets-gets (suc k) = page_gets-gets k 2

known_whole : (cs : Catalog) (more : Option Stored) → IsCatalog (with_more cs more) → IsCatalog cs
known_whole cs None whole = whole
known_whole cs (Some c) whole = prefix_is_catalog cs (c ∷ []) whole

-- no more pages are known than a catalog may have
pub too_many : (cs : Catalog) (more : Option Stored) (pages : List PageHead) → IsKnownBefore cs more pages → 200_000 < length pages → ⊥
too_many cs more pages known many =
    let few = few_in_index cs (known_whole cs more known.whole) in
    let as_many : length (heads_of cs) ≡ length pages = ap length known.known in
    omega (arith, few, as_many, many)

held_known : (m : Area) (base : List ℕ) (cs : Catalog) (more : Option Stored) → IsCatalog (with_more cs more) → SpellsCatalog m base (with_more cs more)
    → IsHeldAs m base (heads_of cs) (page_rows (pages_of (with_more cs more)))
held_known m base cs None whole spells = held_own m base cs whole spells
held_known m base cs (Some c) whole spells = held_before m base (cs ++ c ∷ []) whole spells cs c refl

counted : (pages : List Catalog) → counted_rows (map (λ (page : Catalog). head_of (all_rows page)) pages) ≡ length (flat_map all_rows pages)
counted [] = refl
counted (page ∷ pages) =
    let longer = length-append (all_rows page) (flat_map all_rows pages) in
    omega (arith, longer, counted pages)

rows_with_more : (cs : Catalog) (more : Option Stored) → all_rows (with_more cs more) ≡ all_rows cs ++ more_rows more
rows_with_more cs None = sym (append-nil (all_rows cs))
rows_with_more cs (Some c) = flat_map-append rows_of cs (c ∷ []) ∙ ap (λ (rows : List Row). all_rows cs ++ rows) (append-nil (rows_of c))

more_read : (cs : Catalog) (more : Option Stored) → drop (counted_rows (heads_of cs)) (rows_on (page_rows (pages_of (with_more cs more)))) ≡ more_rows more
more_read cs more =
    ap (λ (rows : List Row). drop (counted_rows (heads_of cs)) rows) (rows_on-pages (pages_of (with_more cs more)) ∙ its_rows (with_more cs more) ∙ rows_with_more cs more)
    ∙ ap (λ (n : ℕ). drop n (all_rows cs ++ more_rows more)) (counted (pages_of cs) ∙ ap length (its_rows cs))
    ∙ drop-append_seam (all_rows cs) (more_rows more)

none_damaged : {A : Type 0} (P : List ℕ → Type 0) (result : Result A ReadErr) → ((name : List ℕ) → P name → ⊥) → IfDamagedRead result P → IfDamagedRead result (λ name. ⊥)
none_damaged P (Ok x) none told = tt
none_damaged P (Err (Damaged name)) none told = none name told
none_damaged P (Err Fault) none told = tt
none_damaged P (Err Memory) none told = tt

read_as : (rows : List Row) (result : Result (List Row) ReadErr) → IfOk result (λ read. read ≡ rows) → IfDamagedRead result (λ name. ⊥) → AreReadRows rows result
read_as rows (Ok read) is whole = is
read_as rows (Err (Damaged name)) is whole = whole
read_as rows (Err Fault) is whole = tt
read_as rows (Err Memory) is whole = tt

told : {A : Type 0} (plan : List Act) (a b : Seen) (result : Result A ReadErr) → RunsReading plan a b result → IfDamagedRead result (λ name. ⊥) → (r : Result (Unit {0}) BlobErr) × RunsInMemory plan a b r
told plan a b (Ok x) runs whole = (Ok tt, runs)
told plan a b (Err (Damaged name)) runs whole = absurd whole
told plan a b (Err Fault) runs whole = (Err blob.Failed, runs)
told plan a b (Err Memory) runs whole = (Err blob.Memory, runs)

-- what holds of a settling
pub record Settled (cs : Catalog) (more : Option Stored) (base : List ℕ) (a b : Seen) (result : Result (List Row) ReadErr) : Type 0 where
  pub answers : AreReadRows (more_rows more) result
  pub settled : OnOk result (IsSettledStoreOf b base (with_more cs more))
  pub spelled : IsStoreOf b base (with_more cs more)
  pub moments : KeepsSpelling a b base (with_more cs more)
  pub runs : RunsReading (settling_plan base cs more) a b result

module _ (cs : Catalog) (more : Option Stored) (base : List ℕ) (pages : List PageHead) (known : IsKnownBefore cs more pages) (a b : Seen) (result : Result (List Row) ReadErr) where
  abbrev ds : Catalog
  ds = with_more cs more

  abbrev held : List (List Row)
  held = page_rows (pages_of ds)

  settled_ok : (m : Area) → a.held ≡ Some m → SpellsCatalog m base ds → (r : Result (List Row) ReadErr) → RunsReading (settling_plan base cs more) a b r → OnOk r (IsSettledStoreOf b base ds)
  settled_ok m is spells (Ok rows) runs = made_mends m base ds known.whole spells (last_gets (length (heads_of cs))) a b (last_gets-gets (length (heads_of cs))) is runs
  settled_ok m is spells (Err error) runs = tt

  pub settles : (store : IsStoreOf a base ds)
      → ((m : Area) (pages_held : List (List Row)) → a.held ≡ Some m → IsHeldAs m base pages pages_held → IfOk result (λ read. read ≡ drop (counted_rows pages) (rows_on pages_held)))
      → ((m : Area) (pages_held : List (List Row)) → a.held ≡ Some m → IsHeldAs m base pages pages_held → RunsReading (last_gets (length pages) ++ index_change base (map head_of pages_held) ∷ []) a b result)
      → ((m : Area) → a.held ≡ Some m → IfDamagedRead result (IsDamagedIn m base pages)) → Settled cs more base a b result
  settles (m, is, spells) rows runs damaged =
      let own : IsHeldAs m base (heads_of cs) held = held_known m base cs more known.whole spells in
      let as_held : IsHeldAs m base pages held = subst (λ (heads : List PageHead). IsHeldAs m base heads held) known.known own in
      let whole : IfDamagedRead result (λ name. ⊥) = none_damaged (IsDamagedIn m base pages) result (λ name told. not_damaged m base pages held name as_held told) (damaged m is) in
      let planned : RunsReading (settling_plan base cs more) a b result =
      subst (λ (heads : List PageHead). RunsReading (last_gets (length (heads_of cs)) ++ index_change base heads ∷ []) a b result) (sym (heads-pages (pages_of ds)))
      (subst (λ (n : ℕ). RunsReading (last_gets n ++ index_change base (map head_of held) ∷ []) a b result) (sym (ap length known.known)) (runs m held is as_held)) in
      let run = told (settling_plan base cs more) a b result planned whole in
      record {
        answers = read_as (more_rows more) result
            (subst (λ (l : List Row). IfOk result (λ read. read ≡ l)) (ap (λ (heads : List PageHead). drop (counted_rows heads) (rows_on held)) (sym known.known) ∙ more_read cs more) (rows m held is as_held)) whole;
        settled = settled_ok m is spells result planned;
        spelled = run_spells m base ds known.whole spells (last_gets (length (heads_of cs))) (Change (index_put base ds) ∷ []) a b run.0 (last_gets-gets (length (heads_of cs))) (inr refl) is run.1;
        moments = run_keeps m base ds known.whole spells (last_gets (length (heads_of cs))) (Change (index_put base ds) ∷ []) a b run.0 (last_gets-gets (length (heads_of cs))) (inr refl) is run.1;
        runs = planned;
      }

pub wider_damage : {A : Type 0} (P Q : List ℕ → Type 0) (result : Result A ReadErr) → ((name : List ℕ) → P name → Q name) → IfDamagedRead result P → IfDamagedRead result Q
wider_damage P Q (Ok x) to told = tt
wider_damage P Q (Err (Damaged name)) to told = to name told
wider_damage P Q (Err Fault) to told = tt
wider_damage P Q (Err Memory) to told = tt

-- all rows are those before the last page, and its own
pub last_counted : (heads : List PageHead) → counted_rows heads ≡ rows_before_last heads + (last_head heads).count
last_counted [] = omega arith
last_counted (head ∷ []) = omega arith
last_counted (head ∷ next ∷ heads) = omega (arith, last_counted (next ∷ heads))
