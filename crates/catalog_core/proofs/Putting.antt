-- The puts of a commit, and what they leave of an open catalog.
use Rattle.std.proofs.Common.{◌≡◌, ◌⊎◌, ℕ, List, [], ◌∷◌, ◌++◌, map, Bool, true, false, Some, Ok, Err, Result, inl, inr, ⊎_elim, refl, sym, ◌∙◌, ap, subst, option_map}
use Rattle.blob_store.specs.Area.{Area}
use Rattle.blob_store.specs.Events.{Act, Change}
use Rattle.blob_store.specs.Moments.{LeavesOnly}
use Rattle.blob_store.specs.Plans.{Makes, MakesSome, Runs, StopsAt}
use Rattle.blob_store.specs.Runs.{after_calls, IsAfterSome}
use Rattle.blob_store.specs.Seen.{Seen}
use Rattle.blob_store.specs.declared.error.BlobErr.{BlobErr}
use Rattle.blob_store.proofs.Moments.{weaker}
use Rattle.blob_store.proofs.RunFronts.{run_done, run_holds, run_leaves}
use Rattle.pkg_meta.specs.Catalog.{Catalog}
use Rattle.pkg_meta.specs.declared.commit.Stored.{Stored}
use Rattle.catalog_doc.specs.CatDocs.{rows_of}
use Rattle.catalog_doc.specs.Catalogs.{IsCatalog}
use Rattle.catalog_doc.specs.Commits.{commit_puts}
use Rattle.catalog_doc.specs.Spelled.{SpellsCatalog}
use Rattle.catalog_doc.specs.declared.error.CommitErr.{CommitErr}
use Rattle.catalog_doc.specs.declared.row.Row.{Row}
use Rattle.catalog_doc.specs.declared.error.CommitErr.TheVariants as commit
use Rattle.catalog_doc.proofs.Prefixes.{prefix_is_catalog}
use Rattle.catalog_doc.proofs.Spelling.{all_spell, each_spells}
use Rattle.catalog_opening.specs.Openings.{IsSettledStoreOf}
use Rattle.catalog_rows.specs.Kept.{HoldsSame, IsKeptOf, TakesIn}
use Rattle.catalog_rows.proofs.PageHeads.{kept_same}
use Rattle.catalog_core.specs.Committing.{PutsCommit, RunsPuts}
use Rattle.catalog_core.specs.Opened.{IsOpenFor, IsReady, IsStoreFor, KeepsRows, Opened}
use Rattle.catalog_core.proofs.Frames.{ready_keeps, ready_store}

-- an open catalog, settled or not, by its parts
settled_for : {B : Type 0} (n : Opened B) (b : Seen) (base : List ℕ) (cs : Catalog) → n.base ≡ base → n.settled ≡ true → IsCatalog cs → IsKeptOf n.kept cs → IsSettledStoreOf b base cs → IsOpenFor n b cs
settled_for n b base cs at settled lawful keeps store = record {
  lawful = lawful;
  keeps = subst (λ (x : Bool). KeepsRows x n.kept cs) (sym settled) keeps;
  store = subst (λ (x : List ℕ). IsStoreFor n.settled b x cs) (sym at) (subst (λ (x : Bool). IsStoreFor x b base cs) (sym settled) store);
}

unsettled_for : {B : Type 0} (n : Opened B) (b : Seen) (base : List ℕ) (cs : Catalog) (m : Area) → n.base ≡ base → n.settled ≡ false → IsCatalog cs → KeepsRows false n.kept cs
    → b.held ≡ Some m → SpellsCatalog m base cs → IsOpenFor n b cs
unsettled_for n b base cs m at settled lawful keeps held spells = record {
  lawful = lawful;
  keeps = subst (λ (x : Bool). KeepsRows x n.kept cs) (sym settled) keeps;
  store = subst (λ (x : List ℕ). IsStoreFor n.settled b x cs) (sym at) (subst (λ (x : Bool). IsStoreFor x b base cs) (sym settled) (m, held, spells));
}

module _ {B : Type 0} (o : Opened B) (a b : Seen) (cs : Catalog) (c : Stored) (whole : IsCatalog (cs ++ c ∷ [])) (ready : IsReady o a cs) where
  abbrev store : IsSettledStoreOf a o.base cs
  store = ready_store o a cs ready

  -- a crash at each moment of the puts, made as this result tells
  leaves : {A : Type 0} (r : Result A BlobErr) → Runs (map Change (commit_puts o.base cs c)) a b r
      → LeavesOnly a b (λ left. SpellsCatalog left o.base cs ⊎ SpellsCatalog left o.base (cs ++ c ∷ []))
  leaves r runs = weaker a b (IsAfterSome (commit_puts o.base cs c) store.0) (λ left. SpellsCatalog left o.base cs ⊎ SpellsCatalog left o.base (cs ++ c ∷ []))
      (run_leaves (commit_puts o.base cs c) a b store.0 r runs store.1)
      (λ left some. each_spells store.0 o.base cs c whole store.2 store.3 left some)

  pub moments_stopped : (failure : BlobErr) → StopsAt (map Change (commit_puts o.base cs c)) failure a b
      → LeavesOnly a b (λ left. SpellsCatalog left o.base cs ⊎ SpellsCatalog left o.base (cs ++ c ∷ []))
  moments_stopped failure = leaves {A = Unit {0}} (Err failure)

  pub moments_made : Makes (map Change (commit_puts o.base cs c)) a b → LeavesOnly a b (λ left. SpellsCatalog left o.base cs ⊎ SpellsCatalog left o.base (cs ++ c ∷ []))
  moments_made = leaves {A = Unit {0}} (Ok tt)

  done_area : Makes (map Change (commit_puts o.base cs c)) a b → b.held ≡ Some (after_calls (commit_puts o.base cs c) store.0)
  done_area made = run_done (commit_puts o.base cs c) a b made ∙ ap (option_map (after_calls (commit_puts o.base cs c))) store.1

  module _ (n : Opened B) (at : n.base ≡ o.base) where
    -- all puts done, and the rows taken in
    pub put_done : Makes (map Change (commit_puts o.base cs c)) a b → (rows : List Row) → TakesIn o.kept rows n.kept → rows ≡ rows_of c → n.settled ≡ true → IsOpenFor n b (cs ++ c ∷ [])
    put_done made rows takes are settled =
        let spells = all_spell store.0 o.base cs c whole store.2 store.3 in
        settled_for n b o.base (cs ++ c ∷ []) at settled whole (takes cs c (ready_keeps o a cs ready) (sym are))
        (after_calls (commit_puts o.base cs c) store.0, done_area made, spells.0, spells.1)

    keeps_old : HoldsSame o.kept n.kept → IsKeptOf n.kept cs
    keeps_old same = kept_same o.kept n.kept cs same (ready_keeps o a cs ready)

    module _ {A : Type 0} (r : Result A CommitErr) (error : CommitErr) (is : r ≡ Err error) (same : HoldsSame o.kept n.kept) (settled : n.settled ≡ false) where
      -- one not done
      pub put_stopped : (failure : BlobErr) → StopsAt (map Change (commit_puts o.base cs c)) failure a b → PutsCommit cs c r (IsOpenFor n b)
      put_stopped failure stops =
          let left = run_holds {A = Unit {0}} (commit_puts o.base cs c) a b store.0 (Err failure) stops store.1 in
          subst (λ (x : Result A CommitErr). PutsCommit cs c x (IsOpenFor n b)) (sym is)
          (⊎_elim
          (λ old. inl (unsettled_for n b o.base cs left.0 at settled (prefix_is_catalog cs (c ∷ []) whole) (inl (keeps_old same)) left.1 old))
          (λ new. inr (unsettled_for n b o.base (cs ++ c ∷ []) left.0 at settled whole (inr (cs, c, refl, keeps_old same)) left.1 new))
          (each_spells store.0 o.base cs c whole store.2 store.3 left.0 left.2))

-- memory ran out, before the first put or behind the last one
pub puts_out : {A : Type 0} (puts : List Act) (a b : Seen) (r : Result A CommitErr) → r ≡ Err commit.Memory → MakesSome puts a b → RunsPuts puts a b r
puts_out {A} puts a b r is some = subst (λ (x : Result A CommitErr). RunsPuts puts a b x) (sym is) (inr some)
