-- The opening of an area that spells a catalog.
use Rattle.std.proofs.Common.{◌≡◌, ◌≤◌, ◌⊎◌, ◌+◌, ℕ, List, [], ◌∷◌, ◌++◌, length, map, Some, None, Option, Ok, Err, Result, OnOk, inl, inr, ⊎_elim, refl, sym, ◌∙◌, ap, subst, arith, append-nil}
use Rattle.std.proofs.lemmas.List.{length-map}
use Rattle.std.specs.FinMap.{get}
use Rattle.blob_store.specs.Area.{Area}
use Rattle.blob_store.specs.Events.{Act, Get, Change}
use Rattle.blob_store.specs.Plans.{Makes, RunsInMemory}
use Rattle.blob_store.specs.Seen.{Seen}
use Rattle.blob_store.specs.Steps.{AfterPrefix}
use Rattle.blob_store.specs.declared.error.BlobErr.{BlobErr}
use Rattle.blob_store.specs.declared.error.BlobErr.TheVariants as blob
use Rattle.blob_store.proofs.Moments.{weaker}
use Rattle.blob_store.proofs.PlanFronts.{plan_leaves}
use Rattle.blob_store.proofs.Stepping.{after_plan-append, holds}
use Rattle.pkg_meta.specs.Catalog.{Catalog}
use Rattle.pkg_meta.specs.declared.commit.Stored.{Stored}
use Rattle.catalog_doc.specs.CatDocs.{add_commit, all_rows, heads_of, pages_of}
use Rattle.catalog_doc.specs.Catalogs.{IsCatalog}
use Rattle.catalog_doc.specs.Commits.{index_put}
use Rattle.catalog_doc.specs.Documents.{head_of}
use Rattle.catalog_doc.specs.Names.{index_name, page_name}
use Rattle.catalog_doc.specs.Spelled.{HoldsIndex, SpellsCatalog}
use Rattle.catalog_doc.specs.declared.head.PageHead.{PageHead}
use Rattle.catalog_doc.specs.declared.row.Row.{Row}
use Rattle.catalog_doc.proofs.LookUps.{fill-append}
use Rattle.catalog_doc.proofs.Prefixes.{prefix_is_catalog}
use Rattle.catalog_opening.specs.Openings.{Answers, IsOpenable, IsOpeningPlan, IsSettledStoreOf, IsStoreOf, KeepsSpelling, opening_gets, Opens, RunsOpening}
use Rattle.catalog_opening.specs.Pages.{FitIndex, IsHeldAs, rows_on}
use Rattle.catalog_opening.specs.Plans.{index_change, page_gets}
use Rattle.catalog_opening.specs.Reads.{IsIndexText}
use Rattle.catalog_opening.specs.declared.error.OpenErr.{OpenErr}
use Rattle.catalog_opening.specs.declared.error.OpenErr.TheVariants.{Fault, Missing, Damaged, BaseDiffers, Memory}
use Rattle.catalog_opening.specs.declared.opening.Known.{Known}
use Rattle.catalog_opening.proofs.CatalogPages.{few_heads, fits_more, fits_own, head_values, heads-pages, index_changes, its_rows, last_is_commit, page_rows, pages_hold, rows_on-pages}
use Rattle.catalog_opening.proofs.Halting.{AreGets, after_gets, gets_keep, page_gets-gets}
use Rattle.catalog_opening.proofs.Mending.{index_mended, mended_spells, with_index}
use Rattle.catalog_opening.proofs.Prefixes.{after_gets_alone, after_prefix, plan_holds}

pub few_in_index : (cs : Catalog) → IsCatalog cs → length (heads_of cs) ≤ 200_000
few_in_index cs whole =
    let heads : length (heads_of cs) ≡ length (pages_of cs) = length-map (pages_of cs) (λ (page : Catalog). head_of (all_rows page)) in
    omega (arith, heads, few_heads cs whole)

its_index : (m : Area) (base : List ℕ) (cs : Catalog) → IsCatalog cs → SpellsCatalog m base cs → (ds : Catalog) → IsCatalog ds → HoldsIndex m base ds → IsIndexText base (heads_of ds) (get m index_name)
its_index m base cs whole spells ds lawful held = record {
  base_text = spells.base_text;
  values = head_values ds lawful;
  few = few_in_index ds lawful;
  text = held;
}

module _ (m : Area) (base : List ℕ) (cs : Catalog) (whole : IsCatalog cs) (spells : SpellsCatalog m base cs) where
  abbrev pub its_pages : List (List Row)
  its_pages = page_rows (pages_of cs)

  none_behind : get m (page_name (length its_pages)) ≡ None
  none_behind = subst (λ (n : ℕ). get m (page_name n) ≡ None) (sym (length-map (pages_of cs) all_rows)) (pages_hold m base cs whole spells).1

  its_heads : map head_of its_pages ≡ heads_of cs
  its_heads = sym (heads-pages (pages_of cs))

  -- its pages fit its own index
  pub held_own : IsHeldAs m base (heads_of cs) its_pages
  held_own = record {
    held = (pages_hold m base cs whole spells).0;
    behind = none_behind;
    fits = subst (λ (heads : List PageHead). FitIndex heads its_pages) its_heads (fits_own its_pages);
  }

  -- and that of the catalog without the last commit
  pub held_before : (before : Catalog) (last : Stored) → cs ≡ before ++ last ∷ [] → IsHeldAs m base (heads_of before) its_pages
  held_before before last is = record {
    held = (pages_hold m base cs whole spells).0;
    behind = none_behind;
    fits = subst (λ (heads : List PageHead). FitIndex heads its_pages) (sym (heads-pages (pages_of before)))
        (subst (λ (pages : List Catalog). FitIndex (map head_of (page_rows (pages_of before))) (page_rows pages)) (sym (ap pages_of is ∙ fill-append [] before last))
        (fits_more last (last_is_commit before last (subst IsCatalog is whole)) (pages_of before)));
  }

  pub open_own : HoldsIndex m base cs → IsOpenable m base (heads_of cs) its_pages []
  open_own held = record {
    index = its_index m base cs whole spells cs whole held;
    pages_held = held_own;
    mends = inl (its_heads, refl);
  }

  pub open_lagging : (before : Catalog) (last : Stored) → cs ≡ before ++ last ∷ [] → HoldsIndex m base before → IsOpenable m base (heads_of before) its_pages (Change (index_put base cs) ∷ [])
  open_lagging before last is held =
      let more : IsCatalog (before ++ last ∷ []) = subst IsCatalog is whole in
      let lawful : IsCatalog before = prefix_is_catalog before (last ∷ []) more in
      let one = last_is_commit before last more in
      let grown : pages_of cs ≡ add_commit (pages_of before) last = ap pages_of is ∙ fill-append [] before last in
      let olds : heads_of before ≡ map head_of (page_rows (pages_of before)) = heads-pages (pages_of before) in
      record {
        index = its_index m base cs whole spells before lawful held;
        pages_held = held_before before last is;
        mends = inr (
          (λ same. index_changes last one (pages_of before) (ap (λ (pages : List Catalog). map head_of (page_rows pages)) (sym grown) ∙ same ∙ olds)),
          ap (λ (heads : List PageHead). index_change base heads ∷ []) (sym its_heads),
        );
      }

  -- what is read is the catalog's
  abbrev pub ItsAnswers : Option (List ℕ) → Result Known OpenErr → Type 0
  ItsAnswers given result = Answers given base (all_rows cs) (heads_of cs) result

  pub its_answers : (given : Option (List ℕ)) (result : Result Known OpenErr) → Answers given base (rows_on its_pages) (map head_of its_pages) result → ItsAnswers given result
  its_answers given result answers =
      subst (λ (heads : List PageHead). Answers given base (all_rows cs) heads result) its_heads
      (subst (λ (rows : List Row). Answers given base rows (map head_of its_pages) result) (rows_on-pages (pages_of cs) ∙ its_rows cs) answers)

  -- the calls of an opening, and of one that mends
  abbrev AreMending : List Act → Type 0
  AreMending acts = (acts ≡ []) ⊎ (acts ≡ Change (index_put base cs) ∷ [])

  opening_gets-gets : (n : ℕ) → AreGets (opening_gets n)
  opening_gets-gets n = page_gets-gets 0 (n + 1)

  left_spells : (p acts : List Act) → AreGets p → AreMending acts → (left : Area) → AfterPrefix (p ++ acts) m left → SpellsCatalog left base cs
  left_spells p acts gets (inl none) left here =
      let alone : AfterPrefix p m left = subst (λ (plan : List Act). AfterPrefix plan m left) (ap (λ (l : List Act). p ++ l) none ∙ append-nil p) here in
      subst (λ (x : Area). SpellsCatalog x base cs) (sym (after_gets_alone p m left gets alone)) spells
  left_spells p acts gets (inr put) left here =
      let mended : AfterPrefix (p ++ Change (index_put base cs) ∷ []) m left = subst (λ (l : List Act). AfterPrefix (p ++ l) m left) put here in
      ⊎_elim
      (λ old. subst (λ (x : Area). SpellsCatalog x base cs) (sym old) spells)
      (λ new. subst (λ (x : Area). SpellsCatalog x base cs) (sym new) (mended_spells m base cs spells))
      (after_prefix (index_put base cs) m p left gets mended)

  pub run_spells : {A : Type 0} (p acts : List Act) (a b : Seen) (result : Result A BlobErr) → AreGets p → AreMending acts → a.held ≡ Some m → RunsInMemory (p ++ acts) a b result → IsStoreOf b base cs
  run_spells p acts a b result gets mends is runs =
      let left = plan_holds (p ++ acts) a b m result runs is in
      (left.0, left.1, left_spells p acts gets mends left.0 left.2)

  pub run_keeps : {A : Type 0} (p acts : List Act) (a b : Seen) (result : Result A BlobErr) → AreGets p → AreMending acts → a.held ≡ Some m → RunsInMemory (p ++ acts) a b result → KeepsSpelling a b base cs
  run_keeps p acts a b result gets mends is runs = weaker a b (AfterPrefix (p ++ acts) m) (λ left. SpellsCatalog left base cs) (plan_leaves (p ++ acts) a b m result runs is)
      (λ left here. left_spells p acts gets mends left here)

  pub made_mends : (p : List Act) (a b : Seen) → AreGets p → a.held ≡ Some m → Makes (p ++ Change (index_put base cs) ∷ []) a b → IsSettledStoreOf b base cs
  made_mends p a b gets is made = (
    with_index base cs m,
    holds (p ++ Change (index_put base cs) ∷ []) a b m made is ∙ ap Some (after_plan-append p (Change (index_put base cs) ∷ []) m ∙ ap (with_index base cs) (after_gets p m gets)),
    mended_spells m base cs spells,
    index_mended m base cs spells,
  )

  -- an opening's run, told by a store's answer
  told : {A : Type 0} (n : ℕ) (acts : List Act) (a b : Seen) (result : Result A OpenErr) → RunsOpening (opening_gets n ++ acts) a b result → (r : Result (Unit {0}) BlobErr) × RunsInMemory (opening_gets n ++ acts) a b r
  told n acts a b (Ok x) runs = (Ok tt, runs)
  told n acts a b (Err Fault) runs = (Err blob.Failed, runs)
  told n acts a b (Err Missing) runs = absurd runs
  told n acts a b (Err (Damaged name)) runs = absurd runs
  told n acts a b (Err (BaseDiffers stored given)) runs = (Err blob.Memory, inr (Get index_name ∷ [], page_gets 0 (n + 1) ++ acts, refl, runs))
  told n acts a b (Err Memory) runs = (Err blob.Memory, runs)

  -- all that is told of an opening
  pub record Opened (given : Option (List ℕ)) (a b : Seen) (result : Result Known OpenErr) : Type 0 where
    pub answers : ItsAnswers given result
    pub settled : OnOk result (IsSettledStoreOf b base cs)
    pub spelled : IsStoreOf b base cs
    pub moments : KeepsSpelling a b base cs

  settled_own : (n : ℕ) (a b : Seen) (result : Result Known OpenErr) → HoldsIndex m base cs → a.held ≡ Some m → RunsOpening (opening_gets n ++ []) a b result → OnOk result (IsSettledStoreOf b base cs)
  settled_own n a b (Ok known) held is made =
      let alone : Makes (opening_gets n) a b = subst (λ (plan : List Act). Makes plan a b) (append-nil (opening_gets n)) made in
      (m, gets_keep (opening_gets n) a b (opening_gets-gets n) alone ∙ is, spells, held)
  settled_own n a b (Err error) held is runs = tt

  settled_mended : (n : ℕ) (a b : Seen) (result : Result Known OpenErr) → a.held ≡ Some m → RunsOpening (opening_gets n ++ Change (index_put base cs) ∷ []) a b result → OnOk result (IsSettledStoreOf b base cs)
  settled_mended n a b (Ok known) is made = made_mends (opening_gets n) a b (opening_gets-gets n) is made
  settled_mended n a b (Err error) is runs = tt

  pub opened : (given : Option (List ℕ)) (a b : Seen) (result : Result Known OpenErr) → a.held ≡ Some m
      → ((heads : List PageHead) (acts : List Act) → IsOpenable m base heads its_pages acts → Opens given base heads its_pages acts a b result) → Opened given a b result
  opened given a b result is opens = ⊎_elim own lagging spells.index
    where
      own : HoldsIndex m base cs → Opened given a b result
      own held =
          let found = opens (heads_of cs) [] (open_own held) in
          let run = told (length (heads_of cs)) [] a b result found.runs in
          record {
            answers = its_answers given result found.answers;
            settled = settled_own (length (heads_of cs)) a b result held is found.runs;
            spelled = run_spells (opening_gets (length (heads_of cs))) [] a b run.0 (opening_gets-gets (length (heads_of cs))) (inl refl) is run.1;
            moments = run_keeps (opening_gets (length (heads_of cs))) [] a b run.0 (opening_gets-gets (length (heads_of cs))) (inl refl) is run.1;
          }

      lagging : (before : Catalog) × (last : Stored) × (cs ≡ before ++ last ∷ []) × HoldsIndex m base before → Opened given a b result
      lagging (before, last, same, held) =
          let found = opens (heads_of before) (Change (index_put base cs) ∷ []) (open_lagging before last same held) in
          let run = told (length (heads_of before)) (Change (index_put base cs) ∷ []) a b result found.runs in
          record {
            answers = its_answers given result found.answers;
            settled = settled_mended (length (heads_of before)) a b result is found.runs;
            spelled = run_spells (opening_gets (length (heads_of before))) (Change (index_put base cs) ∷ []) a b run.0 (opening_gets-gets (length (heads_of before))) (inr refl) is run.1;
            moments = run_keeps (opening_gets (length (heads_of before))) (Change (index_put base cs) ∷ []) a b run.0 (opening_gets-gets (length (heads_of before))) (inr refl) is run.1;
          }

  pub runs_planned : (given : Option (List ℕ)) (a b : Seen) (result : Result Known OpenErr) (plan : List Act) → IsOpeningPlan m base cs plan
      → ((heads : List PageHead) (acts : List Act) → IsOpenable m base heads its_pages acts → Opens given base heads its_pages acts a b result) → RunsOpening plan a b result
  runs_planned given a b result plan (inl (held, is)) opens =
      subst (λ (l : List Act). RunsOpening l a b result) (append-nil (opening_gets (length (heads_of cs))) ∙ sym is) (opens (heads_of cs) [] (open_own held)).runs
  runs_planned given a b result plan (inr (before, last, same, held, is)) opens =
      subst (λ (l : List Act). RunsOpening l a b result) (sym is) (opens (heads_of before) (Change (index_put base cs) ∷ []) (open_lagging before last same held)).runs
