-- What a round gets of the catalog's area is held there, where that spells the catalog.
use Rattle.std.proofs.Common.{◌≡◌, ◌≢◌, inl, inr, ◌<◌, ℕ, List, [], ◌∷◌, ◌++◌, length, Bool, true, false, cond, Option, Some, None, IsSome, get_or}
use Rattle.std.proofs.Common.{sym, ◌∙◌, ap, subst, arith}
use Rattle.std.specs.FinMap.{get}
use Rattle.std.specs.List.{AllByRecursion}
use Rattle.std.specs.Prelude.{filter, flat_map, nat_lt, ⊤}
use Rattle.blob_store.specs.Area.{Area}
use Rattle.blob_store.specs.Events.{Act, Change, Get}
use Rattle.blob_store.specs.Seen.{Seen}
use Rattle.blob_store.specs.Steps.{after_plan}
use Rattle.pkg_meta.specs.Catalog.{Catalog}
use Rattle.pkg_meta.specs.declared.entry.Entry.{Entry}
use Rattle.pkg_meta.specs.declared.item.Item.{Item}
use Rattle.catalog_doc.specs.CatDocs.{all_rows}
use Rattle.catalog_doc.specs.Catalogs.{IsCatalog, all_items}
use Rattle.catalog_doc.specs.Names.{leaf_name, nupkg_name, nuspec_name, staged_name}
use Rattle.catalog_doc.specs.Reading.{IsItemValue}
use Rattle.catalog_doc.specs.Spelled.{SpellsCatalog}
use Rattle.catalog_doc.specs.declared.row.Row.{Row}
use Rattle.catalog_items.specs.Leaves.{AreItemValues, HoldsLeaf, HoldsLeaves, is_at, row_with}
use Rattle.catalog_core.proofs.AllCommits.{all_held, all_values}
use Rattle.fold_core.specs.Docs.{MakesDocs, body_bytes}
use Rattle.fold_core.specs.Entries.{Keeps}
use Rattle.fold_core.specs.Folds.{Fold, fold_of, touched_by}
use Rattle.fold_core.specs.Laws.{AreOfEntries}
use Rattle.fold_core.specs.declared.doc.Body.TheVariants.{Made, Staged as FromPublish}
use Rattle.hive_laws.specs.Areas.{SoundArea}
use Rattle.hive_laws.specs.FoldLaws.{FoldLaws}
use Rattle.hive_laws.specs.Rounds.{HaveItems}
use Rattle.hive_laws.proofs.Listed.{first, later}
use Rattle.id_pass.specs.declared.call.Call.{Call}
use Rattle.id_pass.specs.declared.call.Call.TheVariants.{Put, Remove}
use Rattle.pass_laws.specs.Making.{HaveCallBytes}
use Rattle.pass_laws.proofs.Leads.{calls_have_bytes}
use Rattle.job_round.specs.Items.{IsNoLeafAmong, IsNoStaged, keys_after}
use Rattle.job_round.specs.Plans.{AreWholePasses, Pass, TakesUp, held_after, keys_in, pass_plan, passes_plan}
use Rattle.job_round.specs.Reads.{IsNextToRead, SomeRead, bodies_of, leaf_get, leaf_of, leaf_reads, leaves_behind, own_rows, pass_reads, passes_reads}
use Rattle.job_round.specs.Rounds.{IsTask}
use Rattle.job_round.specs.States.{at_in}
use Rattle.job_round.proofs.Bodies.{brought_of}
use Rattle.round_laws.specs.OnAreas.{OnSoundArea}
use Rattle.round_laws.proofs.Ids.{are_due}
use Rattle.round_laws.proofs.Ways.{are_calls, pass_sound, starts, task_cursor}
use Rattle.round_laws.proofs.Within.{contains_left, contains_right, whole_passes}

apart_first : (xs ys : List ℕ) → get_or xs 0 0 ≢ get_or ys 0 0 → xs ≢ ys
apart_first xs ys other e = other (ap (λ (l : List ℕ). get_or l 0 0) e)

leaf_name-not_staged : (n p number place : ℕ) (nuspec : Bool) → leaf_name n p ≢ staged_name number place nuspec
leaf_name-not_staged n p number place true is = apart_first (leaf_name n p) (staged_name number place true) (omega arith) is
leaf_name-not_staged n p number place false is = apart_first (leaf_name n p) (staged_name number place false) (omega arith) is

-- the leaf of a row that stands among these
row_held : (m : Area) (base : List ℕ) (rows : List Row) (items : List Item) (number place : ℕ) (row : Row) → HoldsLeaves m base rows items → AreItemValues items
    → row_with number place rows ≡ Some row → (it : Item) × IsItemValue it × HoldsLeaf m base row it
row_held m base [] items number place row held values is = absurd (let no : ⊥ = cc in no)
row_held m base (x ∷ rows) [] number place row held values is = absurd held
row_held m base (x ∷ rows) (it ∷ items) number place row held values is =
    elim (is_at number place x) as
    (λ (b : Bool). cond b (Some x) (row_with number place rows) ≡ Some row → (jt : Item) × IsItemValue jt × HoldsLeaf m base row jt) [
      | true ↦ λ here. let same : x ≡ row = cc in (it, values.0, subst (λ (r : Row). HoldsLeaf m base r it) same held.0)
      | false ↦ λ there. row_held m base rows items number place row held.1 values.1 there
    ] is

-- calls that are found
module _ (m : Area) where
  -- a call that gets no publish's file that isn't held
  abbrev IsFound : Act → Type 0
  IsFound (Get name) = IsNoStaged m name → ⊥
  IsFound (Change call) = ⊤

  abbrev pub AllFound : List Act → Type 0
  AllFound acts = AllByRecursion IsFound acts

  -- the get of such a file stands in no such plan
  pub never_got : (first unmade : List Act) (name : List ℕ) → AllFound (first ++ Get name ∷ unmade) → IsNoStaged m name → ⊥
  never_got [] unmade name found lost = found.0 lost
  never_got (act ∷ first) unmade name found lost = never_got first unmade name found.1 lost

-- an area that spells a catalog
module _ (m : Area) (base : List ℕ) (cs : Catalog) (catalog : IsCatalog cs) (spells : SpellsCatalog m base cs) where
  -- it holds the leaf of each row
  pub no_leaf_lost : (rows : List Row) (name : List ℕ) → all_rows cs ≡ rows → IsNoLeafAmong m base rows name → ⊥
  no_leaf_lost rows name are (number, place, named, (row, at, none)) =
      let held = row_held m base (all_rows cs) (all_items cs) number place row (all_held m base cs spells.commits) (all_values cs catalog)
      (ap (row_with number place) are ∙ at) in
      none held.0 held.1 held.2

  -- and what each publish brought
  file_held : (number place : ℕ) (nuspec : Bool) → IsSome (body_bytes cs (FromPublish number place nuspec)) → get m (staged_name number place nuspec) ≡ None → ⊥
  file_held number place true some none =
      let b = brought_of cs number place true catalog.lawful.commits some in
      let held : get m (nuspec_name number place) ≡ Some b.brought.nuspec =
      subst (λ (n : ℕ). get m (nuspec_name n place) ≡ Some b.brought.nuspec) b.number_is
      ((spells.commits b.commit b.within).nuspecs place b.brought b.stands) in
      let no : ⊥ = cc in no
  file_held number place false some none =
      let b = brought_of cs number place false catalog.lawful.commits some in
      let held : get m (nupkg_name number place) ≡ Some b.brought.nupkg =
      subst (λ (n : ℕ). get m (nupkg_name n place) ≡ Some b.brought.nupkg) b.number_is ((spells.commits b.commit b.within).nupkgs place b.brought b.stands) in
      let no : ⊥ = cc in no

  both_found : (xs ys : List Act) → AllFound m xs → AllFound m ys → AllFound m (xs ++ ys)
  both_found [] ys one two = two
  both_found (x ∷ xs) ys one two = (one.0, both_found xs ys one.1 two)

  leaf_found : (row : Row) → AllFound m (leaf_of row)
  leaf_found row =
      elim row.gone as (λ (b : Bool). AllFound m (cond b [] (leaf_get row ∷ []))) [
        | true ↦ tt
        | false ↦ ((λ (lost : IsNoStaged m (leaf_name row.number row.place)). leaf_name-not_staged row.number row.place lost.0 lost.1 lost.2 lost.3), tt)
      ]

  leaves_found : (rows : List Row) → AllFound m (flat_map leaf_of rows)
  leaves_found [] = tt
  leaves_found (row ∷ rows) = both_found (leaf_of row) (flat_map leaf_of rows) (leaf_found row) (leaves_found rows)

  behind_found : (at : ℕ) (rows : List Row) → AllFound m (leaves_behind at rows)
  behind_found at rows = leaves_found (filter (λ (row : Row). nat_lt at row.number) rows)

  bodies_found : (calls : List Call) → HaveCallBytes cs calls → AllFound m (bodies_of calls)
  bodies_found [] have = tt
  bodies_found (Put name (Made bytes) ∷ calls) have = bodies_found calls have.1
  bodies_found (Put name (FromPublish number place nuspec) ∷ calls) have =
      ((λ (lost : IsNoStaged m (staged_name number place nuspec)). file_held number place nuspec have.0 lost.4), bodies_found calls have.1)
  bodies_found (Remove name ∷ calls) have = bodies_found calls have.1

  module _ (keeps : Keeps) (makes : MakesDocs) (own : List ℕ) (staged : (base key : List ℕ) (number stamp : ℕ) (es : List Entry)
      → AreOfEntries es (makes base key number stamp es))
      (laws : FoldLaws (fold_of keeps makes own) cs) (Q : Catalog → Type 0) (meant : Q cs) (c : ℕ) (rows : List Row) where
    abbrev f : Fold
    f = fold_of keeps makes own

    module _ (target : ℕ) (ends : target ≡ length cs) where
      pass_found : (p : Pass) (hive : Area) → SoundArea f cs c hive → c < touched_by cs p.key (length cs) → TakesUp f Q c target (Some hive) p
          → AllFound m (pass_reads c rows p)
      pass_found p hive sound item takes =
          both_found (leaf_reads c rows p) (bodies_of p.calls) (behind_found (at_in p.stored) (own_rows c rows p.key))
          (bodies_found p.calls (calls_have_bytes keeps makes own staged cs c p.key p.stored hive laws
          (starts keeps makes own staged cs catalog laws Q meant c target ends p hive sound item takes) p.calls
          (are_calls keeps makes own staged cs catalog laws Q meant c target ends p hive sound item takes)))

      passes_found : (passes : List Pass) (hive : Area) → SoundArea f cs c hive → HaveItems cs c (length cs) (keys_in passes)
          → AreWholePasses f Q c target (Some hive) passes → AllFound m (passes_reads c rows passes)
      passes_found [] hive sound items all = tt
      passes_found (p ∷ passes) hive sound items all =
          let item : c < touched_by cs p.key (length cs) = items p.key (first p.key (keys_in passes)) in
          both_found (pass_reads c rows p) (passes_reads c rows passes) (pass_found p hive sound item all.0.takes)
          (passes_found passes (after_plan (pass_plan p) hive)
          (pass_sound keeps makes own staged cs catalog laws Q meant c target ends p hive sound item all.0)
          (λ j is. items j (later p.key j (keys_in passes) is)) all.1)

      next_found : (rest : List (List ℕ)) (hive : Area) (reads : List Act) → SoundArea f cs c hive → HaveItems cs c (length cs) rest
          → IsNextToRead f Q c target rows rest (Some hive) reads → AllFound m reads
      next_found [] hive reads sound items none = subst (AllFound m) (sym none) tt
      next_found (key ∷ rest) hive reads sound items (inl none) = subst (AllFound m) (sym none) tt
      next_found (key ∷ rest) hive reads sound items (inr (p, same, inl (stored, are))) =
          subst (AllFound m) (sym are) (behind_found (at_in p.stored) (own_rows c rows p.key))
      next_found (key ∷ rest) hive reads sound items (inr (p, same, inr (takes, are))) =
          let item : c < touched_by cs p.key (length cs) = subst (λ (k : List ℕ). c < touched_by cs k (length cs)) (sym same) (items key (first key rest)) in
          subst (AllFound m) (sym are) (pass_found p hive sound item takes)

    -- All that a round was to get is found, as far as its plan went.
    module _ (hive : Area) (old : Seen) (on : OnSoundArea f Q cs c hive old) where
      pub read_found : (Halts : List Act → Type 0) → SomeRead f Q rows old.held Halts → (plan : List Act) × AllFound m plan × Halts plan
      read_found Halts (inl none) = ([], tt, none)
      read_found Halts (inr (n, target, stamp, keys, task, are, (passes, rest, reads, joined, all, next, halts))) =
          let told : IsTask Q (Some hive) n target stamp keys = subst (λ (h : Option Area). IsTask Q h n target stamp keys) on.held task in
          let e : n ≡ c = task_cursor keeps makes own staged cs catalog laws Q meant c hive on.sound n target stamp keys told in
          let ends : target ≡ length cs = told.ends cs meant in
          let every : AreWholePasses f Q c target (Some hive) passes =
          subst (λ (k : ℕ). AreWholePasses f Q k target (Some hive) passes) e (subst (λ (h : Option Area). AreWholePasses f Q n target h passes) on.held all) in
          let more : IsNextToRead f Q c target rows rest (Some (after_plan (passes_plan passes) hive)) reads =
          subst (λ (k : ℕ). IsNextToRead f Q k target rows rest (Some (after_plan (passes_plan passes) hive)) reads) e
          (subst (λ (h : Option Area). IsNextToRead f Q n target rows rest (held_after (passes_plan passes) h) reads) on.held next) in
          let ids : keys_in passes ++ rest ≡ keys_after c cs =
          sym joined ∙ task.ids cs meant ∙ ap (λ (k : ℕ). keys_after k cs) e in
          let items : HaveItems cs c (length cs) (keys_in passes ++ rest) =
          subst (λ (l : List (List ℕ)). HaveItems cs c (length cs) l) (sym ids) (are_due cs c catalog.lawful).some in
          let sound : SoundArea f cs c (after_plan (passes_plan passes) hive) = whole_passes keeps makes own staged cs catalog laws Q meant c target ends passes
          hive on.sound (λ j is. items j (contains_left j (keys_in passes) rest is)) every in (
            passes_reads n rows passes ++ reads,
            both_found (passes_reads n rows passes) reads
                (subst (λ (k : ℕ). AllFound m (passes_reads k rows passes)) (sym e)
                (passes_found target ends passes hive on.sound (λ j is. items j (contains_left j (keys_in passes) rest is)) every))
                (next_found target ends rest (after_plan (passes_plan passes) hive) reads sound
                (λ j is. items j (contains_right j (keys_in passes) rest is)) more),
            halts,
          )
