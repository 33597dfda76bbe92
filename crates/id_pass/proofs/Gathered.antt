-- The calls of a pass, from what the code made.
use Rattle.std.proofs.Common.{◌≡◌, ℕ, List, [], ◌∷◌, ◌++◌, Option, sym, ap, subst, ◌∙◌, ◌⊎◌}
use Rattle.std.specs.Prelude.{◌↔◌}
use Rattle.std.specs.FinMap.{keys}
use Rattle.std.specs.List.{Contains}
use Rattle.pkg_meta.specs.Lawful.{Placed}
use Rattle.pkg_meta.specs.declared.state.StateDoc.{StateDoc}
use Rattle.fold_core.specs.Docs.{MakesDocs, id_index_name}
use Rattle.fold_core.specs.Entries.{Keeps}
use Rattle.fold_core.specs.Events.{names_in}
use Rattle.fold_core.specs.Items.{last_placed}
use Rattle.fold_core.specs.Places.{all_applied}
use Rattle.id_pass.specs.Named.{NamedBodies, by_name}
use Rattle.id_pass.specs.Passes.{ArePassCalls, doc_puts, docs_by, docs_given, entries_in, number_after, removals, stamp_after, state_put}
use Rattle.id_pass.specs.Told.{AreStatesOf, IsStateOf}
use Rattle.id_pass.specs.declared.call.Call.{Call}
use Rattle.id_pass.specs.declared.taking.Taken.{Taken}

-- the same names from the same lists
pub same_names : (name : List ℕ) (ns : List (List ℕ)) {xs ys us vs : List (List ℕ)} → xs ≡ us → ys ≡ vs
    → Contains ns name ↔ (Contains xs name ⊎ Contains ys name) → Contains ns name ↔ (Contains us name ⊎ Contains vs name)
same_names name ns {xs} {ys} {us} {vs} p q are =
    subst (λ (l : List (List ℕ)). Contains ns name ↔ (Contains l name ⊎ Contains vs name)) p
    (subst (λ (l : List (List ℕ)). Contains ns name ↔ (Contains xs name ⊎ Contains l name)) q are)

module _ (keeps : Keeps) (makes : MakesDocs) (base key : List ℕ) (old : Option StateDoc) (items : List Placed) (target : ℕ) (taken : Taken)
    (touched : taken.touched ≡ number_after old (last_placed items)) (stamp : taken.touched_stamp ≡ stamp_after old (last_placed items))
    (entries : taken.entries ≡ all_applied keeps (entries_in old) items) where
  -- the documents of a state are those of what was taken in
  same_docs : (s : StateDoc) → IsStateOf taken target s → by_name (makes base key taken.touched taken.touched_stamp taken.entries) ≡ docs_by makes base key s
  same_docs s of = λ i. by_name (makes base key (sym of.touched i) (sym of.stamp i) (sym of.entries i))

  pub gathered : (dirty clean : StateDoc) (names : List (List ℕ)) (given docs : NamedBodies) (calls : List Call)
      → AreStatesOf taken target names (keys docs) dirty clean → names ≡ names_in old → given ≡ docs_given makes base key old
      → docs ≡ by_name (makes base key taken.touched taken.touched_stamp taken.entries)
      → calls ≡ state_put key dirty ∷ (doc_puts (id_index_name key) given docs ++ (removals (id_index_name key) docs names ++ state_put key clean ∷ []))
      → ArePassCalls keeps makes base key old items target calls
  gathered dirty clean names given docs calls states named held made is =
      let all : docs ≡ docs_by makes base key clean = made ∙ same_docs clean states.clean_of in (
        dirty,
        clean,
        record {
          dirty_taken = record {
            at = states.dirty_of.at;
            touched = states.dirty_of.touched ∙ touched;
            stamp = states.dirty_of.stamp ∙ stamp;
            entries = states.dirty_of.entries ∙ entries;
          };
          marked = states.marked;
          all_names = λ name. same_names name dirty.names named (ap keys all) (states.all_names name);
          clean_taken = record {
            at = states.clean_of.at;
            touched = states.clean_of.touched ∙ touched;
            stamp = states.clean_of.stamp ∙ stamp;
            entries = states.clean_of.entries ∙ entries;
          };
          unmarked = states.unmarked;
          new_names = states.new_names ∙ ap keys all;
          texts = states.texts;
        },
        is ∙ (λ i. state_put key dirty ∷ (doc_puts (id_index_name key) (held i) (all i) ++ (removals (id_index_name key) (all i) (named i) ++ state_put key clean ∷ []))),
      )
