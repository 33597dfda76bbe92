-- A state's text tells the state.
use Rattle.std.proofs.Common.{◌≡◌, List, [], ◌∷◌, Option, None, Some, codes, map, refl, sym, ◌∙◌, ap}
use Rattle.std.specs.List.{filter_map}
use Rattle.std.proofs.lemmas.Option.{same_Some}
use Rattle.serde_json.specs.Data.{Data, string}
use Rattle.serde_json.specs.Find.{as_str, get}
use Rattle.json_law.proofs.Back.{compact_text-injective}
use Rattle.ticks.specs.Stamp.{stamp_text}
use Rattle.pkg_meta.specs.Trees.{details_tree}
use Rattle.pkg_meta.specs.Values.{flag_at, text_at}
use Rattle.pkg_meta.specs.declared.entry.Entry.{Entry}
use Rattle.pkg_meta.specs.declared.state.StateDoc.{StateDoc}
use Rattle.catalog_doc.proofs.RowData.{same_stamp}
use Rattle.catalog_reading.specs.Shown.{number_under}
use Rattle.catalog_reading.proofs.Shows.{strings_back, tree_shows}
use Rattle.area_laws.proofs.Leaves.{details_same}
use Rattle.hive_state.specs.Laws.{StatesDiffer}
use Rattle.hive_state.specs.Reading.{AreEntryValues, IsEntryValue, IsStateValue}
use Rattle.hive_state.specs.State.{entry_data, state_data, state_text}
use Rattle.hive_state.proofs.Shown.{entries_at, names_at}
use Rattle.hive_state.proofs.Parts.{fields_of, same_fields, same_state}
use Rattle.hive_state.proofs.Trees.{readable}

tree_at : Data → Data
tree_at x = first_or (get (codes "details") x)
  where
    first_or : Option Data → Data
    first_or None = string []
    first_or (Some d) = d

same_entry : (e f : Entry) → IsEntryValue e → IsEntryValue f → entry_data e ≡ entry_data f → e ≡ f
unfolding tree_at
same_entry e f v w same =
    let number : e.number ≡ f.number = same_Some e.number f.number (ap (number_under (codes "number")) same) in
    let place : e.place ≡ f.place = same_Some e.place f.place (ap (number_under (codes "place")) same) in
    let tree : details_tree e.details ≡ details_tree f.details = ap tree_at same in
    let details : e.details ≡ f.details =
    details_same e.details f.details (details_tree f.details) v.details w.details (tree_shows e.details (details_tree f.details) (sym tree)) (tree_shows f.details (details_tree f.details) refl) in
    λ i. record { number = number i; place = place i; details = details i }

first_data : (x y : Data) (xs ys : List Data) → x ∷ xs ≡ y ∷ ys → (x ≡ y) × (xs ≡ ys)
first_data x y xs ys e = (cc, cc)

same_entries : (es fs : List Entry) → AreEntryValues es → AreEntryValues fs → map entry_data es ≡ map entry_data fs → es ≡ fs
same_entries [] [] v w same = refl
same_entries [] (f ∷ fs) v w same = cc
same_entries (e ∷ es) [] v w same = cc
same_entries (e ∷ es) (f ∷ fs) v w same =
    let parts = first_data (entry_data e) (entry_data f) (map entry_data es) (map entry_data fs) same in
    let own = same_entry e f v.0 w.0 parts.0 in
    let rest = same_entries es fs v.1 w.1 parts.1 in
    λ i. own i ∷ rest i

same_data : (s t : StateDoc) → IsStateValue s → IsStateValue t → state_data s ≡ state_data t → s ≡ t
same_data s t v w same =
    let at : s.at ≡ t.at = same_Some s.at t.at (ap (number_under (codes "at")) same) in
    let touched : s.touched ≡ t.touched = same_Some s.touched t.touched (ap (number_under (codes "touched")) same) in
    let stamp : s.touched_stamp ≡ t.touched_stamp =
    same_stamp s.touched_stamp t.touched_stamp v.touched_stamp w.touched_stamp
    (same_Some (stamp_text s.touched_stamp) (stamp_text t.touched_stamp) (ap (text_at (codes "touchedTimeStamp")) same)) in
    let dirty : s.dirty ≡ t.dirty = same_Some s.dirty t.dirty (ap (flag_at (codes "dirty")) same) in
    let names : s.names ≡ t.names =
    sym (strings_back s.names) ∙ ap (filter_map as_str) (sym (names_at s (state_data t) (sym same)) ∙ names_at t (state_data t) refl) ∙ strings_back t.names in
    let entries : s.entries ≡ t.entries =
    same_entries s.entries t.entries v.entries w.entries (sym (entries_at s (state_data t) (sym same)) ∙ entries_at t (state_data t) refl) in
    same_state s t (same_fields (fields_of s) (fields_of t) at touched stamp dirty names entries)

pub states_differ : StatesDiffer
unfolding state_text
states_differ s other is others e =
    same_data s other is others
    (compact_text-injective (state_data s) (state_data other)
    (readable s is).fits (readable s is).shallow (readable other others).fits (readable other others).shallow e)
