-- The calls of a pass over one id: which they are, and in which order.
use Rattle.std.specs.Prelude.{◌≡◌, ◌⊎◌, ◌↔◌, ℕ, List, [], ◌∷◌, ◌++◌, map, Bool, true, false, not, ◌&&◌}
use Rattle.std.specs.Prelude.{All, Contains, IsUtf8, Option, Some, None, if◌then◌else◌}
use Rattle.std.specs.FinMap.{contains_key, empty, entries, get, keys, remove}
use Rattle.std.specs.List.{filter, list_any}
use Rattle.std.specs.Str.{bytes_eq}
use Rattle.pkg_meta.specs.Lawful.{Placed}
use Rattle.pkg_meta.specs.declared.entry.Entry.{Entry}
use Rattle.pkg_meta.specs.declared.state.StateDoc.{StateDoc}
use Rattle.fold_core.specs.Docs.{MakesDocs, id_index_name}
use Rattle.fold_core.specs.Entries.{Keeps}
use Rattle.fold_core.specs.Events.{names_in}
use Rattle.fold_core.specs.Items.{last_placed}
use Rattle.fold_core.specs.Places.{all_applied}
use Rattle.fold_core.specs.declared.doc.Body.{Body}
use Rattle.fold_core.specs.declared.doc.Body.TheVariants.{Made}
use Rattle.hive_state.specs.State.{state_name, state_text}
use Rattle.id_pass.specs.Named.{NamedBodies, by_name, has_document}
use Rattle.id_pass.specs.declared.call.Call.{Call}
use Rattle.id_pass.specs.declared.call.Call.TheVariants.{Put, Remove}

-- the entries of a stored state, none where there is none
abbrev pub entries_in : Option StateDoc → List Entry
entries_in None = []
entries_in (Some s) = s.entries

-- the last commit that has an item of the id: that of the last of these items, or else the one that the stored state tells
abbrev pub number_after : Option StateDoc → Option Placed → ℕ
number_after old (Some x) = x.number
number_after None None = 0
number_after (Some s) None = s.touched

-- its stamp
abbrev pub stamp_after : Option StateDoc → Option Placed → ℕ
stamp_after old (Some x) = x.stamp
stamp_after None None = 0
stamp_after (Some s) None = s.touched_stamp

-- whether there is nothing to do: no item, and no state or one that isn't dirty
abbrev pub is_idle : Option StateDoc → List Placed → Bool
is_idle old (x ∷ items) = false
is_idle None [] = true
is_idle (Some s) [] = not s.dirty

-- a state that has taken these items in, up to the target
pub record IsTakenIn (keeps : Keeps) (old : Option StateDoc) (items : List Placed) (target : ℕ) (s : StateDoc) : Type 0 where
  pub at : s.at ≡ target
  pub touched : s.touched ≡ number_after old (last_placed items)
  pub stamp : s.touched_stamp ≡ stamp_after old (last_placed items)
  pub entries : s.entries ≡ all_applied keeps (entries_in old) items

module _ (makes : MakesDocs) (base key : List ℕ) where
  -- the documents that a hive makes of a state
  abbrev pub docs_by : StateDoc → NamedBodies
  docs_by s = by_name (makes base key s.touched s.touched_stamp s.entries)

  -- those that are held for sure where this state is stored: none where it is dirty
  abbrev pub docs_unless_dirty : StateDoc → NamedBodies
  docs_unless_dirty s = if s.dirty then empty else docs_by s

  -- those that are held for sure
  abbrev pub docs_given : Option StateDoc → NamedBodies
  docs_given None = empty
  docs_given (Some s) = docs_unless_dirty s

-- whether a document isn't among those that are given
abbrev pub is_missing : NamedBodies → List ℕ × Body → Bool
is_missing given d = not (has_document given d.0 d.1)

-- the put of a document
abbrev pub doc_put : List ℕ × Body → Call
doc_put d = Put d.0 d.1

module _ (index : List ℕ) (given docs : NamedBodies) where
  -- the documents that are put before the index, in order of name: those that aren't given
  abbrev pub written : List (List ℕ × Body)
  written = filter (is_missing given) (entries (remove docs index))

  -- the put of the index where there is one, unless it is given
  abbrev pub index_put : Option Body → List Call
  index_put None = []
  index_put (Some body) = map doc_put (filter (is_missing given) ((index, body) ∷ []))

  -- the puts of the documents, the index last
  abbrev pub doc_puts : List Call
  doc_puts = map doc_put written ++ index_put (get docs index)

module _ (index : List ℕ) (docs : NamedBodies) where
  -- whether the index was held with these names, and isn't one of the documents
  abbrev pub drops_index : List (List ℕ) → Bool
  drops_index names = list_any (bytes_eq index) names && not (contains_key docs index)

  -- whether a name is another one that isn't a document's
  abbrev pub is_left_over : List ℕ → Bool
  is_left_over name = not (bytes_eq name index) && not (contains_key docs name)

  -- the removal of the index, or none
  abbrev pub index_removal : List (List ℕ) → List Call
  index_removal names = if drops_index names then Remove index ∷ [] else []

  -- the removals of what was held with these names, that of the index first
  abbrev pub removals : List (List ℕ) → List Call
  removals names = index_removal names ++ map Remove (filter is_left_over names)

-- the put of a state
abbrev pub state_put : List ℕ → StateDoc → Call
state_put key s = Put (state_name key) (Made (state_text s))

module _ (keeps : Keeps) (makes : MakesDocs) (base key : List ℕ) (old : Option StateDoc) (items : List Placed) (target : ℕ) where
  -- The two states of a pass: the dirty one with the old names and the new ones, the clean one with the new names, which are texts. A
  -- state's names are in byte order, without repeats.
  pub record HasStates (dirty clean : StateDoc) : Type 0 where
    pub dirty_taken : IsTakenIn keeps old items target dirty
    pub marked : dirty.dirty ≡ true
    pub all_names : (name : List ℕ) → Contains dirty.names name
        ↔ (Contains (names_in old) name ⊎ Contains (keys (docs_by makes base key clean)) name)
    pub clean_taken : IsTakenIn keeps old items target clean
    pub unmarked : clean.dirty ≡ false
    pub new_names : clean.names ≡ keys (docs_by makes base key clean)
    pub texts : All IsUtf8 clean.names

-- the calls of a pass with these states: the dirty state, the new documents, the removals, the clean state
abbrev pub pass_calls : MakesDocs → (base key : List ℕ) → Option StateDoc → (dirty clean : StateDoc) → List Call
pass_calls makes base key old dirty clean =
    state_put key dirty ∷ (doc_puts (id_index_name key) (docs_given makes base key old) (docs_by makes base key clean)
    ++ (removals (id_index_name key) (docs_by makes base key clean) (names_in old) ++ state_put key clean ∷ []))

-- calls that are those of a pass from this state, over these items, to the target
abbrev pub ArePassCalls : Keeps → MakesDocs → (base key : List ℕ) → Option StateDoc → List Placed → ℕ → List Call → Type 0
ArePassCalls keeps makes base key old items target calls =
    (dirty : StateDoc) × (clean : StateDoc) × HasStates keeps makes base key old items target dirty clean
    × (calls ≡ pass_calls makes base key old dirty clean)
