-- The plan of a pass over one id, and its steps.
use Rattle.std.specs.Prelude.{◌≡◌, ◌≢◌, ◌⊎◌, ◌<◌, ◌≤◌, ℕ, List, [], ◌∷◌, ◌++◌, length, map, Bool, true, false, Contains, Option, Some, None, IsSome}
use Rattle.pkg_meta.specs.Catalog.{Catalog}
use Rattle.pkg_meta.specs.declared.state.StateDoc.{StateDoc}
use Rattle.fold_core.specs.Docs.{id_index_name}
use Rattle.fold_core.specs.Events.{IsDirtyPut, names_in}
use Rattle.fold_core.specs.Folds.{Fold, Look, NamesAt, made_at, touched_by}
use Rattle.fold_core.specs.Sound.{IsScratch, IsSoundId}
use Rattle.hive_laws.specs.Steps.{KeptOfId, Step, PutState, PutDoc, RemoveDoc}

-- a document with its bytes
pub record NamedBytes : Type 0 where
  pub name : List ℕ
  pub bytes : List ℕ

-- A pass: the dirty state, the documents put before the index, the index's bytes where it is put, whether the old index is removed, the
-- other names that are removed, and the clean state.
pub record PassPlan : Type 0 where
  pub dirty : StateDoc
  pub written : List NamedBytes
  pub index : Option (List ℕ)
  pub drops_index : Bool
  pub removed : List (List ℕ)
  pub clean : StateDoc

-- the puts of these documents
abbrev pub puts_of_docs : List NamedBytes → List Step
puts_of_docs docs = map (λ (d : NamedBytes). PutDoc d.name d.bytes) docs

-- the put of the index, or none
abbrev pub puts_of_index : List ℕ → Option (List ℕ) → List Step
puts_of_index key None = []
puts_of_index key (Some bytes) = PutDoc (id_index_name key) bytes ∷ []

-- the removal of the index, or none
abbrev pub removals_of_index : List ℕ → Bool → List Step
removals_of_index key false = []
removals_of_index key true = RemoveDoc (id_index_name key) ∷ []

-- the steps of a pass: dirty state, documents, index, removal of the index, other removals, clean state
abbrev pub pass_steps : List ℕ → PassPlan → List Step
pass_steps key plan =
    PutState plan.dirty ∷ (puts_of_docs plan.written ++ (puts_of_index key plan.index
    ++ (removals_of_index key plan.drops_index ++ (map RemoveDoc plan.removed ++ PutState plan.clean ∷ []))))

-- the names of these documents
abbrev pub names_of_docs : List NamedBytes → List (List ℕ)
names_of_docs docs = map (λ (d : NamedBytes). d.name) docs

-- A plan leads the id from its stored state and the documents held to commit k. What k makes is written or held as it should be, and
-- nothing else is written; what the stored state names and k doesn't make is removed, and nothing else.
pub record IsPassPlan (f : Fold) (cs : Catalog) (key : List ℕ) (k : ℕ) (stored : Option StateDoc) (held : Look (List ℕ)) (plan : PassPlan) : Type 0 where
  pub dirty : IsDirtyPut f cs key stored plan.dirty
  pub dirty_at : plan.dirty.at ≡ k
  pub clean_at : plan.clean.at ≡ k
  pub clean : plan.clean.dirty ≡ false
  pub scratch : IsScratch f cs key plan.clean
  pub names : NamesAt f cs key k plan.clean.names
  pub written : (d : NamedBytes) → Contains plan.written d → (d.name ≢ id_index_name key) × (made_at f cs key k d.name ≡ Some d.bytes)
  pub left : (name : List ℕ) → name ≢ id_index_name key → IsSome (made_at f cs key k name)
      → Contains (names_of_docs plan.written) name ⊎ (held name ≡ made_at f cs key k name)
  pub index : (bytes : List ℕ) → plan.index ≡ Some bytes → made_at f cs key k (id_index_name key) ≡ Some bytes
  pub index_left : IsSome (made_at f cs key k (id_index_name key)) → IsSome plan.index ⊎ (held (id_index_name key) ≡ made_at f cs key k (id_index_name key))
  pub dropped : plan.drops_index ≡ true → Contains (names_in stored) (id_index_name key) × (made_at f cs key k (id_index_name key) ≡ None)
  pub drops : Contains (names_in stored) (id_index_name key) → made_at f cs key k (id_index_name key) ≡ None → plan.drops_index ≡ true
  pub removed : (name : List ℕ) → Contains plan.removed name
      → (name ≢ id_index_name key) × Contains (names_in stored) name × (made_at f cs key k name ≡ None)
  pub removes : (name : List ℕ) → name ≢ id_index_name key → Contains (names_in stored) name → made_at f cs key k name ≡ None
      → Contains plan.removed name

-- an id is sound, it has an item behind the cursor and up to commit k, and this is a plan that leads it there
pub record StartsPass (f : Fold) (cs : Catalog) (c k : ℕ) (key : List ℕ) (kept : KeptOfId) (plan : PassPlan) : Type 0 where
  pub sound : IsSoundId f cs c key kept.stored kept.held
  pub item : c < touched_by cs key k
  pub reached : k ≤ length cs
  pub leads : IsPassPlan f cs key k kept.stored kept.held plan
