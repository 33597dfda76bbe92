-- Steps on one id of a hive: what each changes, and when it is allowed.
use Rattle.std.specs.Prelude.{◌≡◌, ◌⊎◌, ℕ, List, [], ◌∷◌, Option, Some, None, if◌then◌else◌, ⊤}
use Rattle.std.specs.Str.{bytes_eq}
use Rattle.pkg_meta.specs.Catalog.{Catalog}
use Rattle.pkg_meta.specs.declared.state.StateDoc.{StateDoc}
use Rattle.fold_core.specs.Events.{IsCleanPut, IsDirtyPut, IsDocDelete, IsDocPut}
use Rattle.fold_core.specs.Folds.{Fold, Look}

-- a put of the id's state, a put of a document with its name and bytes, or the removal of the document with this name
pub data Step : Type 0 where
  PutState : StateDoc → Step
  PutDoc : List ℕ → List ℕ → Step
  RemoveDoc : List ℕ → Step

-- the id's stored state, and the documents that are held
pub record KeptOfId : Type 0 where
  pub stored : Option StateDoc
  pub held : Look (List ℕ)

-- the look-up with this, or with nothing, under the name
abbrev pub with_found : {X : Type 0} → List ℕ → Option X → Look X → Look X
with_found name found look = λ (q : List ℕ). if bytes_eq q name then found else look q

-- what is kept after a step
abbrev pub after_step : Step → KeptOfId → KeptOfId
after_step (PutState s) kept = record { stored = Some s; held = kept.held }
after_step (PutDoc name bytes) kept = record { stored = kept.stored; held = with_found name (Some bytes) kept.held }
after_step (RemoveDoc name) kept = record { stored = kept.stored; held = with_found name None kept.held }

-- what is kept after these steps
abbrev pub after_steps : List Step → KeptOfId → KeptOfId
after_steps [] kept = kept
after_steps (step ∷ steps) kept = after_steps steps (after_step step kept)

-- A step is allowed on the way to commit k: a put of a dirty or of a clean state that stands at k, or a put or a removal of a document
-- beside a stored state that stands at k.
abbrev pub IsAllowed : Fold → Catalog → List ℕ → ℕ → Step → KeptOfId → Type 0
IsAllowed f cs key k (PutState s) kept = (s.at ≡ k) × (IsDirtyPut f cs key kept.stored s ⊎ IsCleanPut f cs key kept.held s)
IsAllowed f cs key k (PutDoc name bytes) kept = (s : StateDoc) × (s.at ≡ k) × (kept.stored ≡ Some s) × IsDocPut f cs key s name bytes kept.held
IsAllowed f cs key k (RemoveDoc name) kept = (s : StateDoc) × (s.at ≡ k) × (kept.stored ≡ Some s) × IsDocDelete f cs key s name kept.held

-- each of the steps is allowed where it is made
abbrev pub AreAllowed : Fold → Catalog → List ℕ → ℕ → List Step → KeptOfId → Type 0
AreAllowed f cs key k [] kept = ⊤
AreAllowed f cs key k (step ∷ steps) kept = IsAllowed f cs key k step kept × AreAllowed f cs key k steps (after_step step kept)
