-- Where a pass begins, and which calls it has.
use Rattle.std.specs.Prelude.{◌≡◌, ◌<◌, ℕ, List, [], length, filter, nat_lt, Bool, true, false, Option, Some, None}
use Rattle.std.specs.FinMap.{get}
use Rattle.blob_store.specs.Area.{Area}
use Rattle.pkg_meta.specs.Catalog.{Catalog}
use Rattle.pkg_meta.specs.Lawful.{Placed, all_placed}
use Rattle.pkg_meta.specs.declared.state.StateDoc.{StateDoc}
use Rattle.catalog_doc.specs.Catalogs.{IsCatalog}
use Rattle.fold_core.specs.Folds.{Fold, touched_by}
use Rattle.fold_core.specs.Items.{is_of}
use Rattle.fold_core.specs.Sound.{IsSoundId}
use Rattle.hive_laws.specs.Rounds.{IsStored}
use Rattle.id_pass.specs.Passes.{ArePassCalls, is_idle}
use Rattle.id_pass.specs.declared.call.Call.{Call}

-- the last commit that a state has taken up, 0 where there is none
abbrev pub state_at : Option StateDoc → ℕ
state_at None = 0
state_at (Some s) = s.at

-- whether an item stands behind a commit
abbrev pub is_behind_state : ℕ → Placed → Bool
is_behind_state n x = nat_lt n x.number

-- an id's items behind commit c, and behind commit `at` too
abbrev pub items_behind_state : (c at : ℕ) → Catalog → List ℕ → List Placed
items_behind_state c at cs key = filter (is_behind_state at) (filter (λ (x : Placed). is_of key x.what) (filter (is_behind_state c) (all_placed cs)))

-- the id is sound at commit c and has an item behind it, and the area holds this state of it, or none
pub record StartsPassOf (f : Fold) (cs : Catalog) (c : ℕ) (key : List ℕ) (old : Option StateDoc) (m : Area) : Type 0 where
  pub catalog : IsCatalog cs
  pub sound : IsSoundId f cs c key old (get m)
  pub item : c < touched_by cs key (length cs)
  pub stored : IsStored key m old

-- the calls over the id's items behind commit c and the state, up to the catalog's end: none where there is nothing to do
pub record AreCallsOf (f : Fold) (cs : Catalog) (c : ℕ) (key : List ℕ) (old : Option StateDoc) (calls : List Call) : Type 0 where
  pub idle : is_idle old (items_behind_state c (state_at old) cs key) ≡ true → calls ≡ []
  pub planned : is_idle old (items_behind_state c (state_at old) cs key) ≡ false
      → ArePassCalls f.keeps f.makes f.base key old (items_behind_state c (state_at old) cs key) (length cs) calls
