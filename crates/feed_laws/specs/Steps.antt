-- What may happen when, and what it does: the rules of a feed.
use Rattle.std.specs.Prelude.{◌≡◌, ◌⊎◌, ◌<◌, ◌≤◌, ℕ, zero, suc, List, [], ◌∷◌, ◌++◌, length, map, true, false, if◌then◌else◌, Option, None, Some, option_map, ⊤}
use Rattle.std.specs.Option.{option_map_or}
use Rattle.std.specs.Str.{bytes_eq}
use Rattle.blob_store.specs.Area.{with_blob}
use Rattle.blob_store.specs.Events.{Fate, Done}
use Rattle.pkg_meta.specs.Catalog.{Catalog}
use Rattle.pkg_meta.specs.declared.state.StateDoc.{StateDoc}
use Rattle.catalog_doc.specs.Events.{IsIndexPut, IsObjectPut, IsPagePut}
use Rattle.fold_core.specs.Events.{IsCleanPut, IsDirtyPut, IsDocDelete, IsDocPut}
use Rattle.fold_core.specs.Folds.{Clean, Fold, Look}
use Rattle.fold_core.specs.Sound.{IsAtMost}
use Rattle.feed_laws.specs.Happenings.{PutObject, PutPage, PutIndex, OnHive, Begin, Claim, Finish, Rest, Wake, PutState, PutDoc, DeleteDoc, PutCursor, Happening, Catalogs, Hives, Reads, Crash, Restart, took}
use Rattle.feed_laws.specs.Rounds.{changed_keys, times, without}
use Rattle.feed_laws.specs.Worlds.{HiveNow, Round, World}

-- a look-up with this, or nothing, under a name
abbrev pub with_look : {X : Type 0} → Look X → List ℕ → Option X → Look X
with_look look name found = λ q. if bytes_eq q name then found else look q

-- the first waiting id is claimed
abbrev pub one_claimed : Round → List (List ℕ) → Round
one_claimed r [] = r
one_claimed r (key ∷ keys) = record r { waiting = keys; claimed = r.claimed ++ key ∷ [] }

-- the round ends where the cursor's put is done
abbrev pub round_after : Fate → Option Round → Option Round
round_after Done round = None
round_after fate round = round

-- a hive after what happens to it, over a catalog
abbrev pub hive_after : Catalog → OnHive → HiveNow → HiveNow
hive_after cs (Begin told) h = record h { round = Some (record { target = told; waiting = changed_keys cs h.cursor told; claimed = []; finished = []; resting = [] }) }
hive_after cs Claim h = record h { round = option_map (λ (r : Round). one_claimed r r.waiting) h.round }
hive_after cs (Finish key) h = record h { round = option_map (λ (r : Round). record r { claimed = without key r.claimed; finished = r.finished ++ key ∷ [] }) h.round }
hive_after cs (Rest key) h = record h { round = option_map (λ (r : Round). record r { claimed = without key r.claimed; resting = r.resting ++ key ∷ [] }) h.round }
hive_after cs Wake h = record h { round = option_map (λ (r : Round). record r { waiting = r.waiting ++ r.resting; resting = [] }) h.round }
hive_after cs (PutState key s fate) h = if took fate then record h { states = with_look h.states key (Some s) } else h
hive_after cs (PutDoc key name bytes fate) h = if took fate then record h { held = with_look h.held name (Some bytes) } else h
hive_after cs (DeleteDoc key name fate) h = if took fate then record h { held = with_look h.held name None } else h
hive_after cs (PutCursor fate) h = if took fate then record h { cursor = option_map_or (λ (r : Round). r.target) h.round h.cursor; round = round_after fate h.round } else h

-- what happens to the hive with this number
abbrev pub hives_after : Catalog → ℕ → OnHive → List HiveNow → List HiveNow
hives_after cs k on [] = []
hives_after cs zero on (h ∷ hs) = hive_after cs on h ∷ hs
hives_after cs (suc k) on (h ∷ hs) = h ∷ hives_after cs k on hs

-- The feed after what happens. A crash ends every round.
abbrev pub happens : Happening → World → World
happens (Catalogs (PutObject name bytes fate)) w = if took fate then record w { area = with_blob name bytes w.area } else w
happens (Catalogs (PutPage c name bytes fate)) w = if took fate then record w { area = with_blob name bytes w.area; commits = w.commits ++ c ∷ [] } else w
happens (Catalogs (PutIndex name bytes fate)) w = if took fate then record w { area = with_blob name bytes w.area } else w
happens (Hives k on) w = record w { hives = hives_after w.commits k on w.hives }
happens (Reads place fate) w = w
happens Crash w = record w { hives = map (λ (h : HiveNow). record h { round = None }) w.hives; up = false }
happens Restart w = record w { up = true }

-- a round stands in which the id is claimed
pub record IsClaimed (h : HiveNow) (key : List ℕ) (r : Round) : Type 0 where
  pub stands : h.round ≡ Some r
  pub claimed : 0 < times key r.claimed

-- a round may begin: none stands, its target is ahead of the cursor and within the catalog, and no stored state is ahead of it
pub record MayBegin (cs : Catalog) (h : HiveNow) (told : ℕ) : Type 0 where
  pub none : h.round ≡ None
  pub later : h.cursor < told
  pub within : told ≤ length cs
  pub at_most : (key : List ℕ) → IsAtMost told (h.states key)

-- a round stands in which no id waits or is claimed
pub record IsAtRest (h : HiveNow) (r : Round) : Type 0 where
  pub stands : h.round ≡ Some r
  pub waiting : r.waiting ≡ []
  pub claimed : r.claimed ≡ []

-- what may happen to a hive, over a catalog: states and documents are put beside a stored state that stands at the target, and the cursor
-- once every id is done
abbrev pub MayOnHive : Fold → Catalog → HiveNow → OnHive → Type 0
MayOnHive f cs h (Begin told) = MayBegin cs h told
MayOnHive f cs h Claim = ⊤
MayOnHive f cs h (Finish key) = (r : Round) × IsClaimed h key r × Clean f cs key r.target (h.states key) h.held
MayOnHive f cs h (Rest key) = (r : Round) × IsClaimed h key r
MayOnHive f cs h Wake = (r : Round) × IsAtRest h r
MayOnHive f cs h (PutState key s fate) = (r : Round) × IsClaimed h key r × (s.at ≡ r.target) × (IsDirtyPut f cs key (h.states key) s ⊎ IsCleanPut f cs key h.held s)
MayOnHive f cs h (PutDoc key name bytes fate) = (r : Round) × (s : StateDoc) × IsClaimed h key r × (h.states key ≡ Some s) × (s.at ≡ r.target) × IsDocPut f cs key s name bytes h.held
MayOnHive f cs h (DeleteDoc key name fate) = (r : Round) × (s : StateDoc) × IsClaimed h key r × (h.states key ≡ Some s) × (s.at ≡ r.target) × IsDocDelete f cs key s name h.held
MayOnHive f cs h (PutCursor fate) = (r : Round) × IsAtRest h r × (r.resting ≡ [])

-- to the hive with this number
abbrev pub MayAt : Catalog → ℕ → OnHive → List Fold → List HiveNow → Type 0
MayAt cs k on [] hs = ⊥
MayAt cs k on (f ∷ fs) [] = ⊥
MayAt cs zero on (f ∷ fs) (h ∷ hs) = MayOnHive f cs h on
MayAt cs (suc k) on (f ∷ fs) (h ∷ hs) = MayAt cs k on fs hs

-- Whether it may happen. A feed that is down may only be started again.
abbrev pub May : List Fold → World → Happening → Type 0
May fs w (Catalogs (PutObject name bytes fate)) = (w.up ≡ true) × IsObjectPut w.commits name
May fs w (Catalogs (PutPage c name bytes fate)) = (w.up ≡ true) × IsPagePut w.area w.base w.commits c name bytes
May fs w (Catalogs (PutIndex name bytes fate)) = (w.up ≡ true) × IsIndexPut w.base w.commits name bytes
May fs w (Hives k on) = (w.up ≡ true) × MayAt w.commits k on fs w.hives
May fs w (Reads place fate) = w.up ≡ true
May fs w Crash = w.up ≡ true
May fs w Restart = w.up ≡ false

-- steps in order, each of which may happen where it comes, lead from w to last
abbrev pub Run : List Fold → World → List Happening → World → Type 0
Run fs w [] last = last ≡ w
Run fs w (e ∷ es) last = May fs w e × Run fs (happens e w) es last
