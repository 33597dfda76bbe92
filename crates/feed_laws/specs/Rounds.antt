-- A round's lists of ids, and what they are to hold.
use Rattle.std.specs.Prelude.{◌≡◌, ◌⊎◌, ◌<◌, ◌≤◌, ◌+◌, ℕ, List, [], ◌∷◌, length, take, drop, map, flat_map, if◌then◌else◌, Option, None, Some, ⊤}
use Rattle.std.specs.Str.{bytes_eq}
use Rattle.pkg_meta.specs.Catalog.{Catalog}
use Rattle.pkg_meta.specs.Items.{id_of}
use Rattle.pkg_meta.specs.declared.commit.Stored.{Stored}
use Rattle.pkg_meta.specs.declared.item.Item.{Item}
use Rattle.pkg_meta.specs.declared.state.StateDoc.{StateDoc}
use Rattle.fold_core.specs.Folds.{Clean, Fold, Look, touched_by}
use Rattle.fold_core.specs.Sound.{IsAtMost}
use Rattle.feed_laws.specs.Worlds.{Round}

-- how often a key stands in a list
abbrev pub times : List ℕ → List (List ℕ) → ℕ
times key [] = 0
times key (k ∷ keys) = (if bytes_eq key k then 1 else 0) + times key keys

-- the list without a key
abbrev pub without : List ℕ → List (List ℕ) → List (List ℕ)
without key [] = []
without key (k ∷ keys) = if bytes_eq key k then without key keys else k ∷ without key keys

-- each key once, where it stands first
abbrev pub first_ids : List (List ℕ) → List (List ℕ)
first_ids [] = []
first_ids (k ∷ keys) = k ∷ without k (first_ids keys)

-- the keys of a commit's ids, item by item
abbrev pub item_keys : Stored → List (List ℕ)
item_keys c = map (λ (it : Item). (id_of it).key) c.commit.items

-- the keys of the ids with an item behind commit c and up to commit told, in order of the first such item
abbrev pub changed_keys : Catalog → ℕ → ℕ → List (List ℕ)
changed_keys cs c told = first_ids (flat_map item_keys (drop c (take told cs)))

-- in how many places of a round's lists an id stands
abbrev pub places : List ℕ → Round → ℕ
places key r = times key r.waiting + (times key r.claimed + (times key r.finished + times key r.resting))

-- the round takes up an id exactly where it has an item behind the cursor and up to the target
abbrev pub IsExact : Catalog → ℕ → List ℕ → Round → Type 0
IsExact cs c key r = (c < touched_by cs key r.target → places key r ≡ 1) × (touched_by cs key r.target ≤ c → places key r ≡ 0)

-- what a standing round says of an id
pub record IsRoundId (f : Fold) (cs : Catalog) (c : ℕ) (key : List ℕ) (r : Round) (stored : Option StateDoc) (held : Look (List ℕ)) : Type 0 where
  pub at_most : IsAtMost r.target stored
  pub once : places key r ≤ 1
  -- while the cursor is below the target the ids are exactly those; once it stands there each is done
  pub which : ((c < r.target) × IsExact cs c key r) ⊎ ((c ≡ r.target) × (places key r ≡ times key r.finished))
  pub finished : 0 < times key r.finished → Clean f cs key r.target stored held

-- a standing round: its target is that of a prefix, and so it is with each id
pub record IsRoundAt (f : Fold) (cs : Catalog) (c : ℕ) (states : Look StateDoc) (held : Look (List ℕ)) (r : Round) : Type 0 where
  pub reached : r.target ≤ length cs
  pub ids : (key : List ℕ) → IsRoundId f cs c key r (states key) held

-- none stands, or it is such
abbrev pub HasRound : Fold → Catalog → ℕ → Look StateDoc → Look (List ℕ) → Option Round → Type 0
HasRound f cs c states held None = ⊤
HasRound f cs c states held (Some r) = IsRoundAt f cs c states held r
