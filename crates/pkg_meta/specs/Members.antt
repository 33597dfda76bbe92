-- Objects some of whose members may be absent, as tables of keys and values.
use Rattle.std.specs.Prelude.{ℕ, List, [], ◌∷◌, Bool, true, ◌&&◌, Option, Some, None}
use Rattle.std.specs.Cmp.Lexicographic.{slice_cmp}
use Rattle.std.specs.Ordering.{nat_cmp, is_lt, match_ordering}
use Rattle.serde_json.specs.Data.{Data, Members, no_members, member, put}

-- a key, and the member's value where it is there
pub record Slot : Type 0 where
  pub key : List ℕ
  pub value : Option Data

-- a member that is always there, and one that may be absent
abbrev pub always : List ℕ → Data → Slot
always k d = record { key = k; value = Some d }

-- a member that may be absent
abbrev pub maybe : List ℕ → Option Data → Slot
maybe k value = record { key = k; value = value }

-- a member before others, where it is there
abbrev pub member_if : List ℕ → Option Data → Members → Members
member_if k None ms = ms
member_if k (Some d) ms = member k d ms

-- the members of a table that are there, in its order
abbrev pub present : List Slot → Members
present [] = no_members
present (s ∷ slots) = member_if s.key s.value (present slots)

-- the members with this one, where it is there
abbrev pub put_if : List ℕ → Option Data → Members → Members
put_if k None ms = ms
put_if k (Some d) ms = put k d ms

-- the members with those of a table, put one after another
abbrev pub put_slots : List Slot → Members → Members
put_slots [] ms = ms
put_slots (s ∷ slots) ms = put_slots slots (put_if s.key s.value ms)

-- a key stands before all of the table
abbrev pub is_before_slots : List ℕ → List Slot → Bool
is_before_slots k [] = true
is_before_slots k (s ∷ slots) = is_lt (slice_cmp nat_cmp k s.key) && is_before_slots k slots

-- the keys of a table stand in byte order, without repeats
abbrev pub are_in_order : List Slot → Bool
are_in_order [] = true
are_in_order (s ∷ slots) = is_before_slots s.key slots && are_in_order slots

-- the value at a key of a table
abbrev pub slot_value : List ℕ → List Slot → Option Data
slot_value k [] = None
slot_value k (s ∷ slots) = match_ordering (slice_cmp nat_cmp k s.key) (slot_value k slots) s.value (slot_value k slots)
