-- Members put into an object, as the slots of a table.
use Rattle.std.proofs.Common.{◌≡◌, ℕ, List, [], ◌∷◌, Bool, true, false, ◌&&◌, Option, Some, None, refl, sym, ap, subst, ◌∙◌}
use Rattle.std.specs.Cmp.Lexicographic.{slice_cmp}
use Rattle.std.specs.Ordering.{nat_cmp, is_lt, match_ordering}
use Rattle.std.specs.declared.cmp.Ordering.{Ordering}
use Rattle.std.specs.declared.cmp.Ordering.TheVariants.{Less, Equal, Greater}
use Rattle.serde_json.specs.Data.{Data, Members, member, put}
use Rattle.std.proofs.lemmas.Map.Lookups.{exact_bytes}
use Rattle.serde_json.specs.Find.{get_member}
use Rattle.pkg_meta.specs.Members.{Slot, member_if, present, put_if, put_slots, is_before_slots, are_in_order, slot_value}

-- a slot without a value
abbrev pub is_empty : Option Data → Bool
is_empty None = true
is_empty (Some d) = false

-- there is a slot of this key in a table of rising keys, and it has no value
abbrev pub is_blank : List ℕ → List Slot → Bool
is_blank k [] = false
is_blank k (s ∷ slots) = match_ordering (slice_cmp nat_cmp k s.key) false (is_empty s.value) (is_blank k slots)

-- the table with this value at the key
abbrev pub filled : List ℕ → Option Data → List Slot → List Slot
filled k o [] = []
filled k o (s ∷ slots) =
    match_ordering (slice_cmp nat_cmp k s.key) (s ∷ slots) (record { key = s.key; value = o } ∷ slots) (s ∷ filled k o slots)

-- one after another
abbrev pub all_filled : List Slot → List Slot → List Slot
all_filled [] table = table
all_filled (s ∷ slots) table = all_filled slots (filled s.key s.value table)

-- each of the slots is blank when its turn comes
abbrev pub are_blank : List Slot → List Slot → Bool
are_blank [] table = are_in_order table
are_blank (s ∷ slots) table = are_in_order table && (is_blank s.key table && are_blank slots (filled s.key s.value table))

pub both_true : (a b : Bool) → (a && b) ≡ true → (a ≡ true) × (b ≡ true)
both_true true b h = (refl, h)
both_true false b h = let no : ⊥ = cc in absurd no

pub less_from_is_lt : (o : Ordering) → is_lt o ≡ true → o ≡ Less
less_from_is_lt Less h = refl
less_from_is_lt Equal h = let no : ⊥ = cc in absurd no
less_from_is_lt Greater h = let no : ⊥ = cc in absurd no

not_true : false ≡ true → ⊥
not_true h = cc

-- a key before those of all slots goes first
put_before_slot : (k : List ℕ) (d : Data) (l : List ℕ) (value : Option Data) (ms : Members)
    → slice_cmp nat_cmp k l ≡ Less → put k d ms ≡ member k d ms → put k d (member_if l value ms) ≡ member k d (member_if l value ms)
put_before_slot k d l None ms less others = others
put_before_slot k d l (Some e) ms less others = rw less refl

pub put_before : (k : List ℕ) (d : Data) (slots : List Slot) → is_before_slots k slots ≡ true → put k d (present slots) ≡ member k d (present slots)
put_before k d [] before = refl
put_before k d (s ∷ slots) before =
    let both = both_true (is_lt (slice_cmp nat_cmp k s.key)) (is_before_slots k slots) before in
    put_before_slot k d s.key s.value (present slots) (less_from_is_lt (slice_cmp nat_cmp k s.key) both.0) (put_before k d slots both.1)

-- a blank slot that gets no value stays absent
none_at : (k l : List ℕ) (value : Option Data) (slots : List Slot) (o : Ordering)
    → match_ordering o false (is_empty value) (is_blank k slots) ≡ true
    → (is_blank k slots ≡ true → present slots ≡ present (filled k None slots))
    → member_if l value (present slots) ≡ present (match_ordering o (record { key = l; value = value } ∷ slots) (record { key = l; value = None } ∷ slots) (record { key = l; value = value } ∷ filled k None slots))
none_at k l value slots Less blank others = absurd (not_true blank)
none_at k l None slots Equal blank others = refl
none_at k l (Some d) slots Equal blank others = absurd (not_true blank)
none_at k l value slots Greater blank others = ap (member_if l value) (others blank)

filled_none : (k : List ℕ) (slots : List Slot) → is_blank k slots ≡ true → present slots ≡ present (filled k None slots)
filled_none k [] blank = absurd (not_true blank)
filled_none k (s ∷ slots) blank = none_at k s.key s.value slots (slice_cmp nat_cmp k s.key) blank (filled_none k slots)

-- a member put at a blank slot
some_at : (k : List ℕ) (d : Data) (l : List ℕ) (value : Option Data) (slots : List Slot) (o : Ordering)
    → slice_cmp nat_cmp k l ≡ o → is_before_slots l slots ≡ true
    → match_ordering o false (is_empty value) (is_blank k slots) ≡ true
    → (is_blank k slots ≡ true → put k d (present slots) ≡ present (filled k (Some d) slots))
    → put k d (member_if l value (present slots)) ≡ present (match_ordering o (record { key = l; value = value } ∷ slots) (record { key = l; value = Some d } ∷ slots) (record { key = l; value = value } ∷ filled k (Some d) slots))
some_at k d l value slots Less is before blank others = absurd (not_true blank)
some_at k d l None slots Equal is before blank others =
    let same : k ≡ l = exact_bytes k l is in
    put_before k d slots (subst (λ (x : List ℕ). is_before_slots x slots ≡ true) (sym same) before) ∙ ap (λ (x : List ℕ). member x d (present slots)) same
some_at k d l (Some e) slots Equal is before blank others = absurd (not_true blank)
some_at k d l None slots Greater is before blank others = others blank
some_at k d l (Some e) slots Greater is before blank others = rw is (ap (member l e) (others blank))

filled_some : (k : List ℕ) (d : Data) (slots : List Slot) → are_in_order slots ≡ true → is_blank k slots ≡ true → put k d (present slots) ≡ present (filled k (Some d) slots)
filled_some k d [] order blank = absurd (not_true blank)
filled_some k d (s ∷ slots) order blank =
    let both = both_true (is_before_slots s.key slots) (are_in_order slots) order in
    some_at k d s.key s.value slots (slice_cmp nat_cmp k s.key) refl both.0 blank (filled_some k d slots both.1)

filled_slot : (k : List ℕ) (o : Option Data) (slots : List Slot) → are_in_order slots ≡ true → is_blank k slots ≡ true → put_if k o (present slots) ≡ present (filled k o slots)
filled_slot k None slots order blank = filled_none k slots blank
filled_slot k (Some d) slots order blank = filled_some k d slots order blank

-- slots put one after another fill the blank ones of a table, in whichever order
pub put_slots-present : (slots table : List Slot) → are_blank slots table ≡ true → put_slots slots (present table) ≡ present (all_filled slots table)
put_slots-present [] table blank = refl
put_slots-present (s ∷ slots) table blank =
    let order = both_true (are_in_order table) (is_blank s.key table && are_blank slots (filled s.key s.value table)) blank in
    let others = both_true (is_blank s.key table) (are_blank slots (filled s.key s.value table)) order.1 in
    ap (put_slots slots) (filled_slot s.key s.value table order.0 others.0) ∙ put_slots-present slots (filled s.key s.value table) others.1

-- what is found under a key of a table
before_none : (k : List ℕ) (slots : List Slot) → is_before_slots k slots ≡ true → slot_value k slots ≡ None
before_none k [] before = refl
before_none k (s ∷ slots) before =
    let both = both_true (is_lt (slice_cmp nat_cmp k s.key)) (is_before_slots k slots) before in
    rw (less_from_is_lt (slice_cmp nat_cmp k s.key) both.0) (before_none k slots both.1)

get_at : (k l : List ℕ) (value : Option Data) (slots : List Slot) (o : Ordering)
    → slice_cmp nat_cmp k l ≡ o → is_before_slots l slots ≡ true → get_member k (present slots) ≡ slot_value k slots
    → get_member k (member_if l value (present slots)) ≡ match_ordering o (slot_value k slots) value (slot_value k slots)
get_at k l None slots Less is before others = others
get_at k l None slots Equal is before others =
    others ∙ before_none k slots (subst (λ (x : List ℕ). is_before_slots x slots ≡ true) (sym (exact_bytes k l is)) before)
get_at k l None slots Greater is before others = others
get_at k l (Some d) slots Less is before others = rw is others
get_at k l (Some d) slots Equal is before others = rw is refl
get_at k l (Some d) slots Greater is before others = rw is others

pub get_slot : (k : List ℕ) (slots : List Slot) → are_in_order slots ≡ true → get_member k (present slots) ≡ slot_value k slots
get_slot k [] order = refl
get_slot k (s ∷ slots) order =
    let both = both_true (is_before_slots s.key slots) (are_in_order slots) order in
    get_at k s.key s.value slots (slice_cmp nat_cmp k s.key) refl both.0 (get_slot k slots both.1)
