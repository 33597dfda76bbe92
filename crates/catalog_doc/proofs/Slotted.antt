-- Objects that are tables of slots: what a reader takes back, and the member at a key.
use Rattle.std.proofs.Common.{◌≡◌, ◌≤◌, ℕ, suc, List, [], ◌∷◌, Bool, true, false, ◌&&◌, ◌||◌, Option, Some, None, IfSome, IsUtf8, option_map, refl, sym, ◌∙◌, ap, subst, arith}
use Rattle.std.specs.Cmp.Lexicographic.{slice_cmp}
use Rattle.std.specs.Ordering.{is_eq, is_lt, match_ordering, nat_cmp}
use Rattle.std.specs.declared.cmp.Ordering.{Ordering}
use Rattle.std.specs.declared.cmp.Ordering.TheVariants.{Less, Equal, Greater}
use Rattle.std.proofs.lemmas.Map.Text.{is_eq-slice_cmp}
use Rattle.std.proofs.lemmas.Slice.Eq.{bytes_eq-Decides}
use Rattle.json.proofs.Printed.Utf8.{IsUtf8-are_ascii, are_ascii}
use Rattle.serde_json.specs.Data.{Data, Members, array, boolean, depth, members_depth, object, string}
use Rattle.serde_json.specs.Find.{get, get_member}
use Rattle.serde_json.specs.View.{items_of}
use Rattle.serde_json.specs.Written.{has_float, members_have_float}
use Rattle.json_law.specs.Fits.{Fits, IsBeforeFirst, IsText, MembersAreText, MembersFit}
use Rattle.pkg_meta.specs.Members.{Slot, are_in_order, is_before_slots, member_if, present, slot_value}
use Rattle.pkg_meta.specs.Trees.{array_if, text_if}

both_true : (a b : Bool) → (a && b) ≡ true → (a ≡ true) × (b ≡ true)
both_true true b e = (refl, e)
both_true false b e = cc

less_if : (o : Ordering) → is_lt o ≡ true → o ≡ Less
less_if Less e = refl
less_if Equal e = cc
less_if Greater e = cc

-- what holds of each value that is there
abbrev pub Each : (Data → Type 0) → List Slot → Type 0
Each P [] = Unit {0}
Each P (s ∷ slots) = IfSome s.value P × Each P slots

before_if : (k l : List ℕ) (o : Option Data) (ms : Members) → slice_cmp nat_cmp k l ≡ Less → IsBeforeFirst k ms → IsBeforeFirst k (member_if l o ms)
before_if k l None ms less before = before
before_if k l (Some d) ms less before = less

before_first : (k : List ℕ) (slots : List Slot) → is_before_slots k slots ≡ true → IsBeforeFirst k (present slots)
before_first k [] before = tt
before_first k (s ∷ slots) before =
    let two = both_true (is_lt (slice_cmp nat_cmp k s.key)) (is_before_slots k slots) before in
    before_if k s.key s.value (present slots) (less_if (slice_cmp nat_cmp k s.key) two.0) (before_first k slots two.1)

fit_if : (l : List ℕ) (o : Option Data) (ms : Members) → IsBeforeFirst l ms → IfSome o Fits → MembersFit ms → MembersFit (member_if l o ms)
fit_if l None ms before fits rest = rest
fit_if l (Some d) ms before fits rest = (before, fits, rest)

members_fit : (slots : List Slot) → are_in_order slots ≡ true → Each Fits slots → MembersFit (present slots)
members_fit [] order each = tt
members_fit (s ∷ slots) order each =
    let two = both_true (is_before_slots s.key slots) (are_in_order slots) order in
    fit_if s.key s.value (present slots) (before_first s.key slots two.0) each.0 (members_fit slots two.1 each.1)

-- a table whose values fit
pub table_fits : (slots : List Slot) → are_in_order slots ≡ true → Each Fits slots → Fits (object (present slots))
table_fits slots order each = members_fit slots order each

-- the keys are ASCII
abbrev pub are_ascii_keys : List Slot → Bool
are_ascii_keys [] = true
are_ascii_keys (s ∷ slots) = are_ascii s.key && are_ascii_keys slots

text_if_there : (l : List ℕ) (o : Option Data) (ms : Members) → IsUtf8 l → IfSome o IsText → MembersAreText ms → MembersAreText (member_if l o ms)
text_if_there l None ms own text rest = rest
text_if_there l (Some d) ms own text rest = (own, text, rest)

-- a table whose values are texts
pub table_is_text : (slots : List Slot) → are_ascii_keys slots ≡ true → Each IsText slots → IsText (object (present slots))
table_is_text [] keys each = tt
table_is_text (s ∷ slots) keys each =
    let two = both_true (are_ascii s.key) (are_ascii_keys slots) keys in
    text_if_there s.key s.value (present slots) (IsUtf8-are_ascii s.key two.0) each.0 (table_is_text slots two.1 each.1)

deep_if : (n : ℕ) (l : List ℕ) (o : Option Data) (ms : Members) → IfSome o (λ d. depth d ≤ n) → members_depth ms ≤ n → members_depth (member_if l o ms) ≤ n
deep_if n l None ms deep rest = rest
deep_if n l (Some d) ms deep rest = omega (arith, deep, rest)

members_deep : (n : ℕ) (slots : List Slot) → Each (λ d. depth d ≤ n) slots → members_depth (present slots) ≤ n
members_deep n [] each = omega arith
members_deep n (s ∷ slots) each = deep_if n s.key s.value (present slots) each.0 (members_deep n slots each.1)

-- a table whose values are no deeper
pub table_deep : (n : ℕ) (slots : List Slot) → Each (λ d. depth d ≤ n) slots → depth (object (present slots)) ≤ suc n
table_deep n slots each = let deep = members_deep n slots each in omega (arith, deep)

-- a key before all has no value
no_value : (k : List ℕ) (slots : List Slot) → is_before_slots k slots ≡ true → slot_value k slots ≡ None
no_value k [] before = refl
no_value k (s ∷ slots) before =
    let two = both_true (is_lt (slice_cmp nat_cmp k s.key)) (is_before_slots k slots) before in
    ap (λ (o : Ordering). match_ordering o (slot_value k slots) s.value (slot_value k slots)) (less_if (slice_cmp nat_cmp k s.key) two.0)
    ∙ no_value k slots two.1

key_is : (k l : List ℕ) → slice_cmp nat_cmp k l ≡ Equal → k ≡ l
key_is k l e = (bytes_eq-Decides k l).0 (sym (is_eq-slice_cmp k l) ∙ ap is_eq e)

-- a slot that is empty has what stands behind it
empty_at : (k l : List ℕ) (rest : Option Data) → (k ≡ l → rest ≡ None) → (o : Ordering) → slice_cmp nat_cmp k l ≡ o → rest ≡ match_ordering o rest None rest
empty_at k l rest none Less e = refl
empty_at k l rest none Greater e = refl
empty_at k l rest none Equal e = none (key_is k l e)

get_if : (k l : List ℕ) (o : Option Data) (ms : Members) (rest : Option Data) → get_member k ms ≡ rest → (k ≡ l → rest ≡ None)
    → get_member k (member_if l o ms) ≡ match_ordering (slice_cmp nat_cmp k l) rest o rest
get_if k l None ms rest is none = is ∙ empty_at k l rest none (slice_cmp nat_cmp k l) refl
get_if k l (Some d) ms rest is none = λ i. match_ordering (slice_cmp nat_cmp k l) (is i) (Some d) (is i)

get_present : (k : List ℕ) (slots : List Slot) → are_in_order slots ≡ true → get_member k (present slots) ≡ slot_value k slots
get_present k [] order = refl
get_present k (s ∷ slots) order =
    let two = both_true (is_before_slots s.key slots) (are_in_order slots) order in
    get_if k s.key s.value (present slots) (slot_value k slots) (get_present k slots two.1)
    (λ same. no_value k slots (subst (λ (x : List ℕ). is_before_slots x slots ≡ true) (sym same) two.0))

-- the member at a key of a table
pub table_get : (k : List ℕ) (slots : List Slot) → are_in_order slots ≡ true → get k (object (present slots)) ≡ slot_value k slots
table_get k slots order = get_present k slots order

plain_if : (l : List ℕ) (o : Option Data) (ms : Members) → IfSome o (λ d. has_float d ≡ false) → members_have_float ms ≡ false → members_have_float (member_if l o ms) ≡ false
plain_if l None ms plain rest = rest
plain_if l (Some d) ms plain rest = ap (λ (b : Bool). b || members_have_float ms) plain ∙ rest

-- a table whose values have no float
pub table_plain : (slots : List Slot) → Each (λ d. has_float d ≡ false) slots → has_float (object (present slots)) ≡ false
table_plain [] each = refl
table_plain (s ∷ slots) each = plain_if s.key s.value (present slots) each.0 (table_plain slots each.1)

-- a text that may be absent, and an array that may be empty
pub text_if_each : (P : Data → Type 0) (text : Option (List ℕ)) → ((s : List ℕ) → text ≡ Some s → P (string s)) → IfSome (text_if text) P
text_if_each P None holds = tt
text_if_each P (Some s) holds = holds s refl

pub flag_if_each : (P : Data → Type 0) (flag : Option Bool) → ((b : Bool) → P (boolean b)) → IfSome (option_map boolean flag) P
flag_if_each P None holds = tt
flag_if_each P (Some b) holds = holds b

pub array_if_each : (P : Data → Type 0) (ds : List Data) → P (array (items_of ds)) → IfSome (array_if ds) P
array_if_each P [] holds = tt
array_if_each P (d ∷ ds) holds = holds
