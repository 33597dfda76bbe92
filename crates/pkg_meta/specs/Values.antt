-- What a JSON value says under a name. A null member counts as absent, and a member that isn't asked for is ignored.
use Rattle.std.specs.Prelude.{ℕ, List, [], ◌∷◌, Bool, true, false, ◌||◌, Option, is_some, option_and_then, unwrap_or}
use Rattle.std.specs.List.{list_all}
use Rattle.std.specs.Option.{option_map_or}
use Rattle.serde_json.specs.Data.{Data, Items, no_items, item}
use Rattle.serde_json.specs.Find.{get, as_array, as_bool, as_null, as_object, as_str}

-- the items of an array, in order
abbrev pub list_of : Items → List Data
list_of no_items = []
list_of (item d ds) = d ∷ list_of ds

-- kinds of values: null, a text, true or false, an object
abbrev pub is_null : Data → Bool
is_null d = is_some (as_null d)

-- a text
abbrev pub is_text : Data → Bool
is_text d = is_some (as_str d)

-- true or false
abbrev pub is_flag : Data → Bool
is_flag d = is_some (as_bool d)

-- an object
abbrev pub is_object : Data → Bool
is_object d = is_some (as_object d)

-- an array whose items are all of a kind
abbrev pub is_array_of : (Data → Bool) → Data → Bool
is_array_of kind d = option_map_or (λ items. list_all kind (list_of items)) (as_array d) false

-- a member that may be absent, or of a kind
abbrev pub is_optional : (Data → Bool) → Option Data → Bool
is_optional kind value = option_map_or (λ d. is_null d || kind d) value true

-- a member that is there, and of a kind
abbrev pub is_required : (Data → Bool) → Option Data → Bool
is_required kind value = option_map_or kind value false

-- the text under a name, where there is one
abbrev pub text_at : List ℕ → Data → Option (List ℕ)
text_at name d = option_and_then as_str (get name d)

-- the text under a name, empty where there is none
abbrev pub text_or_empty : List ℕ → Data → List ℕ
text_or_empty name d = unwrap_or (text_at name d) []

-- the truth value under a name, where there is one
abbrev pub flag_at : List ℕ → Data → Option Bool
flag_at name d = option_and_then as_bool (get name d)

-- the items of the array under a name, none where there is no array
abbrev pub items_at : List ℕ → Data → List Data
items_at name d = option_map_or list_of (option_and_then as_array (get name d)) []
