-- What the words of a command give: its plain words, and the text of its option.
use Rattle.std.specs.Prelude.{ℕ, List, [], ◌∷◌, ◌++◌, Bool, true, codes, drop, map, not, nat_eq, Option, None, Some, option_map, String, string_bytes, if◌then◌else◌}
use Rattle.std.specs.List.{filter, starts_with}
use Rattle.std.specs.Str.{bytes_eq}
use Rattle.std.specs.declared.alloc.Global.{Global}
use Rattle.feed_words.specs.declared.words.Words.{Words}

-- the plain words in their order, and the text of the option `--base`, where that is given
pub record Given : Type 0 where
  pub plain : List (List ℕ)
  pub base : Option (List ℕ)

-- words, as texts
abbrev pub texts : List (String Global) → List (List ℕ)
texts words = map string_bytes words

-- a word that begins with `-` isn't plain
abbrev pub is_option : List ℕ → Bool
is_option word = starts_with nat_eq word (codes "-")

-- with each option that stands as two words as one; a last word `--base` stays
abbrev pub with_texts_joined : List (List ℕ) → List (List ℕ)
with_texts_joined [] = []
with_texts_joined (word ∷ []) = word ∷ []
with_texts_joined (word ∷ value ∷ words) = if bytes_eq word (codes "--base") then (codes "--base=" ++ value) ∷ with_texts_joined words else word ∷ with_texts_joined (value ∷ words)

abbrev pub options_in : List (List ℕ) → List (List ℕ)
options_in words = filter is_option (with_texts_joined words)

abbrev pub plain_in : List (List ℕ) → List (List ℕ)
plain_in words = filter (λ word. not (is_option word)) (with_texts_joined words)

-- the text of an option, which is no other than `--base`
abbrev pub value_of : List ℕ → Option (List ℕ)
value_of option = if starts_with nat_eq option (codes "--base=") then Some (drop 7 option) else None

-- what options give: no text where there is none, and that of a single one; two have no meaning
abbrev pub given_by : List (List ℕ) → Option (Option (List ℕ))
given_by [] = Some None
given_by (option ∷ []) = option_map Some (value_of option)
given_by (option ∷ other ∷ options) = None

-- no option stands before the command's word
abbrev pub begins_plain : List (List ℕ) → Bool
begins_plain [] = true
begins_plain (word ∷ words) = not (is_option word)

abbrev pub with_plain : List (List ℕ) → Option (List ℕ) → Given
with_plain plain base = record { plain = plain; base = base }

-- what the words of a command give, where they have a meaning
abbrev pub given_in : List (List ℕ) → Option Given
given_in words = if begins_plain words then option_map (with_plain (plain_in words)) (given_by (options_in words)) else None

-- what words of the code give
abbrev pub given : Words → Given
given words = record { plain = texts words.plain.items; base = option_map string_bytes words.base }
