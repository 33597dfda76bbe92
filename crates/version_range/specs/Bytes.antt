-- The bytes that a range's text is told by.
use Rattle.std.specs.Prelude.{ℕ, ◌==◌, ◌||◌, not, Bool}

-- whether the byte is a space
abbrev pub is_space : ℕ → Bool
is_space b = b == 32

-- whether it is a `*`
abbrev pub is_star : ℕ → Bool
is_star b = b == 42

-- whether it is a comma
abbrev pub is_comma : ℕ → Bool
is_comma b = b == 44

-- `(` or `)`
abbrev pub is_round : ℕ → Bool
is_round b = (b == 40) || (b == 41)

-- a byte that isn't a space
abbrev pub is_filled : ℕ → Bool
is_filled b = not (is_space b)

-- `[` or `(`
abbrev pub is_opening : ℕ → Bool
is_opening b = (b == 91) || (b == 40)

-- `]` or `)`
abbrev pub is_closing : ℕ → Bool
is_closing b = (b == 93) || (b == 41)
