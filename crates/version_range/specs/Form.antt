-- The form of a text: what it is made of, as far as brackets, commas and spaces tell.
use Rattle.std.specs.Prelude.{ℕ, ◌+◌, ◌-◌, List, [], ◌∷◌, Bool, Option, Some, None, length}
use Rattle.std.specs.List.{position_from}
use Rattle.version_range.specs.Bytes.{is_star, is_comma, is_round}
use Rattle.version_range.specs.Cuts.{trimmed, lead, opened, closed, parted}

-- a piece without the spaces at its ends, and the place in the text where it begins; where it is
-- nothing but spaces, it is empty, and its place is behind them
pub record Piece : Type 0 where
  pub text : List ℕ
  pub at : ℕ

pub data Form : Type 0 where
  -- a `*` at this place
  starred : ℕ → Form
  -- nothing but spaces
  blank : Form
  -- no bracket at the start
  bare : Piece → Form
  -- brackets or commas that stand wrong, at this place
  broken : ℕ → Form
  -- one piece in square brackets
  single : Piece → Form
  -- two pieces and a comma in brackets, each of which is square or isn't
  double : Bool → Piece → Piece → Bool → Form

-- a piece with its place
abbrev pub piece_at : ℕ → List ℕ → Piece
piece_at at text = record { text = text; at = at }

-- what stands between spaces in a text that begins at this place
abbrev pub piece : ℕ → List ℕ → Piece
piece at text = piece_at (at + lead text) (trimmed text)

-- one piece, in brackets that have to be square
abbrev pub single_unless : Option ℕ → ℕ → List ℕ → Form
single_unless (Some k) at inner = broken (at + k)
single_unless None at inner = single (piece (at + 1) inner)

-- two pieces, of which the second has to be without a comma
abbrev pub double_unless : Option ℕ → Bool → ℕ → List ℕ → ℕ → List ℕ → Bool → Form
double_unless (Some k) low_in at left right_at right high_in = broken (right_at + k)
double_unless None low_in at left right_at right high_in = double low_in (piece (at + 1) left) (piece right_at right) high_in

-- what stands in brackets, of which the opening one stands at this place
abbrev pub inner_form : ℕ → List ℕ → Bool → Option (List ℕ × List ℕ) → List ℕ → Bool → Form
inner_form at core low_in None inner high_in = single_unless (position_from is_round 0 core) at inner
inner_form at core low_in (Some (left, right)) inner high_in =
    double_unless (position_from is_comma 0 right) low_in at left (at + 1 + length left + 1) right high_in

-- the text behind an opening bracket
abbrev pub closed_form : ℕ → List ℕ → Bool → Option (Bool × List ℕ) → Form
closed_form at core low_in None = broken (at + length core - 1)
closed_form at core low_in (Some (high_in, inner)) = inner_form at core low_in (parted inner) inner high_in

-- a text without spaces at its ends, which begins at this place
abbrev pub opened_form : ℕ → List ℕ → Option (Bool × List ℕ) → Form
opened_form at core None = bare (piece_at at core)
opened_form at core (Some (low_in, rest)) = closed_form at core low_in (closed rest)

-- the form of a text without spaces at its ends
abbrev pub core_form : ℕ → List ℕ → Form
core_form at [] = blank
core_form at (b ∷ rest) = opened_form at (b ∷ rest) (opened (b ∷ rest))

-- a text, by the place of its first `*`
abbrev pub form_unless : Option ℕ → List ℕ → Form
form_unless (Some at) text = starred at
form_unless None text = core_form (lead text) (trimmed text)

-- the form of every text
unfoldable pub form : List ℕ → Form
form text = form_unless (position_from is_star 0 text) text
