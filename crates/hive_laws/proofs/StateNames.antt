-- The names in a hive's area differ.
use Rattle.std.proofs.Common.{◌≡◌, ◌≢◌, ℕ, List, ◌++◌, codes, get_or, None, Some, refl, sym, ap, ◌∙◌, arith}
use Rattle.std.proofs.lemmas.List.{append_cancel_left, append_cancel_right}
use Rattle.cursor_doc.specs.Cursor.{cursor_name}
use Rattle.hive_state.specs.State.{state_name}
use Rattle.fold_core.specs.Docs.{owner}

pub names_tell : (key other : List ℕ) → state_name key ≡ state_name other → key ≡ other
names_tell key other same = append_cancel_right key other (codes ".json") (append_cancel_left (codes "s/") (key ++ codes ".json") (other ++ codes ".json") same)

pub owned_by_none : (key : List ℕ) → owner (state_name key) ≡ None
owned_by_none key = refl

pub no_state_of_cursor : (key : List ℕ) → cursor_name ≢ state_name key
no_state_of_cursor key same = differ (ap (λ (l : List ℕ). get_or l 0 0) same)
  where
    differ : ◌≡◌ {A = ℕ} 99 115 → ⊥
    differ e = omega arith

pub cursor_unowned : owner cursor_name ≡ None
cursor_unowned = refl

-- a name that an id owns is another
pub not_owned : (name q key : List ℕ) → owner name ≡ None → owner q ≡ Some key → q ≢ name
not_owned name q key none own same = let no_ : None ≡ Some key = sym none ∙ ap owner (sym same) ∙ own in cc
