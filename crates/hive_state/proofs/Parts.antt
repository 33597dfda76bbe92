-- A state is that of its fields.
use Rattle.std.proofs.Common.{◌≡◌, ℕ, List, Bool, map, sym, ap, subst}
use Rattle.std.proofs.lemmas.Map.Keys.{IsStrictlySortedBy-prop}
use Rattle.std.specs.Cmp.Lexicographic.{slice_cmp}
use Rattle.std.specs.List.Sorted.{IsStrictlySortedBy}
use Rattle.std.specs.Ordering.{nat_cmp}
use Rattle.nuget_version.specs.Precedence.{precedence}
use Rattle.pkg_meta.specs.Entries.{AreRising, version_in}
use Rattle.pkg_meta.specs.declared.entry.Entry.{Entry}
use Rattle.pkg_meta.specs.declared.state.StateDoc.{StateDoc}

-- what a state keeps to
abbrev Kept : List (List ℕ) → List Entry → Type 0
Kept names entries = IsStrictlySortedBy (slice_cmp nat_cmp) names × AreRising entries

-- the fields of a state
pub record Fields : Type 0 where
  pub at : ℕ
  pub touched : ℕ
  pub touched_stamp : ℕ
  pub dirty : Bool
  pub names : List (List ℕ)
  pub entries : List Entry

abbrev pub fields_of : StateDoc → Fields
fields_of s = record { at = s.at; touched = s.touched; touched_stamp = s.touched_stamp; dirty = s.dirty; names = s.names; entries = s.entries }

state_from : (f : Fields) → Kept f.names f.entries → StateDoc
state_from f k = record {
  at = f.at;
  touched = f.touched;
  touched_stamp = f.touched_stamp;
  dirty = f.dirty;
  names = f.names;
  entries = f.entries;
  names_rise = k.0;
  entries_rise = k.1;
}

kept_once : (names : List (List ℕ)) (entries : List Entry) (k l : Kept names entries) → k ≡ l
kept_once names entries k l =
    λ i. (IsStrictlySortedBy-prop (slice_cmp nat_cmp) names k.0 l.0 i, IsStrictlySortedBy-prop precedence (map version_in entries) k.1 l.1 i)

abbrev Is : StateDoc → Fields → Type 0
Is s f = (k : Kept f.names f.entries) → state_from f k ≡ s

is_own : (s : StateDoc) → Is s (fields_of s)
unfolding state_from
is_own s k = ap (state_from (fields_of s)) (kept_once s.names s.entries k (s.names_rise, s.entries_rise))

-- a state's fields determine it
pub same_state : (s t : StateDoc) → fields_of s ≡ fields_of t → s ≡ t
unfolding state_from
same_state s t e =
    let own : Is t (fields_of s) = subst (Is t) (sym e) (is_own t) in
    own (s.names_rise, s.entries_rise)

-- fields that are equal one by one
pub same_fields : (f g : Fields) → f.at ≡ g.at → f.touched ≡ g.touched → f.touched_stamp ≡ g.touched_stamp → f.dirty ≡ g.dirty → f.names ≡ g.names
    → f.entries ≡ g.entries → f ≡ g
same_fields f g a b c d n e = λ i. record { at = a i; touched = b i; touched_stamp = c i; dirty = d i; names = n i; entries = e i }
