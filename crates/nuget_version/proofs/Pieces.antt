-- The walk piece by piece.
use Rattle.std.proofs.Common.{◌≡◌, ◌<◌, ◌≤◌, ◌+◌, ◌-◌, ℕ, List, [], ◌∷◌, ◌++◌, length, take, drop, get_or, Bool, true, false, Option, Some, None, refl, sym, ◌∙◌, ap, subst, arith, inl, inr, append_assoc, length-drop}
use Rattle.std.specs.Prelude.{◌==◌, nat_lt}
use Rattle.std.specs.List.{list_all}
use Rattle.std.specs.Str.Parse.{digits_value}
use Rattle.std.proofs.Math.Seq.{take-add}
use Rattle.std.proofs.lemmas.List.{get_or-drop, length-take-le, take_all}
use Rattle.std.specs.Char.{is_ascii_digit}
use Rattle.std.proofs.lemmas.Bool.{cases_Bool, and_parts, lt-ltb}
use Rattle.nuget_version.specs.Parts.{is_part_byte}
use Rattle.nuget_version.specs.Walk.{after_dot, after_number, after_part, after_plus, capped, is_number_stage, is_piece_byte, next_of, note_of, place, with_mark, with_number, with_piece}
use Rattle.nuget_version.specs.declared.walk.Found.{Found}
use Rattle.nuget_version.specs.declared.walk.Number.{Number}
use Rattle.nuget_version.specs.declared.walk.Place.{Place}
use Rattle.nuget_version.specs.declared.walk.Stage.{Stage}
use Rattle.nuget_version.specs.declared.walk.Stage.TheVariants.{Major, Minor, Patch, Revision, Labels, Meta}
use Rattle.nuget_version.proofs.Dotted.{is_dotted_from}
use Rattle.nuget_version.proofs.Fronts.{Reaches, reaches_more, walked}
use Rattle.nuget_version.proofs.Spelled.{number_run, part_run, walk_from}

-- a mark leads to a number or a part that has no byte yet
Opens : Option Place → Type 0
Opens None = Unit {0}
Opens (Some q) = q.begun ≡ false

dot_opens : (s : Stage) → Opens (after_dot s)
unfolding Opens
dot_opens Major = refl
dot_opens Minor = refl
dot_opens Patch = refl
dot_opens Revision = tt
dot_opens Labels = tt
dot_opens Meta = tt

plus_opens : (s : Stage) → Opens (after_plus s)
unfolding Opens
plus_opens Major = tt
plus_opens Minor = tt
plus_opens Patch = tt
plus_opens Revision = tt
plus_opens Labels = refl
plus_opens Meta = tt

number_opens : (s : Stage) (b : ℕ) → Opens (after_number s b)
unfolding Opens
number_opens s b = elim (cases_Bool (b == 46)) [
  | inl dot ↦ rw dot (dot_opens s)
  | inr no_dot ↦ elim (cases_Bool (b == 45)) [
    | inl dash ↦ rw (no_dot, dash) refl
    | inr no_dash ↦ elim (cases_Bool (b == 43)) [ inl plus ↦ rw (no_dot, no_dash, plus) refl | inr other ↦ rw (no_dot, no_dash, other) tt ]
  ]
]

part_opens : (s : Stage) (b : ℕ) → Opens (after_part s b)
unfolding Opens
part_opens s b = elim (cases_Bool (b == 46)) [
  | inl dot ↦ rw dot refl
  | inr no_dot ↦ elim (cases_Bool (b == 43)) [ inl plus ↦ rw (no_dot, plus) (plus_opens s) | inr other ↦ rw (no_dot, other) tt ]
]

next_opens : (s : Stage) (g : Bool) (b : ℕ) → is_piece_byte s b ≡ false → Opens (next_of s g b)
unfolding Opens next_of
next_opens s g b off = elim (cases_Bool (is_number_stage s)) [
  | inl number ↦ let other : is_ascii_digit b ≡ false = rw number at off in elim (cases_Bool g) [ inl begun ↦ rw (number, other, begun) (number_opens s b) | inr open_ ↦ rw (number, other, open_) tt ]
  | inr part ↦ let other : is_part_byte b ≡ false = rw part at off in elim (cases_Bool g) [ inl begun ↦ rw (part, other, begun) (part_opens s b) | inr open_ ↦ rw (part, other, open_) tt ]
]

begun_of : (o : Option Place) (q : Place) → Opens o → o ≡ Some q → q.begun ≡ false
unfolding Opens
begun_of o q opens is = let h : Opens (Some q) = subst Opens is opens in h

-- what is noted of a mark
note_mark : (s : Stage) (g : Bool) (at b : ℕ) (f : Found) → is_piece_byte s b ≡ false → note_of s g at b f ≡ with_mark s at b f
unfolding note_of
note_mark s g at b f off = elim (cases_Bool (is_ascii_digit b)) [
  | inl digit ↦
      let part : is_part_byte b ≡ true = grind arith in
      elim (cases_Bool (is_number_stage s)) [ inl number ↦ cc (rw (number, digit) at off) | inr other ↦ cc (rw (other, part) at off) ]
  | inr other ↦ rw other refl
]

-- bytes of a part are dotted
part_begun : (t : List ℕ) → list_all is_part_byte t ≡ true → is_dotted_from true t ≡ true
part_begun [] h = refl
part_begun (b ∷ t) h =
    let k = and_parts (is_part_byte b) (list_all is_part_byte t) h in
    rw k.0 (part_begun t k.1)

part_dotted : (b : ℕ) (t : List ℕ) → list_all is_part_byte (b ∷ t) ≡ true → is_dotted_from false (b ∷ t) ≡ true
part_dotted b t h =
    let k = and_parts (is_part_byte b) (list_all is_part_byte t) h in
    rw k.0 (part_begun t k.1)

-- the bytes of a piece
digit_bytes : (s : Stage) (t : List ℕ) → is_number_stage s ≡ true → list_all (is_piece_byte s) t ≡ list_all is_ascii_digit t
digit_bytes Major t number = refl
digit_bytes Minor t number = refl
digit_bytes Patch t number = refl
digit_bytes Revision t number = refl
digit_bytes Labels t number = cc number
digit_bytes Meta t number = cc number

part_bytes : (s : Stage) (t : List ℕ) → is_number_stage s ≡ false → list_all (is_piece_byte s) t ≡ list_all is_part_byte t
part_bytes Labels t part = refl
part_bytes Meta t part = refl
part_bytes Major t part = cc part
part_bytes Minor t part = cc part
part_bytes Patch t part = cc part
part_bytes Revision t part = cc part

-- no number stands in a part
number_off : (s : Stage) (n : Number) (f : Found) → is_number_stage s ≡ false → with_number s n f ≡ f
number_off Labels n f part = refl
number_off Meta n f part = refl
number_off Major n f part = cc part
number_off Minor n f part = cc part
number_off Patch n f part = cc part
number_off Revision n f part = cc part

-- a whole piece
piece_run : (t rest : List ℕ) (s : Stage) (at : ℕ) (f : Found) → list_all (is_piece_byte s) t ≡ true
    → walk_from (t ++ rest) at s false f ≡ walk_from rest (at + length t) s (nat_lt 0 (length t)) (with_piece s at t f)
piece_run [] rest s at f bytes = let e : at ≡ at + 0 = omega arith in ap (λ (k : ℕ). walk_from rest k s false f) e
piece_run (b ∷ t) rest s at f bytes =
    let some : nat_lt 0 (length (b ∷ t)) ≡ true = lt-ltb 0 (length (b ∷ t)) (omega arith) in
    elim (cases_Bool (is_number_stage s)) [
      | inl number ↦ rw some (number_run (b ∷ t) rest s at f number (sym (digit_bytes s (b ∷ t) number) ∙ bytes))
      | inr part ↦
          rw (some, number_off s (capped (digits_value 10 (b ∷ t)) at) f part)
          (part_run (b ∷ t) rest s false at f part (part_dotted b t (sym (part_bytes s (b ∷ t) part) ∙ bytes)))
    ]

-- what a text has from a place on
abbrev from_place : ℕ → List ℕ → List ℕ
from_place at text = take (length text - at) (drop at text)

from_is : (at : ℕ) (text : List ℕ) → from_place at text ≡ drop at text
from_is at text = take_all (length text - at) (drop at text) (omega (arith, length-drop at text))

-- a piece as it is read
module _ (text : List ℕ) (at : ℕ) (s : Stage) (f g : Found) (n : ℕ) (within : at ≤ length text) (le : n ≤ length (from_place at text)) where
  pub piece_inside : at + n ≤ length text
  piece_inside = omega (arith, rw from_is at le, length-drop at text)

  pub piece_step : Reaches (take at text) at (place s false) f → list_all (is_piece_byte s) (take n (from_place at text)) ≡ true
      → g ≡ with_piece s at (take n (from_place at text)) f → Reaches (take (at + n) text) (at + n) (place s (nat_lt 0 n)) g
  piece_step so_far bytes is rest =
      let t = take n (drop at text) in
      let len : length t ≡ n = length-take-le n (drop at text) (rw from_is at le) in
      let read : list_all (is_piece_byte s) t ≡ true = rw from_is at bytes in
      let found : g ≡ with_piece s at t f = rw from_is at is in
      ap (λ (l : List ℕ). walked (l ++ rest)) (take-add at n text)
      ∙ ap walked (append_assoc (take at text) t rest)
      ∙ so_far (t ++ rest)
      ∙ piece_run t rest s at f read
      ∙ ap (λ (k : ℕ). walk_from rest (at + k) s (nat_lt 0 k) (with_piece s at t f)) len
      ∙ ap (λ (x : Found). walk_from rest (at + n) s (nat_lt 0 n) x) (sym found)

  pub piece_stops : (n < length (from_place at text) → is_piece_byte s (get_or (from_place at text) n 0) ≡ false)
      → at + n < length text → is_piece_byte s (get_or text (at + n) 0) ≡ false
  piece_stops stops lt =
      let more : n < length (from_place at text) = rw from_is (omega (arith, length-drop at text)) in
      let byte : get_or (from_place at text) n 0 ≡ get_or text (at + n) 0 = ap (λ (l : List ℕ). get_or l n 0) (from_is at text) ∙ get_or-drop at text n 0 in
      ap (is_piece_byte s) (sym byte) ∙ stops more

module _ (text : List ℕ) (i : ℕ) (p : Place) (f : Found) (b : ℕ) (lt : i < length text) (is : b ≡ get_or text i 0) (so_far : Reaches (take i text) i p f) where
  pub mark_step : (q : Place) → is_piece_byte p.stage b ≡ false → next_of p.stage p.begun b ≡ Some q
      → Reaches (take (i + 1) text) (i + 1) (place q.stage false) (with_mark p.stage i b f)
  mark_step q off next =
      let open_ = begun_of (next_of p.stage p.begun b) q (next_opens p.stage p.begun b off) next in
      let more = subst (λ (x : Found). Reaches (take (i + 1) text) (i + 1) q x) (note_mark p.stage p.begun i b f off) (reaches_more text i p f b lt is so_far q next) in
      subst (λ (g : Bool). Reaches (take (i + 1) text) (i + 1) (place q.stage g) (with_mark p.stage i b f)) open_ more
