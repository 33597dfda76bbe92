-- What the walk finds in a text of the grammar.
use Rattle.std.proofs.Common.{◌≡◌, ◌≤◌, ◌+◌, ◌-◌, ◌*◌, min, ℕ, List, [], ◌∷◌, ◌++◌, length, Bool, true, false, ◌&&◌, Option, Some, None, refl, ◌∙◌, ap, arith, inl, inr, append_assoc, length-append}
use Rattle.std.specs.Prelude.{◌==◌}
use Rattle.std.specs.List.{list_all}
use Rattle.std.specs.Char.{digit_value, is_ascii_digit}
use Rattle.std.specs.Str.Parse.{digits_value, digits_value_after}
use Rattle.std.proofs.lemmas.Bool.{cases_Bool, and_parts, eqb-true}
use Rattle.nuget_version.specs.Parts.{is_part_byte}
use Rattle.nuget_version.specs.Grammar.{behind_dots, is_number}
use Rattle.nuget_version.specs.Walk.{after_dot, capped, first_digit, is_number_stage, next_of, note_of, number_of, place, with_digit, with_digit_at, with_number}
use Rattle.nuget_version.specs.declared.walk.Found.{Found}
use Rattle.nuget_version.specs.declared.walk.Number.{Number}
use Rattle.nuget_version.specs.declared.walk.Place.{Place}
use Rattle.nuget_version.specs.declared.walk.Stage.{Stage}
use Rattle.nuget_version.specs.declared.walk.Stage.TheVariants.{Major, Minor, Patch, Revision, Labels, Meta}
use Rattle.nuget_version.proofs.Accepted.{accepts, goes_on}
use Rattle.nuget_version.proofs.Dotted.{is_dotted_from}

abbrev pub goes_to : (Stage → Bool → Option (Place × Found)) → Option Place → Option (Place × Found)
goes_to step None = None
goes_to step (Some p) = step p.stage p.begun

-- the walk over a text: the place in the end, and what was found
abbrev pub walk_from : List ℕ → ℕ → Stage → Bool → Found → Option (Place × Found)
walk_from [] at stage begun found = Some (place stage begun, found)
walk_from (b ∷ bs) at stage begun found =
    goes_to (λ s g. walk_from bs (at + 1) s g (note_of stage begun at b found)) (next_of stage begun b)

abbrev pub ends_begun : Option (Place × Found) → Bool
ends_begun None = false
ends_begun (Some w) = w.0.begun

ends-goes_to : (bs : List ℕ) (at : ℕ) (found : Found) (next : Option Place)
    → ((s : Stage) (g : Bool) → accepts bs s g ≡ ends_begun (walk_from bs at s g found))
    → goes_on (accepts bs) next ≡ ends_begun (goes_to (λ s g. walk_from bs at s g found) next)
ends-goes_to bs at found None ih = refl
ends-goes_to bs at found (Some p) ih = ih p.stage p.begun

-- the walk accepts a text exactly where it comes to the end within a number or a part
pub accepts_is : (text : List ℕ) (at : ℕ) (s : Stage) (g : Bool) (found : Found) → accepts text s g ≡ ends_begun (walk_from text at s g found)
accepts_is [] at s g found = refl
accepts_is (b ∷ bs) at s g found =
    ends-goes_to bs (at + 1) (note_of s g at b found) (next_of s g b) (λ t h. accepts_is bs (at + 1) t h (note_of s g at b found))

-- steps
step_digit : (s : Stage) (g : Bool) (b : ℕ) (bs : List ℕ) (at : ℕ) (f : Found) → is_number_stage s ≡ true → is_ascii_digit b ≡ true
    → walk_from (b ∷ bs) at s g f ≡ walk_from bs (at + 1) s true (with_digit_at s g at (b - 48) f)
unfolding next_of note_of
step_digit s g b bs at f number digit = rw (number, digit) refl

step_part : (s : Stage) (g : Bool) (b : ℕ) (bs : List ℕ) (at : ℕ) (f : Found) → is_number_stage s ≡ false → is_part_byte b ≡ true
    → walk_from (b ∷ bs) at s g f ≡ walk_from bs (at + 1) s true f
unfolding next_of note_of
step_part Labels g b bs at f part byte = elim (cases_Bool (is_ascii_digit b)) [
  | inl digit ↦ rw (byte, digit) refl
  | inr other ↦ let no_plus : (b == 43) ≡ false = grind arith in rw (byte, other, no_plus) (elim (cases_Bool (b == 45)) [ inl dash ↦ rw dash refl | inr no_dash ↦ rw no_dash refl ])
]
step_part Meta g b bs at f part byte = elim (cases_Bool (is_ascii_digit b)) [
  | inl digit ↦ rw (byte, digit) refl
  | inr other ↦ let no_plus : (b == 43) ≡ false = grind arith in rw (byte, other, no_plus) (elim (cases_Bool (b == 45)) [ inl dash ↦ rw dash refl | inr no_dash ↦ rw no_dash refl ])
]
step_part Major g b bs at f part byte = cc part
step_part Minor g b bs at f part byte = cc part
step_part Patch g b bs at f part byte = cc part
step_part Revision g b bs at f part byte = cc part

step_part_dot : (s : Stage) (bs : List ℕ) (at : ℕ) (f : Found) → is_number_stage s ≡ false
    → walk_from (46 ∷ bs) at s true f ≡ walk_from bs (at + 1) s false f
unfolding next_of note_of
step_part_dot s bs at f part = rw part refl

-- a run of a dotted text
pub part_run : (t rest : List ℕ) (s : Stage) (g : Bool) (at : ℕ) (f : Found) → is_number_stage s ≡ false → is_dotted_from g t ≡ true
    → walk_from (t ++ rest) at s g f ≡ walk_from rest (at + length t) s true f
part_run [] rest s g at f part h = rw h (let e : at ≡ at + 0 = omega arith in ap (λ (k : ℕ). walk_from rest k s true f) e)
part_run (b ∷ t) rest s g at f part h =
    let e : at + 1 + length t ≡ at + length (b ∷ t) = omega arith in
    elim (cases_Bool (is_part_byte b)) [
      | inl byte ↦
          step_part s g b (t ++ rest) at f part byte ∙ part_run t rest s true (at + 1) f part (rw byte at h) ∙ ap (λ (k : ℕ). walk_from rest k s true f) e
      | inr other ↦ elim (cases_Bool (g && (b == 46))) [
        | inl dot ↦
            let begun : g ≡ true = (and_parts g (b == 46) dot).0 in
            let is : b ≡ 46 = eqb-true b 46 (and_parts g (b == 46) dot).1 in
            rw (begun, is) (step_part_dot s (t ++ rest) at f part ∙ part_run t rest s false (at + 1) f part (rw (other, dot) at h) ∙ ap (λ (k : ℕ). walk_from rest k s true f) e)
        | inr no_dot ↦ cc (rw (other, no_dot) at h)
      ]
    ]

-- numbers and the stages that keep them
pub number-with : (s : Stage) (n : Number) (f : Found) → is_number_stage s ≡ true → number_of s (with_number s n f) ≡ n
number-with Major n f number = refl
number-with Minor n f number = refl
number-with Patch n f number = refl
number-with Revision n f number = refl
number-with Labels n f number = cc number
number-with Meta n f number = cc number

pub with-with : (s : Stage) (n m : Number) (f : Found) → with_number s m (with_number s n f) ≡ with_number s m f
with-with Major n m f = refl
with-with Minor n m f = refl
with-with Patch n m f = refl
with-with Revision n m f = refl
with-with Labels n m f = refl
with-with Meta n m f = refl

with-number : (s : Stage) (f : Found) → with_number s (number_of s f) f ≡ f
with-number Major f = refl
with-number Minor f = refl
with-number Patch f = refl
with-number Revision f = refl
with-number Labels f = refl
with-number Meta f = refl

pub digit-is : (b : ℕ) → is_ascii_digit b ≡ true → (digit_value b ≡ b - 48) × (b - 48 ≤ 9)
digit-is b h = grind arith

capped-digit : (v at d : ℕ) → with_digit (capped v at) d ≡ capped (v * 10 + d) at
capped-digit v at d =
    let e : min (min v 2147483648 * 10 + d) 2147483648 ≡ min (v * 10 + d) 2147483648 = omega arith in
    ap (λ (k : ℕ). let n : Number = record { value = k; at = at } in n) e

-- a run of digits, from within a number
digits_run : (ds rest : List ℕ) (s : Stage) (v start at : ℕ) (f : Found) → is_number_stage s ≡ true → list_all is_ascii_digit ds ≡ true
    → number_of s f ≡ capped v start
    → walk_from (ds ++ rest) at s true f ≡ walk_from rest (at + length ds) s true (with_number s (capped (digits_value_after 10 v ds) start) f)
digits_run [] rest s v start at f number digits is =
    let e : at ≡ at + 0 = omega arith in
    rw (← is) (rw with-number (ap (λ (k : ℕ). walk_from rest k s true f) e))
digits_run (b ∷ ds) rest s v start at f number digits is =
    let h = and_parts (is_ascii_digit b) (list_all is_ascii_digit ds) digits in
    let d = digit-is b h.0 in
    let next = with_digit (number_of s f) (b - 48) in
    let after = with_number s next f in
    let kept : number_of s after ≡ capped (v * 10 + digit_value b) start =
    number-with s next f number ∙ rw (is, d.0) (capped-digit v start (b - 48)) in
    let e : at + 1 + length ds ≡ at + length (b ∷ ds) = omega arith in
    let whole = capped (digits_value_after 10 v (b ∷ ds)) start in
    step_digit s true b (ds ++ rest) at f number h.0
    ∙ digits_run ds rest s (v * 10 + digit_value b) start (at + 1) after number h.1 kept
    ∙ ap (λ (k : ℕ). walk_from rest k s true (with_number s whole after)) e
    ∙ ap (λ (x : Found). walk_from rest (at + length (b ∷ ds)) s true x) (with-with s next whole f)

-- a whole number
pub number_run : (n rest : List ℕ) (s : Stage) (at : ℕ) (f : Found) → is_number_stage s ≡ true → is_number n ≡ true
    → walk_from (n ++ rest) at s false f ≡ walk_from rest (at + length n) s true (with_number s (capped (digits_value 10 n) at) f)
number_run [] rest s at f number digits = cc digits
number_run (b ∷ ds) rest s at f number digits =
    let h = and_parts (is_ascii_digit b) (list_all is_ascii_digit ds) digits in
    let d = digit-is b h.0 in
    let first = first_digit at (b - 48) in
    let after = with_number s first f in
    let small : b - 48 ≡ min (0 * 10 + digit_value b) 2147483648 = rw d.0 (omega (arith, d.1)) in
    let kept : number_of s after ≡ capped (0 * 10 + digit_value b) at =
    number-with s first f number ∙ ap (λ (k : ℕ). let m : Number = record { value = k; at = at } in m) small in
    let e : at + 1 + length ds ≡ at + length (b ∷ ds) = omega arith in
    let whole = capped (digits_value 10 (b ∷ ds)) at in
    step_digit s false b (ds ++ rest) at f number h.0
    ∙ digits_run ds rest s (0 * 10 + digit_value b) at (at + 1) after number h.1 kept
    ∙ ap (λ (k : ℕ). walk_from rest k s true (with_number s whole after)) e
    ∙ ap (λ (x : Found). walk_from rest (at + length (b ∷ ds)) s true x) (with-with s first whole f)

-- a dot, and the number behind it
dot_run : (n rest : List ℕ) (s t : Stage) (at : ℕ) (f : Found) → is_number_stage s ≡ true → is_number_stage t ≡ true
    → after_dot s ≡ Some (place t false) → is_number n ≡ true
    → walk_from (46 ∷ (n ++ rest)) at s true f ≡ walk_from rest (at + 1 + length n) t true (with_number t (capped (digits_value 10 n) (at + 1)) f)
unfolding next_of note_of
dot_run n rest s t at f number next leads digits = rw (number, leads) (number_run n rest t (at + 1) f next digits)

abbrev pub NumbersRun : Stage → List (List ℕ) → List ℕ → ℕ → Found → Found → Type 0
NumbersRun s numbers rest at f after =
    (t : Stage) × (is_number_stage t ≡ true) × (walk_from (behind_dots numbers ++ rest) at s true f ≡ walk_from rest (at + length (behind_dots numbers)) t true after)

pub no_more : (s : Stage) (rest : List ℕ) (at : ℕ) (f : Found) → is_number_stage s ≡ true → NumbersRun s [] rest at f f
no_more s rest at f number =
    let e : at ≡ at + 0 = omega arith in
    (s, number, ap (λ (k : ℕ). walk_from rest k s true f) e)

-- one number more before others
pub one_more : (n : List ℕ) (more : List (List ℕ)) (rest : List ℕ) (s t : Stage) (at : ℕ) (f after : Found) → is_number_stage s ≡ true → is_number_stage t ≡ true
    → after_dot s ≡ Some (place t false) → is_number n ≡ true
    → NumbersRun t more rest (at + 1 + length n) (with_number t (capped (digits_value 10 n) (at + 1)) f) after
    → NumbersRun s (n ∷ more) rest at f after
one_more n more rest s t at f after number next leads digits run =
    let e : at + 1 + length n + length (behind_dots more) ≡ at + length (behind_dots (n ∷ more)) = simp length-append (omega arith) in
    let start : walk_from (behind_dots (n ∷ more) ++ rest) at s true f ≡ walk_from (46 ∷ (n ++ (behind_dots more ++ rest))) at s true f =
    ap (λ (l : List ℕ). walk_from (46 ∷ l) at s true f) (append_assoc n (behind_dots more) rest) in (
      run.0,
      run.1,
      start ∙ dot_run n (behind_dots more ++ rest) s t at f number next leads digits ∙ run.2
          ∙ ap (λ (k : ℕ). walk_from rest k run.0 true after) e,
    )
