-- The whole walk over a text of the grammar.
use Rattle.std.proofs.Common.{◌≡◌, ◌≤◌, ◌+◌, ℕ, List, [], ◌∷◌, ◌++◌, length, true, false, ◌&&◌, Option, Some, None, refl, sym, ◌∙◌, ap, arith, append_assoc, append-nil, length-append}
use Rattle.std.specs.List.{list_all}
use Rattle.std.specs.Str.Parse.{digits_value}
use Rattle.std.proofs.lemmas.Bool.{and_parts}
use Rattle.nuget_version.specs.Parts.{is_dotted, marked}
use Rattle.nuget_version.specs.Grammar.{ArePieces, Pieces, behind_dots, is_number, join_dots, pieces_text}
use Rattle.nuget_version.specs.Walk.{capped, found_of, is_number_stage, mark_at, next_of, note_of, nothing_found, number_found, place, with_number}
use Rattle.nuget_version.specs.declared.walk.Found.{Found}
use Rattle.nuget_version.specs.declared.walk.Place.{Place}
use Rattle.nuget_version.specs.declared.walk.Stage.{Stage}
use Rattle.nuget_version.specs.declared.walk.Stage.TheVariants.{Major, Minor, Patch, Revision, Labels, Meta}
use Rattle.nuget_version.proofs.Dotted.{dotted_is}
use Rattle.nuget_version.proofs.Spelled.{NumbersRun, no_more, number_run, one_more, part_run, walk_from}

-- the numbers alone
abbrev with_numbers : List (List ℕ) → Found
with_numbers numbers = record nothing_found {
  major = number_found numbers 0;
  minor = number_found numbers 1;
  patch = number_found numbers 2;
  revision = number_found numbers 3;
}

abbrev AllRun : List (List ℕ) → List ℕ → Type 0
AllRun numbers rest =
    (t : Stage) × (is_number_stage t ≡ true) × (walk_from (join_dots numbers ++ rest) 0 Major false nothing_found ≡ walk_from rest (length (join_dots numbers)) t true (with_numbers numbers))

first_run : (a : List ℕ) (more : List (List ℕ)) (rest : List ℕ) → is_number a ≡ true
    → NumbersRun Major more rest (length a) (with_number Major (capped (digits_value 10 a) 0) nothing_found) (with_numbers (a ∷ more))
    → AllRun (a ∷ more) rest
first_run a more rest digits run =
    let start : walk_from (join_dots (a ∷ more) ++ rest) 0 Major false nothing_found ≡ walk_from (a ++ (behind_dots more ++ rest)) 0 Major false nothing_found =
    ap (λ (l : List ℕ). walk_from l 0 Major false nothing_found) (append_assoc a (behind_dots more) rest) in
    let from : 0 + length a ≡ length a = omega arith in
    let e : length a + length (behind_dots more) ≡ length (join_dots (a ∷ more)) = simp length-append in (
      run.0,
      run.1,
      start ∙ number_run a (behind_dots more ++ rest) Major 0 nothing_found refl digits
          ∙ ap (λ (k : ℕ). walk_from (behind_dots more ++ rest) k Major true (with_number Major (capped (digits_value 10 a) 0) nothing_found)) from
          ∙ run.2 ∙ ap (λ (k : ℕ). walk_from rest k run.0 true (with_numbers (a ∷ more))) e,
    )

-- one to four numbers
all_run : (numbers : List (List ℕ)) (rest : List ℕ) → 1 ≤ length numbers → length numbers ≤ 4 → list_all is_number numbers ≡ true → AllRun numbers rest
all_run [] rest some few digits = absurd (omega arith)
all_run (a ∷ []) rest some few digits =
    let p = and_parts (is_number a) true digits in
    first_run a [] rest p.0 (no_more Major rest (length a) _ refl)
all_run (a ∷ b ∷ []) rest some few digits =
    let p = and_parts (is_number a) (is_number b && true) digits in
    let q = and_parts (is_number b) true p.1 in
    first_run a (b ∷ []) rest p.0
    (one_more b [] rest Major Minor (length a) _ _ refl refl refl q.0
    (no_more Minor rest _ _ refl))
all_run (a ∷ b ∷ c ∷ []) rest some few digits =
    let p = and_parts (is_number a) (is_number b && (is_number c && true)) digits in
    let q = and_parts (is_number b) (is_number c && true) p.1 in
    let r = and_parts (is_number c) true q.1 in
    first_run a (b ∷ c ∷ []) rest p.0
    (one_more b (c ∷ []) rest Major Minor (length a) _ _ refl refl refl q.0
    (one_more c [] rest Minor Patch _ _ _ refl refl refl r.0
    (no_more Patch rest _ _ refl)))
all_run (a ∷ b ∷ c ∷ d ∷ []) rest some few digits =
    let p = and_parts (is_number a) (is_number b && (is_number c && (is_number d && true))) digits in
    let q = and_parts (is_number b) (is_number c && (is_number d && true)) p.1 in
    let r = and_parts (is_number c) (is_number d && true) q.1 in
    let s = and_parts (is_number d) true r.1 in
    first_run a (b ∷ c ∷ d ∷ []) rest p.0
    (one_more b (c ∷ d ∷ []) rest Major Minor (length a) _ _ refl refl refl q.0
    (one_more c (d ∷ []) rest Minor Patch _ _ _ refl refl refl r.0
    (one_more d [] rest Patch Revision _ _ _ refl refl refl s.0
    (no_more Revision rest _ _ refl))))
all_run (a ∷ b ∷ c ∷ d ∷ e ∷ more) rest some few digits = absurd (omega arith)

-- metadata behind its mark
meta_run : (s : Stage) (at : ℕ) (f : Found) (b : ℕ) (t : List ℕ) → next_of s true 43 ≡ Some (place Meta false) → is_dotted (b ∷ t) ≡ true
    → walk_from (43 ∷ b ∷ t) at s true f ≡ Some (place Meta true, record f { plus = Some at })
unfolding note_of
meta_run s at f b t leads dotted =
    rw leads (ap (λ (l : List ℕ). walk_from l (at + 1) Meta false (record f { plus = Some at })) (sym (append-nil (b ∷ t))) ∙ part_run (b ∷ t) [] Meta false (at + 1) (record f { plus = Some at }) refl (sym (dotted_is b t) ∙ dotted))

-- what is left of a text behind its numbers or its labels
meta_end : (s : Stage) (at : ℕ) (f : Found) (meta : List ℕ) → next_of s true 43 ≡ Some (place Meta false) → is_dotted meta ≡ true
    → (t : Stage) × (walk_from (marked 43 meta) at s true (record f { plus = None }) ≡ Some (place t true, record f { plus = mark_at at meta }))
meta_end s at f [] leads dotted = (s, refl)
meta_end s at f (b ∷ t) leads dotted = (Meta, meta_run s at (record f { plus = None }) b t leads dotted)

abbrev MarksEnd : Stage → ℕ → Found → List ℕ → List ℕ → Type 0
MarksEnd s at f labels meta =
    (t : Stage) × (walk_from (marked 45 labels ++ marked 43 meta) at s true (record f { dash = None; plus = None }) ≡ Some (place t true, record f { dash = mark_at at labels; plus = mark_at (at + length (marked 45 labels)) meta }))

number_leads : (s : Stage) → is_number_stage s ≡ true → next_of s true 43 ≡ Some (place Meta false)
unfolding next_of
number_leads s number = rw number refl

labels_lead : next_of Labels true 43 ≡ Some (place Meta false)
unfolding next_of
labels_lead = refl

labels_run : (s : Stage) (at : ℕ) (f : Found) (b : ℕ) (t rest : List ℕ) → is_number_stage s ≡ true → is_dotted (b ∷ t) ≡ true
    → walk_from (45 ∷ ((b ∷ t) ++ rest)) at s true f ≡ walk_from rest (at + 1 + length (b ∷ t)) Labels true (record f { dash = Some at })
unfolding next_of note_of
labels_run s at f b t rest number dotted =
    rw number (part_run (b ∷ t) rest Labels false (at + 1) (record f { dash = Some at }) refl (sym (dotted_is b t) ∙ dotted))

marks_end : (s : Stage) (at : ℕ) (f : Found) (labels meta : List ℕ) → is_number_stage s ≡ true → is_dotted labels ≡ true → is_dotted meta ≡ true → MarksEnd s at f labels meta
marks_end s at f [] meta number labels_dotted meta_dotted =
    let e : at ≡ at + 0 = omega arith in
    let m = meta_end s at (record f { dash = None }) meta (number_leads s number) meta_dotted in
    (m.0, m.1 ∙ ap (λ (k : ℕ). let w : Option (Place × Found) = Some (place m.0 true, record f { dash = None; plus = mark_at k meta }) in w) e)
marks_end s at f (b ∷ t) meta number labels_dotted meta_dotted =
    let e : at + 1 + length (b ∷ t) ≡ at + length (45 ∷ b ∷ t) = omega arith in
    let m = meta_end Labels (at + 1 + length (b ∷ t)) (record f { dash = Some at }) meta labels_lead meta_dotted in (
      m.0,
      labels_run s at (record f { dash = None; plus = None }) b t (marked 43 meta) number labels_dotted ∙ m.1
          ∙ ap (λ (k : ℕ). let w : Option (Place × Found) = Some (place m.0 true, record f { dash = Some at; plus = mark_at k meta }) in w) e,
    )

-- the walk over a text of the grammar comes to its end, and finds its pieces
pub found_in : (p : Pieces) → ArePieces p → (t : Stage) × (walk_from (pieces_text p) 0 Major false nothing_found ≡ Some (place t true, found_of p))
unfolding found_of
found_in p are =
    let r = all_run p.numbers (marked 45 p.labels ++ marked 43 p.meta) are.some are.few are.digits in
    let m = marks_end r.0 (length (join_dots p.numbers)) (with_numbers p.numbers) p.labels p.meta r.1 are.labels are.meta in
    (m.0, r.2 ∙ m.1)
