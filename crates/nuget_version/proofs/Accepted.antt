-- A text that the walk accepts is in the grammar.
use Rattle.std.proofs.Common.{◌≡◌, ◌≤◌, ◌+◌, ℕ, List, [], ◌∷◌, ◌++◌, length, Bool, true, false, Option, Some, None, refl, sym, ◌∙◌, ap, arith, inl, inr}
use Rattle.std.specs.Prelude.{◌==◌}
use Rattle.std.specs.List.{list_all}
use Rattle.std.specs.Char.{is_ascii_digit}
use Rattle.std.proofs.lemmas.Bool.{cases_Bool, and_from, eqb-true}
use Rattle.nuget_version.specs.Parts.{is_dotted, is_part_byte, marked}
use Rattle.nuget_version.specs.Grammar.{IsVersionText, behind_dots, is_number}
use Rattle.nuget_version.specs.Walk.{after_dot, next_in_number, next_in_part, next_of}
use Rattle.nuget_version.specs.declared.walk.Place.{Place}
use Rattle.nuget_version.specs.declared.walk.Stage.{Stage}
use Rattle.nuget_version.specs.declared.walk.Stage.TheVariants.{Major, Minor, Patch, Revision, Labels, Meta}
use Rattle.nuget_version.proofs.Dotted.{dotted_is, is_dotted_from}

abbrev pub goes_on : (Stage → Bool → Bool) → Option Place → Bool
goes_on test None = false
goes_on test (Some p) = test p.stage p.begun

-- whether the walk takes the whole text, and ends within a number or a part
abbrev pub accepts : List ℕ → Stage → Bool → Bool
accepts [] stage begun = begun
accepts (b ∷ bs) stage begun = goes_on (accepts bs) (next_of stage begun b)

-- the rest of a text from within its numbers, with so many of them left
record GoesNumber (left : ℕ) (begun : Bool) (text : List ℕ) : Type 0 where
  digits : List ℕ
  more : List (List ℕ)
  labels : List ℕ
  meta : List ℕ
  are_digits : list_all is_ascii_digit digits ≡ true
  first : begun ≡ false → is_number digits ≡ true
  numbers : list_all is_number more ≡ true
  few : length more ≤ left
  labels_dotted : is_dotted labels ≡ true
  meta_dotted : is_dotted meta ≡ true
  spelled : text ≡ (digits ++ behind_dots more) ++ (marked 45 labels ++ marked 43 meta)

-- the rest of a text from within its labels
record GoesLabels (begun : Bool) (text : List ℕ) : Type 0 where
  labels : List ℕ
  meta : List ℕ
  dotted : is_dotted_from begun labels ≡ true
  meta_dotted : is_dotted meta ≡ true
  spelled : text ≡ labels ++ marked 43 meta

abbrev left_after : Stage → ℕ
left_after Major = 3
left_after Minor = 2
left_after Patch = 1
left_after stage = 0

abbrev Goes : Stage → Bool → List ℕ → Type 0
Goes Labels begun text = GoesLabels begun text
Goes Meta begun text = is_dotted_from begun text ≡ true
Goes stage begun text = GoesNumber (left_after stage) begun text

number_end : (left : ℕ) → GoesNumber left true []
unfolding is_dotted
number_end left = record {
  digits = [];
  more = [];
  labels = [];
  meta = [];
  are_digits = refl;
  first = λ e. cc;
  numbers = refl;
  few = omega arith;
  labels_dotted = refl;
  meta_dotted = refl;
  spelled = refl;
}

number_digit : (left : ℕ) (begun : Bool) (b : ℕ) (bs : List ℕ) → is_ascii_digit b ≡ true → GoesNumber left true bs → GoesNumber left begun (b ∷ bs)
number_digit left begun b bs digit g = record {
  digits = b ∷ g.digits;
  more = g.more;
  labels = g.labels;
  meta = g.meta;
  are_digits = and_from _ _ digit g.are_digits;
  first = λ e. and_from _ _ digit g.are_digits;
  numbers = g.numbers;
  few = g.few;
  labels_dotted = g.labels_dotted;
  meta_dotted = g.meta_dotted;
  spelled = ap (λ (l : List ℕ). b ∷ l) g.spelled;
}

number_dot : (left : ℕ) (bs : List ℕ) → GoesNumber left false bs → GoesNumber (left + 1) true (46 ∷ bs)
number_dot left bs g = record {
  digits = [];
  more = g.digits ∷ g.more;
  labels = g.labels;
  meta = g.meta;
  are_digits = refl;
  first = λ e. cc;
  numbers = and_from _ _ (g.first refl) g.numbers;
  few = omega (arith, g.few);
  labels_dotted = g.labels_dotted;
  meta_dotted = g.meta_dotted;
  spelled = ap (λ (l : List ℕ). 46 ∷ l) g.spelled;
}

-- what goes on as a part isn't empty
mark_spelled : (mark : ℕ) (t rest : List ℕ) → is_dotted_from false t ≡ true → (is_dotted t ≡ true) × (marked mark t ++ rest ≡ mark ∷ (t ++ rest))
mark_spelled mark [] rest h = cc h
mark_spelled mark (b ∷ t) rest h = (dotted_is b t ∙ h, refl)

number_dash : (left : ℕ) (bs : List ℕ) → GoesLabels false bs → GoesNumber left true (45 ∷ bs)
number_dash left bs g =
    let m = mark_spelled 45 g.labels (marked 43 g.meta) g.dotted in
    record {
      digits = [];
      more = [];
      labels = g.labels;
      meta = g.meta;
      are_digits = refl;
      first = λ e. cc;
      numbers = refl;
      few = omega arith;
      labels_dotted = m.0;
      meta_dotted = g.meta_dotted;
      spelled = ap (λ (l : List ℕ). 45 ∷ l) g.spelled ∙ sym m.1;
    }

meta_spelled : (bs : List ℕ) → is_dotted_from false bs ≡ true → (is_dotted bs ≡ true) × (43 ∷ bs ≡ marked 43 bs)
meta_spelled [] h = cc h
meta_spelled (b ∷ bs) h = (dotted_is b bs ∙ h, refl)

number_plus : (left : ℕ) (bs : List ℕ) → is_dotted_from false bs ≡ true → GoesNumber left true (43 ∷ bs)
unfolding is_dotted
number_plus left bs h =
    let m = meta_spelled bs h in
    record {
      digits = [];
      more = [];
      labels = [];
      meta = bs;
      are_digits = refl;
      first = λ e. cc;
      numbers = refl;
      few = omega arith;
      labels_dotted = refl;
      meta_dotted = m.0;
      spelled = m.1;
    }

labels_end : GoesLabels true []
unfolding is_dotted
labels_end = record { labels = []; meta = []; dotted = refl; meta_dotted = refl; spelled = refl }

labels_byte : (begun : Bool) (b : ℕ) (bs : List ℕ) → is_part_byte b ≡ true → GoesLabels true bs → GoesLabels begun (b ∷ bs)
labels_byte begun b bs part g = record {
  labels = b ∷ g.labels;
  meta = g.meta;
  dotted = rw part g.dotted;
  meta_dotted = g.meta_dotted;
  spelled = ap (λ (l : List ℕ). b ∷ l) g.spelled;
}

labels_dot : (bs : List ℕ) → GoesLabels false bs → GoesLabels true (46 ∷ bs)
labels_dot bs g = record {
  labels = 46 ∷ g.labels;
  meta = g.meta;
  dotted = g.dotted;
  meta_dotted = g.meta_dotted;
  spelled = ap (λ (l : List ℕ). 46 ∷ l) g.spelled;
}

labels_plus : (bs : List ℕ) → is_dotted_from false bs ≡ true → GoesLabels true (43 ∷ bs)
labels_plus bs h =
    let m = meta_spelled bs h in
    record { labels = []; meta = bs; dotted = refl; meta_dotted = m.0; spelled = m.1 }

-- one step in a number
number_step : (s : Stage) (left : ℕ) (begun : Bool) (b : ℕ) (bs : List ℕ)
    → (accepts bs s true ≡ true → GoesNumber left true bs)
    → (goes_on (accepts bs) (after_dot s) ≡ true → GoesNumber left true (46 ∷ bs))
    → (accepts bs Labels false ≡ true → GoesLabels false bs)
    → (accepts bs Meta false ≡ true → is_dotted_from false bs ≡ true)
    → goes_on (accepts bs) (next_in_number s begun b) ≡ true → GoesNumber left begun (b ∷ bs)
number_step s left false b bs digit dot labels meta h = elim (cases_Bool (is_ascii_digit b)) [
  | inl is ↦ number_digit left false b bs is (digit (rw is at h))
  | inr other ↦ cc (rw other at h)
]
number_step s left true b bs digit dot labels meta h = elim (cases_Bool (is_ascii_digit b)) [
  | inl is ↦ number_digit left true b bs is (digit (rw is at h))
  | inr other ↦ elim (cases_Bool (b == 46)) [
    | inl is ↦ let e : b ≡ 46 = eqb-true b 46 is in rw e (dot (rw (other, is) at h))
    | inr no_dot ↦ elim (cases_Bool (b == 45)) [
      | inl is ↦ let e : b ≡ 45 = eqb-true b 45 is in rw e (number_dash left bs (labels (rw (other, no_dot, is) at h)))
      | inr no_dash ↦ elim (cases_Bool (b == 43)) [
        | inl is ↦ let e : b ≡ 43 = eqb-true b 43 is in rw e (number_plus left bs (meta (rw (other, no_dot, no_dash, is) at h)))
        | inr no_plus ↦ cc (rw (other, no_dot, no_dash, no_plus) at h)
      ]
    ]
  ]
]

-- one step in the labels
labels_step : (begun : Bool) (b : ℕ) (bs : List ℕ)
    → ((on : Bool) → accepts bs Labels on ≡ true → GoesLabels on bs)
    → (accepts bs Meta false ≡ true → is_dotted_from false bs ≡ true)
    → goes_on (accepts bs) (next_in_part Labels begun b) ≡ true → GoesLabels begun (b ∷ bs)
labels_step false b bs labels meta h = elim (cases_Bool (is_part_byte b)) [
  | inl is ↦ labels_byte false b bs is (labels true (rw is at h))
  | inr other ↦ cc (rw other at h)
]
labels_step true b bs labels meta h = elim (cases_Bool (is_part_byte b)) [
  | inl is ↦ labels_byte true b bs is (labels true (rw is at h))
  | inr other ↦ elim (cases_Bool (b == 46)) [
    | inl is ↦ let e : b ≡ 46 = eqb-true b 46 is in rw e (labels_dot bs (labels false (rw (other, is) at h)))
    | inr no_dot ↦ elim (cases_Bool (b == 43)) [
      | inl is ↦ let e : b ≡ 43 = eqb-true b 43 is in rw e (labels_plus bs (meta (rw (other, no_dot, is) at h)))
      | inr no_plus ↦ cc (rw (other, no_dot, no_plus) at h)
    ]
  ]
]

-- one step in the metadata
meta_step : (begun : Bool) (b : ℕ) (bs : List ℕ)
    → ((on : Bool) → accepts bs Meta on ≡ true → is_dotted_from on bs ≡ true)
    → goes_on (accepts bs) (next_in_part Meta begun b) ≡ true → is_dotted_from begun (b ∷ bs) ≡ true
meta_step false b bs meta h = elim (cases_Bool (is_part_byte b)) [
  | inl is ↦ rw is (meta true (rw is at h))
  | inr other ↦ cc (rw other at h)
]
meta_step true b bs meta h = elim (cases_Bool (is_part_byte b)) [
  | inl is ↦ rw is (meta true (rw is at h))
  | inr other ↦ elim (cases_Bool (b == 46)) [
    | inl is ↦ rw (other, is) (meta false (rw (other, is) at h))
    | inr no_dot ↦ elim (cases_Bool (b == 43)) [
      | inl is ↦ cc (rw (other, no_dot, is) at h)
      | inr no_plus ↦ cc (rw (other, no_dot, no_plus) at h)
    ]
  ]
]

goes : (text : List ℕ) (s : Stage) (begun : Bool) → accepts text s begun ≡ true → Goes s begun text
unfolding next_of
goes [] Major begun h = rw h (number_end 3)
goes [] Minor begun h = rw h (number_end 2)
goes [] Patch begun h = rw h (number_end 1)
goes [] Revision begun h = rw h (number_end 0)
goes [] Labels begun h = rw h labels_end
goes [] Meta begun h = h
goes (b ∷ bs) Major begun h =
    number_step Major 3 begun b bs (goes bs Major true) (λ e. number_dot 2 bs (goes bs Minor false e)) (goes bs Labels false) (goes bs Meta false) h
goes (b ∷ bs) Minor begun h =
    number_step Minor 2 begun b bs (goes bs Minor true) (λ e. number_dot 1 bs (goes bs Patch false e)) (goes bs Labels false) (goes bs Meta false) h
goes (b ∷ bs) Patch begun h =
    number_step Patch 1 begun b bs (goes bs Patch true) (λ e. number_dot 0 bs (goes bs Revision false e)) (goes bs Labels false) (goes bs Meta false) h
goes (b ∷ bs) Revision begun h =
    number_step Revision 0 begun b bs (goes bs Revision true) (λ e. cc) (goes bs Labels false) (goes bs Meta false) h
goes (b ∷ bs) Labels begun h = labels_step begun b bs (goes bs Labels) (goes bs Meta false) h
goes (b ∷ bs) Meta begun h = meta_step begun b bs (goes bs Meta) h

pub accepted : (text : List ℕ) → accepts text Major false ≡ true → IsVersionText text
accepted text h =
    let g : GoesNumber 3 false text = goes text Major false h in (
      record { numbers = g.digits ∷ g.more; labels = g.labels; meta = g.meta },
      record {
        are = record {
          some = omega arith;
          few = omega (arith, g.few);
          digits = and_from _ _ (g.first refl) g.numbers;
          labels = g.labels_dotted;
          meta = g.meta_dotted;
        };
        spelled = g.spelled;
      },
    )
