-- Dotted texts, read byte by byte.
use Rattle.std.proofs.Common.{◌≡◌, ℕ, List, [], ◌∷◌, Bool, true, false, ◌&&◌, ◌||◌, refl, sym, ◌∙◌, arith, inl, inr}
use Rattle.std.specs.Prelude.{◌==◌, if◌then◌else◌}
use Rattle.std.specs.List.{list_all}
use Rattle.std.proofs.lemmas.Bool.{cases_Bool, eqb-true}
use Rattle.nuget_version.specs.Parts.{is_dotted, is_part, is_part_byte, parts}

-- whether a text goes on with dotted parts; begun: a byte of the part was read
abbrev pub is_dotted_from : Bool → List ℕ → Bool
is_dotted_from begun [] = begun
is_dotted_from begun (b ∷ bs) = if is_part_byte b then is_dotted_from true bs else (if begun && (b == 46) then is_dotted_from false bs else false)

-- the same of parts whose first one may be empty
abbrev are_open : List (List ℕ) → Bool
are_open [] = true
are_open (first ∷ others) = list_all is_part_byte first && list_all is_part others

-- a text has at least one part
pub parts-shape : (t : List ℕ) → (first : List ℕ) × (others : List (List ℕ)) × (parts t ≡ first ∷ others)
parts-shape [] = ([], [], refl)
parts-shape (b ∷ rest) = elim (cases_Bool (b == 46)) [
  | inl dot ↦ ([], parts rest, rw dot refl)
  | inr other ↦ let r = parts-shape rest in (b ∷ r.0, r.1, rw (other, r.2) refl)
]

abbrev Agree : List ℕ → Type 0
Agree t = (are_open (parts t) ≡ is_dotted_from true t) × (list_all is_part (parts t) ≡ is_dotted_from false t)

agree-dot : (b : ℕ) (rest : List ℕ) → (b == 46) ≡ true → Agree rest → Agree (b ∷ rest)
agree-dot b rest dot ih =
    let is : b ≡ 46 = eqb-true b 46 dot in
    rw is (ih.1, refl)

agree-other : (b : ℕ) (rest : List ℕ) → (b == 46) ≡ false → Agree rest → Agree (b ∷ rest)
agree-other b rest other ih =
    let r = parts-shape rest in
    elim (cases_Bool (is_part_byte b)) [
      | inl part ↦ (rw (other, r.2, part) (rw r.2 at ih.0), rw (other, r.2, part) (rw r.2 at ih.0))
      | inr bad ↦ (rw (other, r.2, bad) refl, rw (other, r.2, bad) refl)
    ]

agree : (t : List ℕ) → Agree t
agree [] = (refl, refl)
agree (b ∷ rest) = elim (cases_Bool (b == 46)) [
  | inl dot ↦ agree-dot b rest dot (agree rest)
  | inr other ↦ agree-other b rest other (agree rest)
]

-- a text that isn't empty is dotted exactly where reading it ends within a part
pub dotted_is : (b : ℕ) (rest : List ℕ) → is_dotted (b ∷ rest) ≡ is_dotted_from false (b ∷ rest)
unfolding is_dotted
dotted_is b rest = (agree (b ∷ rest)).1

-- a byte of a part, or a dot
abbrev pub is_text_byte : ℕ → Bool
is_text_byte b = is_part_byte b || (b == 46)

bytes_from : (begun : Bool) (t : List ℕ) → is_dotted_from begun t ≡ true → list_all is_text_byte t ≡ true
bytes_from begun [] h = refl
bytes_from begun (b ∷ rest) h = elim (cases_Bool (is_part_byte b)) [
  | inl part ↦ rw part (bytes_from true rest (rw part at h))
  | inr bad ↦ elim (cases_Bool (begun && (b == 46))) [
    | inl dot ↦ let is : (b == 46) ≡ true = grind arith in rw (bad, is) (bytes_from false rest (rw (bad, dot) at h))
    | inr no_dot ↦ cc (rw (bad, no_dot) at h)
  ]
]

pub dotted_bytes : (t : List ℕ) → is_dotted t ≡ true → list_all is_text_byte t ≡ true
dotted_bytes [] h = refl
dotted_bytes (b ∷ rest) h = bytes_from false (b ∷ rest) (sym (dotted_is b rest) ∙ h)
