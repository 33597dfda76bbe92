-- Places of bytes.
use Rattle.std.proofs.Common.{◌≡◌, ◌<◌, ◌+◌, ◌-◌, ℕ, suc, List, [], ◌∷◌, ◌++◌, length, drop, get_or, Bool, true, false, not, Option, Some, None, refl, sym, ◌∙◌, ap, inl, inr, arith}
use Rattle.std.proofs.Math.Seq.{get_or-append_seam, drop-append-add}
use Rattle.std.specs.List.{list_all, position_from}
use Rattle.std.proofs.lemmas.Bool.{and_parts, cases_Bool, cases_eq, cases_order}
use Rattle.std.proofs.lemmas.List.{length-append, length-drop, get_or-drop}
use Rattle.version_range.specs.Cuts.{without_spaces_before, lead}
use Rattle.version_range.specs.Places.{PassesAt, IsSecond, IsLast}
use Rattle.version_range.specs.Bytes.{is_space, is_filled}
use Rattle.version_range.proofs.Plain.{list_all_weaker, no_place, none_passes}
use Rattle.version_range.proofs.Trims.{length-start}

not_false : (b : Bool) → not b ≡ true → b ≡ false
not_false true held = cc
not_false false held = refl

-- bytes that don't pass are skipped
pub skip : (p : ℕ → Bool) (n : ℕ) (xs ys : List ℕ) → list_all (λ b. not (p b)) xs ≡ true → position_from p n (xs ++ ys) ≡ position_from p (n + length xs) ys
skip p n [] ys none' = ap (λ (m : ℕ). position_from p m ys) (let e : n ≡ n + 0 = omega arith in e)
skip p n (x ∷ xs) ys none' =
    let here = and_parts (not (p x)) (list_all (λ b. not (p b)) xs) none' in
    elim (cases_Bool (p x)) [
      | inl yes' ↦ cc (rw yes' at here.0)
      | inr no' ↦ rw no' (skip p (n + 1) xs ys here.1 ∙ ap (λ (m : ℕ). position_from p m ys) (let e : n + 1 + length xs ≡ n + length (x ∷ xs) = omega arith in e))
    ]

pub found_here : (p : ℕ → Bool) (n x : ℕ) (xs : List ℕ) → p x ≡ true → position_from p n (x ∷ xs) ≡ Some n
found_here p n x xs yes' = rw yes' refl

-- the first that passes behind those that don't
pub found_behind : (p : ℕ → Bool) (n at : ℕ) (xs : List ℕ) (y : ℕ) (ys : List ℕ) → list_all (λ b. not (p b)) xs ≡ true → p y ≡ true → at ≡ n + length xs
    → position_from p n (xs ++ y ∷ ys) ≡ Some at
found_behind p n at xs y ys none' yes' is = skip p n xs (y ∷ ys) none' ∙ found_here p (n + length xs) y ys yes' ∙ ap Some (sym is)

-- places count from where the list begins
pub shift : (p : ℕ → Bool) (n m k : ℕ) (xs : List ℕ) → position_from p m xs ≡ Some k → position_from p (n + m) xs ≡ Some (n + k)
shift p n m k [] found = cc
shift p n m k (x ∷ xs) found = elim (cases_Bool (p x)) [
  | inl yes' ↦ let same : m ≡ k = let found' : ◌≡◌ {A = Option ℕ} (Some m) (Some k) = rw yes' at found in cc in rw yes' (ap (λ (j : ℕ). Some (n + j)) same)
  | inr no' ↦ rw no' (ap (λ (j : ℕ). position_from p j xs) (let e : n + m + 1 ≡ n + (m + 1) = omega arith in e) ∙ shift p n (m + 1) k xs (rw no' at found))
]

-- what was found in a list is found in a longer one
pub found_longer : (p : ℕ → Bool) (n k : ℕ) (xs ys : List ℕ) → position_from p n xs ≡ Some k → position_from p n (xs ++ ys) ≡ Some k
found_longer p n k [] ys found = cc
found_longer p n k (x ∷ xs) ys found = elim (cases_Bool (p x)) [
  | inl yes' ↦ rw yes' (rw yes' at found)
  | inr no' ↦ rw no' (found_longer p (n + 1) k xs ys (rw no' at found))
]

-- a byte of a list of which none passes
none_at : (p : ℕ → Bool) (xs : List ℕ) (k : ℕ) → list_all (λ b. not (p b)) xs ≡ true → k < length xs → p (get_or xs k 0) ≡ false
none_at p [] k none' within = absurd (omega arith)
none_at p (x ∷ xs) k none' within = elim (cases_eq k 0) [
  | inl zero' ↦ rw zero' (not_false (p x) (and_parts (not (p x)) (list_all (λ b. not (p b)) xs) none').0)
  | inr more ↦ let is : k ≡ suc (k - 1) = omega arith in rw is (none_at p xs (k - 1) (and_parts (not (p x)) (list_all (λ b. not (p b)) xs) none').1 (omega arith))
]

pub same_place : (a b : ℕ) → ◌≡◌ {A = Option ℕ} (Some a) (Some b) → a ≡ b
same_place a b same = cc

pub no_place_found : (a : ℕ) → ◌≡◌ {A = Option ℕ} None (Some a) → ⊥
no_place_found a same = cc

-- none passes behind the last one
not_later : (p : ℕ → Bool) (text : List ℕ) (a b : ℕ) → IsLast p text a → PassesAt p text b → a < b → ⊥
not_later p text a b last passes below =
    let len = length-drop (a + 1) text in
    let none' = none_at p (drop (a + 1) text) (b - (a + 1)) (none_passes p (a + 1) (drop (a + 1) text) last.1) (omega arith) in
    let at : get_or (drop (a + 1) text) (b - (a + 1)) 0 ≡ get_or text b 0 = get_or-drop (a + 1) text (b - (a + 1)) 0 ∙ ap (λ (i : ℕ). get_or text i 0) (omega arith) in
    let is : p (get_or text b 0) ≡ false = ap p (sym at) ∙ none' in
    let yes' : p (get_or text b 0) ≡ true = passes.1 in
    cc

pub last_once : (p : ℕ → Bool) (text : List ℕ) (a b : ℕ) → IsLast p text a → IsLast p text b → a ≡ b
last_once p text a b one other = elim (cases_order a b) [
  | inl same ↦ same
  | inr (inl below) ↦ absurd (not_later p text a b one other.0 below)
  | inr (inr above) ↦ absurd (not_later p text b a other one.0 above)
]

-- the byte behind a prefix, and nothing that passes behind it
pub last_behind : (p : ℕ → Bool) (text front behind : List ℕ) (b at : ℕ) → text ≡ front ++ b ∷ behind → at ≡ length front → p b ≡ true → list_all (λ c. not (p c)) behind ≡ true
    → IsLast p text at × (get_or text at 0 ≡ b)
last_behind p text front behind b at is at_is yes' none' =
    let byte : get_or text at 0 ≡ b = ap (λ (l : List ℕ). get_or l at 0) is ∙ ap (λ (i : ℕ). get_or (front ++ b ∷ behind) i 0) at_is ∙ get_or-append_seam front b behind 0 in
    let len = ap length is in
    let len' = length-append front (b ∷ behind) in
    let rest : drop (at + 1) text ≡ behind =
    ap (drop (at + 1)) is ∙ ap (λ (i : ℕ). drop (i + 1) (front ++ b ∷ behind)) at_is ∙ drop-append-add front (b ∷ behind) 1 in
    (((omega arith, ap p byte ∙ yes'), ap (position_from p (at + 1)) rest ∙ no_place p (at + 1) behind none'), byte)

-- ---- bytes that aren't spaces

space_unfilled : (b : ℕ) → is_space b ≡ true → not (is_filled b) ≡ true
space_unfilled b space = rw space refl

pub filled : (b : ℕ) → is_space b ≡ false → is_filled b ≡ true
filled b other = rw other refl

pub blank_unfilled : (text : List ℕ) → list_all is_space text ≡ true → list_all (λ b. not (is_filled b)) text ≡ true
blank_unfilled text blank = list_all_weaker is_space (λ b. not (is_filled b)) space_unfilled text blank

-- so many spaces stand before the first byte that isn't one
pub filled_next : (n : ℕ) (inner : List ℕ) (c : ℕ) (rest : List ℕ) → is_space c ≡ false → position_from is_filled n (inner ++ c ∷ rest) ≡ Some (n + lead inner)
unfolding lead
filled_next n [] c rest other = found_here is_filled n c rest (filled c other) ∙ ap Some (let e : n ≡ n + 0 = omega arith in e)
filled_next n (b ∷ inner) c rest other = elim (cases_Bool (is_space b)) [
  | inl space ↦ rw space (filled_next (n + 1) inner c rest other ∙ ap Some (let le = length-start inner in let e : n + 1 + (length inner - length (without_spaces_before inner)) ≡ n + (length (b ∷ inner) - length (without_spaces_before inner)) = omega arith in e))
  | inr none' ↦ rw none' (ap Some (let e : n ≡ n + (length (b ∷ inner) - length (b ∷ inner)) = omega arith in e))
]

-- the first byte that isn't a space is the first of what is trimmed
pub lead_before : (spaces : List ℕ) (c : ℕ) (rest : List ℕ) → list_all is_space spaces ≡ true → is_space c ≡ false → lead (spaces ++ c ∷ rest) ≡ length spaces
unfolding lead
lead_before [] c rest blank other = rw other (omega arith)
lead_before (b ∷ spaces) c rest blank other =
    let here = and_parts (is_space b) (list_all is_space spaces) blank in
    let before = lead_before spaces c rest here.1 other in
    let le = length-start (spaces ++ c ∷ rest) in
    rw here.0 (omega arith)

-- the spaces before a byte that isn't one, also where more stands behind it
pub lead_longer : (inner : List ℕ) (c : ℕ) (rest : List ℕ) → is_space c ≡ false → lead (inner ++ c ∷ rest) ≡ lead inner
unfolding lead
lead_longer [] c rest other = rw other (omega arith)
lead_longer (b ∷ inner) c rest other = elim (cases_Bool (is_space b)) [
  | inl space ↦
      let more = lead_longer inner c rest other in
      let le = length-start inner in
      let le' = length-start (inner ++ c ∷ rest) in
      rw space (omega arith)
  | inr none' ↦ rw none' (omega arith)
]

pub second_once : (p : ℕ → Bool) (text : List ℕ) (a b : ℕ) → IsSecond p text a → IsSecond p text b → a ≡ b
second_once p text a b (f, one, next) (g, other, next') =
    let same : f ≡ g = same_place f g (sym one ∙ other) in
    same_place a b (sym next ∙ ap (λ (i : ℕ). position_from p (i + 1) (drop (i + 1) text)) same ∙ next')
