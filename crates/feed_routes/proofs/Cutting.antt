-- What a text that was cut says of its parts.
use Rattle.std.proofs.Common.{◌≡◌, ◌↔◌, ℕ, List, ◌∷◌, ◌++◌, Bool, true, false, IsTrue, sym, ap, ◌∙◌, subst}
use Rattle.std.proofs.lemmas.List.{append_cancel_left, append_cancel_right}
use Rattle.std.proofs.lemmas.Slice.Eq.{bytes_eq-Decides}
use Rattle.std.specs.Str.{bytes_eq}
use Rattle.feed_routes.specs.Cuts.{IsFreeSegment}

-- a test has one answer
pub off_on : (b : Bool) → b ≡ false → b ≡ true → ⊥
off_on b off on = cc

pub never : (is : Bool) (P : Type 0) → is ≡ false → (P → ⊥) → IsTrue is ↔ P
never is P off none = (λ on. absurd (let clash : ⊥ = cc (off, on) in clash), λ h. absurd (none h))

-- a part, a slash and a part, of these kinds
abbrev pub IsPair : (List ℕ → Type 0) → (List ℕ → List ℕ → Type 0) → List ℕ → Type 0
IsPair P Q text = (x : List ℕ) × (y : List ℕ) × P x × Q x y × (text ≡ x ++ (47 ∷ y))

-- there is no other way to cut the text behind a part without a slash
abbrev pub IsOnlyCut : List ℕ → List ℕ → List ℕ → Type 0
IsOnlyCut text front back = (x y : List ℕ) → IsFreeSegment 47 x → text ≡ x ++ (47 ∷ y) → (front ≡ x) × (back ≡ y)

pub pair_is : (P : List ℕ → Type 0) (Q : List ℕ → List ℕ → Type 0) → ((x : List ℕ) → P x → IsFreeSegment 47 x)
    → (text front back : List ℕ) (is : Bool) → text ≡ front ++ (47 ∷ back) → IsOnlyCut text front back → P front → IsTrue is ↔ Q front back
    → IsTrue is ↔ IsPair P Q text
pair_is P Q free text front back is found first p h = (
  λ on. (front, back, p, h.0 on, found),
  λ w. let parts = first w.0 w.1 (free w.0 w.2) w.4 in
      h.1 (subst (λ (x : List ℕ). Q x back) (sym parts.0) (subst (λ (y : List ℕ). Q w.0 y) (sym parts.1) w.3)),
)

pub pair_not : (P : List ℕ → Type 0) (Q : List ℕ → List ℕ → Type 0) → ((x : List ℕ) → P x → IsFreeSegment 47 x)
    → (text front back : List ℕ) (is : Bool) → IsOnlyCut text front back → (P front → ⊥) → is ≡ false
    → IsTrue is ↔ IsPair P Q text
pair_not P Q free text front back is first not off =
    never is (IsPair P Q text) off (λ w. let parts = first w.0 w.1 (free w.0 w.2) w.4 in not (subst P (sym parts.0) w.2))

pub pair_none : (P : List ℕ → Type 0) (Q : List ℕ → List ℕ → Type 0) → ((x : List ℕ) → P x → IsFreeSegment 47 x)
    → (text : List ℕ) (is : Bool) → ((x y : List ℕ) → IsFreeSegment 47 x → text ≡ x ++ (47 ∷ y) → ⊥) → is ≡ false
    → IsTrue is ↔ IsPair P Q text
pair_none P Q free text is none off = never is (IsPair P Q text) off (λ w. none w.0 w.1 (free w.0 w.2) w.4)

pub middle_is : (P : List ℕ → Type 0) (text prefix suffix middle : List ℕ) (is : Bool) → text ≡ prefix ++ (middle ++ suffix) → IsTrue is ↔ P middle
    → IsTrue is ↔ ((m : List ℕ) × P m × (text ≡ prefix ++ (m ++ suffix)))
middle_is P text prefix suffix middle is found h = (
  λ on. (middle, h.0 on, found),
  λ w. let same : w.0 ++ suffix ≡ middle ++ suffix = append_cancel_left prefix (w.0 ++ suffix) (middle ++ suffix) (sym w.2 ∙ found) in
      h.1 (subst P (append_cancel_right w.0 middle suffix same) w.1),
)

pub rest_is : (P : List ℕ → Type 0) (text prefix rest : List ℕ) (is : Bool) → text ≡ prefix ++ rest → IsTrue is ↔ P rest
    → IsTrue is ↔ ((m : List ℕ) × P m × (text ≡ prefix ++ m))
rest_is P text prefix rest is found h = (
  λ on. (rest, h.0 on, found),
  λ w. h.1 (subst P (append_cancel_left prefix w.0 rest (sym w.2 ∙ found)) w.1),
)

pub front_is : (P : List ℕ → Type 0) (text front suffix : List ℕ) (is : Bool) → text ≡ front ++ suffix → IsTrue is ↔ P front
    → IsTrue is ↔ ((m : List ℕ) × P m × (text ≡ m ++ suffix))
front_is P text front suffix is found h = (
  λ on. (front, h.0 on, found),
  λ w. h.1 (subst P (append_cancel_right w.0 front suffix (sym w.2 ∙ found)) w.1),
)

-- whether the rest is this word
pub word_is : (text prefix rest word : List ℕ) (is : Bool) → text ≡ prefix ++ rest → is ≡ bytes_eq rest word → IsTrue is ↔ (text ≡ prefix ++ word)
word_is text prefix rest word is found tested = (
  λ on. found ∙ ap (λ (l : List ℕ). prefix ++ l) ((bytes_eq-Decides rest word).0 (sym tested ∙ on)),
  λ e. tested ∙ (bytes_eq-Decides rest word).1 (append_cancel_left prefix rest word (sym found ∙ e)),
)

-- whether the middle is this word
pub between_word : (text prefix rest mark suffix middle word : List ℕ) (is : Bool) → text ≡ prefix ++ rest → rest ≡ mark ++ (middle ++ suffix)
    → is ≡ bytes_eq middle word → IsTrue is ↔ (text ≡ prefix ++ (mark ++ (word ++ suffix)))
between_word text prefix rest mark suffix middle word is found inner tested = (
  λ on. found ∙ ap (λ (l : List ℕ). prefix ++ l) (inner ∙ ap (λ (l : List ℕ). mark ++ (l ++ suffix)) ((bytes_eq-Decides middle word).0 (sym tested ∙ on))),
  λ e. let same : rest ≡ mark ++ (word ++ suffix) = append_cancel_left prefix rest (mark ++ (word ++ suffix)) (sym found ∙ e) in
      let ends : middle ++ suffix ≡ word ++ suffix = append_cancel_left mark (middle ++ suffix) (word ++ suffix) (sym inner ∙ same) in
      tested ∙ (bytes_eq-Decides middle word).1 (append_cancel_right middle word suffix ends),
)
