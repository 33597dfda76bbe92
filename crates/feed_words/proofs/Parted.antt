-- Words that are parted, one behind the other.
use Rattle.std.proofs.Common.{◌≡◌, ◌<◌, ◌≤◌, ◌-◌, ◌∙◌, ℕ, List, [], ◌∷◌, ◌++◌, Bool, None, true, false, codes, drop, get_or, length, not, take, String, refl, sym, ap, subst, arith, append-nil, append_assoc}
use Rattle.std.specs.Prelude.{string_bytes, if◌then◌else◌}
use Rattle.std.specs.List.{filter}
use Rattle.std.specs.Str.{bytes_eq}
use Rattle.std.proofs.Math.Seq.{take_all}
use Rattle.std.proofs.lemmas.Slice.Eq.{bytes_eq-Decides}
use Rattle.std.specs.declared.alloc.Global.{Global}
use Rattle.feed_words.specs.Words.{begins_plain, given_by, given_in, is_option, with_texts_joined, options_in, plain_in, texts}

-- the first two words, where there are two
pub two_words : (words : List (String Global)) (first second a b : String Global) (word value : List ℕ) → 2 ≤ length words → first ≡ get_or words 0 a
    → second ≡ get_or words 1 b
    → word ≡ string_bytes first → value ≡ string_bytes second → texts words ≡ word ∷ value ∷ texts (take (length words - 2) (drop 2 words))
two_words [] first second a b word value two is_first is_second is_word is_value = absurd (omega (arith, two))
two_words (x ∷ []) first second a b word value two is_first is_second is_word is_value = absurd (omega (arith, two))
two_words (x ∷ y ∷ more) first second a b word value two is_first is_second is_word is_value =
    let whole : take (length (x ∷ y ∷ more) - 2) more ≡ more = take_all (length (x ∷ y ∷ more) - 2) more (omega arith) in
    rw (is_word, is_value, is_first, is_second) (ap (λ (l : List (String Global)). string_bytes x ∷ string_bytes y ∷ texts l) (sym whole))

-- the first word, where there is one
pub one_word : (words : List (String Global)) (first a : String Global) (word : List ℕ) → 1 ≤ length words → first ≡ get_or words 0 a
    → word ≡ string_bytes first → texts words ≡ word ∷ texts (take (length words - 1) (drop 1 words))
one_word [] first a word one is_first is_word = absurd (omega (arith, one))
one_word (x ∷ more) first a word one is_first is_word =
    let whole : take (length (x ∷ more) - 1) more ≡ more = take_all (length (x ∷ more) - 1) more (omega arith) in
    rw (is_word, is_first) (ap (λ (l : List (String Global)). string_bytes x ∷ texts l) (sym whole))

-- no option of two words stands at the beginning
abbrev pub NotTwo : List (List ℕ) → Type 0
NotTwo words = (value : List ℕ) (rest : List (List ℕ)) → words ≡ codes "--base" ∷ value ∷ rest → ⊥

by_test : (test : Bool) (word value : List ℕ) (rest : List (List ℕ)) → test ≡ bytes_eq word (codes "--base") → NotTwo (word ∷ value ∷ rest)
    → (if test then (codes "--base=" ++ value) ∷ with_texts_joined rest else word ∷ with_texts_joined (value ∷ rest)) ≡ word ∷ with_texts_joined (value ∷ rest)
by_test true word value rest is not_two =
    absurd (not_two value rest (ap (λ (w : List ℕ). w ∷ value ∷ rest) ((bytes_eq-Decides word (codes "--base")).0 (sym is))))
by_test false word value rest is not_two = refl

joined_one : (word : List ℕ) (behind : List (List ℕ)) → NotTwo (word ∷ behind) → with_texts_joined (word ∷ behind) ≡ word ∷ with_texts_joined behind
joined_one word [] not_two = refl
joined_one word (value ∷ rest) not_two = by_test (bytes_eq word (codes "--base")) word value rest refl not_two

-- words that are parted up to here
pub record ArePartedTo (words rest options plain : List (String Global)) : Type 0 where
  pub found : options_in (texts words) ≡ texts options ++ options_in (texts rest)
  pub left : plain_in (texts words) ≡ texts plain ++ plain_in (texts rest)

pub at_start : (words : List (String Global)) → ArePartedTo words words [] []
at_start words = record { found = refl; left = refl }

texts_append : (a b : List (String Global)) → texts (a ++ b) ≡ texts a ++ texts b
texts_append [] b = refl
texts_append (x ∷ a) b = ap (λ (l : List (List ℕ)). string_bytes x ∷ l) (texts_append a b)

-- one more behind those that are there
more : (all rest behind : List (List ℕ)) (found : List (String Global)) (word : String Global) → all ≡ texts found ++ rest
    → rest ≡ string_bytes word ∷ behind → all ≡ texts (found ++ word ∷ []) ++ behind
more all rest behind found word is next =
    is ∙ ap (λ (l : List (List ℕ)). texts found ++ l) next ∙ sym (append_assoc (texts found) (string_bytes word ∷ []) behind)
    ∙ ap (λ (l : List (List ℕ)). l ++ behind) (sym (texts_append found (word ∷ [])))

module _ (words rest behind options plain : List (String Global)) (word : String Global) (p : ArePartedTo words rest options plain) where
  -- an option of two words
  pub with_two : (value : List ℕ) → texts rest ≡ codes "--base" ∷ value ∷ texts behind → string_bytes word ≡ codes "--base=" ++ value
      → ArePartedTo words behind (options ++ word ∷ []) plain
  with_two value e is = record {
    found = more _ (options_in (texts rest)) (options_in (texts behind)) options word p.found
        (ap options_in e ∙ ap (λ (w : List ℕ). w ∷ options_in (texts behind)) (sym is));
    left = p.left ∙ ap (λ (l : List (List ℕ)). texts plain ++ plain_in l) e;
  }

  module _ (text : List ℕ) (e : texts rest ≡ text ∷ texts behind) (not_two : NotTwo (texts rest)) (is : string_bytes word ≡ text) where
    whole : with_texts_joined (texts rest) ≡ text ∷ with_texts_joined (texts behind)
    whole = ap with_texts_joined e ∙ joined_one text (texts behind) (subst NotTwo e not_two)

    options_by : (test : Bool) → test ≡ is_option text → options_in (texts rest) ≡ (if test then text ∷ options_in (texts behind) else options_in (texts behind))
    options_by true test = ap (filter is_option) whole ∙ ap (λ (b : Bool). if b then text ∷ options_in (texts behind) else options_in (texts behind)) (sym test)
    options_by false test = ap (filter is_option) whole ∙ ap (λ (b : Bool). if b then text ∷ options_in (texts behind) else options_in (texts behind)) (sym test)

    plain_by : (test : Bool) → test ≡ is_option text → plain_in (texts rest) ≡ (if test then plain_in (texts behind) else text ∷ plain_in (texts behind))
    plain_by true test = ap (filter (λ w. not (is_option w))) whole
        ∙ ap (λ (b : Bool). if not b then text ∷ plain_in (texts behind) else plain_in (texts behind)) (sym test)
    plain_by false test = ap (filter (λ w. not (is_option w))) whole
        ∙ ap (λ (b : Bool). if not b then text ∷ plain_in (texts behind) else plain_in (texts behind)) (sym test)

    -- an option of one word
    pub with_option : is_option text ≡ true → ArePartedTo words behind (options ++ word ∷ []) plain
    with_option test = record {
      found = more _ (options_in (texts rest)) (options_in (texts behind)) options word p.found
          (options_by true (sym test) ∙ ap (λ (w : List ℕ). w ∷ options_in (texts behind)) (sym is));
      left = p.left ∙ ap (λ (l : List (List ℕ)). texts plain ++ l) (plain_by true (sym test));
    }

    -- a plain word
    pub with_plain : is_option text ≡ false → ArePartedTo words behind options (plain ++ word ∷ [])
    with_plain test = record {
      found = p.found ∙ ap (λ (l : List (List ℕ)). texts options ++ l) (options_by false (sym test));
      left = more _ (plain_in (texts rest)) (plain_in (texts behind)) plain word p.left
          (plain_by false (sym test) ∙ ap (λ (w : List ℕ). w ∷ plain_in (texts behind)) (sym is));
    }

by_not : (test : Bool) → not test ≡ false → test ≡ true
by_not true is = refl
by_not false is = cc is

-- two options, or more, have no meaning
pub two_given : (options : List (String Global)) → 2 ≤ length options → given_by (texts options) ≡ None
two_given [] two = absurd (omega (arith, two))
two_given (x ∷ []) two = absurd (omega (arith, two))
two_given (x ∷ y ∷ more) two = refl

pub first_plain : (words : List (List ℕ)) → not (begins_plain words) ≡ false → begins_plain words ≡ true
first_plain words is = by_not (begins_plain words) is

pub none_given : (words : List (List ℕ)) → begins_plain words ≡ true → given_by (options_in words) ≡ None → given_in words ≡ None
none_given words first none = rw (first, none) refl

pub at_end : (words rest options plain : List (String Global)) → ArePartedTo words rest options plain → length rest < 1
    → (texts options ≡ options_in (texts words)) × (texts plain ≡ plain_in (texts words))
at_end words [] options plain p few = (sym (p.found ∙ append-nil (texts options)), sym (p.left ∙ append-nil (texts plain)))
at_end words (word ∷ rest) options plain p few = absurd (omega (arith, few))
