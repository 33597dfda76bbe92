-- What an id and its key are made of.
use Rattle.std.proofs.Common.{◌≡◌, ◌≢◌, ◌<◌, ℕ, List, [], ◌∷◌, Bool, true, false, ◌&&◌, ◌||◌, ◌==◌, not, IsAscii, IsUtf8, refl, ap₂, ◌∙◌, sym, arith}
use Rattle.std.specs.Char.{to_ascii_lowercase}
use Rattle.std.specs.List.{list_all}
use Rattle.std.proofs.lemmas.Bool.Decides.{nat_tests}
use Rattle.std.proofs.lemmas.List.Folds.{list_all-map}
use Rattle.std.proofs.lemmas.Str.Ascii.{IsAscii-nil, IsAscii-cons, lowercase-lowercase}
use Rattle.std.proofs.lemmas.Str.{IsUtf8-from_ascii}
use Rattle.package_id.specs.Ids.{is_word_byte, is_joint, is_id, IsId, id_key, is_id_key_byte, is_bare_byte, IsSegment}
use Rattle.package_id.proofs.Walk.{goes_on, is_id-goes_on}
use Rattle.package_id.proofs.Fronts.{differ}

-- a byte of an id
abbrev pub is_id_byte : ℕ → Bool
is_id_byte b = is_word_byte b || is_joint b

both : (a b : Bool) → a && b ≡ true → (a ≡ true) × (b ≡ true)
both true b held = (refl, held)
both false b held = cc

-- what passes one test passes the other
pub list_all_weaker : (p q : ℕ → Bool) → ((b : ℕ) → p b ≡ true → q b ≡ true) → (xs : List ℕ) → list_all p xs ≡ true → list_all q xs ≡ true
list_all_weaker p q weaker [] held = refl
list_all_weaker p q weaker (x ∷ xs) held =
    let here = both (p x) (list_all p xs) held in rw (weaker x here.0) (list_all_weaker p q weaker xs here.1)

one_more : (within word joint : Bool) (b : ℕ) (bs : List ℕ) → is_word_byte b ≡ word → is_joint b ≡ joint
    → ((w : Bool) → goes_on w bs ≡ true → list_all is_id_byte bs ≡ true) → goes_on within (b ∷ bs) ≡ true → list_all is_id_byte (b ∷ bs) ≡ true
one_more within true joint b bs word_is joint_is others held = rw word_is (others true (rw word_is at held))
one_more true false true b bs word_is joint_is others held = rw (word_is, joint_is) (others false (rw (word_is, joint_is) at held))
one_more true false false b bs word_is joint_is others held = absurd (differ _ refl (rw (word_is, joint_is) at held))
one_more false false joint b bs word_is joint_is others held = absurd (differ _ refl (rw word_is at held))

walked : (text : List ℕ) (within : Bool) → goes_on within text ≡ true → list_all is_id_byte text ≡ true
walked [] within held = refl
walked (b ∷ bs) within held = one_more within (is_word_byte b) (is_joint b) b bs refl refl (walked bs) held

pub list_all-id : (text : List ℕ) → IsId text → list_all is_id_byte text ≡ true
list_all-id text id = walked text false (sym (is_id-goes_on text) ∙ id)

bare : (b : ℕ) → is_id_byte b ≡ true → is_bare_byte b ≡ true
bare b held = grind (arith, nat_tests)

key_byte : (b : ℕ) → is_id_byte b ≡ true → is_id_key_byte (to_ascii_lowercase b) ≡ true
key_byte b held = grind (arith, nat_tests)

no_slash : (b : ℕ) → is_id_key_byte b ≡ true → not (b == 47) ≡ true
no_slash b held = grind (arith, nat_tests)

key_bare : (b : ℕ) → is_id_key_byte b ≡ true → is_bare_byte b ≡ true
key_bare b held = grind (arith, nat_tests)

pub list_all-bare : (text : List ℕ) → IsId text → list_all is_bare_byte text ≡ true
list_all-bare text id = list_all_weaker is_id_byte is_bare_byte bare text (list_all-id text id)

pub list_all-key : (text : List ℕ) → IsId text → list_all is_id_key_byte (id_key text) ≡ true
list_all-key text id =
    list_all-map is_id_key_byte to_ascii_lowercase text ∙ list_all_weaker is_id_byte (λ b. is_id_key_byte (to_ascii_lowercase b)) key_byte text (list_all-id text id)

pub list_all-key_bare : (text : List ℕ) → IsId text → list_all is_bare_byte (id_key text) ≡ true
list_all-key_bare text id = list_all_weaker is_id_key_byte is_bare_byte key_bare (id_key text) (list_all-key text id)

-- an id isn't empty
pub id_filled : (text : List ℕ) → IsId text → id_key text ≢ []
id_filled [] id same = cc
id_filled (b ∷ bs) id same = cc

pub IsSegment-key : (text : List ℕ) → IsId text → IsSegment (id_key text)
IsSegment-key text id = record {
  filled = id_filled text id;
  whole = list_all_weaker is_id_key_byte (λ b. not (b == 47)) no_slash (id_key text) (list_all-key text id);
}

word-lowercase : (b : ℕ) → is_word_byte (to_ascii_lowercase b) ≡ is_word_byte b
word-lowercase b = grind (arith, nat_tests)

joint-lowercase : (b : ℕ) → is_joint (to_ascii_lowercase b) ≡ is_joint b
joint-lowercase b = grind (arith, nat_tests)

goes_on-key : (within : Bool) (text : List ℕ) → goes_on within (id_key text) ≡ goes_on within text
goes_on-key within [] = refl
goes_on-key within (b ∷ bs) = rw (word-lowercase b, joint-lowercase b, goes_on-key true bs, goes_on-key false bs) refl

pub is_id-key : (text : List ℕ) → is_id (id_key text) ≡ is_id text
is_id-key text = is_id-goes_on (id_key text) ∙ goes_on-key false text ∙ sym (is_id-goes_on text)

pub key-key : (text : List ℕ) → id_key (id_key text) ≡ id_key text
key-key [] = refl
key-key (b ∷ bs) = ap₂ (λ (x : ℕ) (xs : List ℕ). x ∷ xs) (lowercase-lowercase b) (key-key bs)

below_128 : (b : ℕ) → is_bare_byte b ≡ true → b < 128
below_128 b held = grind (arith, nat_tests)

IsAscii-bare : (xs : List ℕ) → list_all is_bare_byte xs ≡ true → IsAscii xs
IsAscii-bare [] held = IsAscii-nil
IsAscii-bare (x ∷ xs) held =
    let here = both (is_bare_byte x) (list_all is_bare_byte xs) held in IsAscii-cons x xs (below_128 x here.0) (IsAscii-bare xs here.1)

pub IsAscii-id : (text : List ℕ) → IsId text → IsAscii text
IsAscii-id text id = IsAscii-bare text (list_all-bare text id)

pub IsAscii-key : (text : List ℕ) → IsId text → IsAscii (id_key text)
IsAscii-key text id = IsAscii-bare (id_key text) (list_all-key_bare text id)

pub IsUtf8-id : (text : List ℕ) → IsId text → IsUtf8 text
IsUtf8-id text id = IsUtf8-from_ascii text (IsAscii-id text id)

pub IsUtf8-key : (text : List ℕ) → IsId text → IsUtf8 (id_key text)
IsUtf8-key text id = IsUtf8-from_ascii (id_key text) (IsAscii-key text id)
