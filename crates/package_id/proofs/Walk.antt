-- The grammar of ids, byte by byte.
use Rattle.std.proofs.Common.{◌≡◌, ℕ, List, [], ◌∷◌, Bool, true, false, ◌&&◌, if◌then◌else◌, refl, arith}
use Rattle.std.proofs.lemmas.Bool.Decides.{nat_tests}
use Rattle.std.specs.List.{list_all}
use Rattle.package_id.specs.Ids.{is_word_byte, is_joint, starting_with, id_parts, is_id_part, is_id}

-- what is left of an id; within a part, or just before one
abbrev pub goes_on : Bool → List ℕ → Bool
goes_on within [] = within
goes_on within (b ∷ bs) = if is_word_byte b then goes_on true bs else (if within && is_joint b then goes_on false bs else false)

-- the first part may be empty where one was begun
abbrev pub are_parts : Bool → List (List ℕ) → Bool
are_parts true [] = true
are_parts true (part ∷ others) = list_all is_word_byte part && list_all is_id_part others
are_parts false all = list_all is_id_part all

-- a byte is no joint where it is a word byte
no_word : (b : ℕ) → is_joint b ≡ true → is_word_byte b ≡ false
no_word b joint = grind (arith, nat_tests)

regroup : (word front others : Bool) → (word && front) && others ≡ word && (front && others)
regroup true front others = refl
regroup false front others = refl

begin : (within : Bool) (b : ℕ) (all : List (List ℕ)) → are_parts within (starting_with b all) ≡ is_word_byte b && are_parts true all
begin true b [] = regroup (is_word_byte b) true true
begin false b [] = regroup (is_word_byte b) true true
begin true b (part ∷ others) = regroup (is_word_byte b) (list_all is_word_byte part) (list_all is_id_part others)
begin false b (part ∷ others) = regroup (is_word_byte b) (list_all is_word_byte part) (list_all is_id_part others)

-- one byte more, by what its tests answer
stepped : (within : Bool) (b : ℕ) (bs : List ℕ) (joint word : Bool) → is_joint b ≡ joint → is_word_byte b ≡ word
    → ((w : Bool) → are_parts w (id_parts bs) ≡ goes_on w bs) → are_parts within (id_parts (b ∷ bs)) ≡ goes_on within (b ∷ bs)
stepped true b bs true word is_joint_is is_word_is so_far = rw (is_joint_is, no_word b is_joint_is) (so_far false)
stepped false b bs true word is_joint_is is_word_is so_far = rw (is_joint_is, no_word b is_joint_is) refl
stepped within b bs false true is_joint_is is_word_is so_far = rw (is_joint_is, begin within b (id_parts bs), is_word_is) (so_far true)
stepped true b bs false false is_joint_is is_word_is so_far = rw (is_joint_is, begin true b (id_parts bs), is_word_is) refl
stepped false b bs false false is_joint_is is_word_is so_far = rw (is_joint_is, begin false b (id_parts bs), is_word_is) refl

parts_go_on : (text : List ℕ) (within : Bool) → are_parts within (id_parts text) ≡ goes_on within text
parts_go_on [] true = refl
parts_go_on [] false = refl
parts_go_on (b ∷ bs) within = stepped within b bs (is_joint b) (is_word_byte b) refl refl (parts_go_on bs)

pub is_id-goes_on : (text : List ℕ) → is_id text ≡ goes_on false text
is_id-goes_on text = parts_go_on text false
