-- Worked rows of the refusals.
use Rattle.std.proofs.Common.{◌≡◌, ◌≤◌, ◌<◌, ℕ, List, [], ◌∷◌, ◌++◌, codes, length, true, false, Some, None, refl, sym, ◌∙◌, ap, inl, inr, arith}
use Rattle.std.specs.List.{list_all}
use Rattle.std.specs.Char.{is_ascii_digit}
use Rattle.std.specs.Fmt.{digits}
use Rattle.std.proofs.lemmas.Bool.{and_parts}
use Rattle.nuget_version.specs.Grammar.{Spells, is_number, join_dots}
use Rattle.nuget_version.specs.Parts.{full_of, is_dotted, marked}
use Rattle.nuget_version.specs.Precedence.{precedence}
use Rattle.nuget_version.specs.declared.version.Version.{Version}
use Rattle.version_range.specs.Cuts.{trimmed}
use Rattle.version_range.specs.Grammar.{SpellsVersion}
use Rattle.version_range.specs.Refusals.{IsNoSpacedVersion, IsNoEnd, WorkedRefusals}
use Rattle.version_range.proofs.Complete.{version_trimmed}

-- ---- two versions, and texts of none

of_major : (major : ℕ) → major < 10 → length (full_of major 0 0 0 [] []) ≤ 64 → Version
unfolding is_dotted
of_major major small short = record {
  major = major;
  minor = 0;
  patch = 0;
  revision = 0;
  labels = [];
  meta = [];
  major_fits = omega arith;
  minor_fits = omega arith;
  patch_fits = omega arith;
  revision_fits = omega arith;
  labels_dotted = refl;
  meta_dotted = refl;
  short = short;
}

one : Version
unfolding full_of digits
one = let len : length (full_of 1 0 0 0 [] []) ≡ 5 = refl in of_major 1 (omega arith) (omega arith)

two : Version
unfolding full_of digits
two = let len : length (full_of 2 0 0 0 [] []) ≡ 5 = refl in of_major 2 (omega arith) (omega arith)

spells_one : Spells (codes "1.0") one
unfolding one of_major is_dotted
spells_one = record {
  short = omega arith;
  pieces = record { numbers = codes "1" ∷ codes "0" ∷ []; labels = []; meta = [] };
  made = record { are = record { some = omega arith; few = omega arith; digits = refl; labels = refl; meta = refl }; spelled = refl };
  major = refl;
  minor = refl;
  patch = refl;
  revision = refl;
  labels = refl;
  meta = refl;
}

spells_two : Spells (codes "2.0") two
unfolding two of_major is_dotted
spells_two = record {
  short = omega arith;
  pieces = record { numbers = codes "2" ∷ codes "0" ∷ []; labels = []; meta = [] };
  made = record { are = record { some = omega arith; few = omega arith; digits = refl; labels = refl; meta = refl }; spelled = refl };
  major = refl;
  minor = refl;
  patch = refl;
  revision = refl;
  labels = refl;
  meta = refl;
}

alone_one : SpellsVersion (codes "1.0") one
alone_one = record { core = codes "1.0"; spaced = record { before = []; behind = []; blank_before = refl; blank_behind = refl; spelled = refl }; version = spells_one }

alone_two : SpellsVersion (codes "2.0") two
alone_two = record { core = codes "2.0"; spaced = record { before = []; behind = []; blank_before = refl; blank_behind = refl; spelled = refl }; version = spells_two }

-- a version begins with a digit
numbers_digit : (numbers : List (List ℕ)) (rest : List ℕ) → 1 ≤ length numbers → list_all is_number numbers ≡ true → (b : ℕ) × (others : List ℕ) × (join_dots numbers ++ rest ≡ b ∷ others) × (is_ascii_digit b ≡ true)
numbers_digit [] rest some held = absurd (omega arith)
numbers_digit ([] ∷ more) rest some held = cc held
numbers_digit ((b ∷ n) ∷ more) rest some held =
    let number = and_parts (is_number (b ∷ n)) (list_all is_number more) held in
    (b, _, refl, (and_parts (is_ascii_digit b) (list_all is_ascii_digit n) number.0).0)

no_letter : (text : List ℕ) (c : ℕ) → trimmed text ≡ c ∷ [] → is_ascii_digit c ≡ false → IsNoSpacedVersion text
no_letter text c is other v s =
    let p = s.version.pieces in
    let (b, others, first, digit) = numbers_digit p.numbers (marked 45 p.labels ++ marked 43 p.meta) s.version.made.are.some s.version.made.are.digits in
    let same : c ∷ [] ≡ b ∷ others = sym is ∙ version_trimmed text v s ∙ s.version.made.spelled ∙ first in
    let here : c ≡ b = cc in
    let digit' : is_ascii_digit c ≡ true = ap is_ascii_digit here ∙ digit in
    cc

no_nothing : IsNoSpacedVersion []
unfolding trimmed
no_nothing v s =
    let p = s.version.pieces in
    let (b, others, first, digit) = numbers_digit p.numbers (marked 45 p.labels ++ marked 43 p.meta) s.version.made.are.some s.version.made.are.digits in
    let same : [] ≡ b ∷ others = version_trimmed [] v s ∙ s.version.made.spelled ∙ first in
    cc

no_a : IsNoSpacedVersion (codes "a")
unfolding trimmed
no_a = no_letter (codes "a") 97 refl refl

no_b : IsNoSpacedVersion (codes " b")
unfolding trimmed
no_b = no_letter (codes " b") 98 refl refl

no_end_a : IsNoEnd (codes "a")
no_end_a None blank = let impossible : false ≡ true = blank in cc
no_end_a (Some v) s = no_a v s

no_end_b : IsNoEnd (codes " b")
no_end_b None blank = let impossible : false ≡ true = blank in cc
no_end_b (Some v) s = no_b v s

-- ---- the rows

pub worked : WorkedRefusals
unfolding precedence one two of_major
worked = (
  refl,
  inl (record { unstarred = refl; first = refl; unopened = refl; none = no_a }),
  inl (record { unstarred = refl; first = 0; filled = refl; opens = refl; last = ((omega arith, refl), refl); unclosed = refl }),
  inr (inl (true, codes ",,", true, record { unstarred = refl; bracketed = record { before = []; behind = []; blank_before = refl; blank_behind = refl; spelled = refl } }, (1, refl, refl))),
  inr (inr (false, codes "1.0", false, record { unstarred = refl; bracketed = record { before = []; behind = []; blank_before = refl; blank_behind = refl; spelled = refl } }, refl, refl)),
  inr (inl (record { inner = []; brackets = record { unstarred = refl; bracketed = record { before = []; behind = []; blank_before = refl; blank_behind = refl; spelled = refl } }; alone = refl; square = refl; none = no_nothing; place = (0, refl, refl) })),
  inr (inr (inl (true, codes "a", codes "2.0", true, record { brackets = record { unstarred = refl; bracketed = record { before = []; behind = []; blank_before = refl; blank_behind = refl; spelled = refl } }; left_whole = refl; right_whole = refl }, no_end_a, (0, refl, refl)))),
  inr (inr (inr (record {
    low_square = true;
    left = codes "1.0";
    right = codes " b";
    high_square = true;
    pair = record { brackets = record { unstarred = refl; bracketed = record { before = []; behind = []; blank_before = refl; blank_behind = refl; spelled = refl } }; left_whole = refl; right_whole = refl };
    low = Some one;
    low_end = alone_one;
    none = no_end_b;
    place = (4, refl, refl);
  }))),
  record {
    low_square = true;
    left = codes "2.0";
    right = codes "1.0";
    high_square = true;
    pair = record { brackets = record { unstarred = refl; bracketed = record { before = []; behind = []; blank_before = refl; blank_behind = refl; spelled = refl } }; left_whole = refl; right_whole = refl };
    low = Some two;
    low_end = alone_two;
    high = Some one;
    high_end = alone_one;
    inverted = refl;
  },
)
