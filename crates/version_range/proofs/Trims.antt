-- Trimming spaces.
use Rattle.std.proofs.Common.{◌≡◌, ◌≢◌, ◌+◌, ◌-◌, ◌≤◌, ℕ, List, [], ◌∷◌, ◌++◌, Bool, true, false, Some, None, length, take, drop, refl, sym, ◌∙◌, ap, arith, take-append-drop}
use lib.Utf8.{encode}
use Rattle.std.proofs.lemmas.List.{drop_all}
use Rattle.std.proofs.lemmas.Bool.Decides.{nat_tests}
use Rattle.std.specs.Str.Pattern.{FindsCharPrefix, FindsCharSuffix, CutsPrefixes, CutsSuffixes, IsFullyTrimmed, IsTrimStartMatches, IsTrimEndMatches}
use Rattle.std.proofs.lemmas.Str.Pattern.{drop_at_char}
use Rattle.version_range.specs.Bytes.{is_space}
use Rattle.version_range.specs.Cuts.{without_spaces_before, before_kept, without_spaces_behind, trimmed, lead}

pub is_32 : (b : ℕ) → is_space b ≡ true → b ≡ 32
is_32 b held = grind (arith, nat_tests)

-- ---- the start

cut_start : (m : List ℕ) (n : ℕ) → FindsCharPrefix 32 m (Some n) → without_spaces_before m ≡ without_spaces_before (drop n m)
cut_start m n found = let is : m ≡ 32 ∷ drop n m = drop_at_char 32 m 0 n found (omega arith) in ap without_spaces_before is

cuts_start : (ns : List ℕ) (s r : List ℕ) → CutsPrefixes (FindsCharPrefix 32) s ns r → without_spaces_before s ≡ without_spaces_before r
cuts_start [] s r cuts = ap without_spaces_before (sym cuts)
cuts_start (n ∷ ns) s r (m, cuts, found, is) = cuts_start ns s m cuts ∙ cut_start m n found ∙ ap without_spaces_before (sym is)

not_first : (space : Bool) (b : ℕ) (rest : List ℕ) → is_space b ≡ space → ((others : List ℕ) → b ∷ rest ≢ 32 ∷ others) → without_spaces_before (b ∷ rest) ≡ b ∷ rest
not_first true b rest is none = absurd (none rest (ap (λ (x : ℕ). x ∷ rest) (is_32 b is)))
not_first false b rest is none = rw is refl

no_space_before : (r : List ℕ) → ((rest : List ℕ) → r ≢ 32 ∷ rest) → without_spaces_before r ≡ r
no_space_before [] none = refl
no_space_before (b ∷ rest) none = not_first (is_space b) b rest refl none

stops_start : (r : List ℕ) → IsFullyTrimmed (FindsCharPrefix 32) r → without_spaces_before r ≡ r
unfolding encode
stops_start r (None, none, held) = no_space_before r none
stops_start r (Some n, found, zero) = let one : n ≡ 1 = found.ends in absurd (omega arith)

pub trimmed_start : (s r : List ℕ) → IsTrimStartMatches (FindsCharPrefix 32) s r → without_spaces_before s ≡ r
trimmed_start s r trims = cuts_start trims.0.0 s r trims.0.1 ∙ stops_start r trims.1

-- ---- the end

pub space_behind : (front : List ℕ) → without_spaces_behind (front ++ 32 ∷ []) ≡ without_spaces_behind front
space_behind [] = refl
space_behind (b ∷ front) = ap (before_kept b) (space_behind front)

cut_end : (m : List ℕ) (n : ℕ) → FindsCharSuffix 32 m (Some n) → without_spaces_behind m ≡ without_spaces_behind (take (length m - n) m)
cut_end m n found =
    let last : drop (length m - n) m ≡ 32 ∷ drop (length m) m = drop_at_char 32 m (length m - n) (length m) found.1 (omega arith) in
    let is : m ≡ take (length m - n) m ++ 32 ∷ [] =
    sym (take-append-drop (length m - n) m) ∙ ap (λ (l : List ℕ). take (length m - n) m ++ l) (last ∙ ap (λ (l : List ℕ). 32 ∷ l) (drop_all (length m) m (omega arith))) in
    ap without_spaces_behind is ∙ space_behind (take (length m - n) m)

cuts_end : (ns : List ℕ) (s r : List ℕ) → CutsSuffixes (FindsCharSuffix 32) s ns r → without_spaces_behind s ≡ without_spaces_behind r
cuts_end [] s r cuts = ap without_spaces_behind (sym cuts)
cuts_end (n ∷ ns) s r (m, cuts, found, is) = cuts_end ns s m cuts ∙ cut_end m n found ∙ ap without_spaces_behind (sym is)

not_last : (space : Bool) (b : ℕ) (rest : List ℕ) → is_space b ≡ space → ((front : List ℕ) → b ∷ rest ≢ front ++ 32 ∷ []) → before_kept b rest ≡ b ∷ rest
not_last true b [] is none = absurd (none [] (ap (λ (x : ℕ). x ∷ []) (is_32 b is)))
not_last false b [] is none = rw is refl
not_last space b (c ∷ rest) is none = refl

no_space_behind : (r : List ℕ) → ((front : List ℕ) → r ≢ front ++ 32 ∷ []) → without_spaces_behind r ≡ r
no_space_behind [] none = refl
no_space_behind (b ∷ rest) none =
    ap (before_kept b) (no_space_behind rest (λ front is. none (b ∷ front) (ap (λ (l : List ℕ). b ∷ l) is))) ∙ not_last (is_space b) b rest refl none

stops_end : (r : List ℕ) → IsFullyTrimmed (FindsCharSuffix 32) r → without_spaces_behind r ≡ r
unfolding encode
stops_end r (None, none, held) = no_space_behind r none
stops_end r (Some n, found, zero) = let one : n ≡ 1 = found.0 in absurd (omega arith)

pub trimmed_end : (s r : List ℕ) → IsTrimEndMatches (FindsCharSuffix 32) s r → without_spaces_behind s ≡ r
trimmed_end s r trims = cuts_end trims.0.0 s r trims.0.1 ∙ stops_end r trims.1

-- ---- lengths

length-start_step : (space : Bool) (b : ℕ) (rest : List ℕ) → is_space b ≡ space → length (without_spaces_before rest) ≤ length rest
    → length (without_spaces_before (b ∷ rest)) ≤ length (b ∷ rest)
length-start_step true b rest is le = rw is (omega arith)
length-start_step false b rest is le = rw is (omega arith)

pub length-start : (text : List ℕ) → length (without_spaces_before text) ≤ length text
length-start [] = omega arith
length-start (b ∷ rest) = length-start_step (is_space b) b rest refl (length-start rest)

length-kept_none : (space : Bool) (b : ℕ) → is_space b ≡ space → length (before_kept b []) ≤ 1
length-kept_none true b is = rw is (omega arith)
length-kept_none false b is = rw is (omega arith)

length-kept : (b : ℕ) (rest : List ℕ) → length (before_kept b rest) ≤ 1 + length rest
length-kept b [] = length-kept_none (is_space b) b refl
length-kept b (c ∷ rest) = omega arith

length-end : (text : List ℕ) → length (without_spaces_behind text) ≤ length text
length-end [] = omega arith
length-end (b ∷ rest) = omega (arith, length-kept b (without_spaces_behind rest), length-end rest)

pub lead_fits : (text : List ℕ) → lead text + length (trimmed text) ≤ length text
unfolding lead trimmed
lead_fits text = omega (arith, length-start text, length-end (without_spaces_before text))
