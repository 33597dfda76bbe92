-- How a target is cut.
use Rattle.std.specs.Prelude.{◌==◌, ℕ, suc, List, not, IsTrue, length, drop}
use Rattle.std.specs.List.{before_first, list_all}

-- the mark doesn't stand in the text
abbrev pub IsFreeSegment : ℕ → List ℕ → Type 0
IsFreeSegment mark text = IsTrue (list_all (λ b. not (b == mark)) text)

-- what stands before the first `?`, or all where there is none
abbrev pub target_path : List ℕ → List ℕ
target_path target = before_first (λ b. b == 63) target

-- what stands behind the first `?`, and nothing where there is none
abbrev pub target_query : List ℕ → List ℕ
target_query target = drop (suc (length (target_path target))) target

-- what stands before the first slash, or all where there is none
abbrev pub first_segment : List ℕ → List ℕ
first_segment text = before_first (λ b. b == 47) text

-- what stands behind it, and nothing where there is none
abbrev pub behind_slash : List ℕ → List ℕ
behind_slash text = drop (suc (length (first_segment text))) text

-- the second segment of a path that begins with a slash
abbrev pub second_segment : List ℕ → List ℕ
second_segment path = first_segment (behind_slash (behind_slash path))
