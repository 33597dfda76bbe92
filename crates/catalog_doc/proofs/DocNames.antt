-- The names of a catalog's documents differ.
use Rattle.std.proofs.Common.{◌≡◌, ◌≢◌, ◌<◌, ◌^◌, ℕ, zero, suc, List, length, [], ◌∷◌, ◌++◌, decimal, codes, refl, ap, subst, arith, get_or, drop}
use Rattle.std.proofs.lemmas.Fmt.{decimal_is_IsNumeral, decimal_injective}
use Rattle.std.specs.Char.{digit_value}
use Rattle.std.specs.Str.Parse.{AllDigits}
use Rattle.catalog_doc.specs.Names.{index_name, leaf_name, nupkg_name, nuspec_name, page_name}

-- digits end at a byte that is none
module _ (stop : ℕ) (none : digit_value stop < 10 → ⊥) where
  digits_end : (xs ys x y : List ℕ) → AllDigits 10 xs → AllDigits 10 ys → xs ++ stop ∷ x ≡ ys ++ stop ∷ y → (xs ≡ ys) × (x ≡ y)
  digits_end [] [] x y a b e = (refl, (let same : x ≡ y = cc in same))
  digits_end [] (d ∷ ys) x y a b e = absurd (none (subst (λ (n : ℕ). digit_value n < 10) (let same : d ≡ stop = cc in same) b.0))
  digits_end (d ∷ xs) [] x y a b e = absurd (none (subst (λ (n : ℕ). digit_value n < 10) (let same : d ≡ stop = cc in same) a.0))
  digits_end (d ∷ xs) (f ∷ ys) x y a b e =
      let heads : d ≡ f = cc in
      let tails : xs ++ stop ∷ x ≡ ys ++ stop ∷ y = cc in
      let rest = digits_end xs ys x y a.1 b.1 tails in
      ((λ i. heads i ∷ rest.0 i), rest.1)

  number_ends : (j n : ℕ) (x y : List ℕ) → j < 2 ^ 64 → n < 2 ^ 64 → decimal j ++ stop ∷ x ≡ decimal n ++ stop ∷ y → (j ≡ n) × (x ≡ y)
  number_ends j n x y a b e =
      let found = digits_end (decimal j) (decimal n) x y (decimal_is_IsNumeral j a).0.1 (decimal_is_IsNumeral n b).0.1 e in
      (decimal_injective j n a b found.0, found.1)

no_dot : digit_value 46 < 10 → ⊥
no_dot h = omega arith

no_slash : digit_value 47 < 10 → ⊥
no_slash h = omega arith

free_digits : (xs : List ℕ) → AllDigits 10 xs → (i : ℕ) → i < length xs → get_or xs i 0 ≢ 47
free_digits [] all i within = absurd (omega arith)
free_digits (d ∷ xs) all zero within = λ e. no_slash (subst (λ (n : ℕ). digit_value n < 10) e all.0)
free_digits (d ∷ xs) all (suc i) within = free_digits xs all.1 i (omega arith)

-- no digit of a number is a slash
pub no_slash_in : (n : ℕ) → n < 2 ^ 64 → (i : ℕ) → i < length (decimal n) → get_or (decimal n) i 0 ≢ 47
no_slash_in n fits = free_digits (decimal n) (decimal_is_IsNumeral n fits).0.1

-- a page's name tells its place
pub page_name-injective : (j k : ℕ) → j < 2 ^ 64 → k < 2 ^ 64 → page_name j ≡ page_name k → j ≡ k
page_name-injective j k a b e = (number_ends 46 no_dot j k (codes "json") (codes "json") a b (ap (λ (l : List ℕ). drop 4 l) e)).0

leaf_name-rest : (m n p q : ℕ) → m < 2 ^ 64 → n < 2 ^ 64 → leaf_name m p ≡ leaf_name n q → (m ≡ n) × (decimal p ++ codes ".json" ≡ decimal q ++ codes ".json")
leaf_name-rest m n p q a b e = number_ends 47 no_slash m n (decimal p ++ codes ".json") (decimal q ++ codes ".json") a b (ap (λ (l : List ℕ). drop 5 l) e)

-- a leaf's name tells the commit's number and the place in it
pub leaf_name-number : (m n p q : ℕ) → m < 2 ^ 64 → n < 2 ^ 64 → leaf_name m p ≡ leaf_name n q → m ≡ n
leaf_name-number m n p q a b e = (leaf_name-rest m n p q a b e).0

pub leaf_name-place : (m n p q : ℕ) → m < 2 ^ 64 → n < 2 ^ 64 → p < 2 ^ 64 → q < 2 ^ 64 → leaf_name m p ≡ leaf_name n q → p ≡ q
leaf_name-place m n p q a b c d e = (number_ends 46 no_dot p q (codes "json") (codes "json") c d (leaf_name-rest m n p q a b e).1).0

apart_first : (xs ys : List ℕ) → get_or xs 0 0 ≢ get_or ys 0 0 → xs ≢ ys
apart_first xs ys other e = other (ap (λ (l : List ℕ). get_or l 0 0) e)

pub page_name-not_index : (k : ℕ) → page_name k ≢ index_name
page_name-not_index k e = apart_first (page_name k) index_name (omega arith) e

pub leaf_name-not_index : (n p : ℕ) → leaf_name n p ≢ index_name
leaf_name-not_index n p e = apart_first (leaf_name n p) index_name (omega arith) e

pub leaf_name-not_page : (n p k : ℕ) → leaf_name n p ≢ page_name k
leaf_name-not_page n p k e = apart_first (leaf_name n p) (page_name k) (omega arith) e

-- a name below `staged/` tells the commit's number and what follows it
pub staged_rest : (m n : ℕ) (x y : List ℕ) → m < 2 ^ 64 → n < 2 ^ 64 → codes "staged/" ++ (decimal m ++ (codes "/" ++ x)) ≡ codes "staged/" ++ (decimal n ++ (codes "/" ++ y))
    → (m ≡ n) × (x ≡ y)
staged_rest m n x y a b e = number_ends 47 no_slash m n x y a b (ap (λ (l : List ℕ). drop 7 l) e)

-- no package's name is a manifest's
pub nupkg_name-not_nuspec : (m n p q : ℕ) → m < 2 ^ 64 → n < 2 ^ 64 → p < 2 ^ 64 → q < 2 ^ 64 → nupkg_name m p ≢ nuspec_name n q
nupkg_name-not_nuspec m n p q a b c d e =
    let behind : decimal p ++ codes ".nupkg" ≡ decimal q ++ codes ".nuspec" = (staged_rest m n (decimal p ++ codes ".nupkg") (decimal q ++ codes ".nuspec") a b e).1 in
    let ends : codes "nupkg" ≡ codes "nuspec" = (number_ends 46 no_dot p q (codes "nupkg") (codes "nuspec") c d behind).1 in
    let third : get_or (codes "nupkg") 2 0 ≡ get_or (codes "nuspec") 2 0 = ap (λ (l : List ℕ). get_or l 2 0) ends in
    omega (arith, third)

-- a package's name, and a manifest's, tells the place in the commit
pub nupkg_name-place : (m n p q : ℕ) → m < 2 ^ 64 → n < 2 ^ 64 → p < 2 ^ 64 → q < 2 ^ 64 → nupkg_name m p ≡ nupkg_name n q → p ≡ q
nupkg_name-place m n p q a b c d e =
    (number_ends 46 no_dot p q (codes "nupkg") (codes "nupkg") c d (staged_rest m n (decimal p ++ codes ".nupkg") (decimal q ++ codes ".nupkg") a b e).1).0

pub nuspec_name-place : (m n p q : ℕ) → m < 2 ^ 64 → n < 2 ^ 64 → p < 2 ^ 64 → q < 2 ^ 64 → nuspec_name m p ≡ nuspec_name n q → p ≡ q
nuspec_name-place m n p q a b c d e =
    (number_ends 46 no_dot p q (codes "nuspec") (codes "nuspec") c d (staged_rest m n (decimal p ++ codes ".nuspec") (decimal q ++ codes ".nuspec") a b e).1).0

-- what a publish brought has the name of no document
pub record IsOfNoDocument (name : List ℕ) : Type 0 where
  pub index : name ≢ index_name
  pub page : (k : ℕ) → name ≢ page_name k
  pub leaf : (n p : ℕ) → name ≢ leaf_name n p

pub nupkg_name-no_document : (n p : ℕ) → IsOfNoDocument (nupkg_name n p)
nupkg_name-no_document n p = record {
  index = λ e. apart_first (nupkg_name n p) index_name (omega arith) e;
  page = λ k e. apart_first (nupkg_name n p) (page_name k) (omega arith) e;
  leaf = λ m q e. apart_first (nupkg_name n p) (leaf_name m q) (omega arith) e;
}

pub nuspec_name-no_document : (n p : ℕ) → IsOfNoDocument (nuspec_name n p)
nuspec_name-no_document n p = record {
  index = λ e. apart_first (nuspec_name n p) index_name (omega arith) e;
  page = λ k e. apart_first (nuspec_name n p) (page_name k) (omega arith) e;
  leaf = λ m q e. apart_first (nuspec_name n p) (leaf_name m q) (omega arith) e;
}
