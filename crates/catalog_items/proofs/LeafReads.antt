-- Leaves that are read row by row, and the commits of their items.
use Rattle.std.proofs.Common.{◌≡◌, ◌≢◌, ◌+◌, ℕ, zero, suc, List, [], ◌∷◌, ◌++◌, length, get_or, slice_set, Bool, true, false, Some, None, Err, Result, refl, sym, ◌∙◌, ap, ap₂, subst, arith}
use Rattle.std.specs.Prelude.{◌&&◌, nat_eq, if◌then◌else◌}
use Rattle.std.specs.FinMap.{get}
use Rattle.std.proofs.lemmas.Bool.Decides.{nat_tests}
use Rattle.blob_store.specs.Area.{Area}
use Rattle.pkg_meta.specs.declared.commit.Commit.{Commit}
use Rattle.pkg_meta.specs.declared.item.Item.{Item}
use Rattle.catalog_doc.specs.Names.{leaf_name}
use Rattle.catalog_doc.specs.Reading.{IsItemValue}
use Rattle.catalog_doc.specs.declared.row.Row.{Row}
use Rattle.catalog_opening.specs.Errors.{IfDamagedBy}
use Rattle.catalog_opening.specs.declared.error.ReadErr.{ReadErr}
use Rattle.catalog_opening.specs.declared.error.ReadErr.TheVariants.{Damaged, Fault, Memory}
use Rattle.catalog_items.specs.Leaves.{AreItemValues, commit_of_one, commits_with, HasNoLeaf, HoldsLeaf, HoldsLeaves, is_at, row_with, with_item}
use Rattle.catalog_items.specs.Reads.{IsAbsent, IsRead}

pub if_true : {A : Type 0} (b : Bool) (x y : A) → b ≡ true → (if b then x else y) ≡ x
if_true true x y e = refl
if_true false x y e = absurd (let no : ⊥ = cc in no)

pub if_false : {A : Type 0} (b : Bool) (x y : A) → b ≡ false → (if b then x else y) ≡ y
if_false true x y e = absurd (let no : ⊥ = cc in no)
if_false false x y e = refl

pub same_number : (a b : ℕ) → a ≡ b → nat_eq a b ≡ true
same_number a b e = grind (arith, nat_tests)

pub other_number : (a b : ℕ) → a ≢ b → nat_eq a b ≡ false
other_number a b e = grind (arith, nat_tests)

-- an item more in the last commit, which has the row's number
pub in_last : (cs : List Commit) (row : Row) (it : Item) (k : ℕ) (x : Commit) → length cs ≡ k + 1 → x ≡ get_or cs k x → x.number ≡ row.number
    → slice_set cs k (record { number = x.number; stamp = x.stamp; items = x.items ++ it ∷ [] }) ≡ with_item cs row it
in_last [] row it k x count is same = absurd (omega (arith, count))
in_last (c ∷ []) row it zero x count is same =
    let number : c.number ≡ row.number = ap (λ (y : Commit). y.number) (sym is) ∙ same in
    ap (λ (y : Commit). (record { number = y.number; stamp = y.stamp; items = y.items ++ it ∷ [] }) ∷ []) is
    ∙ sym (if_true (nat_eq c.number row.number) _ (c ∷ commit_of_one row it ∷ []) (same_number c.number row.number number))
in_last (c ∷ []) row it (suc k) x count is same = absurd (omega (arith, count))
in_last (c ∷ next ∷ cs) row it zero x count is same = absurd (omega (arith, count))
in_last (c ∷ next ∷ cs) row it (suc k) x count is same =
    ap (λ (l : List Commit). c ∷ l) (in_last (next ∷ cs) row it k x (omega (arith, count)) is same)

-- in a new commit, where the last one has another number
pub in_new : (cs : List Commit) (row : Row) (it : Item) (k : ℕ) (x : Commit) → length cs ≡ k + 1 → x ≡ get_or cs k x → x.number ≢ row.number
    → cs ++ commit_of_one row it ∷ [] ≡ with_item cs row it
in_new [] row it k x count is other = absurd (omega (arith, count))
in_new (c ∷ []) row it zero x count is other =
    sym (if_false (nat_eq c.number row.number) _ (c ∷ commit_of_one row it ∷ []) (other_number c.number row.number (λ same. other (ap (λ (y : Commit). y.number) is ∙ same))))
in_new (c ∷ []) row it (suc k) x count is other = absurd (omega (arith, count))
in_new (c ∷ next ∷ cs) row it zero x count is other = absurd (omega (arith, count))
in_new (c ∷ next ∷ cs) row it (suc k) x count is other =
    ap (λ (l : List Commit). c ∷ l) (in_new (next ∷ cs) row it k x (omega (arith, count)) is other)

pub in_first : (cs : List Commit) (row : Row) (it : Item) → length cs ≡ 0 → cs ++ commit_of_one row it ∷ [] ≡ with_item cs row it
in_first [] row it none = refl
in_first (c ∷ cs) row it none = absurd (omega (arith, none))

-- a blob that isn't held is no leaf
pub no_leaf_there : (m : Area) (base name : List ℕ) (row : Row) → name ≡ leaf_name row.number row.place → get m name ≡ None → HasNoLeaf m base row
no_leaf_there m base name row named gone it values holds =
    let held = holds.leaf in
    let none : get m (leaf_name row.number row.place) ≡ None = ap (get m) (sym named) ∙ gone in
    cc

-- a blob that is held isn't told as absent
pub never_absent : (m : Area) (name : List ℕ) (it : Item) (error : ReadErr) (r : Result Item ReadErr) (bytes : List ℕ) → r ≡ Err error → get m name ≡ Some bytes → IfDamagedBy error (IsAbsent name m) → IsRead it r
never_absent m name it error r bytes is held told = subst (IsRead it) (sym is) (by_error error told)
  where
    by_error : (e : ReadErr) → IfDamagedBy e (IsAbsent name m) → IsRead it (Err e)
    by_error (Damaged n) gone = let none = gone.1 in cc
    by_error Fault gone = tt
    by_error Memory gone = tt

both_hold : (a b : Bool) → (a && b) ≡ true → (a ≡ true) × (b ≡ true)
both_hold true b e = (refl, e)
both_hold false b e = absurd (let no : ⊥ = cc in no)

equal_number : (a b : ℕ) → nat_eq a b ≡ true → a ≡ b
equal_number a b e = grind (arith, nat_tests)

-- the row found has the number and the place
pub found_has : (number place : ℕ) (rows : List Row) (row : Row) → row_with number place rows ≡ Some row → leaf_name row.number row.place ≡ leaf_name number place
found_has number place [] row is = absurd (let no : ⊥ = cc in no)
found_has number place (x ∷ rows) row is = by_test (is_at number place x) refl (found_has number place rows row) is
  where
    by_test : (b : Bool) → is_at number place x ≡ b → (row_with number place rows ≡ Some row → leaf_name row.number row.place ≡ leaf_name number place)
        → (if b then Some x else row_with number place rows) ≡ Some row → leaf_name row.number row.place ≡ leaf_name number place
    by_test true here later found =
        let both = both_hold (nat_eq x.number number) (nat_eq x.place place) here in
        let own : x ≡ row = cc in
        let n : x.number ≡ number = equal_number x.number number both.0 in
        let p : x.place ≡ place = equal_number x.place place both.1 in
        ap₂ leaf_name (ap (λ (y : Row). y.number) (sym own) ∙ n) (ap (λ (y : Row). y.place) (sym own) ∙ p)
    by_test false there later found = later found

module _ (m : Area) (base : List ℕ) where
  -- a leaf more
  pub holds_more : (rows : List Row) (items : List Item) (row : Row) (it : Item) → HoldsLeaves m base rows items → HoldsLeaf m base row it → HoldsLeaves m base (rows ++ row ∷ []) (items ++ it ∷ [])
  holds_more [] [] row it held last = (last, tt)
  holds_more [] (x ∷ items) row it held last = absurd held
  holds_more (r ∷ rows) [] row it held last = absurd held
  holds_more (r ∷ rows) (x ∷ items) row it held last = (held.0, holds_more rows items row it held.1 last)

  pub commits_more : (cs : List Commit) (rows : List Row) (items : List Item) (row : Row) (it : Item) → HoldsLeaves m base rows items
      → commits_with cs (rows ++ row ∷ []) (items ++ it ∷ []) ≡ with_item (commits_with cs rows items) row it
  commits_more cs [] [] row it held = refl
  commits_more cs [] (x ∷ items) row it held = absurd held
  commits_more cs (r ∷ rows) [] row it held = absurd held
  commits_more cs (r ∷ rows) (x ∷ items) row it held = commits_more (with_item cs r x) rows items row it held.1

  -- the commits that come of the leaves that are left are the wanted ones
  abbrev pub ComesTo : List Row → List Commit → List Commit → Type 0
  ComesTo rows cs wanted = (items : List Item) × AreItemValues items × HoldsLeaves m base rows items × (commits_with cs rows items ≡ wanted)

  -- the next leaf
  pub next_leaf : (row : Row) (rows : List Row) (cs wanted : List Commit) → ComesTo (row ∷ rows) cs wanted
      → (it : Item) × IsItemValue it × HoldsLeaf m base row it × ComesTo rows (with_item cs row it) wanted
  next_leaf row rows cs wanted ([], values, held, is) = absurd held
  next_leaf row rows cs wanted (it ∷ items, values, held, is) = (it, values.0, held.0, (items, values.1, held.1, is))

  pub all_come : (cs wanted : List Commit) → ComesTo [] cs wanted → cs ≡ wanted
  all_come cs wanted ([], values, held, is) = is
  all_come cs wanted (it ∷ items, values, held, is) = absurd held
