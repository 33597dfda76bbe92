-- Lists, rows of commits, and the parts of a commit.
use Rattle.std.proofs.Common.{◌≡◌, ◌≢◌, ◌<◌, ◌≤◌, ℕ, zero, suc, List, [], ◌∷◌, ◌++◌, length, Option, Some, None, refl, sym, ◌∙◌, ap, subst, arith, length-append, slice_get}
use Rattle.pkg_meta.specs.Catalog.{Catalog}
use Rattle.pkg_meta.specs.Items.{is_gone}
use Rattle.pkg_meta.specs.Lawful.{AreLawfulItems, IsFree, IsLawfulItem, IsOfDetails, last_like, MayFollow, Placed}
use Rattle.pkg_meta.specs.declared.commit.Staged.{Staged}
use Rattle.pkg_meta.specs.declared.item.Details.{Details}
use Rattle.pkg_meta.specs.declared.item.Item.{Item}
use Rattle.pkg_meta.specs.declared.item.Item.TheVariants as the
use Rattle.catalog_doc.specs.CatDocs.{all_rows, rows_from, rows_of}
use Rattle.catalog_doc.specs.declared.row.Row.{Row}

-- lists of one length whose elements agree place by place are equal
pub same_list : {A : Type 0} (xs ys : List A) → length xs ≡ length ys → ((k : ℕ) (x y : A) → slice_get xs k ≡ Some x → slice_get ys k ≡ Some y → x ≡ y)
    → xs ≡ ys
same_list [] [] len each = refl
same_list [] (y ∷ ys) len each = absurd (omega (arith, len))
same_list (x ∷ xs) [] len each = absurd (omega (arith, len))
same_list (x ∷ xs) (y ∷ ys) len each =
    let own : x ≡ y = each 0 x y refl refl in
    let rest : xs ≡ ys = same_list xs ys (omega (arith, len)) (λ k a b. each (suc k) a b) in
    λ i. own i ∷ rest i

-- rows of one commit, and of others
abbrev pub AreOfNumber : ℕ → List Row → Type 0
AreOfNumber n [] = Unit {0}
AreOfNumber n (row ∷ rows) = (row.number ≡ n) × AreOfNumber n rows

abbrev pub AreOfOthers : ℕ → List Row → Type 0
AreOfOthers n [] = Unit {0}
AreOfOthers n (row ∷ rows) = (row.number ≢ n) × AreOfOthers n rows

first_rows : (x y : Row) (xs ys : List Row) → x ∷ xs ≡ y ∷ ys → (x ≡ y) × (xs ≡ ys)
first_rows x y xs ys e = (cc, cc)

no_row : (x : Row) (xs : List Row) → x ∷ xs ≡ [] → ⊥
no_row x xs e = cc

-- rows of a commit with rows of others behind them
pub split_rows : (n : ℕ) (xs ys more others : List Row) → AreOfNumber n xs → AreOfNumber n ys → AreOfOthers n more → AreOfOthers n others
    → xs ++ more ≡ ys ++ others → (xs ≡ ys) × (more ≡ others)
split_rows n [] [] more others p q r s e = (refl, e)
split_rows n [] (y ∷ ys) [] others p q r s e = absurd (no_row y (ys ++ others) (sym e))
split_rows n [] (y ∷ ys) (x ∷ more) others p q r s e =
    absurd (r.0 (ap (λ (row : Row). row.number) (first_rows x y more (ys ++ others) e).0 ∙ q.0))
split_rows n (x ∷ xs) [] more [] p q r s e = absurd (no_row x (xs ++ more) e)
split_rows n (x ∷ xs) [] more (y ∷ others) p q r s e =
    absurd (s.0 (ap (λ (row : Row). row.number) (sym (first_rows x y (xs ++ more) others e).0) ∙ p.0))
split_rows n (x ∷ xs) (y ∷ ys) more others p q r s e =
    let parts = first_rows x y (xs ++ more) (ys ++ others) e in
    let rest = split_rows n xs ys more others p.1 q.1 r s parts.1 in
    (λ i. parts.0 i ∷ rest.0 i, rest.1)

pub own_rows : (number stamp place : ℕ) (items : List Item) → AreOfNumber number (rows_from number stamp place items)
own_rows number stamp place [] = tt
own_rows number stamp place (it ∷ items) = (refl, own_rows number stamp (suc place) items)

others_append : (n : ℕ) (xs ys : List Row) → AreOfOthers n xs → AreOfOthers n ys → AreOfOthers n (xs ++ ys)
others_append n [] ys p q = q
others_append n (x ∷ xs) ys p q = (p.0, others_append n xs ys p.1 q)

other_rows : (n m : ℕ) (rows : List Row) → m ≢ n → AreOfNumber m rows → AreOfOthers n rows
other_rows n m [] differ are = tt
other_rows n m (row ∷ rows) differ are = (λ e. differ (sym are.0 ∙ e), other_rows n m rows differ are.1)

-- the rows of later commits
pub later_rows : (n : ℕ) (before cs : Catalog) → n ≤ length before → MayFollow before cs → AreOfOthers n (all_rows cs)
later_rows n before [] past follows = tt
later_rows n before (c ∷ cs) past follows =
    let longer = length-append before (c ∷ []) in
    let number = follows.0.number in
    others_append n (rows_of c) (all_rows cs)
    (other_rows n c.commit.number (rows_of c) (λ e. omega (arith, e, number, past)) (own_rows c.commit.number c.commit.stamp 0 c.commit.items))
    (later_rows n (before ++ c ∷ []) cs (omega (arith, longer, past)) follows.1)

-- rows tell the stamp, where there are some
pub same_stamps : (number other stamp later place : ℕ) (items jtems : List Item) → 0 < length items
    → rows_from number stamp place items ≡ rows_from other later place jtems → stamp ≡ later
same_stamps number other stamp later place [] jtems some e = absurd (omega (arith, some))
same_stamps number other stamp later place (it ∷ items) [] some e = absurd (no_row _ (rows_from number stamp (suc place) items) e)
same_stamps number other stamp later place (it ∷ items) (jt ∷ jtems) some e =
    ap (λ (row : Row). row.stamp) (first_rows _ _ (rows_from number stamp (suc place) items) (rows_from other later (suc place) jtems) e).0

-- a lawful item brings as many as there are items
pub length-staged : (before : List Placed) (number stamp place : ℕ) (items : List Item) (staged : List (Option Staged))
    → AreLawfulItems before number stamp place items staged
    → length staged ≡ length items
length-staged before number stamp place [] [] are = refl
length-staged before number stamp place [] (s ∷ staged) are = absurd are
length-staged before number stamp place (it ∷ items) [] are = absurd are
length-staged before number stamp place (it ∷ items) (s ∷ staged) are = ap suc (length-staged before number stamp (suc place) items staged are.1)

-- the item of a place is lawful
pub lawful_at : (before : List Placed) (number stamp place : ℕ) (items : List Item) (staged : List (Option Staged))
    → AreLawfulItems before number stamp place items staged
    → (k : ℕ) (it : Item) (s : Option Staged) → slice_get items k ≡ Some it → slice_get staged k ≡ Some s → (at : ℕ) × IsLawfulItem before number stamp at it s
lawful_at before number stamp place [] staged are k it s is brought = cc
lawful_at before number stamp place (x ∷ items) [] are k it s is brought = absurd are
lawful_at before number stamp place (x ∷ items) (y ∷ staged) are zero it s is brought =
    let same_item : x ≡ it = cc in
    let same_staged : y ≡ s = cc in
    (place, subst (λ (z : Item). IsLawfulItem before number stamp place z s) same_item (subst (IsLawfulItem before number stamp place x) same_staged are.0))
lawful_at before number stamp place (x ∷ items) (y ∷ staged) are (suc k) it s is brought =
    lawful_at before number stamp (suc place) items staged are.1 k it s is brought

-- a version that is free has no details as its last item
free_details : (found : Option Placed) (old : Details) → IsFree found → IsOfDetails found old → ⊥
free_details None old free of = of
free_details (Some x) old free of = let kept = ap is_gone of in cc

-- one item isn't both a publish and a change of listing
pub not_both : (before : List Placed) (number stamp place other later at : ℕ) (it : Item) (brought : Staged)
    → IsLawfulItem before number stamp place it (Some brought)
    → IsLawfulItem before other later at it None → ⊥
not_both before number stamp place other later at (the.Details d) brought publish relisting =
    free_details (last_like (the.Details d) before) relisting.0 publish.free relisting.2
not_both before number stamp place other later at (the.Gone i v) brought publish relisting = publish
