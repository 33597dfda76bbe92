-- Reading rows and heads one by one.
use Rattle.std.proofs.Common.{◌≡◌, ◌<◌, ◌+◌, ℕ, zero, suc, List, [], ◌∷◌, ◌++◌, length, map, get_or, drop, Some, refl, sym, ◌∙◌, ap, arith, append_assoc, append-nil, add-one}
use Rattle.std.specs.declared.alloc.Global.{Global}
use Rattle.json.specs.Value.{items_view, value_view}
use Rattle.json.specs.declared.value.Value.{Value}
use Rattle.serde_json.specs.View.{items_of}
use Rattle.serde_json.specs.Written.{items_outline, outline}
use Rattle.catalog_doc.specs.Documents.{head_data, heads_data, row_data}
use Rattle.catalog_doc.specs.Reading.{AreHeadValues, AreRowValues, IsHeadValue, IsRowValue}
use Rattle.catalog_doc.specs.declared.head.PageHead.{PageHead}
use Rattle.catalog_doc.specs.declared.row.Row.{Row}

-- the row that a tree is the outline of, among rows whose outlines the trees are
pub record IsNthRow (base : List ℕ) (v : Value Global) (i : ℕ) (rows : List Row) : Type 0 where
  pub row : Row
  pub fits : IsRowValue row
  pub seen : value_view v ≡ outline (row_data base row)
  pub left : drop i rows ≡ row ∷ drop (suc i) rows

pub nth_row : (base : List ℕ) (vs : List (Value Global)) (v : Value Global) (i : ℕ) (rows : List Row) → AreRowValues rows → items_view vs ≡ items_outline (items_of (map (row_data base) rows))
    → i < length vs → v ≡ get_or vs i v → IsNthRow base v i rows
nth_row base [] v i rows are same lt is = absurd (omega arith)
nth_row base (x ∷ vs) v i [] are same lt is = absurd (let no_way : ⊥ = cc in no_way)
nth_row base (x ∷ vs) v zero (row ∷ rows) are same lt is =
    let own : value_view x ≡ outline (row_data base row) = cc in
    record { row = row; fits = are.0; seen = ap value_view is ∙ own; left = refl }
nth_row base (x ∷ vs) v (suc i) (row ∷ rows) are same lt is =
    let others : items_view vs ≡ items_outline (items_of (map (row_data base) rows)) = cc in
    let found = nth_row base vs v i rows are.1 others (omega arith) is in
    record { row = found.row; fits = found.fits; seen = found.seen; left = found.left }

pub record IsNthHead (base : List ℕ) (v : Value Global) (i : ℕ) (heads : List PageHead) : Type 0 where
  pub place : ℕ
  pub head : PageHead
  pub fits : IsHeadValue head
  pub seen : value_view v ≡ outline (head_data base place head)
  pub left : drop i heads ≡ head ∷ drop (suc i) heads

pub nth_head : (base : List ℕ) (k : ℕ) (vs : List (Value Global)) (v : Value Global) (i : ℕ) (heads : List PageHead) → AreHeadValues heads → items_view vs ≡ items_outline (items_of (heads_data base k heads))
    → i < length vs → v ≡ get_or vs i v → IsNthHead base v i heads
nth_head base k [] v i heads are same lt is = absurd (omega arith)
nth_head base k (x ∷ vs) v i [] are same lt is = absurd (let no_way : ⊥ = cc in no_way)
nth_head base k (x ∷ vs) v zero (head ∷ heads) are same lt is =
    let own : value_view x ≡ outline (head_data base k head) = cc in
    record { place = k; head = head; fits = are.0; seen = ap value_view is ∙ own; left = refl }
nth_head base k (x ∷ vs) v (suc i) (head ∷ heads) are same lt is =
    let others : items_view vs ≡ items_outline (items_of (heads_data base (suc k) heads)) = cc in
    let found = nth_head base (suc k) vs v i heads are.1 others (omega arith) is in
    record { place = found.place; head = found.head; fits = found.fits; seen = found.seen; left = found.left }

-- one more that was read
module _ {A : Type 0} where
  pub one_read : (done later wanted : List A) (x y : A) (i : ℕ) → done ++ drop i wanted ≡ wanted → drop i wanted ≡ y ∷ drop (suc i) wanted
      → Some x ≡ Some y → later ≡ done ++ x ∷ [] → later ++ drop (i + 1) wanted ≡ wanted
  one_read done later wanted x y i so_far left read pushed =
      let same : x ≡ y = cc in
      ap (λ (n : ℕ). later ++ drop n wanted) (add-one i)
      ∙ ap (λ (l : List A). l ++ drop (suc i) wanted) pushed
      ∙ append_assoc done (x ∷ []) (drop (suc i) wanted)
      ∙ ap (λ (z : A). done ++ z ∷ drop (suc i) wanted) same
      ∙ ap (λ (l : List A). done ++ l) (sym left)
      ∙ so_far

  drop_all : (n : ℕ) (xs : List A) → length xs ≡ n → drop n xs ≡ []
  drop_all zero [] e = refl
  drop_all zero (x ∷ xs) e = absurd (omega (arith, e))
  drop_all (suc n) [] e = absurd (omega (arith, e))
  drop_all (suc n) (x ∷ xs) e = drop_all n xs (omega (arith, e))

  -- all have been read
  pub all_read : (done wanted : List A) (n i : ℕ) → length wanted ≡ n → i ≡ n → done ++ drop i wanted ≡ wanted → done ≡ wanted
  all_read done wanted n i long at so_far =
      sym (append-nil done) ∙ ap (λ (l : List A). done ++ l) (sym (drop_all i wanted (long ∙ sym at))) ∙ so_far

pub length-rows : (base : List ℕ) (vs : List (Value Global)) (rows : List Row) → items_view vs ≡ items_outline (items_of (map (row_data base) rows)) → length rows ≡ length vs
length-rows base [] [] e = refl
length-rows base [] (row ∷ rows) e = absurd (let no_way : ⊥ = cc in no_way)
length-rows base (v ∷ vs) [] e = absurd (let no_way : ⊥ = cc in no_way)
length-rows base (v ∷ vs) (row ∷ rows) e = ap suc (length-rows base vs rows (let others : items_view vs ≡ items_outline (items_of (map (row_data base) rows)) = cc in others))

pub length-heads : (base : List ℕ) (k : ℕ) (vs : List (Value Global)) (heads : List PageHead) → items_view vs ≡ items_outline (items_of (heads_data base k heads)) → length heads ≡ length vs
length-heads base k [] [] e = refl
length-heads base k [] (head ∷ heads) e = absurd (let no_way : ⊥ = cc in no_way)
length-heads base k (v ∷ vs) [] e = absurd (let no_way : ⊥ = cc in no_way)
length-heads base k (v ∷ vs) (head ∷ heads) e = ap suc (length-heads base (suc k) vs heads (let others : items_view vs ≡ items_outline (items_of (heads_data base (suc k) heads)) = cc in others))
