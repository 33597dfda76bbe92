-- Rows and heads one by one, and the last of each.
use Rattle.std.proofs.Common.{◌≡◌, ℕ, suc, ◌<◌, ◌+◌, ◌-◌, ◌++◌, [], ◌∷◌, List, length, get_or, drop, map, ap, ap₂, sym, ◌∙◌, append_assoc, length-append, add-one, false, refl, Some, slice_get, arith}
use Rattle.std.proofs.lemmas.List.{drop_more, length-map, map-append}
use Rattle.serde_json.specs.Data.{Data}
use Rattle.serde_json.specs.View.{view, items_of}
use Rattle.serde_json.specs.Written.{has_float, items_have_float}
use Rattle.serde_json.specs.declared.value.Value.{Value}
use Rattle.ticks.specs.Stamp.{stamp_text}
use Rattle.catalog_doc.specs.Documents.{commit_id, head_data, head_of, heads_data, index_data, last_head, last_number, last_stamp, page_data, page_object, row_data}
use Rattle.catalog_doc.specs.Names.{catalog_url, index_name, page_name}
use Rattle.catalog_doc.specs.declared.head.PageHead.{PageHead}
use Rattle.catalog_doc.specs.declared.row.Row.{Row}

-- one head more
pub head_turn : (base : List ℕ) (vs later : List Value) (v : Value) (xs : List PageHead) (x : PageHead) (i page : ℕ) (whole : List Data)
    → i < length xs → x ≡ get_or xs i x → view v ≡ head_data base page x → later ≡ vs ++ v ∷ []
    → map view vs ++ heads_data base page (drop i xs) ≡ whole
    → map view later ++ heads_data base (page + 1) (drop (i + 1) xs) ≡ whole
head_turn base vs later v xs x i page whole lt is seen pushed so_far =
    let rest = heads_data base (suc page) (drop (i + 1) xs) in
    ap (λ (n : ℕ). map view later ++ heads_data base n (drop (i + 1) xs)) (add-one page)
    ∙ ap (λ (l : List Value). map view l ++ rest) pushed
    ∙ ap (λ (l : List Data). l ++ rest) (map-append view vs (v ∷ []))
    ∙ append_assoc (map view vs) (view v ∷ []) rest
    ∙ ap (λ (d : Data). map view vs ++ d ∷ rest) seen
    ∙ sym (ap (λ (l : List PageHead). map view vs ++ heads_data base page l) (drop_more xs i x lt ∙ ap (λ (h : PageHead). h ∷ drop (i + 1) xs) (sym is)))
    ∙ so_far

-- one text more
pub text_turn : {A B : Type 0} (told : A → Data) (wanted : B → Data) (ts later : List A) (t : A) (xs : List B) (x : B) (i : ℕ) (whole : List Data)
    → i < length xs → x ≡ get_or xs i x → told t ≡ wanted x → later ≡ ts ++ t ∷ []
    → map told ts ++ map wanted (drop i xs) ≡ whole
    → map told later ++ map wanted (drop (i + 1) xs) ≡ whole
text_turn {A} {B} told wanted ts later t xs x i whole lt is same pushed so_far =
    let rest = map wanted (drop (i + 1) xs) in
    ap (λ (l : List A). map told l ++ rest) pushed
    ∙ ap (λ (l : List Data). l ++ rest) (map-append told ts (t ∷ []))
    ∙ append_assoc (map told ts) (told t ∷ []) rest
    ∙ ap (λ (d : Data). map told ts ++ d ∷ rest) same
    ∙ sym (ap (λ (l : List B). map told ts ++ map wanted l) (drop_more xs i x lt ∙ ap (λ (h : B). h ∷ drop (i + 1) xs) (sym is)))
    ∙ so_far

no_floats_in_heads : (base : List ℕ) (page : ℕ) (heads : List PageHead) → items_have_float (items_of (heads_data base page heads)) ≡ false
no_floats_in_heads base page [] = refl
no_floats_in_heads base page (head ∷ heads) = no_floats_in_heads base (suc page) heads

-- an index has no float
pub no_floats_in_index : (base : List ℕ) (heads : List PageHead) → has_float (index_data base heads) ≡ false
no_floats_in_index base heads = rw (no_floats_in_heads base 0 heads)

suc_sub : (n : ℕ) → suc (suc n) - 1 ≡ suc (suc n - 1)
suc_sub n = omega arith

-- the last one, as a look-up finds it
pub at_last_head : (xs : List PageHead) (x : PageHead) → Some x ≡ slice_get xs (length xs - 1) → last_head xs ≡ x
at_last_head [] x e = cc
at_last_head (y ∷ []) x e = let same : y ≡ x = cc in same
at_last_head (y ∷ z ∷ ys) x e = at_last_head (z ∷ ys) x (e ∙ ap (slice_get (y ∷ z ∷ ys)) (suc_sub (length ys)))

pub at_last_row : (xs : List Row) (x : Row) → Some x ≡ slice_get xs (length xs - 1) → (last_number xs ≡ x.number) × (last_stamp xs ≡ x.stamp)
at_last_row [] x e = cc
at_last_row (y ∷ []) x e = let same : y ≡ x = cc in (ap (λ (r : Row). r.number) same, ap (λ (r : Row). r.stamp) same)
at_last_row (y ∷ z ∷ ys) x e = at_last_row (z ∷ ys) x (e ∙ ap (slice_get (y ∷ z ∷ ys)) (suc_sub (length ys)))

-- the last of rows with one more behind them
pub last_number-push : (rows : List Row) (row : Row) → last_number (rows ++ row ∷ []) ≡ row.number
last_number-push [] row = refl
last_number-push (x ∷ []) row = refl
last_number-push (x ∷ y ∷ rows) row = last_number-push (y ∷ rows) row

pub last_stamp-push : (rows : List Row) (row : Row) → last_stamp (rows ++ row ∷ []) ≡ row.stamp
last_stamp-push [] row = refl
last_stamp-push (x ∷ []) row = refl
last_stamp-push (x ∷ y ∷ rows) row = last_stamp-push (y ∷ rows) row

-- their head
pub head_of-push : (rows : List Row) (row : Row) → head_of (rows ++ row ∷ []) ≡ record { number = row.number; stamp = row.stamp; count = length rows + 1 }
head_of-push rows row = λ i. record {
  number = last_number-push rows row i;
  stamp = last_stamp-push rows row i;
  count = length-append rows (row ∷ []) i;
}

-- the texts of rows with one more behind them
pub text_pushed : {A B : Type 0} (told : A → Data) (wanted : B → Data) (ts later : List A) (t : A) (xs : List B) (x : B) → map told ts ≡ map wanted xs → told t ≡ wanted x
    → later ≡ ts ++ t ∷ [] → map told later ≡ map wanted (xs ++ x ∷ [])
text_pushed told wanted ts later t xs x so_far same pushed =
    ap (map told) pushed ∙ map-append told ts (t ∷ []) ∙ ap₂ (λ (l : List Data) (d : Data). l ++ d ∷ []) so_far same ∙ sym (map-append wanted xs (x ∷ []))

-- a page of the texts of its rows
pub page_told : {A : Type 0} (told : A → Data) (base : List ℕ) (k : ℕ) (rows : List Row) (texts : List A) (number stamp : ℕ) → map told texts ≡ map (row_data base) rows
    → number ≡ last_number rows → stamp ≡ last_stamp rows
    → page_object (catalog_url base (page_name k)) (commit_id number) (stamp_text stamp) (length texts) (map told texts) (catalog_url base index_name) ≡ page_data base k rows
page_told told base k rows texts number stamp same last moment =
    let count : length texts ≡ length rows = sym (length-map texts told) ∙ ap length same ∙ length-map rows (row_data base) in
    λ i. page_object (catalog_url base (page_name k)) (commit_id (last i)) (stamp_text (moment i)) (count i) (same i) (catalog_url base index_name)
