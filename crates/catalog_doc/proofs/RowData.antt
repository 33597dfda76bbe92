-- The data of a row and of a page tell the row and the page's rows.
use Rattle.std.proofs.Common.{◌≡◌, ◌<◌, ◌≤◌, ◌^◌, ⊎_elim, ℕ, zero, suc, List, [], ◌∷◌, ◌++◌, length, map, Bool, true, false, codes, refl, sym, ◌∙◌, ap, subst, arith, get_or}
use Rattle.std.proofs.Props.{props}
use Rattle.std.proofs.lemmas.Bool.{cases_order}
use Rattle.std.proofs.lemmas.List.{append_cancel_left, append_cancel_right}
use Rattle.std.proofs.lemmas.Map.Text.{is_eq-slice_cmp}
use Rattle.std.proofs.lemmas.Slice.Eq.{bytes_eq-Decides}
use Rattle.std.specs.Cmp.Lexicographic.{slice_cmp}
use Rattle.std.specs.Ordering.{is_eq, nat_cmp}
use Rattle.std.specs.declared.cmp.Ordering.TheVariants.{Less}
use Rattle.serde_json.specs.Data.{Data, null, string, array, item, no_items, Items, object, Members, member, no_members, depth, items_depth}
use Rattle.serde_json.specs.View.{items_of}
use Rattle.json_law.specs.Fits.{Fits, ItemsFit}
use Rattle.json_law.proofs.Back.{compact_text-injective}
use Rattle.nuget_version.specs.Grammar.{Spells}
use Rattle.nuget_version.specs.Printed.{full_text}
use Rattle.nuget_version.specs.declared.version.Version.{Version}
use Rattle.nuget_version.proofs.OneValue.{one_value}
use Rattle.nuget_version.proofs.ReadBack.{full_reads}
use Rattle.package_id.specs.Ids.{id_key, is_id}
use Rattle.package_id.specs.declared.id.PackageId.{PackageId}
use Rattle.ticks.specs.Stamp.{stamp_text}
use Rattle.ticks.proofs.Rising.{stamp_text-rises}
use Rattle.catalog_doc.specs.Documents.{page_data, page_text, row_data, row_kind}
use Rattle.catalog_doc.specs.Names.{catalog_url, leaf_name, page_name}
use Rattle.catalog_doc.specs.declared.row.Row.{Row}
use Rattle.catalog_doc.proofs.DocNames.{leaf_name-number, leaf_name-place}

-- what an id keeps to
abbrev Kept : List ℕ → List ℕ → Type 0
Kept text key = (is_id text ≡ true) × (length text ≤ 100) × (key ≡ id_key text)

id_of : (text key : List ℕ) → Kept text key → PackageId
id_of text key k = record { text = text; key = key; spelled = k.0; short = k.1; lowered = k.2 }

kept_once : (text key : List ℕ) (k l : Kept text key) → k ≡ l
kept_once text key = hlevel props

abbrev Is : PackageId → List ℕ → List ℕ → Type 0
Is v text key = (k : Kept text key) → id_of text key k ≡ v

is_own : (v : PackageId) → Is v v.text v.key
unfolding id_of
is_own v k = ap (id_of v.text v.key) (kept_once v.text v.key k (v.spelled, v.short, v.lowered))

-- an id's text determines it
pub same_id : (u v : PackageId) → u.text ≡ v.text → u ≡ v
unfolding id_of
same_id u v text =
    let key : u.key ≡ v.key = u.lowered ∙ ap id_key text ∙ sym v.lowered in
    let one = subst (λ (x : List ℕ). Is v x v.key) (sym text) (is_own v) in
    let two = subst (λ (x : List ℕ). Is v u.text x) (sym key) one in
    two (u.spelled, u.short, u.lowered)

-- a version's full form determines it
pub same_version : (u v : Version) → full_text u ≡ full_text v → u ≡ v
same_version u v e = one_value (full_text v) u v (subst (λ (text : List ℕ). Spells text u) e (full_reads u)) (full_reads v)

not_less : (text : List ℕ) → slice_cmp nat_cmp text text ≡ Less → ⊥
not_less text less =
    let same : is_eq (slice_cmp nat_cmp text text) ≡ true = is_eq-slice_cmp text text ∙ (bytes_eq-Decides text text).1 refl in
    let other : is_eq (slice_cmp nat_cmp text text) ≡ false = ap is_eq less in
    cc

-- a stamp determines its moment
pub same_stamp : (m n : ℕ) → m ≤ 3_155_378_975_999_999_999 → n ≤ 3_155_378_975_999_999_999 → stamp_text m ≡ stamp_text n → m ≡ n
same_stamp m n fits others e = ⊎_elim
    (λ same. same)
    (⊎_elim
    (λ less. absurd (not_less (stamp_text n) (subst (λ (text : List ℕ). slice_cmp nat_cmp text (stamp_text n) ≡ Less) e (stamp_text-rises m n less others))))
    (λ more. absurd (not_less (stamp_text n) (subst (λ (text : List ℕ). slice_cmp nat_cmp (stamp_text n) text ≡ Less) e (stamp_text-rises n m more fits)))))
    (cases_order m n)

same_kind : (a b : Bool) → row_kind a ≡ row_kind b → a ≡ b
same_kind true true e = refl
same_kind false false e = refl
same_kind true false e = absurd (let place : get_or (row_kind true) 15 0 ≡ get_or (row_kind false) 15 0 = ap (λ (l : List ℕ). get_or l 15 0) e in omega arith)
same_kind false true e = absurd (let place : get_or (row_kind false) 15 0 ≡ get_or (row_kind true) 15 0 = ap (λ (l : List ℕ). get_or l 15 0) e in omega arith)

-- parts of data
abbrev pub text_in : Data → List ℕ
text_in (string s) = s
text_in d = []

abbrev pub members_in : Data → Members
members_in (object ms) = ms
members_in d = no_members

abbrev items_in : Data → Items
items_in (array ds) = ds
items_in d = no_items

abbrev first_in : Members → Data
first_in no_members = null
first_in (member k d ms) = d

abbrev behind_first : Members → Members
behind_first no_members = no_members
behind_first (member k d ms) = ms

abbrev pub nth : ℕ → Members → Data
nth zero ms = first_in ms
nth (suc n) ms = nth n (behind_first ms)

abbrev first_item : Items → Data
first_item no_items = null
first_item (item d ds) = d

abbrev other_items : Items → Items
other_items no_items = no_items
other_items (item d ds) = ds

abbrev has_item : Items → Bool
has_item no_items = false
has_item (item d ds) = true

-- the numbers and the moment of a row are of its types
pub record RowFits (row : Row) : Type 0 where
  pub number : row.number < 2 ^ 64
  pub place : row.place < 2 ^ 64
  pub stamp : row.stamp ≤ 3_155_378_975_999_999_999

abbrev pub RowsFit : List Row → Type 0
RowsFit [] = Unit {0}
RowsFit (row ∷ rows) = RowFits row × RowsFit rows

unfoldable pub nth_text : ℕ → Data → List ℕ
nth_text n d = text_in (nth n (members_in d))

-- a row's data tells the row
same_row : (base : List ℕ) (x y : Row) → RowFits x → RowFits y → row_data base x ≡ row_data base y → x ≡ y
unfolding nth_text
same_row base x y fx fy e =
    let url : catalog_url base (leaf_name x.number x.place) ≡ catalog_url base (leaf_name y.number y.place) = ap (nth_text 0) e in
    let name : leaf_name x.number x.place ≡ leaf_name y.number y.place =
    append_cancel_left (codes "v3/catalog/") (leaf_name x.number x.place) (leaf_name y.number y.place)
    (append_cancel_left base (codes "v3/catalog/" ++ leaf_name x.number x.place) (codes "v3/catalog/" ++ leaf_name y.number y.place) url) in
    let numbers : x.number ≡ y.number = leaf_name-number x.number y.number x.place y.place fx.number fy.number name in
    let places : x.place ≡ y.place = leaf_name-place x.number y.number x.place y.place fx.number fy.number fx.place fy.place name in
    let kinds : x.gone ≡ y.gone = same_kind x.gone y.gone (ap (nth_text 1) e) in
    let stamps : x.stamp ≡ y.stamp = same_stamp x.stamp y.stamp fx.stamp fy.stamp (ap (nth_text 3) e) in
    let ids : x.id ≡ y.id = same_id x.id y.id (ap (nth_text 4) e) in
    let versions : x.version ≡ y.version = same_version x.version y.version (ap (nth_text 5) e) in
    λ i. record { number = numbers i; place = places i; stamp = stamps i; id = ids i; version = versions i; gone = kinds i }

-- the items of a page tell its rows
same_rows : (base : List ℕ) (xs ys : List Row) → RowsFit xs → RowsFit ys → items_of (map (row_data base) xs) ≡ items_of (map (row_data base) ys) → xs ≡ ys
same_rows base [] [] fx fy e = refl
same_rows base [] (y ∷ ys) fx fy e = absurd (let no_way : false ≡ true = ap has_item e in cc)
same_rows base (x ∷ xs) [] fx fy e = absurd (let no_way : true ≡ false = ap has_item e in cc)
same_rows base (x ∷ xs) (y ∷ ys) fx fy e =
    let head : x ≡ y = same_row base x y fx.0 fy.0 (ap first_item e) in
    let tail : xs ≡ ys = same_rows base xs ys fx.1 fy.1 (ap other_items e) in
    λ i. head i ∷ tail i

items_fit : (base : List ℕ) (rows : List Row) → ItemsFit (items_of (map (row_data base) rows))
items_fit base [] = tt
items_fit base (row ∷ rows) = ((refl, tt, (refl, tt, (refl, tt, (refl, tt, (refl, tt, (tt, tt, tt)))))), items_fit base rows)

pub page_fits : (base : List ℕ) (k : ℕ) (rows : List Row) → length rows < 2 ^ 64 → Fits (page_data base k rows)
page_fits base k rows few = (refl, tt, (refl, tt, (refl, tt, (refl, few, (refl, items_fit base rows, (tt, tt, tt))))))

flat_items : (base : List ℕ) (rows : List Row) → items_depth (items_of (map (row_data base) rows)) ≤ 1
flat_items base [] = omega arith
flat_items base (row ∷ rows) = let rest = flat_items base rows in omega arith

pub flat_page : (base : List ℕ) (k : ℕ) (rows : List Row) → depth (page_data base k rows) ≤ 127
flat_page base k rows = let items = flat_items base rows in omega arith

-- a page's text tells the base address and the rows
pub page_text-tells : (base other : List ℕ) (k : ℕ) (xs ys : List Row) → RowsFit xs → RowsFit ys → length xs < 2 ^ 64 → length ys < 2 ^ 64
    → page_text base k xs ≡ page_text other k ys → (base ≡ other) × (xs ≡ ys)
unfolding page_text nth_text
page_text-tells base other k xs ys fx fy few fewer e =
    let data_same : page_data base k xs ≡ page_data other k ys =
    compact_text-injective (page_data base k xs) (page_data other k ys)
    (page_fits base k xs few) (flat_page base k xs) (page_fits other k ys fewer) (flat_page other k ys) e in
    let url : catalog_url base (page_name k) ≡ catalog_url other (page_name k) = ap (nth_text 0) data_same in
    let bases : base ≡ other = append_cancel_right base other (codes "v3/catalog/" ++ page_name k) url in
    let items : items_of (map (row_data base) xs) ≡ items_of (map (row_data other) ys) = ap (λ (d : Data). items_in (nth 4 (members_in d))) data_same in
    (bases, same_rows base xs ys fx fy (items ∙ ap (λ (b : List ℕ). items_of (map (row_data b) ys)) (sym bases)))
