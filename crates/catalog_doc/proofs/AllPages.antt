-- Catalogs of every length: their pages tell their rows.
use Rattle.std.proofs.Common.{◌≡◌, ◌<◌, ◌≤◌, ◌+◌, ◌^◌, ℕ, suc, List, [], ◌∷◌, ◌++◌, length, Bool, true, false, Option, None, refl, sym, ◌∙◌, ap, subst, arith, append_assoc, append-nil, length-append, map}
use Rattle.std.specs.Prelude.{flat_map, if◌then◌else◌, nat_le}
use Rattle.std.specs.Option.{option_or}
use Rattle.std.proofs.lemmas.Grind.{flat_map-append}
use Rattle.std.proofs.lemmas.List.{length-map}
use Rattle.pkg_meta.specs.Catalog.{Catalog}
use Rattle.pkg_meta.specs.declared.commit.Stored.{Stored}
use Rattle.catalog_doc.specs.CatDocs.{add_commit, all_rows, Doc, doc_at, fill, heads_of, leaves_of, look_up, page_docs, page_room, pages_of, rows_of}
use Rattle.catalog_doc.specs.Documents.{head_of, index_text, page_text}
use Rattle.catalog_doc.specs.Laws.{HaveSamePages, IsInRange}
use Rattle.catalog_doc.specs.Names.{index_name, page_name}
use Rattle.catalog_doc.specs.declared.row.Row.{Row}
use Rattle.catalog_doc.proofs.DocNames.{leaf_name-not_page, page_name-injective, page_name-not_index}
use Rattle.catalog_doc.proofs.LookUps.{hit, look_up-append, miss, no_leaf, or_none, past_index}
use Rattle.catalog_doc.proofs.NewDocs.{few_pages}
use Rattle.catalog_doc.proofs.OnePage.{all_fit, CountsFit, from_some, index_text-tells, none_some}
use Rattle.catalog_doc.proofs.RowData.{page_text-tells, RowsFit}

-- the rows of all pages
abbrev rows_in : List Catalog → List Row
rows_in pages = flat_map all_rows pages

one_more : (page : Catalog) (c : Stored) (fits : Bool) → rows_in (if fits then (page ++ c ∷ []) ∷ [] else page ∷ (c ∷ []) ∷ []) ≡ all_rows page ++ rows_of c
one_more page c true =
    append-nil (all_rows (page ++ c ∷ [])) ∙ flat_map-append rows_of page (c ∷ []) ∙ ap (λ (rows : List Row). all_rows page ++ rows) (append-nil (rows_of c))
one_more page c false =
    ap (λ (rows : List Row). all_rows page ++ rows) (append-nil (rows_of c ++ []) ∙ append-nil (rows_of c))

rows_in-add_commit : (pages : List Catalog) (c : Stored) → rows_in (add_commit pages c) ≡ rows_in pages ++ rows_of c
rows_in-add_commit [] c = append-nil (rows_of c ++ []) ∙ append-nil (rows_of c)
rows_in-add_commit (page ∷ []) c =
    one_more page c (nat_le (length (all_rows page) + length c.commit.items) page_room)
    ∙ ap (λ (rows : List Row). rows ++ rows_of c) (sym (append-nil (all_rows page)))
rows_in-add_commit (page ∷ next ∷ pages) c =
    ap (λ (rows : List Row). all_rows page ++ rows) (rows_in-add_commit (next ∷ pages) c)
    ∙ sym (append_assoc (all_rows page) (rows_in (next ∷ pages)) (rows_of c))

rows_in-fill : (pages : List Catalog) (cs : Catalog) → rows_in (fill pages cs) ≡ rows_in pages ++ all_rows cs
rows_in-fill pages [] = sym (append-nil (rows_in pages))
rows_in-fill pages (c ∷ cs) =
    rows_in-fill (add_commit pages c) cs
    ∙ ap (λ (rows : List Row). rows ++ all_rows cs) (rows_in-add_commit pages c)
    ∙ append_assoc (rows_in pages) (rows_of c) (all_rows cs)

parts_fit : (xs ys : List Row) → RowsFit (xs ++ ys) → RowsFit xs × RowsFit ys
parts_fit [] ys fits = (tt, fits)
parts_fit (x ∷ xs) ys fits = let rest = parts_fit xs ys fits.1 in ((fits.0, rest.0), rest.1)

-- no leaf has a page's name
no_leaf_page : (base : List ℕ) (k : ℕ) (cs : Catalog) → look_up (page_name k) (flat_map (leaves_of base) cs) ≡ None
no_leaf_page base k [] = refl
no_leaf_page base k (c ∷ cs) =
    look_up-append (page_name k) (leaves_of base c) (flat_map (leaves_of base) cs)
    ∙ ap (λ (found : Option (List ℕ)). option_or found (look_up (page_name k) (flat_map (leaves_of base) cs)))
    (no_leaf base (page_name k) c.commit.number c.commit.stamp 0 c.commit.items (λ p e. leaf_name-not_page c.commit.number p k (sym e)))
    ∙ no_leaf_page base k cs

-- what a catalog has at a page's name stands among its pages
page_at : (base : List ℕ) (cs : Catalog) (k : ℕ) → doc_at base cs (page_name k) ≡ look_up (page_name k) (page_docs base 0 (pages_of cs))
page_at base cs k =
    past_index base (page_name k) cs (page_name-not_index k)
    ∙ ap (option_or (look_up (page_name k) (page_docs base 0 (pages_of cs)))) (no_leaf_page base k cs)
    ∙ or_none (look_up (page_name k) (page_docs base 0 (pages_of cs)))

abbrev page_doc : List ℕ → ℕ → Catalog → Doc
page_doc base k page = record { name = page_name k; bytes = page_text base k (all_rows page) }

page_past : (j k : ℕ) → suc k ≤ j → j ≡ k → ⊥
page_past j k past at = omega arith

-- pages that are the same from k on have the same rows
same_pages : (base other : List ℕ) (k : ℕ) (ps qs : List Catalog) → k + length ps < 2 ^ 64 → k + length qs < 2 ^ 64
    → RowsFit (rows_in ps) → RowsFit (rows_in qs) → length (rows_in ps) < 2 ^ 64 → length (rows_in qs) < 2 ^ 64
    → ((j : ℕ) → k ≤ j → j < 2 ^ 64 → look_up (page_name j) (page_docs base k ps) ≡ look_up (page_name j) (page_docs other k qs))
    → rows_in ps ≡ rows_in qs
same_pages base other k [] [] fp fq rp rq np nq same = refl
same_pages base other k [] (q ∷ qs) fp fq rp rq np nq same =
    absurd (none_some (page_text other k (all_rows q)) (same k (omega arith) (omega arith) ∙ hit (page_doc other k q) (page_docs other (suc k) qs)))
same_pages base other k (p ∷ ps) [] fp fq rp rq np nq same =
    absurd (none_some (page_text base k (all_rows p)) (sym (same k (omega arith) (omega arith)) ∙ hit (page_doc base k p) (page_docs base (suc k) ps)))
same_pages base other k (p ∷ ps) (q ∷ qs) fp fq rp rq np nq same =
    let text : page_text base k (all_rows p) ≡ page_text other k (all_rows q) =
    from_some (page_text base k (all_rows p)) (page_text other k (all_rows q))
    (sym (hit (page_doc base k p) (page_docs base (suc k) ps)) ∙ same k (omega arith) (omega arith) ∙ hit (page_doc other k q) (page_docs other (suc k) qs)) in
    let few : length (all_rows p ++ rows_in ps) ≡ length (all_rows p) + length (rows_in ps) = length-append (all_rows p) (rows_in ps) in
    let fewer : length (all_rows q ++ rows_in qs) ≡ length (all_rows q) + length (rows_in qs) = length-append (all_rows q) (rows_in qs) in
    let own = parts_fit (all_rows p) (rows_in ps) rp in
    let others = parts_fit (all_rows q) (rows_in qs) rq in
    let rows : all_rows p ≡ all_rows q = (page_text-tells base other k (all_rows p) (all_rows q) own.0 others.0 (omega arith) (omega arith) text).1 in
    let rest : rows_in ps ≡ rows_in qs = same_pages base other (suc k) ps qs (omega arith) (omega arith) own.1 others.1 (omega arith) (omega arith)
    (λ j past within.
    sym (miss (page_name j) (page_doc base k p) (page_docs base (suc k) ps) (λ e. page_past j k past (page_name-injective j k within (omega arith) e)))
    ∙ same j (omega arith) within
    ∙ miss (page_name j) (page_doc other k q) (page_docs other (suc k) qs) (λ e. page_past j k past (page_name-injective j k within (omega arith) e))) in
    λ i. rows i ++ rest i

-- catalogs with the same pages have the same rows
pub same_all_pages : (base other : List ℕ) (cs ds : Catalog) → IsInRange cs → IsInRange ds → HaveSamePages base other cs ds → all_rows cs ≡ all_rows ds
same_all_pages base other cs ds rc rd same =
    let ic : rows_in (pages_of cs) ≡ all_rows cs = rows_in-fill [] cs in
    let id : rows_in (pages_of ds) ≡ all_rows ds = rows_in-fill [] ds in
    let pc = (few_pages [] cs).0 in
    let pd = (few_pages [] ds).0 in
    sym ic
    ∙ same_pages base other 0 (pages_of cs) (pages_of ds) (omega (arith, rc.few)) (omega (arith, rd.few))
    (subst RowsFit (sym ic) (all_fit cs rc.items rc.commits)) (subst RowsFit (sym id) (all_fit ds rd.items rd.commits))
    (subst (λ (rows : List Row). length rows < 2 ^ 64) (sym ic) rc.items) (subst (λ (rows : List Row). length rows < 2 ^ 64) (sym id) rd.items)
    (λ j past within. sym (page_at base cs j) ∙ same j ∙ page_at other ds j)
    ∙ id

counts_fit : (pages : List Catalog) → length (rows_in pages) < 2 ^ 64 → CountsFit (map (λ page. head_of (all_rows page)) pages)
counts_fit [] few = tt
counts_fit (page ∷ pages) few =
    let split : length (all_rows page ++ rows_in pages) ≡ length (all_rows page) + length (rows_in pages) = length-append (all_rows page) (rows_in pages) in
    (omega (arith, few, split), counts_fit pages (omega (arith, few, split)))

pub counts_of : (cs : Catalog) → IsInRange cs → CountsFit (heads_of cs) × (length (heads_of cs) < 2 ^ 64)
counts_of cs range =
    let pages = (few_pages [] cs).0 in
    let heads : length (heads_of cs) ≡ length (pages_of cs) = length-map (pages_of cs) (λ (page : Catalog). head_of (all_rows page)) in
    (counts_fit (pages_of cs) (subst (λ (rows : List Row). length rows < 2 ^ 64) (sym (rows_in-fill [] cs)) range.items), omega (arith, range.few, heads))

-- equal indexes have equal base addresses
pub same_any_index : (base other : List ℕ) (cs ds : Catalog) → IsInRange cs → IsInRange ds → doc_at base cs index_name ≡ doc_at other ds index_name → base ≡ other
same_any_index base other cs ds rc rd e =
    let hc = counts_of cs rc in
    let hd = counts_of ds rd in
    index_text-tells base other (heads_of cs) (heads_of ds) hc.0 hd.0 hc.1 hd.1 (from_some (index_text base (heads_of cs)) (index_text other (heads_of ds)) e)
