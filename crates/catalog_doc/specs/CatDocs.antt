-- The documents of a catalog: a map from name to bytes.
use Rattle.std.specs.Prelude.{ℕ, suc, ◌+◌, List, [], ◌∷◌, ◌++◌, length, map, flat_map, nat_le, Option, Some, None, if◌then◌else◌}
use Rattle.std.specs.Str.{bytes_eq}
use Rattle.pkg_meta.specs.Catalog.{Catalog}
use Rattle.pkg_meta.specs.declared.commit.Stored.{Stored}
use Rattle.pkg_meta.specs.Items.{id_of, version_of, is_gone}
use Rattle.pkg_meta.specs.declared.item.Item.{Item}
use Rattle.catalog_doc.specs.Documents.{leaf_text, page_text, index_text, head_of}
use Rattle.catalog_doc.specs.Names.{index_name, page_name, leaf_name}
use Rattle.catalog_doc.specs.declared.row.Row.{Row}
use Rattle.catalog_doc.specs.declared.head.PageHead.{PageHead}

-- how many items a page holds at the most
abbrev pub page_room : ℕ
page_room = 512

-- the rows of items that stand at these places on
abbrev pub rows_from : ℕ → ℕ → ℕ → List Item → List Row
rows_from number stamp place [] = []
rows_from number stamp place (item ∷ items) =
    record { number = number; place = place; stamp = stamp; id = id_of item; version = version_of item; gone = is_gone item }
    ∷ rows_from number stamp (suc place) items

-- the rows of a commit
abbrev pub rows_of : Stored → List Row
rows_of c = rows_from c.commit.number c.commit.stamp 0 c.commit.items

-- the rows of all its commits, in order of number and place
abbrev pub all_rows : Catalog → List Row
all_rows cs = flat_map rows_of cs

-- a commit goes wholly into the last page where that then has no more than its room, else into a new one
abbrev pub add_commit : List Catalog → Stored → List Catalog
add_commit [] c = (c ∷ []) ∷ []
add_commit (page ∷ []) c =
    if nat_le (length (all_rows page) + length c.commit.items) page_room then (page ++ c ∷ []) ∷ [] else page ∷ (c ∷ []) ∷ []
add_commit (page ∷ next ∷ pages) c = page ∷ add_commit (next ∷ pages) c

-- the pages after these, filled in order of commits
abbrev pub fill : List Catalog → Catalog → List Catalog
fill pages [] = pages
fill pages (c ∷ cs) = fill (add_commit pages c) cs

-- the commits of each page
abbrev pub pages_of : Catalog → List Catalog
pages_of cs = fill [] cs

-- the commits of the last page, none where there is no page
abbrev pub last_page : List Catalog → Catalog
last_page [] = []
last_page (page ∷ []) = page
last_page (page ∷ next ∷ pages) = last_page (next ∷ pages)

-- what the index says of each page
abbrev pub heads_of : Catalog → List PageHead
heads_of cs = map (λ page. head_of (all_rows page)) (pages_of cs)

-- a document: its name in the area and its bytes
pub record Doc : Type 0 where
  pub name : List ℕ
  pub bytes : List ℕ

-- the documents of the pages from k on
abbrev pub page_docs : List ℕ → ℕ → List Catalog → List Doc
page_docs base k [] = []
page_docs base k (page ∷ pages) = record { name = page_name k; bytes = page_text base k (all_rows page) } ∷ page_docs base (suc k) pages

-- the leaves of items that stand at these places on
abbrev pub leaves_from : List ℕ → ℕ → ℕ → ℕ → List Item → List Doc
leaves_from base number stamp place [] = []
leaves_from base number stamp place (item ∷ items) =
    record { name = leaf_name number place; bytes = leaf_text base number place stamp item } ∷ leaves_from base number stamp (suc place) items

-- the leaves of a commit
abbrev pub leaves_of : List ℕ → Stored → List Doc
leaves_of base c = leaves_from base c.commit.number c.commit.stamp 0 c.commit.items

-- the index, the pages and the leaves
abbrev pub cat_docs : List ℕ → Catalog → List Doc
cat_docs base cs =
    record { name = index_name; bytes = index_text base (heads_of cs) } ∷ (page_docs base 0 (pages_of cs) ++ flat_map (leaves_of base) cs)

-- what a list of documents has at a name
abbrev pub look_up : List ℕ → List Doc → Option (List ℕ)
look_up name [] = None
look_up name (doc ∷ docs) = if bytes_eq name doc.name then Some doc.bytes else look_up name docs

-- what the catalog has at a name, or nothing
abbrev pub doc_at : List ℕ → Catalog → List ℕ → Option (List ℕ)
doc_at base cs name = look_up name (cat_docs base cs)
