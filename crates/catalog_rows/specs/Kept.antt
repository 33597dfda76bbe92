-- What an open catalog keeps of its catalog in memory.
use Rattle.std.specs.Prelude.{◌≡◌, ◌+◌, List, [], ◌∷◌, ◌++◌, length, nat_le, slice_get, ◌-◌, Option, Some, None, if◌then◌else◌}
use Rattle.std.specs.Option.{option_and_then}
use Rattle.pkg_meta.specs.Catalog.{Catalog}
use Rattle.pkg_meta.specs.declared.commit.Stored.{Stored}
use Rattle.catalog_doc.specs.CatDocs.{all_rows, heads_of, page_room, rows_of}
use Rattle.catalog_doc.specs.declared.head.PageHead.{PageHead}
use Rattle.catalog_doc.specs.declared.row.Row.{Row}

-- its rows, and the heads of its pages; and the rows of a commit that is to come, for which memory was taken
pub record Kept : Type 0 where
  pub rows : List Row
  pub pages : List PageHead
  pub reserved : List Row

-- the same rows and heads, whatever is reserved
pub record HoldsSame (old new : Kept) : Type 0 where
  pub rows : new.rows ≡ old.rows
  pub pages : new.pages ≡ old.pages

-- they are those of this catalog
pub record IsKeptOf (kept : Kept) (cs : Catalog) : Type 0 where
  pub rows : all_rows cs ≡ kept.rows
  pub pages : heads_of cs ≡ kept.pages

-- where the old ones are of a catalog, and the rows are those of a commit, the new ones are of the catalog with the commit
abbrev pub TakesIn : Kept → List Row → Kept → Type 0
TakesIn old rows new = (cs : Catalog) (c : Stored) → IsKeptOf old cs → rows_of c ≡ rows → IsKeptOf new (cs ++ c ∷ [])

-- a page's head with that of a commit that goes into it
abbrev pub joined : PageHead → PageHead → PageHead
joined page head = record { number = head.number; stamp = head.stamp; count = page.count + head.count }

-- the heads of the pages with a commit more, which goes into the last page where that has room for it, else into a new one
abbrev pub add_head : List PageHead → PageHead → List PageHead
add_head [] head = head ∷ []
add_head (page ∷ []) head = if nat_le (page.count + head.count) page_room then joined page head ∷ [] else page ∷ head ∷ []
add_head (page ∷ next ∷ pages) head = page ∷ add_head (next ∷ pages) head

-- the head of a page with that of a commit, if the page has room for it
abbrev pub joined_if : PageHead → PageHead → Option PageHead
joined_if page head = if nat_le (page.count + head.count) page_room then Some (joined page head) else None

-- that of the last of these pages, if there is one
abbrev pub longer : List PageHead → PageHead → Option PageHead
longer pages head = option_and_then (λ page. joined_if page head) (slice_get pages (length pages - 1))
