-- What a page and the index were read as, and which pages and index were to be read.
use Rattle.std.specs.Prelude.{◌≡◌, ◌⊎◌, ◌<◌, ◌≤◌, ◌+◌, ℕ, List, [], ◌∷◌, ◌++◌, drop, flat_map, length, map, Option, None, Some, IsSome, slice_get}
use Rattle.std.specs.FinMap.{get}
use Rattle.std.specs.Str.{IsUtf8}
use Rattle.blob_store.specs.Area.{Area}
use Rattle.catalog_doc.specs.Documents.{head_of, index_text}
use Rattle.catalog_doc.specs.Names.{page_name}
use Rattle.catalog_doc.specs.Reading.{AreHeadValues}
use Rattle.catalog_doc.specs.declared.head.PageHead.{PageHead}
use Rattle.catalog_doc.specs.declared.row.Row.{Row}
use Rattle.catalog_opening.specs.Pages.{FitIndex, FitsLast, HoldsPage, HoldsPages, IsOneCommit, IsPageText, rows_on}
use Rattle.catalog_opening.specs.declared.index.Index.{Index}
use Rattle.catalog_opening.specs.declared.page.Fit.{Fit}
use Rattle.catalog_opening.specs.declared.page.Fit.TheVariants.{AsItIs, OrOneMore}
use Rattle.catalog_opening.specs.declared.page.Page.{Page}
use Rattle.catalog_opening.specs.declared.pages.Found.{Found}
use Rattle.catalog_opening.specs.declared.reading.End.{End}

-- no rows were read where nothing is held, and no others than those of the page that is held
abbrev pub IsReadPage : List ℕ → ℕ → Option (List ℕ) → Option (List Row) → Type 0
IsReadPage base k held None = held ≡ None
IsReadPage base k held (Some rows) = IsSome held × ((other : List Row) → IsPageText base k held other → rows ≡ other)

-- what is held is no page's text
abbrev pub IsNoPage : List ℕ → ℕ → Option (List ℕ) → Type 0
IsNoPage base k held = IsSome held × ((rows : List Row) → IsPageText base k held rows → ⊥)

-- a page of these rows, with what an index says of it
abbrev pub page_of : List Row → Page
page_of rows = record { head = head_of rows; rows = rows }

-- the rows are those that the index says, or may have one commit more
abbrev pub Fits : Fit → PageHead → List Row → Type 0
Fits AsItIs head rows = head_of rows ≡ head
Fits OrOneMore head rows = FitsLast head rows

-- page k is one before the last, and isn't held as the index says
abbrev pub IsFrontDamaged : Area → List ℕ → List PageHead → ℕ → Type 0
IsFrontDamaged m base heads k = (k < length heads) × ((rows : List Row) → HoldsPage m base k rows → slice_get heads k ≡ Some (head_of rows) → ⊥)

-- how many pages an index has at the most: as many as a catalog may have items
abbrev pub pages_at_most : ℕ
pages_at_most = 200_000

-- what is held is the text of an index of these pages, whose numbers and moments are those of the code's types
pub record IsIndexText (base : List ℕ) (heads : List PageHead) (held : Option (List ℕ)) : Type 0 where
  pub base_text : IsUtf8 base
  pub values : AreHeadValues heads
  pub few : length heads ≤ pages_at_most
  pub text : held ≡ Some (index_text base heads)

-- an index was read that has the text held, and no other than that of the code's types
pub record IsReadIndex (held : Option (List ℕ)) (index : Index) : Type 0 where
  pub few : length index.heads ≤ pages_at_most
  pub text : held ≡ Some (index_text index.base index.heads)
  pub only : (base : List ℕ) (heads : List PageHead) → IsIndexText base heads held → (index.base ≡ base) × (index.heads ≡ heads)

-- none was read where nothing is held
abbrev pub IsReadAsIndex : Option (List ℕ) → Option Index → Type 0
IsReadAsIndex held None = held ≡ None
IsReadAsIndex held (Some index) = IsReadIndex held index

-- what is held is no index's text
abbrev pub IsNoIndex : Option (List ℕ) → Type 0
IsNoIndex held = IsSome held × ((base : List ℕ) (heads : List PageHead) → IsIndexText base heads held → ⊥)

-- of an option a list of one, or none
abbrev pub listed : {A : Type 0} → Option A → List A
listed None = []
listed (Some x) = x ∷ []

-- the pages at the end of an index
abbrev pub end_pages : End → List Page
end_pages end = listed end.last ++ listed end.next

-- the last page, page k, isn't held as the index says; or the page behind it isn't that of one commit more
abbrev pub IsEndDamaged : Area → List ℕ → ℕ → PageHead → List ℕ → Type 0
IsEndDamaged m base k head name =
    ((name ≡ page_name k) × ((rows : List Row) → HoldsPage m base k rows → FitsLast head rows → ⊥))
    ⊎ ((name ≡ page_name (k + 1)) × IsSome (get m (page_name (k + 1)))
    × ((rows next : List Row) → HoldsPage m base k rows → HoldsPage m base (k + 1) next → head_of rows ≡ head → IsOneCommit next → ⊥))

-- the rows of pages, in order
abbrev pub page_rows_on : List Page → List Row
page_rows_on pages = flat_map (λ (page : Page). page.rows) pages

-- what an index says of pages
abbrev pub heads_on : List Page → List PageHead
heads_on pages = map (λ (page : Page). page.head) pages

-- the area holds these pages from k on, and none behind them, and they fit an index whose last page, page k, has this head
pub record IsHeldEnd (m : Area) (base : List ℕ) (k : ℕ) (head : PageHead) (pages : List (List Row)) : Type 0 where
  pub held : HoldsPages m base k pages
  pub behind : get m (page_name (k + length pages)) ≡ None
  pub fits : FitIndex (head ∷ []) pages

-- how many rows the pages before the last have
abbrev pub rows_before_last : List PageHead → ℕ
rows_before_last [] = 0
rows_before_last (head ∷ []) = 0
rows_before_last (head ∷ next ∷ heads) = head.count + rows_before_last (next ∷ heads)

-- how many rows all pages have
abbrev pub counted_rows : List PageHead → ℕ
counted_rows [] = 0
counted_rows (head ∷ heads) = head.count + counted_rows heads

-- the rows at the end, and what an index says of all pages
pub record IsEndingOf (heads : List PageHead) (pages : List (List Row)) (found : Found) : Type 0 where
  pub rows : found.rows ≡ drop (rows_before_last heads) (rows_on pages)
  pub heads_are : found.heads ≡ map head_of pages
