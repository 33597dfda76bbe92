-- The pages that an area holds, and how they fit an index.
use Rattle.std.specs.Prelude.{◌≡◌, ◌<◌, ◌≤◌, ◌⊎◌, ◌^◌, ℕ, zero, suc, List, [], ◌∷◌, length, map, take, drop, flat_map, Option, None, Some, IsSome, ⊤}
use Rattle.std.specs.FinMap.{get}
use Rattle.blob_store.specs.Area.{Area}
use Rattle.catalog_doc.specs.CatDocs.{page_room}
use Rattle.catalog_doc.specs.Documents.{head_of, page_text}
use Rattle.catalog_doc.specs.Names.{page_name}
use Rattle.catalog_doc.specs.Reading.{AreRowValues}
use Rattle.catalog_doc.specs.declared.head.PageHead.{PageHead}
use Rattle.catalog_doc.specs.declared.row.Row.{Row}

-- what is held is the text of page k of these rows, whose numbers and moments are those of the code's types
pub record IsPageText (base : List ℕ) (k : ℕ) (held : Option (List ℕ)) (rows : List Row) : Type 0 where
  pub values : AreRowValues rows
  pub few : length rows < 2 ^ 64
  pub text : held ≡ Some (page_text base k rows)

-- the area holds page k of these rows
abbrev pub HoldsPage : Area → List ℕ → ℕ → List Row → Type 0
HoldsPage m base k rows = IsPageText base k (get m (page_name k)) rows

-- the area holds these pages, from k on
abbrev pub HoldsPages : Area → List ℕ → ℕ → List (List Row) → Type 0
HoldsPages m base k [] = ⊤
HoldsPages m base k (rows ∷ pages) = HoldsPage m base k rows × HoldsPages m base (suc k) pages

-- the rows of these pages, in order
abbrev pub rows_on : List (List Row) → List Row
rows_on pages = flat_map (λ (rows : List Row). rows) pages

-- the row is of a commit of this number and stamp
abbrev pub IsOfCommit : ℕ → ℕ → Row → Type 0
IsOfCommit number stamp row = (row.number ≡ number) × (row.stamp ≡ stamp)

-- each of the rows is
abbrev pub AreOfCommit : ℕ → ℕ → List Row → Type 0
AreOfCommit number stamp [] = ⊤
AreOfCommit number stamp (row ∷ rows) = IsOfCommit number stamp row × AreOfCommit number stamp rows

-- the rows are those of one commit, which has 1 to 64
abbrev pub IsOneCommit : List Row → Type 0
IsOneCommit [] = ⊥
IsOneCommit (row ∷ rows) = (length (row ∷ rows) ≤ 64) × AreOfCommit row.number row.stamp (row ∷ rows)

-- the page has the rows that the index says, and those of one commit more, and is within its room
pub record HasOneMore (head : PageHead) (rows : List Row) : Type 0 where
  pub kept : head_of (take head.count rows) ≡ head
  pub more : IsOneCommit (drop head.count rows)
  pub room : length rows ≤ page_room

-- the rows fit what the index says of its last page
abbrev pub FitsLast : PageHead → List Row → Type 0
FitsLast head rows = (head_of rows ≡ head) ⊎ HasOneMore head rows

-- the rows fit what the index says of its page k
abbrev pub FitsPage : List PageHead → ℕ → List Row → Type 0
FitsPage [] k rows = ⊥
FitsPage (head ∷ []) zero rows = FitsLast head rows
FitsPage (head ∷ next ∷ heads) zero rows = head_of rows ≡ head
FitsPage (head ∷ heads) (suc k) rows = FitsPage heads k rows

-- no page behind the last, or that of one commit more
abbrev pub IsAtMostOneCommit : List (List Row) → Type 0
IsAtMostOneCommit [] = ⊤
IsAtMostOneCommit (rows ∷ []) = IsOneCommit rows
IsAtMostOneCommit (rows ∷ next ∷ pages) = ⊥

-- the pages are those that the index says, or these with one commit more
abbrev pub FitIndex : List PageHead → List (List Row) → Type 0
FitIndex [] pages = IsAtMostOneCommit pages
FitIndex (head ∷ heads) [] = ⊥
FitIndex (head ∷ []) (rows ∷ pages) = ((head_of rows ≡ head) × IsAtMostOneCommit pages) ⊎ (HasOneMore head rows × (pages ≡ []))
FitIndex (head ∷ next ∷ heads) (rows ∷ pages) = (head_of rows ≡ head) × FitIndex (next ∷ heads) pages

-- the area holds these pages, and none behind them, and they fit this index
pub record IsHeldAs (m : Area) (base : List ℕ) (heads : List PageHead) (pages : List (List Row)) : Type 0 where
  pub held : HoldsPages m base 0 pages
  pub behind : get m (page_name (length pages)) ≡ None
  pub fits : FitIndex heads pages

-- page k isn't held as the index says: it is absent, or no page's text, or other rows stand there
abbrev pub IsDamagedPage : Area → List ℕ → List PageHead → ℕ → Type 0
IsDamagedPage m base heads k = (k < length heads) × ((rows : List Row) → HoldsPage m base k rows → FitsPage heads k rows → ⊥)

-- the page behind the last is held, and isn't that of one commit behind a last page that is as the index says
abbrev pub IsDamagedNext : Area → List ℕ → List PageHead → Type 0
IsDamagedNext m base heads = IsSome (get m (page_name (length heads)))
    × ((pages : List (List Row)) (next : List Row) → HoldsPages m base 0 pages → HoldsPage m base (length heads) next
    → map head_of pages ≡ heads → IsOneCommit next → ⊥)

-- the name of a page of the index, or of the page behind the last, that isn't held as the index says
abbrev pub IsDamagedIn : Area → List ℕ → List PageHead → List ℕ → Type 0
IsDamagedIn m base heads name =
    ((k : ℕ) × (name ≡ page_name k) × IsDamagedPage m base heads k) ⊎ ((name ≡ page_name (length heads)) × IsDamagedNext m base heads)
