-- What the readers of stored documents read: rows, heads and items of the values that the code's types have.
use Rattle.std.specs.Prelude.{◌<◌, ◌≤◌, ◌^◌, ℕ, List, [], ◌∷◌, All, Option, Some, None, IfSome, IsUtf8, ⊤}
use Rattle.pkg_meta.specs.declared.dependency.DepGroup.{DepGroup}
use Rattle.pkg_meta.specs.declared.item.Details.{Details}
use Rattle.pkg_meta.specs.declared.item.Item.{Item}
use Rattle.pkg_meta.specs.declared.item.Item.TheVariants as the
use Rattle.pkg_meta.specs.declared.meta.Meta.{Meta}
use Rattle.catalog_doc.specs.Documents.{head_of, page_text}
use Rattle.catalog_doc.specs.declared.head.PageHead.{PageHead}
use Rattle.catalog_doc.specs.declared.row.Row.{Row}

-- numbers of 32 bits, and a moment
pub record IsRowValue (row : Row) : Type 0 where
  pub number : row.number < 2 ^ 32
  pub place : row.place < 2 ^ 32
  pub stamp : row.stamp ≤ 3_155_378_975_999_999_999

-- each of the rows is such
abbrev pub AreRowValues : List Row → Type 0
AreRowValues [] = ⊤
AreRowValues (row ∷ rows) = IsRowValue row × AreRowValues rows

-- a page's head of numbers of 32 bits, and a moment
pub record IsHeadValue (head : PageHead) : Type 0 where
  pub number : head.number < 2 ^ 32
  pub stamp : head.stamp ≤ 3_155_378_975_999_999_999
  pub count : head.count < 2 ^ 32

-- each of the heads is such
abbrev pub AreHeadValues : List PageHead → Type 0
AreHeadValues [] = ⊤
AreHeadValues (head ∷ heads) = IsHeadValue head × AreHeadValues heads

-- a publisher's texts are in UTF-8
pub record HasTexts (meta : Meta) : Type 0 where
  pub verbatim : IsUtf8 meta.verbatim
  pub authors : IfSome meta.authors IsUtf8
  pub description : IfSome meta.description IsUtf8
  pub icon_url : IfSome meta.icon_url IsUtf8
  pub license_url : IfSome meta.license_url IsUtf8
  pub min_client : IfSome meta.min_client IsUtf8
  pub project_url : IfSome meta.project_url IsUtf8
  pub release_notes : IfSome meta.release_notes IsUtf8
  pub summary : IfSome meta.summary IsUtf8
  pub title : IfSome meta.title IsUtf8
  pub tags : All IsUtf8 meta.tags
  pub frameworks : All (λ (g : DepGroup). IfSome g.framework IsUtf8) meta.groups

-- details whose numbers, moment and texts are of the code's types
pub record IsDetailsValue (d : Details) : Type 0 where
  pub created : d.created ≤ 3_155_378_975_999_999_999
  pub origin_number : d.origin_number < 2 ^ 32
  pub origin_place : d.origin_place < 2 ^ 32
  pub size : d.size < 2 ^ 64
  pub hash : IsUtf8 d.hash
  pub texts : HasTexts d.meta

-- an item of such details, or a delete
abbrev pub IsItemValue : Item → Type 0
IsItemValue (the.Details d) = IsDetailsValue d
IsItemValue (the.Gone i v) = ⊤

-- the pages of a catalog whose rows have room on one
abbrev pub one_head : List Row → List PageHead
one_head [] = []
one_head (row ∷ rows) = head_of (row ∷ rows) ∷ []

-- the first page, where there is one
abbrev pub one_page : List ℕ → List Row → Option (List ℕ)
one_page base [] = None
one_page base (row ∷ rows) = Some (page_text base 0 (row ∷ rows))
