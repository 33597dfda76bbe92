-- The catalog's documents as JSON data, with their members in byte order, and their texts.
use Rattle.std.specs.Prelude.{ℕ, suc, List, [], ◌∷◌, Bool, length, map, codes, if◌then◌else◌}
use Rattle.std.specs.Int.{to_be_bytes, w128}
use Rattle.serde_json.specs.Data.{Data, string, number, unsigned, array, item, no_items, object, member, no_members}
use Rattle.serde_json.specs.View.{items_of}
use Rattle.serde_json.specs.Written.{compact_text}
use Rattle.uuid.specs.Text.{hyphenated_text, lower}
use Rattle.nuget_version.specs.Printed.{full_text}
use Rattle.ticks.specs.Stamp.{stamp_text}
use Rattle.pkg_meta.specs.Members.{Slot, always, maybe, present}
use Rattle.pkg_meta.specs.Trees.{later_table, text_if}
use Rattle.pkg_meta.specs.declared.item.Details.{Details}
use Rattle.pkg_meta.specs.declared.item.Item.{Item}
use Rattle.pkg_meta.specs.declared.item.Item.TheVariants as the
use Rattle.catalog_doc.specs.Names.{catalog_url, index_name, page_name, leaf_name}
use Rattle.catalog_doc.specs.declared.row.Row.{Row}
use Rattle.catalog_doc.specs.declared.head.PageHead.{PageHead}

-- the UUID text (RFC 9562) of the 128-bit value that is a commit's number
unfoldable pub commit_id : ℕ → List ℕ
commit_id n = hyphenated_text lower (to_be_bytes w128 n)

-- the members of a details leaf: its address, its kind, its commit, and those of the details
abbrev pub details_leaf_table : List ℕ → ℕ → ℕ → ℕ → Details → List Slot
details_leaf_table base n p stamp d =
    always (codes "@id") (string (catalog_url base (leaf_name n p)))
    ∷ always (codes "@type") (array (item (string (codes "PackageDetails")) no_items))
    ∷ maybe (codes "authors") (text_if d.meta.authors)
    ∷ always (codes "catalog:commitId") (string (commit_id n))
    ∷ always (codes "catalog:commitTimeStamp") (string (stamp_text stamp))
    ∷ later_table d

-- a delete leaf: its address, its kind, its commit, and the version that is gone
abbrev pub gone_object : List ℕ → List ℕ → List ℕ → List ℕ → List ℕ → Data
gone_object url commit stamp id version = object
    (member (codes "@id") (string url)
    (member (codes "@type") (array (item (string (codes "PackageDelete")) no_items))
    (member (codes "catalog:commitId") (string commit)
    (member (codes "catalog:commitTimeStamp") (string stamp)
    (member (codes "id") (string id)
    (member (codes "published") (string stamp)
    (member (codes "version") (string version)
    no_members)))))))

-- the leaf of an item at a place of a commit
abbrev pub leaf_data : List ℕ → ℕ → ℕ → ℕ → Item → Data
leaf_data base n p stamp (the.Details d) = object (present (details_leaf_table base n p stamp d))
leaf_data base n p stamp (the.Gone i v) = gone_object (catalog_url base (leaf_name n p)) (commit_id n) (stamp_text stamp) i.text (full_text v)

-- the `@type` of a row
abbrev pub row_kind : Bool → List ℕ
row_kind gone = if gone then codes "nuget:PackageDelete" else codes "nuget:PackageDetails"

-- what a page says of an item: the leaf's address, its kind, its commit, the id and the version
abbrev pub row_object : List ℕ → List ℕ → List ℕ → List ℕ → List ℕ → List ℕ → Data
row_object url kind commit stamp id version = object
    (member (codes "@id") (string url)
    (member (codes "@type") (string kind)
    (member (codes "commitId") (string commit)
    (member (codes "commitTimeStamp") (string stamp)
    (member (codes "nuget:id") (string id)
    (member (codes "nuget:version") (string version)
    no_members))))))

-- the row of an item
abbrev pub row_data : List ℕ → Row → Data
row_data base row = row_object (catalog_url base (leaf_name row.number row.place)) (row_kind row.gone)
    (commit_id row.number) (stamp_text row.stamp) row.id.text (full_text row.version)

-- the number and the stamp of the last row, those of no commits where there is no row
abbrev pub last_number : List Row → ℕ
last_number [] = 0
last_number (row ∷ []) = row.number
last_number (row ∷ next ∷ rows) = last_number (next ∷ rows)

-- the stamp of the last row, that of no commits where there is none
abbrev pub last_stamp : List Row → ℕ
last_stamp [] = 0
last_stamp (row ∷ []) = row.stamp
last_stamp (row ∷ next ∷ rows) = last_stamp (next ∷ rows)

-- the head of a page of these rows
abbrev pub head_of : List Row → PageHead
head_of rows = record { number = last_number rows; stamp = last_stamp rows; count = length rows }

-- a page: its address, its last commit, its rows, and the index above it
abbrev pub page_object : List ℕ → List ℕ → List ℕ → ℕ → List Data → List ℕ → Data
page_object url commit stamp count rows parent = object
    (member (codes "@id") (string url)
    (member (codes "commitId") (string commit)
    (member (codes "commitTimeStamp") (string stamp)
    (member (codes "count") (number (unsigned count))
    (member (codes "items") (array (items_of rows))
    (member (codes "parent") (string parent)
    no_members))))))

-- page k of these rows
abbrev pub page_data : List ℕ → ℕ → List Row → Data
page_data base k rows = page_object (catalog_url base (page_name k)) (commit_id (head_of rows).number) (stamp_text (head_of rows).stamp)
    (head_of rows).count (map (row_data base) rows) (catalog_url base index_name)

-- what the index says of a page
abbrev pub head_object : List ℕ → List ℕ → List ℕ → ℕ → Data
head_object url commit stamp count = object
    (member (codes "@id") (string url)
    (member (codes "commitId") (string commit)
    (member (codes "commitTimeStamp") (string stamp)
    (member (codes "count") (number (unsigned count))
    no_members))))

-- what it says of page k
abbrev pub head_data : List ℕ → ℕ → PageHead → Data
head_data base k head = head_object (catalog_url base (page_name k)) (commit_id head.number) (stamp_text head.stamp) head.count

-- what it says of the pages from k on
abbrev pub heads_data : List ℕ → ℕ → List PageHead → List Data
heads_data base k [] = []
heads_data base k (head ∷ heads) = head_data base k head ∷ heads_data base (suc k) heads

-- the last page's head, and that of no commits where there is no page
abbrev pub last_head : List PageHead → PageHead
last_head [] = record { number = 0; stamp = 0; count = 0 }
last_head (head ∷ []) = head
last_head (head ∷ next ∷ heads) = last_head (next ∷ heads)

-- the index: its address, the last commit, the number of pages, and the pages
abbrev pub index_object : List ℕ → List ℕ → List ℕ → ℕ → List Data → Data
index_object url commit stamp count heads = object
    (member (codes "@id") (string url)
    (member (codes "commitId") (string commit)
    (member (codes "commitTimeStamp") (string stamp)
    (member (codes "count") (number (unsigned count))
    (member (codes "items") (array (items_of heads))
    no_members)))))

-- the index of pages with these heads
abbrev pub index_data : List ℕ → List PageHead → Data
index_data base heads = index_object (catalog_url base index_name) (commit_id (last_head heads).number) (stamp_text (last_head heads).stamp)
    (length heads) (heads_data base 0 heads)

-- the documents' bytes
unfoldable pub leaf_text : List ℕ → ℕ → ℕ → ℕ → Item → List ℕ
leaf_text base n p stamp it = compact_text (leaf_data base n p stamp it)

-- a page's bytes
unfoldable pub page_text : List ℕ → ℕ → List Row → List ℕ
page_text base k rows = compact_text (page_data base k rows)

-- the index's bytes
unfoldable pub index_text : List ℕ → List PageHead → List ℕ
index_text base heads = compact_text (index_data base heads)
