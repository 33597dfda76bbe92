-- Pages and indexes are texts that are read back.
use Rattle.std.proofs.Common.{◌≡◌, ◌<◌, ◌+◌, ◌^◌, ℕ, suc, List, [], ◌∷◌, length, map, codes, decimal, refl, arith, Bool, true, false, IsUtf8, sym, subst}
use Rattle.std.proofs.lemmas.Fmt.{IsAscii-decimal}
use Rattle.std.proofs.lemmas.Str.{IsUtf8-append, IsUtf8-from_ascii}
use Rattle.std.specs.Str.{IsAscii}
use Rattle.serde_json.specs.View.{items_of}
use Rattle.serde_json.specs.Written.{compact_text}
use Rattle.json_law.specs.Fits.{IsReadable, IsText, ItemsAreText}
use Rattle.nuget_version.specs.Printed.{full_text}
use Rattle.nuget_version.specs.declared.version.Version.{Version}
use Rattle.nuget_version.proofs.Fields.{pieces_ascii}
use Rattle.nuget_version.proofs.ReadBack.{full_reads}
use Rattle.package_id.proofs.Bytes.{IsUtf8-id}
use Rattle.ticks.specs.Stamp.{stamp_text}
use Rattle.ticks.proofs.StampLemmas.{IsAscii-stamp_text}
use Rattle.catalog_doc.specs.Documents.{head_of, heads_data, index_data, page_data, page_text, row_data, row_kind}
use Rattle.catalog_doc.specs.Names.{index_name, leaf_name, page_name}
use Rattle.catalog_doc.specs.Reading.{AreHeadValues, AreRowValues, IsRowValue}
use Rattle.catalog_doc.specs.declared.head.PageHead.{PageHead}
use Rattle.catalog_doc.specs.declared.row.Row.{Row}
use Rattle.catalog_doc.proofs.OnePage.{CountsFit, flat_index, index_fits}
use Rattle.catalog_reading.proofs.Readable.{commit_id_text, literal, url_text}
use Rattle.catalog_doc.proofs.RowData.{flat_page, page_fits}

pub decimal_is_text : (n : ℕ) → n < 2 ^ 64 → IsUtf8 (decimal n)
decimal_is_text n fits = IsUtf8-from_ascii (decimal n) (IsAscii-decimal n fits)

pub stamp_is_text : (n : ℕ) → IsUtf8 (stamp_text n)
stamp_is_text n = IsUtf8-from_ascii (stamp_text n) (IsAscii-stamp_text n)

pub full_is_text : (v : Version) → IsUtf8 (full_text v)
full_is_text v =
    let read = full_reads v in
    IsUtf8-from_ascii (full_text v) (subst IsAscii (sym read.made.spelled) (pieces_ascii read.pieces read.made.are))

pub leaf_name_is_text : (n p : ℕ) → n < 2 ^ 64 → p < 2 ^ 64 → IsUtf8 (leaf_name n p)
leaf_name_is_text n p fits other =
    IsUtf8-append (codes "data/") _ (literal (codes "data/") refl)
    (IsUtf8-append (decimal n) _ (decimal_is_text n fits)
    (IsUtf8-append (codes "/") _ (literal (codes "/") refl)
    (IsUtf8-append (decimal p) _ (decimal_is_text p other) (literal (codes ".json") refl))))

page_name_is_text : (k : ℕ) → k < 2 ^ 64 → IsUtf8 (page_name k)
page_name_is_text k fits =
    IsUtf8-append (codes "page") _ (literal (codes "page") refl)
    (IsUtf8-append (decimal k) _ (decimal_is_text k fits) (literal (codes ".json") refl))

kind_is_text : (gone : Bool) → IsUtf8 (row_kind gone)
kind_is_text true = literal (codes "nuget:PackageDelete") refl
kind_is_text false = literal (codes "nuget:PackageDetails") refl

row_is_text : (base : List ℕ) (row : Row) → IsUtf8 base → IsRowValue row → IsText (row_data base row)
row_is_text base row text is = (
  literal (codes "@id") refl,
  url_text base (leaf_name row.number row.place) text (leaf_name_is_text row.number row.place (omega (arith, is.number)) (omega (arith, is.place))),
  (
    literal (codes "@type") refl,
    kind_is_text row.gone,
    (
      literal (codes "commitId") refl,
      commit_id_text row.number,
      (
        literal (codes "commitTimeStamp") refl,
        stamp_is_text row.stamp,
        (
          literal (codes "nuget:id") refl,
          IsUtf8-id row.id.text row.id.spelled,
          (literal (codes "nuget:version") refl, full_is_text row.version, tt),
        ),
      ),
    ),
  ),
)

rows_are_text : (base : List ℕ) (rows : List Row) → IsUtf8 base → AreRowValues rows → ItemsAreText (items_of (map (row_data base) rows))
rows_are_text base [] text are = tt
rows_are_text base (row ∷ rows) text are = (row_is_text base row text are.0, rows_are_text base rows text are.1)

pub page_readable : (base : List ℕ) (k : ℕ) (rows : List Row) → IsUtf8 base → k < 2 ^ 32 → AreRowValues rows → length rows < 2 ^ 64 → IsReadable (page_data base k rows)
page_readable base k rows text fits are few = record {
  fits = page_fits base k rows few;
  shallow = flat_page base k rows;
  text = (
    literal (codes "@id") refl,
    url_text base (page_name k) text (page_name_is_text k (omega arith)),
    (
      literal (codes "commitId") refl,
      commit_id_text (head_of rows).number,
      (
        literal (codes "commitTimeStamp") refl,
        stamp_is_text (head_of rows).stamp,
        (
          literal (codes "count") refl,
          tt,
          (
            literal (codes "items") refl,
            rows_are_text base rows text are,
            (literal (codes "parent") refl, url_text base index_name text (literal index_name refl), tt),
          ),
        ),
      ),
    ),
  );
}

heads_are_text : (base : List ℕ) (k : ℕ) (heads : List PageHead) → IsUtf8 base → k + length heads < 2 ^ 64 → ItemsAreText (items_of (heads_data base k heads))
heads_are_text base k [] text few = tt
heads_are_text base k (head ∷ heads) text few = (
  (
    literal (codes "@id") refl,
    url_text base (page_name k) text (page_name_is_text k (omega arith)),
    (
      literal (codes "commitId") refl,
      commit_id_text head.number,
      (literal (codes "commitTimeStamp") refl, stamp_is_text head.stamp, (literal (codes "count") refl, tt, tt)),
    ),
  ),
  heads_are_text base (suc k) heads text (omega arith),
)

pub counts_fit : (heads : List PageHead) → AreHeadValues heads → CountsFit heads
counts_fit [] are = tt
counts_fit (head ∷ heads) are = (omega (arith, are.0.count), counts_fit heads are.1)

pub index_readable : (base : List ℕ) (heads : List PageHead) → IsUtf8 base → AreHeadValues heads → length heads < 2 ^ 32 → IsReadable (index_data base heads)
index_readable base heads text are few = record {
  fits = index_fits base heads (counts_fit heads are) (omega arith);
  shallow = flat_index base heads;
  text = (
    literal (codes "@id") refl,
    url_text base index_name text (literal index_name refl),
    (
      literal (codes "commitId") refl,
      commit_id_text _,
      (
        literal (codes "commitTimeStamp") refl,
        stamp_is_text _,
        (
          literal (codes "count") refl,
          tt,
          (literal (codes "items") refl, heads_are_text base 0 heads text (omega arith), tt),
        ),
      ),
    ),
  );
}

pub is_compact_page : (bytes base : List ℕ) (k : ℕ) (rows : List Row) → bytes ≡ page_text base k rows → bytes ≡ compact_text (page_data base k rows)
unfolding page_text
is_compact_page bytes base k rows is = is
