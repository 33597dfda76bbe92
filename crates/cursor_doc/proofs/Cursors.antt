-- Cursor documents are texts that are read back, and each tells its mark.
use Rattle.std.proofs.Common.{◌≡◌, List, ℕ, ap, codes, lit≤, refl}
use Rattle.uuid.proofs.OnLiterals.{uuid_on_literals}
use Rattle.serde_json.proofs.OnLiterals.{serde_json_on_literals}
use Rattle.serde_json.specs.Written.{compact_text}
use Rattle.json_law.specs.Fits.{IsReadable}
use Rattle.json_law.proofs.Back.{compact_text-injective}
use Rattle.ticks.proofs.Vectors.{stamp_text-of_2024}
use Rattle.catalog_doc.specs.Documents.{commit_id}
use Rattle.catalog_reading.proofs.CommitIds.{same_number}
use Rattle.catalog_reading.proofs.Readable.{commit_id_text, literal}
use Rattle.catalog_doc.proofs.RowData.{nth_text, same_stamp}
use Rattle.catalog_reading.proofs.Texts.{stamp_is_text}
use Rattle.cursor_doc.specs.Cursor.{cursor_data, cursor_text}
use Rattle.cursor_doc.specs.Laws.{CursorsDiffer, first_cursor}

pub readable : (number stamp : ℕ) → IsReadable (cursor_data number stamp)
readable number stamp = record {
  fits = (refl, tt, (tt, tt, tt));
  shallow = lit≤ tt;
  text = (
    literal (codes "commitId") refl,
    commit_id_text number,
    (literal (codes "commitTimeStamp") refl, stamp_is_text stamp, tt),
  );
}

pub is_compact : (bytes : List ℕ) (number stamp : ℕ) → bytes ≡ cursor_text number stamp → bytes ≡ compact_text (cursor_data number stamp)
unfolding cursor_text
is_compact bytes number stamp is = is

pub cursors_differ : CursorsDiffer
unfolding cursor_text nth_text
cursors_differ mark other is others e =
    let same : cursor_data mark.number mark.stamp ≡ cursor_data other.number other.stamp =
    compact_text-injective (cursor_data mark.number mark.stamp) (cursor_data other.number other.stamp)
    (readable mark.number mark.stamp).fits (readable mark.number mark.stamp).shallow (readable other.number other.stamp).fits (readable other.number other.stamp).shallow e in
    let numbers : mark.number ≡ other.number = same_number mark.number other.number is.number others.number (ap (nth_text 0) same) in
    let stamps : mark.stamp ≡ other.stamp = same_stamp mark.stamp other.stamp is.stamp others.stamp (ap (nth_text 1) same) in
    λ i. record { number = numbers i; stamp = stamps i }

commit_id-first : commit_id 1 ≡ codes "00000000-0000-0000-0000-000000000001"
unfolding commit_id uuid_on_literals
commit_id-first = refl

pub first_cursor_is : cursor_text 1 638_396_640_000_000_000 ≡ first_cursor
unfolding cursor_text serde_json_on_literals
first_cursor_is = rw (commit_id-first, stamp_text-of_2024) refl
