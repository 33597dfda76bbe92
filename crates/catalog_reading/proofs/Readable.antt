-- An index of no commits is a text that is read back.
use Rattle.std.proofs.Common.{IfNone, ◌≡◌, ℕ, List, [], codes, refl, ap, sym, ◌∙◌, lit<, lit≤, Bool, true, false, inl, IsUtf8, None, Some, Option, option_map}
use Rattle.std.proofs.lemmas.Str.{IsUtf8-append, IsUtf8-from_ascii}
use Rattle.json.proofs.Printed.Utf8.{IsUtf8-are_ascii, are_ascii}
use Rattle.serde_json.specs.Written.{compact_text}
use Rattle.uuid.proofs.TextLemmas.{hyphenated_ascii}
use Rattle.uuid.specs.Text.{lower}
use Rattle.std.specs.Int.{to_be_bytes, w128}
use Rattle.json_law.specs.Fits.{IsReadable}
use Rattle.ticks.specs.Stamp.{civil_date, last_digits, stamp_text}
use Rattle.catalog_doc.specs.Documents.{commit_id, index_data, index_text}
use Rattle.catalog_doc.specs.Names.{catalog_url, index_name}
use Rattle.catalog_doc.specs.declared.head.PageHead.{PageHead}

pub commit_id_text : (n : ℕ) → IsUtf8 (commit_id n)
unfolding commit_id
commit_id_text n = IsUtf8-from_ascii _ (hyphenated_ascii lower (to_be_bytes w128 n) (inl refl))

pub url_text : (base name : List ℕ) → IsUtf8 base → IsUtf8 name → IsUtf8 (catalog_url base name)
url_text base name b n = IsUtf8-append base _ b (IsUtf8-append (codes "v3/catalog/") name (IsUtf8-are_ascii (codes "v3/catalog/") refl) n)

pub first_stamp_text : IsUtf8 (stamp_text 0)
unfolding stamp_text last_digits civil_date
first_stamp_text = IsUtf8-are_ascii (stamp_text 0) refl

pub literal : (text : List ℕ) → are_ascii text ≡ true → IsUtf8 text
literal text ascii = IsUtf8-are_ascii text ascii

pub index_of_none : (base : List ℕ) → IsUtf8 base → IsReadable (index_data base [])
index_of_none base text = record {
  fits = (refl, tt, (refl, tt, (refl, tt, (refl, lit< tt, (tt, tt, tt)))));
  shallow = lit≤ tt;
  text = (
    literal (codes "@id") refl,
    url_text base index_name text (literal index_name refl),
    (
      literal (codes "commitId") refl,
      commit_id_text 0,
      (
        literal (codes "commitTimeStamp") refl,
        first_stamp_text,
        (
          literal (codes "count") refl,
          tt,
          (literal (codes "items") refl, tt, tt),
        ),
      ),
    ),
  );
}

pub is_compact : (bytes base : List ℕ) (heads : List PageHead) → bytes ≡ index_text base heads → bytes ≡ compact_text (index_data base heads)
unfolding index_text
is_compact bytes base heads is = is

-- what is read of such an index
pub not_read : {A : Type 0} {B : Type 0} (view : A → B) (found : Option A) (d : B) → found ≡ None → option_map view found ≡ Some d → ⊥
not_read view None d none read = cc
not_read view (Some x) d none read = cc

pub is_read : {A : Type 0} {B : Type 0} (view : A → B) (found : Option A) (x : A) (d : B) → found ≡ Some x → option_map view found ≡ Some d → view x ≡ d
is_read view None x d some read = cc
is_read view (Some y) x d some read = let same : y ≡ x = cc in let seen : view y ≡ d = cc in ap view (sym same) ∙ seen

pub if_none : {A : Type 0} (o : Option A) (P : Type 0) → P → IfNone o P
if_none None P h = h
if_none (Some x) P h = tt

pub differs : {b : Bool} → b ≡ false → b ≡ true → ⊥
differs off on = cc
