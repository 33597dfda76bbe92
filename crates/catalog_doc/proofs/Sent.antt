-- What is sent of a page and of its rows.
use Rattle.std.proofs.Common.{◌≡◌, ℕ, suc, List, [], ◌∷◌, length, map, false, refl, sym, ap, subst, Some, codes, string_bytes}
use Rattle.serde.specs.Event.{Log, Logs, WritesEach, WritesSeq, field_key, map_begins, map_ends, seq_begins, seq_ends, unsigned}
use Rattle.serde.specs.declared.name.Case.TheVariants.{AsIs}
use Rattle.serde_json.specs.Data.{Data, array}
use Rattle.serde_json.specs.Events.{items_len, SendsItems, SendsValue}
use Rattle.serde_json.specs.View.{items_of}
use Rattle.serde_json.specs.Written.{has_float, items_have_float}
use Rattle.catalog_doc.specs.Texts.{SendsText, told_page, told_row}
use Rattle.catalog_doc.specs.declared.page.PageTexts.{PageTexts}
use Rattle.catalog_doc.specs.declared.page.RowTexts.{RowTexts}

-- the text that was sent is the one that is shown
pub text_as : (key value shown : List ℕ) (old new : Log) → value ≡ shown → SendsText key value old new → SendsText key shown old new
text_as key value shown old new same sent = subst (λ v. SendsText key v old new) same sent

-- the number that was sent is the one that is shown
pub number_as : (value shown : ℕ) (old new : Log) → value ≡ shown → Logs old new (unsigned value) → Logs old new (unsigned shown)
number_as value shown old new same sent = subst (λ n. Logs old new (unsigned n)) same sent

-- a row whose members are sent one by one
pub row_sent : (row : RowTexts) (a b c d e f g h i : Log) → Logs a b (map_begins (Some 6)) → SendsText (codes "@id") (string_bytes row.url) b c
    → SendsText (codes "@type") row.kind.now c d → SendsText (codes "commitId") (string_bytes row.commit) d e
    → SendsText (codes "commitTimeStamp") (string_bytes row.stamp) e f → SendsText (codes "nuget:id") row.id.now f g
    → SendsText (codes "nuget:version") (string_bytes row.version) g h → Logs h i map_ends → SendsValue (told_row row) a i
row_sent row a b c d e f g h i begun url kind commit stamp id version ended = (
  b,
  begun,
  (
    url.0,
    c,
    url.1,
    url.2,
    (
      kind.0,
      d,
      kind.1,
      kind.2,
      (
        commit.0,
        e,
        commit.1,
        commit.2,
        (
          stamp.0,
          f,
          stamp.1,
          stamp.2,
          (id.0, g, id.1, id.2, (version.0, h, version.1, version.2, ended)),
        ),
      ),
    ),
  ),
)

items_len-map : {A : Type 0} (told : A → Data) (xs : List A) → items_len (items_of (map told xs)) ≡ length xs
items_len-map told [] = refl
items_len-map told (x ∷ xs) = ap suc (items_len-map told xs)

items_sent : {A : Type 0} (told : A → Data) (xs : List A) (old last new : Log) → WritesEach (λ x. SendsValue (told x)) xs old last → Logs last new seq_ends
    → SendsItems (items_of (map told xs)) old new
items_sent told [] old last new none ended = subst (λ l. Logs l new seq_ends) none ended
items_sent told (x ∷ xs) old last new each ended = (each.0, each.1, items_sent told xs each.0 last new each.2 ended)

-- a list is sent as the array of what its items are told as
pub array_sent : {A : Type 0} (told : A → Data) (xs : List A) (old new : Log) → WritesSeq (λ x. SendsValue (told x)) xs old new
    → SendsValue (array (items_of (map told xs))) old new
array_sent told xs old new sent =
    (sent.0, subst (λ n. Logs old sent.0 (seq_begins (Some n))) (sym (items_len-map told xs)) sent.2, items_sent told xs sent.0 sent.1 new sent.3 sent.4)

-- a page whose members are sent one by one
pub page_sent : (page : PageTexts) (a b c d e f g h i j k : Log) → Logs a b (map_begins (Some 6)) → SendsText (codes "@id") (string_bytes page.url) b c
    → SendsText (codes "commitId") (string_bytes page.commit) c d → SendsText (codes "commitTimeStamp") (string_bytes page.stamp) d e
    → Logs e f (field_key (codes "count") AsIs) → Logs f g (unsigned (length page.rows.items)) → Logs g h (field_key (codes "items") AsIs)
    → WritesSeq (λ row. SendsValue (told_row row)) page.rows.items h i → SendsText (codes "parent") (string_bytes page.parent) i j → Logs j k map_ends
    → SendsValue (told_page page) a k
page_sent page a b c d e f g h i j k begun url commit stamp count_key count items_key items parent ended = (
  b,
  begun,
  (
    url.0,
    c,
    url.1,
    url.2,
    (
      commit.0,
      d,
      commit.1,
      commit.2,
      (
        stamp.0,
        e,
        stamp.1,
        stamp.2,
        (
          f,
          g,
          count_key,
          count,
          (h, i, items_key, array_sent told_row page.rows.items h i items, (parent.0, j, parent.1, parent.2, ended)),
        ),
      ),
    ),
  ),
)

no_floats_in_rows : (rows : List RowTexts) → items_have_float (items_of (map told_row rows)) ≡ false
no_floats_in_rows [] = refl
no_floats_in_rows (row ∷ rows) = no_floats_in_rows rows

-- a page has no float
pub no_floats_in_page : (page : PageTexts) → has_float (told_page page) ≡ false
no_floats_in_page page = rw (no_floats_in_rows page.rows.items)
