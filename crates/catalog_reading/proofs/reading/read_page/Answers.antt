use Rattle.std.proofs.Common.{◌≡◌, ◌∙◌, ap, sym}
use Rattle.std.proofs.lemmas.Option.{none-some, same_Some}
use Rattle.json.specs.Value.{value_view}
use Rattle.serde_json.specs.Written.{outline}
use Rattle.catalog_doc.specs.Documents.{page_data, page_text}
use Rattle.catalog_reading.proofs.Readable.{differs, is_read, not_read}
use Rattle.catalog_reading.proofs.Texts.{is_compact_page, page_readable}
use Rattle.catalog_reading.proofs.reading.read_page.Goals as goal

pub returns-in_default-clause-damaged : goal.returns-in_default-clause-damaged
returns-in_default-clause-damaged c = λ told rows are few is.
    let d = page_data c.args.base.now c.args.page rows in
    not_read value_view _ (outline d) c.in_default.is (c.in_ok-value.ensures d (page_readable c.args.base.now c.args.page rows c.utf8.base c.ranges.page.fits are few) (is_compact_page c.args.bytes.now c.args.base.now c.args.page rows is))

pub returns-in_default-2-clause-damaged : goal.returns-in_default-2-clause-damaged
returns-in_default-2-clause-damaged c = λ told rows are few is.
    let d = page_data c.args.base.now c.args.page rows in
    let seen = is_read value_view _ _ (outline d) c.in-Some.is (c.in_ok-value.ensures d (page_readable c.args.base.now c.args.page rows c.utf8.base c.ranges.page.fits are few) (is_compact_page c.args.bytes.now c.args.base.now c.args.page rows is)) in
    none-some rows (sym c.in_default-2.is ∙ c.in_ok-rows.ensures c.args.page rows are seen)

pub returns-then-is_same-clause-exact : goal.returns-then-is_same-clause-exact
returns-then-is_same-clause-exact c = λ rows are few is.
    let d = page_data c.args.base.now c.args.page rows in
    let seen = is_read value_view _ _ (outline d) c.in-Some.is (c.in_ok-value.ensures d (page_readable c.args.base.now c.args.page rows c.utf8.base c.ranges.page.fits are few) (is_compact_page c.args.bytes.now c.args.base.now c.args.page rows is)) in
    same_Some c.in-Some-2.rows rows (sym c.in-Some-2.is ∙ c.in_ok-rows.ensures c.args.page rows are seen)

pub returns-clause-damaged : goal.returns-clause-damaged
returns-clause-damaged c = λ told rows are few is.
    let d = page_data c.args.base.now c.args.page rows in
    let seen = is_read value_view _ _ (outline d) c.in-Some.is (c.in_ok-value.ensures d (page_readable c.args.base.now c.args.page rows c.utf8.base c.ranges.page.fits are few) (is_compact_page c.args.bytes.now c.args.base.now c.args.page rows is)) in
    let same : c.as_slice.result.now ≡ rows = c.as_slice.ensures ∙ same_Some c.in-Some-2.rows rows (sym c.in-Some-2.is ∙ c.in_ok-rows.ensures c.args.page rows are seen) in
    differs c.if-is_same.false (c.is_same.ensures.1 (c.as_slice-2.ensures ∙ c.in_ok-again.ensures ∙ ap (page_text c.args.base.now c.args.page) same ∙ sym is))
