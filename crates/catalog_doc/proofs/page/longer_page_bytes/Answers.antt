use Rattle.std.proofs.Common.{◌∙◌, ap, ◌++◌, ◌∷◌, [], sym}
use Rattle.serde_json.specs.Written.{compact_text}
use Rattle.catalog_doc.specs.Documents.{page_text, row_data}
use Rattle.catalog_doc.specs.Texts.{told_row}
use Rattle.catalog_doc.proofs.Lists.{last_number-push, last_stamp-push, page_told, text_pushed}
use Rattle.catalog_doc.proofs.Results.{if_ok}
use Rattle.catalog_doc.proofs.page.longer_page_bytes.Goals as goal

pub returns : goal.returns
unfolding page_text
returns c =
    let rows = c.args.rows.now ++ c.args.row.now ∷ [] in
    let told = text_pushed told_row (row_data c.args.base.now) c.in_ok-texts.texts.items c.push.new.self.items c.in_ok-row_texts.field-0 c.args.rows.now c.args.row.now
    c.in_ok-texts.ensures c.in_ok-row_texts.ensures c.in_ok-push.ensures.items in
    if_ok c.bytes_of.result (λ b e. e ∙ ap compact_text (page_told told_row c.args.base.now c.args.page rows c.push.new.self.items c.args.row.now.number c.args.row.now.stamp told
    (sym (last_number-push c.args.rows.now c.args.row.now)) (sym (last_stamp-push c.args.rows.now c.args.row.now)))) c.bytes_of.ensures
