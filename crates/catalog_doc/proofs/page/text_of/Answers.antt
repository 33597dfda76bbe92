use Rattle.std.proofs.Common.{◌∙◌}
use Rattle.serde_json.proofs.FreeTexts.{text_of_value}
use Rattle.catalog_doc.specs.Texts.{told_page}
use Rattle.catalog_doc.proofs.Sent.{no_floats_in_page}
use Rattle.catalog_doc.proofs.page.text_of.Goals as goal

pub returns-in-Ok : goal.returns-in-Ok
returns-in-Ok c =
    let sent = c.in-Ok.ensures.events in
    c.of.ensures ∙ text_of_value (told_page c.args.page.now) sent.0 c.in-Ok.bytes.items sent.1 sent.2 (no_floats_in_page c.args.page.now)
