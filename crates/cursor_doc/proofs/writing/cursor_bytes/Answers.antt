use Rattle.std.proofs.Common.{◌≡◌, ◌∙◌, ap, false}
use Rattle.serde_json.specs.View.{view}
use Rattle.serde_json.specs.Written.{has_float, compact_text}
use Rattle.cursor_doc.specs.Cursor.{cursor_text}
use Rattle.cursor_doc.proofs.writing.cursor_bytes.Goals as goal

pub returns : goal.returns
unfolding cursor_text
returns c =
    let plain : has_float (view c.in_ok-value.value) ≡ false = ap has_float c.in_ok-value.ensures in
    c.of.ensures ∙ c.in_ok-bytes.ensures.text plain ∙ ap compact_text c.in_ok-value.ensures
