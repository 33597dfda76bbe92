use Rattle.std.proofs.Common.{◌≡◌, ap, ◌∙◌, false}
use Rattle.serde_json.specs.View.{view}
use Rattle.serde_json.specs.Written.{has_float, compact_text}
use Rattle.reg_docs.specs.Documents.{registration_page_data, registration_page_text, stored_at}
use Rattle.reg_docs.proofs.NoFloats.{page_plain}
use Rattle.reg_docs.proofs.page.registration_page_bytes.Goals as goal

pub returns : goal.returns
unfolding registration_page_text
returns c =
    let at = stored_at c.args.root.now c.args.key.now c.args.run.now in
    let seen : view c.in_ok-value.value ≡ registration_page_data at c.args.base.now c.args.root.now c.args.key.now c.args.run.now =
    c.in_ok-value.ensures ∙ ap (λ u. registration_page_data u c.args.base.now c.args.root.now c.args.key.now c.args.run.now) c.in_ok-url.ensures in
    let plain : has_float (view c.in_ok-value.value) ≡ false = ap has_float seen ∙ page_plain at c.args.base.now c.args.root.now c.args.key.now c.args.run.now in
    c.of.ensures ∙ c.in_ok-bytes.ensures.text plain ∙ ap compact_text seen
