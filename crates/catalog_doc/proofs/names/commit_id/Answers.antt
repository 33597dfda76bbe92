use Rattle.std.proofs.Common.{ap, ◌∙◌}
use Rattle.std.proofs.lemmas.Result.{IfOk-weaker}
use Rattle.uuid.specs.Text.{hyphenated_text, lower}
use Rattle.catalog_doc.specs.Documents.{commit_id}
use Rattle.catalog_doc.proofs.names.commit_id.Goals as goal

pub returns : goal.returns
unfolding commit_id
returns c = IfOk-weaker c.from_str.result _ _ (λ t e. e ∙ c.encode_lower-text.ensures.text ∙ ap (hyphenated_text lower) (c.hyphenated.ensures ∙ c.from_u128.ensures)) c.from_str.ensures.ok
