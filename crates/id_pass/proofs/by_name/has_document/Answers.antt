use Rattle.std.proofs.Common.{false, Option, sym, ap, ◌∙◌}
use Rattle.std.specs.Option.{option_map_or}
use Rattle.fold_core.specs.declared.doc.Body.{Body}
use Rattle.id_pass.specs.Named.{is_same_body}
use Rattle.id_pass.proofs.Named.{get-bodies_of}
use Rattle.id_pass.proofs.by_name.has_document.Goals as goal

pub returns-in-Some : goal.returns-in-Some
returns-in-Some c =
    c.is_same_body.ensures
    ∙ ap (λ (found : Option Body). option_map_or (is_same_body c.args.body.now) found false) (c.in-Some.ensures.value ∙ sym (get-bodies_of c.args.named.now c.args.name.now))

pub returns-in-None : goal.returns-in-None
returns-in-None c =
    ap (λ (found : Option Body). option_map_or (is_same_body c.args.body.now) found false) (c.in-None.ensures.value ∙ sym (get-bodies_of c.args.named.now c.args.name.now))
