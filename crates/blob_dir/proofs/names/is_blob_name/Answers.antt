use Rattle.std.specs.Prelude.{◌&&◌, not, nat_eq, codes}
use Rattle.std.specs.List.{ends_with}
use Rattle.std.proofs.Common.{sym, ap, ◌∙◌}
use Rattle.std.proofs.lemmas.Str.Pattern.{ends_text}
use Rattle.blob_dir.proofs.names.is_blob_name.Goals as goal

pub returns-then-is_inside : goal.returns-then-is_inside
returns-then-is_inside c =
    ap not (ends_text c.ends_with.result (codes ".tmp") c.args.name.now c.ends_with.ensures.cases)
    ∙ ap (λ b. b && not (ends_with nat_eq c.args.name.now (codes ".tmp"))) (sym c.if-is_inside.true ∙ c.is_inside.ensures)

pub returns-else-is_inside : goal.returns-else-is_inside
returns-else-is_inside c =
    c.if-is_inside.false ∙ ap (λ b. b && not (ends_with nat_eq c.args.name.now (codes ".tmp"))) (sym c.if-is_inside.false ∙ c.is_inside.ensures)
