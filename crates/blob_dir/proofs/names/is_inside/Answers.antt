use Rattle.std.specs.Prelude.{◌&&◌}
use Rattle.std.specs.List.{list_all}
use Rattle.std.proofs.Common.{rules, tests, lit<, sym, ap, ◌∙◌}
use Rattle.std.proofs.lemmas.Iterator.Search.{all_from_yields_List}
use Rattle.std.proofs.lemmas.Iterator.Splits.{YieldsList-from_str_split}
use Rattle.blob_dir.specs.Names.{is_path_byte, is_plain}
use Rattle.blob_dir.proofs.names.is_inside.Goals as goal

pub returns-then-all : goal.returns-then-all
returns-then-all c =
    let pieces = all_from_yields_List is_plain _ _ c.all.result c.all.ensures.ran (YieldsList-from_str_split 47 c.args.name.now (lit< tt) c.split.ensures.text c.split.ensures.has_more c.split.ensures.pattern) (λ x b q k. search (rules, tests)) in
    c.has_path_bytes.ensures ∙ ap (list_all is_path_byte) c.as_bytes.ensures.value ∙ ap (λ b. b && list_all is_path_byte c.args.name.now) (sym c.if-all.true ∙ pieces)

pub returns-else-all : goal.returns-else-all
returns-else-all c =
    let pieces = all_from_yields_List is_plain _ _ c.all.result c.all.ensures.ran (YieldsList-from_str_split 47 c.args.name.now (lit< tt) c.split.ensures.text c.split.ensures.has_more c.split.ensures.pattern) (λ x b q k. search (rules, tests)) in
    c.if-all.false ∙ ap (λ b. b && list_all is_path_byte c.args.name.now) (sym c.if-all.false ∙ pieces)
