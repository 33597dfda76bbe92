use Rattle.std.proofs.Common.{Bool, ◌||◌, ap, ◌∙◌}
use Rattle.std.specs.BTreeMap.{is_at}
use Rattle.std.specs.Cmp.Lexicographic.{slice_cmp}
use Rattle.std.specs.Ordering.{nat_cmp}
use Rattle.std.specs.List.{list_any}
use Rattle.std.specs.Str.{bytes_eq}
use Rattle.std.specs.String.{string_bytes}
use Rattle.id_pass.proofs.Sets.{in_ok, members}
use Rattle.id_pass.proofs.names.all_names.Goals as goal

pub returns-clause-members : goal.returns-clause-members
returns-clause-members c = λ name. in_ok _ _
    (λ names is. members c.add_names-2.new.all c.args.old.now c.args.new.now names name
    (c.in_ok-add_names-2.ensures name ∙ ap (λ (b : Bool). list_any (bytes_eq name) c.args.new.now || b) (c.in_ok-add_names.ensures name
    ∙ ap (λ (b : Bool). list_any (bytes_eq name) c.args.old.now || b) (ap (list_any (is_at (λ k. slice_cmp nat_cmp name (string_bytes k)))) c.new-all.ensures.empty))) is)
    c.names_in.result c.names_in.ensures.names
