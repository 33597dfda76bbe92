use Rattle.std.proofs.Common.{Bor, Option, sym, ap, ◌∙◌}
use Rattle.std.specs.Option.{option_copied, option_map}
use Rattle.pkg_meta.specs.Lawful.{Placed}
use Rattle.pkg_meta.specs.declared.state.StateDoc.{StateDoc}
use Rattle.id_pass.specs.Passes.{number_after}
use Rattle.id_pass.proofs.Lasts.{last_is}
use Rattle.id_pass.proofs.taking.number_after.Goals as goal

pub returns-in-Some-default : goal.returns-in-Some-default
returns-in-Some-default c =
    ap (λ (o : Option Placed). number_after (option_map (λ (s : Bor StateDoc). s.now) c.args.old) o)
    (sym (last_is c.args.items.now c.in-Some-default.last.now (ap option_copied (sym c.in-Some-default.is-0) ∙ c.last.ensures.value)))
