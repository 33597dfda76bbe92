use Rattle.std.proofs.Common.{Some, ap, refl, sym, ◌∙◌}
use Rattle.std.proofs.lemmas.Result.{IfErr-weaker}
use Rattle.serde_json.specs.View.{view}
use Rattle.pkg_meta.specs.Publisher.{IsObjectText}
use Rattle.pkg_meta.specs.Refusals.{misfit, object}
use Rattle.pkg_meta.proofs.Matches.{seen_none, seen_some, some_holds}
use Rattle.pkg_meta.proofs.meta.Meta.read.Goals as goal

pub returns-in-Some-misfit-clause-refused : goal.returns-in-Some-misfit-clause-refused
returns-in-Some-misfit-clause-refused c = λ not.
    misfit (view c.in-Some.value) _ refl (some_holds (λ v. IsObjectText c.args.bytes.now (view v)) _ _ c.in-Some.is c.in_ok-value.ensures.found)
    (seen_some _ _ _ _ c.in-Some-misfit.is c.misfit.ensures ∙ ap Some (sym c.in_ok-copy_of-in-Some-misfit.ensures))

pub returns-clause-refused : goal.returns-clause-refused
returns-clause-refused c = IfErr-weaker c.read_object.result _ _ (λ e refuses not.
    object (view c.in-Some.value)
    (record { text = some_holds (λ v. IsObjectText c.args.bytes.now (view v)) _ _ c.in-Some.is c.in_ok-value.ensures.found; fits = seen_none _ _ _ c.in-None.is c.misfit.ensures })
    (refuses not)) c.read_object.ensures.refused
