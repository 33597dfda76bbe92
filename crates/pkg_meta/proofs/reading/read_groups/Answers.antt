use Rattle.std.proofs.lemmas.List.{length-map}
use Rattle.serde_json.specs.View.{view}
use Rattle.pkg_meta.specs.Publisher.{IsGroupOf}
use Rattle.pkg_meta.specs.Refusals.{IsRefusedGroup}
use Rattle.pkg_meta.proofs.Matches.{Match-more, passed_on, refused_here}
use Rattle.pkg_meta.proofs.reading.read_groups.Goals as goal

pub loop-place-preserved : goal.loop-place-preserved
loop-place-preserved c =
    Match-more IsGroupOf view c.args.values.now c.loop-place.place c.index-values-place.result _ _ c.in_ok-group.group c.loop-place-test.true (rw length-map c.loop-place-test.true)
    c.index-values-place.is c.loop-place.invariant c.in_ok-group.ensures.ok c.in_ok-push.ensures.ok

pub returns-in_err-group-clause-refused : goal.returns-in_err-group-clause-refused
returns-in_err-group-clause-refused c = passed_on _ _ _ c.from_residual.ensures.1 (λ not.
    refused_here IsGroupOf IsRefusedGroup view c.args.values.now c.loop-place.place c.index-values-place.result _ _ c.loop-place-test.true c.index-values-place.is c.loop-place.invariant (c.in_err-group.ensures.refused not))
