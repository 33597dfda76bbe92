use Rattle.std.proofs.lemmas.List.{length-map}
use Rattle.serde_json.specs.View.{view}
use Rattle.pkg_meta.specs.Publisher.{IsDepOf}
use Rattle.pkg_meta.proofs.Matches.{Match-more}
use Rattle.pkg_meta.proofs.reading.read_deps.Goals as goal

pub loop-place-preserved : goal.loop-place-preserved
loop-place-preserved c =
    Match-more IsDepOf view c.args.values.now c.loop-place.place c.index-values-place.result _ _ c.in_ok-dep.dep c.loop-place-test.true (rw length-map c.loop-place-test.true)
    c.index-values-place.is c.loop-place.invariant c.in_ok-dep.ensures.ok c.in_ok-push.ensures.ok
