use Rattle.std.proofs.Common.{◌≡◌, ◌≢◌, ◌-◌, ◌++◌, ℕ, List, [], length, refl, arith}
use Rattle.std.proofs.lemmas.Bool.Decides.{nat_tests}
use Rattle.std.proofs.lemmas.Result.{err_from_is_err_and}
use Rattle.feed_base.proofs.Options.{at_some}
use Rattle.admin_wire.specs.Bodies.{IsRecord, IsRecordOf, IsRefusedRecord}
use Rattle.admin_wire.specs.Bodies.IsRefusedRecord.{meta}
use Rattle.admin_wire.proofs.Behind.{read_on, stops_at}
use Rattle.admin_wire.proofs.records.read_publish.Goals as goal

pub returns-in_err-publish_of-clause-refused : goal.returns-in_err-publish_of-clause-refused
returns-in_err-publish_of-clause-refused c =
    let p = err_from_is_err_and c.from_residual-in_err-publish_of.result c.from_residual-in_err-publish_of.ensures.1 in
    let f = at_some c.in_ok-record.field-0
    (λ p. (x : List ℕ) × (c.loop-rest.rest.now ≡ x ++ p.rest.now) × IsRecord x p.meta.now p.nuspec.now p.nupkg.now) c.in-Some.record c.in-Some.is
    c.in_ok-record.ensures.found in
    let more : c.loop-rest.rest.now ≢ [] = λ e. grind (arith, nat_tests) in
    rw (p.1, p.2) (λ other.
    let w = c.in_err-publish_of.ensures.refused other in
    stops_at IsRecordOf IsRefusedRecord c.args.body.now c.loop-rest.rest.now c.loop-rest.changes (length c.args.body.now - length c.loop-rest.rest.now)
    c.len-place.result c.in_err-publish_of.field-0.0 c.loop-rest.invariant more refl c.len-place.ensures
    (meta f.0 c.in-Some.record.rest.now c.in-Some.record.meta.now c.in-Some.record.nuspec.now c.in-Some.record.nupkg.now w.0 w.1 f.1 f.2 w.2))

pub loop-rest-preserved : goal.loop-rest-preserved
loop-rest-preserved c =
    let f = at_some c.in_ok-record.field-0
    (λ p. (x : List ℕ) × (c.loop-rest.rest.now ≡ x ++ p.rest.now) × IsRecord x p.meta.now p.nuspec.now p.nupkg.now) c.in-Some.record c.in-Some.is
    c.in_ok-record.ensures.found in
    let m = c.in_ok-publish_of.ensures.ok in
    rw c.in_ok-push.ensures.ok
    (read_on IsRecordOf c.args.body.now c.loop-rest.rest.now c.in-Some.record.rest.now f.0 c.loop-rest.changes c.in_ok-publish_of.field-0
    c.loop-rest.invariant f.1
    (record {
      meta = c.in-Some.record.meta.now;
      nuspec = c.in-Some.record.nuspec.now;
      nupkg = c.in-Some.record.nupkg.now;
      whole = f.2;
      says = m.0;
      read = m.1;
      publishes = m.2;
    }))
