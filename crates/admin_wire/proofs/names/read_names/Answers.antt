use Rattle.std.proofs.Common.{◌≢◌, ◌-◌, [], length, refl, arith}
use Rattle.std.proofs.lemmas.Bool.Decides.{nat_tests}
use Rattle.std.proofs.lemmas.Result.{err_from_is_err_and}
use Rattle.admin_wire.specs.Bodies.{IsLineOf, IsRefusedLine}
use Rattle.admin_wire.specs.Bodies.IsRefusedLine.{pair}
use Rattle.admin_wire.proofs.Behind.{read_on, stops_at}
use Rattle.admin_wire.proofs.WordTexts.{asked_of, refused_of}
use Rattle.admin_wire.proofs.names.read_names.Goals as goal

pub returns-in_err-read_pair-clause-refused : goal.returns-in_err-read_pair-clause-refused
returns-in_err-read_pair-clause-refused c =
    let p = err_from_is_err_and c.from_residual.result c.from_residual.ensures.1 in
    let l = c.in-Some.ensures.found in
    let more : c.loop-rest.rest.now ≢ [] = λ e. grind (arith, nat_tests) in
    rw (p.1, p.2) (λ other.
    stops_at (IsLineOf c.args.kind) IsRefusedLine c.args.body.now c.loop-rest.rest.now c.loop-rest.changes
    (length c.args.body.now - length c.loop-rest.rest.now)
    c.len-place.result c.in_err-read_pair.field-0.0 c.loop-rest.invariant more refl c.len-place.ensures
    (pair l.0 c.in-Some.behind.now c.in-Some.id.now c.in-Some.version.now l.1 l.2
    (refused_of c.len-place.result c.in-Some.id.now c.in-Some.version.now c.text_or_empty-id.result.now c.text_or_empty-version.result.now
    c.in_err-read_pair.field-0.0 c.text_or_empty-id.ensures c.text_or_empty-version.ensures (c.in_err-read_pair.ensures.refused other))))

pub loop-rest-preserved : goal.loop-rest-preserved
loop-rest-preserved c =
    let l = c.in-Some.ensures.found in
    rw c.in_ok-push.ensures.ok
    (read_on (IsLineOf c.args.kind) c.args.body.now c.loop-rest.rest.now c.in-Some.behind.now l.0 c.loop-rest.changes c.in_ok-read_pair.field-0
    c.loop-rest.invariant l.1
    (record {
      id = c.in-Some.id.now;
      version = c.in-Some.version.now;
      whole = l.2;
      asks = asked_of c.args.kind c.in-Some.id.now c.in-Some.version.now c.text_or_empty-id.result.now c.text_or_empty-version.result.now
          c.in_ok-read_pair.field-0 c.text_or_empty-id.ensures c.text_or_empty-version.ensures c.in_ok-read_pair.ensures.ok;
    }))
