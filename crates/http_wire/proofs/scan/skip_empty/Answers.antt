use Rattle.std.proofs.Common.{◌<◌, ◌≡◌, arith, ap, drop, ◌∙◌}
use Rattle.std.proofs.lemmas.List.{take_rest}
use Rattle.http_wire.specs.Lines.{ending}
use Rattle.http_wire.proofs.ScanLemmas.{skip_step}
use Rattle.http_wire.proofs.scan.skip_empty.Goals as goal

pub lines-preserved : goal.lines-preserved
lines-preserved c =
    let is : c.line_end.result ≡ ending (drop c.lines.at c.args.bytes.now) = c.line_end.ensures ∙ ap ending (take_rest c.args.bytes.now c.lines.at) in
    let some : 0 < ending (drop c.lines.at c.args.bytes.now) = omega (arith, is, c.if-line_end-eq0.false) in
    let step = skip_step c.args.bytes.now c.lines.at c.lines.invariant.high some in
    record {
      low = omega (arith, c.lines.invariant.low);
      high = step.0;
      rest = c.lines.invariant.rest ∙ step.1;
    }
