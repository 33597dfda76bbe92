use Rattle.std.proofs.Common.{arith}
use Rattle.http_wire.proofs.ScanLemmas.{blank_is, skipped_on}
use Rattle.http_wire.proofs.scan.Scan.skip.Goals as goal

pub returns-then-skipped-self-clause-blank : goal.returns-then-skipped-self-clause-blank
returns-then-skipped-self-clause-blank c = omega (arith, c.if-skipped-self.true, c.skip_empty-skipped.ensures.is, blank_is c.args.bytes.now c.args.self.skipped c.args.self.looked c.requires)

pub returns-else-skipped-self-clause-scanned : goal.returns-else-skipped-self-clause-scanned
returns-else-skipped-self-clause-scanned c =
    skipped_on c.args.bytes.now c.args.self.skipped c.args.self.looked c.skip_empty-skipped.result c.requires c.skip_empty-skipped.ensures.is c.skip_empty-skipped.ensures.within

pub returns-else-skipped-self-clause-blank : goal.returns-else-skipped-self-clause-blank
returns-else-skipped-self-clause-blank c = omega (arith, c.skip_empty-skipped.ensures.is, blank_is c.args.bytes.now c.args.self.skipped c.args.self.looked c.requires)
