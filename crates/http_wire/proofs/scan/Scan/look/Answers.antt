use Rattle.http_wire.proofs.ScanLemmas.{span_found, span_none, looked_on}
use Rattle.http_wire.proofs.scan.Scan.look.Goals as goal

pub returns-in-End-clause-found : goal.returns-in-End-clause-found
returns-in-End-clause-found c =
    span_found c.args.bytes.now c.skip-scan.result.skipped c.skip-scan.result.looked c.in-End.end c.skip-scan.ensures.scanned c.skip-scan.ensures.blank c.in-End.ensures

pub returns-in-On-clause-none : goal.returns-in-On-clause-none
returns-in-On-clause-none c =
    span_none c.args.bytes.now c.skip-scan.result.skipped c.in-On.looked (looked_on c.args.bytes.now c.skip-scan.result.skipped c.skip-scan.result.looked c.in-On.looked c.skip-scan.ensures.scanned c.in-On.ensures.0) c.skip-scan.ensures.blank c.in-On.ensures.1
