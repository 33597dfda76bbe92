use Rattle.pkg_meta.proofs.RoundTrip.{meta_back}
use Rattle.pkg_meta.proofs.laws.printed_reads_back.Goals as goal

pub returns : goal.returns
returns c = meta_back
