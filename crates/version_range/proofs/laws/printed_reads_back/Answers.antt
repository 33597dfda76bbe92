use Rattle.version_range.proofs.ReadBack.{reads_back}
use Rattle.version_range.proofs.laws.printed_reads_back.Goals as goal

pub returns : goal.returns
returns c = reads_back
