use Rattle.nuget_version.proofs.ReadBack.{full_reads, key_reads, normal_reads}
use Rattle.nuget_version.proofs.laws.printed_read_back.Goals as goal

pub returns : goal.returns
returns c = λ v. (full_reads v, normal_reads v, key_reads v)
