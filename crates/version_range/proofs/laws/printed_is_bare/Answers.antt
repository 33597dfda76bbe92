use Rattle.version_range.proofs.ReadBack.{text_bare}
use Rattle.version_range.proofs.laws.printed_is_bare.Goals as goal

pub returns : goal.returns
returns c = text_bare
