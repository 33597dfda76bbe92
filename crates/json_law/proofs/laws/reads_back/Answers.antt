use Rattle.json_law.proofs.Back.{read-compact_text}
use Rattle.json_law.proofs.laws.reads_back.Goals as goal

pub returns : goal.returns
returns c = read-compact_text
