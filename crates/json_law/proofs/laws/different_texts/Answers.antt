use Rattle.json_law.proofs.Back.{compact_text-injective}
use Rattle.json_law.proofs.laws.different_texts.Goals as goal

pub returns : goal.returns
returns c = compact_text-injective
