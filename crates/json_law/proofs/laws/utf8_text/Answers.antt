use Rattle.json_law.proofs.Utf8.{IsUtf8-compact_text}
use Rattle.json_law.proofs.laws.utf8_text.Goals as goal

pub returns : goal.returns
returns c = IsUtf8-compact_text
