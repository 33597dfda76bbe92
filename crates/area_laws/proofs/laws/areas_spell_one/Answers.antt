use Rattle.area_laws.proofs.OneArea.{spells_one}
use Rattle.area_laws.proofs.laws.areas_spell_one.Goals as goal

pub returns : goal.returns
returns c = spells_one
