use Rattle.hive_laws.proofs.areas.areas_hold_prefixes.Goals as goal

pub returns-clause-fresh : goal.returns-clause-fresh
returns-clause-fresh c = λ f cs at m key name sound own. (sound.1.sound.ids key).fresh name own

pub returns-clause-linked : goal.returns-clause-linked
returns-clause-linked c = λ f cs at m key sound own. (sound.1.sound.ids key).linked own

pub returns-clause-exact : goal.returns-clause-exact
returns-clause-exact c = λ f cs k m key name settled own. (settled.1.settled key).holds name own

pub returns-clause-only : goal.returns-clause-only
returns-clause-only c = λ f cs k m name settled. settled.1.area.known name
