use Rattle.std.proofs.Common.{refl}
use Rattle.version_range.proofs.Forms.{form_starred, form_core}
use Rattle.version_range.proofs.reading.read_range.Goals as goal

pub returns-in-Some-clause-refused : goal.returns-in-Some-clause-refused
returns-in-Some-clause-refused c = rw (form_starred c.args.text.now c.in-Some.at c.in-Some.ensures.place) refl

pub returns-in-None-clause-ok : goal.returns-in-None-clause-ok
returns-in-None-clause-ok c =
    rw (form_core c.args.text.now c.trim.result.now c.count_lead.result c.in-None.ensures.place c.trim.ensures.text c.count_lead.ensures.lead) c.read_core.ensures.ok

pub returns-in-None-clause-refused : goal.returns-in-None-clause-refused
returns-in-None-clause-refused c =
    rw (form_core c.args.text.now c.trim.result.now c.count_lead.result c.in-None.ensures.place c.trim.ensures.text c.count_lead.ensures.lead) c.read_core.ensures.refused
