use Rattle.std.proofs.Common.{refl, ◌∙◌}
use Rattle.admin_wire.specs.Lines.{area_text, hive_text}
use Rattle.admin_wire.specs.declared.area.AreaName.TheVariants.{Catalog}
use Rattle.feed_app.proofs.BlobTexts.{free_word, spelled_by}
use Rattle.feed_app.proofs.causes.area_and_name.Goals as goal

pub returns-in-Some-clause-catalog : goal.returns-in-Some-clause-catalog
returns-in-Some-clause-catalog c = λ name e.
    let at = c.in-Some.ensures (area_text Catalog) name refl e in
    (c.area_named.ensures.catalog at.0, at.1)

pub returns-in-Some-clause-hive : goal.returns-in-Some-clause-hive
returns-in-Some-clause-hive c = λ other name e.
    let at = c.in-Some.ensures (hive_text other) name (free_word other) (e ∙ spelled_by other name) in
    (c.area_named.ensures.hive other at.0, at.1)

pub returns-in-None-clause-catalog : goal.returns-in-None-clause-catalog
returns-in-None-clause-catalog c = λ name e. absurd (c.in-None.ensures (area_text Catalog) name refl e)

pub returns-in-None-clause-hive : goal.returns-in-None-clause-hive
returns-in-None-clause-hive c = λ other name e. absurd (c.in-None.ensures (hive_text other) name (free_word other) (e ∙ spelled_by other name))
