use Rattle.std.proofs.Common.{inl, inr, refl, ◌∙◌}
use Rattle.feed_app.proofs.BlobTexts.{named_as}
use Rattle.feed_app.proofs.answer.Answer.of_damage.Goals as goal

pub returns-in-Ok : goal.returns-in-Ok
returns-in-Ok c =
    let told = c.area_and_name-area.ensures in
    record {
      one = (c.area_and_name-area.result.0, c.in-Ok.name, inl refl);
      of_catalog = λ blob e. let at = told.catalog blob e in inl (named_as _ _ c.in-Ok.name blob at.0 (c.in-Ok.ensures ∙ at.1));
      of_hive = λ other blob e. let at = told.hive other blob e in inl (named_as _ _ c.in-Ok.name blob at.0 (c.in-Ok.ensures ∙ at.1));
    }

pub returns-in-Err : goal.returns-in-Err
returns-in-Err c = record {
  one = (c.area_and_name-area.result.0, c.area_and_name-area.result.1.now, inr refl);
  of_catalog = λ blob e. inr refl;
  of_hive = λ other blob e. inr refl;
}
