-- A document that is held is written.
use Rattle.std.proofs.Common.{◌≡◌, ◌⊎◌, ℕ, List, Some, inl, inr, ⊎_elim, ◌∙◌, ap, subst}
use Rattle.feed_app.specs.declared.hives.ServedHive.{ServedHive}
use Rattle.admin_wire.specs.declared.line.Line.TheVariants as line
use Rattle.admin_wire.specs.declared.area.AreaName.{AreaName}
use Rattle.admin_wire.specs.declared.area.AreaName.TheVariants as area
use Rattle.feed_app.specs.Answers.{answer_status, answer_text}
use Rattle.feed_app.specs.Commands.{Get, base_of, command_of}
use Rattle.feed_app.specs.Frame.{Explains, IsDone}
use Rattle.feed_app.specs.Gets.{HasCatalogDocument, HasHiveDocument, HasIndex, IsServed, get_meaning}
use Rattle.feed_app.specs.Hives.{hive_area, hive_stores}
use Rattle.feed_app.specs.Openings.{MayOpen}
use Rattle.feed_app.specs.Outside.{AreaRose, Bounds, Outside, Rose, Stream, area_of, held, output_of, sight}
use Rattle.feed_app.specs.Runs.{RunsCommand}
use Rattle.feed_app.specs.Writes.{HasMore, WritesAnswer}
use Rattle.feed_app.specs.declared.answer.Answer.{Answer}
use Rattle.feed_app.specs.declared.answer.Answer.TheVariants.{Document, Reply}
use Rattle.feed_app.proofs.Calls.{done}
use Rattle.feed_app.proofs.Gets.{IsGood, catalog_held, hive_held, index_held}
use Rattle.feed_app.proofs.Places.{of_area}

-- the answer's text went out, or memory ran out
written : (answer : Answer) (bytes : List ℕ) (status : ℕ) (old new : Stream) → (answer ≡ Document bytes) ⊎ (answer ≡ Reply line.Memory) → (Rose old new → ⊥)
    → WritesAnswer answer status old new → IsServed bytes status old new
written answer bytes status old new (inl is) quiet (inl all) =
    inl (all.number ∙ ap answer_status is, subst (λ (a : Answer). HasMore (answer_text a) old new) is all.text)
written answer bytes status old new (inr is) quiet (inl all) = inr (all.number ∙ ap answer_status is)
written answer bytes status old new good quiet (inr (inl none)) = inr none.number
written answer bytes status old new good quiet (inr (inr prefix)) = absurd (quiet prefix.rose)

module _ {B I O C : Type 0} (b : Bounds B I O C) (words : List (List ℕ)) (path bytes : List ℕ) (before after : Outside B I O C) (status : ℕ)
    (run : RunsCommand b words before status after)
    (asked : command_of words ≡ Some (Get path)) where
  its : IsDone b.blobs (get_meaning b.blobs path) (sight b (base_of words) before) run.answer (sight b (base_of words) after)
  its = done b words before after status run (Get path) asked

  sure : (name : AreaName) → (AreaRose b.blobs (area_of before.stores name) (area_of after.stores name) → ⊥) → IsGood name bytes run.answer
      → (run.answer ≡ Document bytes) ⊎ (run.answer ≡ Reply line.Memory)
  sure name still (inl is) = inl is
  sure name still (inr (inl fault)) = absurd
      (still (subst (λ (a : Answer). Explains b.blobs (get_meaning b.blobs path).reach (sight b (base_of words) before) a (sight b (base_of words) after)) fault its.explains).1)
  sure name still (inr (inr memory)) = inr memory

  abbrev May : Type 0
  May = MayOpen (base_of words) (b.blobs.seen before.stores.catalog)

  abbrev OutputRose : Type 0
  OutputRose = Rose (output_of b.sink before.output) (output_of b.sink after.output)

  abbrev Served : Type 0
  Served = IsServed bytes status (output_of b.sink before.output) (output_of b.sink after.output)

  pub catalog_served : May → HasCatalogDocument path bytes (held b.blobs before.stores.catalog)
      → (AreaRose b.blobs before.stores.catalog after.stores.catalog → ⊥) → (OutputRose → ⊥) → Served
  catalog_served may has still quiet =
      written run.answer bytes status (output_of b.sink before.output) (output_of b.sink after.output)
      (sure area.Catalog still (catalog_held b.blobs path bytes (sight b (base_of words) before) (sight b (base_of words) after) run.answer may has its.acts)) quiet run.writes

  pub index_served : May → HasIndex path bytes (held b.blobs before.stores.catalog)
      → (AreaRose b.blobs before.stores.catalog after.stores.catalog → ⊥) → (OutputRose → ⊥) → Served
  index_served may has still quiet =
      written run.answer bytes status (output_of b.sink before.output) (output_of b.sink after.output)
      (sure area.Catalog still (index_held b.blobs path bytes (sight b (base_of words) before) (sight b (base_of words) after) run.answer may has its.acts)) quiet run.writes

  pub hive_served : May → (hive : ServedHive) → HasHiveDocument hive path bytes (held b.blobs before.stores.catalog)
      (held b.blobs (hive_stores before.stores hive))
      → (AreaRose b.blobs before.stores.catalog after.stores.catalog → ⊥)
      → (AreaRose b.blobs (hive_stores before.stores hive) (hive_stores after.stores hive) → ⊥) → (OutputRose → ⊥) → Served
  hive_served may hive has still calm quiet =
      written run.answer bytes status (output_of b.sink before.output) (output_of b.sink after.output)
      (⊎_elim (sure area.Catalog still) (sure (hive_area hive) (λ rose. calm (of_area b.blobs before.stores after.stores hive rose)))
      (hive_held b.blobs path bytes (sight b (base_of words) before) (sight b (base_of words) after) run.answer may hive has its.acts)) quiet run.writes
