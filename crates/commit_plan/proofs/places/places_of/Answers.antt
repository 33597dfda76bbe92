use Rattle.std.proofs.Common.{◌<◌, ◌∙◌, ◌++◌, ◌∷◌, [], ap, arith, length}
use Rattle.pkg_meta.specs.declared.item.Item.{Item}
use Rattle.catalog_doc.specs.CatDocs.{rows_from}
use Rattle.catalog_doc.specs.Commits.{place_puts, staged_of}
use Rattle.commit_plan.proofs.PlaceByPlace.{calls_on, is_at, rows_on}
use Rattle.commit_plan.proofs.places.places_of.Goals as goal

pub loop-place-preserved : goal.loop-place-preserved
loop-place-preserved c =
    let changes = c.args.changes.now in
    let lasts = c.args.lasts.now in
    let i = c.loop-place.place in
    let change = c.index-changes-place.result in
    let last = c.index-lasts-place.result in
    let within : i < length changes = omega arith in
    let below : i < length lasts = omega arith in
    let at = is_at changes lasts i change last within below c.index-changes-place.is c.index-lasts-place.is in
    record {
      rows = rows_on c.args.number c.args.stamp i changes lasts change last c.loop-place.rows _ _ at
          (c.in_ok-add_row.ensures ∙ ap (λ (it : Item). c.loop-place.rows ++ rows_from c.args.number c.args.stamp i (it ∷ [])) c.in_ok-item.ensures)
          c.loop-place.invariant.rows;
      calls = calls_on c.args.base.now c.args.number c.args.stamp i changes lasts change last c.loop-place.calls _ _ at
          (c.in_ok-add_calls.ensures ∙ ap (λ (it : Item). c.loop-place.calls ++ place_puts c.args.base.now c.args.number c.args.stamp i (it ∷ []) (staged_of change ∷ [])) c.in_ok-item.ensures)
          c.loop-place.invariant.calls;
    }
