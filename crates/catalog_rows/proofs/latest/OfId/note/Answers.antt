use Rattle.std.proofs.Common.{◌∙◌, ap, refl, length, ◌<◌, ◌-◌, ◌^◌, Some, arith}
use Rattle.std.specs.Prelude.{None, string_bytes, unwrap_or}
use Rattle.catalog_rows.specs.Last.{is_of_keys}
use Rattle.catalog_rows.specs.Latest.{last_place}
use Rattle.catalog_rows.proofs.Table.{count_is, keys_stay, live_by_place, places_more, same_keeps}
use Rattle.catalog_rows.proofs.latest.OfId.note.Goals as goal

pub returns-clause-ok : goal.returns-clause-ok
returns-clause-ok c = λ is.
    let rows = c.args.earlier.now in
    let row = c.args.row.now in
    let fits : length rows < 2 ^ 64 - 1 = omega arith in
    record {
      places = places_more rows row (string_bytes c.args.version) (length rows) c.args.self.now c.put.new.self is.places c.requires refl c.in_ok-place.ensures.put;
      live = count_is row rows c.is_live_at-was_live.result c.put.new.self.live c.count_with-self.result
          (c.is_live_at-was_live.ensures ∙ live_by_place row rows _
          (c.unwrap_or.ensures ∙ ap (λ place. unwrap_or place None) c.in_ok-place.ensures.before ∙ is.places (string_bytes c.args.version)
          ∙ ap (λ key. last_place (is_of_keys row.id.key key) rows) c.requires))
          (c.put.ensures.live ∙ is.live) fits c.count_with-self.ensures;
    }

pub returns-clause-keeps : goal.returns-clause-keeps
returns-clause-keeps c = keys_stay (string_bytes c.args.version) (Some (length c.args.earlier.now)) c.args.self.now c.put.new.self c.in_ok-place.ensures.put

pub returns-in_err-place-clause-keeps : goal.returns-in_err-place-clause-keeps
returns-in_err-place-clause-keeps c = same_keeps c.args.self.now c.put.new.self c.in_err-place.ensures.same
