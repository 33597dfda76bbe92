use Rattle.std.proofs.Common.{None, Some}
use Rattle.std.specs.Prelude.{string_bytes}
use Rattle.std.proofs.lemmas.Result.{on_ok_weaker}
use Rattle.catalog_rows.proofs.Table.{change_new, change_written, latest_more, noted_same}
use Rattle.catalog_rows.proofs.latest.Latest.note.Goals as goal

pub returns-in-Some : goal.returns-in-Some
returns-in-Some c =
    let of_id = c.note.new.self in
    let change = change_written c.args.row.now.id.key c.as_str-id.result.now c.in-Some.of_id.now of_id c.args.self.now (record { ids = c.get_mut.follows.lender of_id })
    c.as_str-id.ensures c.in-Some.ensures.value (c.get_mut.follows.holds of_id) in
    on_ok_weaker c.note.result
    (latest_more c.args.earlier.now c.args.row.now (Some c.in-Some.of_id.now) of_id c.args.self.now (record { ids = c.get_mut.follows.lender of_id }) change)
    c.note.ensures.ok

pub returns-in_ok-insert-in-None : goal.returns-in_ok-insert-in-None
returns-in_ok-insert-in-None c =
    let change = change_new c.args.row.now.id.key c.as_str-id.result.now (string_bytes c.in_ok-from_str-in-None.field-0) c.note-in-None.new.self c.args.self.now
    (record { ids = c.get_mut.follows.lender-at-none }) (record { ids = c.insert.new.self }) c.as_str-id.ensures c.in_ok-from_str-in-None.ensures.ok c.in-None.ensures.value
    c.get_mut.follows.holds-at-none c.in_ok-insert-in-None.ensures.updates in
    latest_more c.args.earlier.now c.args.row.now None c.note-in-None.new.self c.args.self.now (record { ids = c.insert.new.self }) change
    (λ is. c.in_ok-note-in-None.ensures.ok (noted_same c.args.row.now.id.key c.args.earlier.now None (Some c.new-of_id.result) c.new-of_id.ensures is))
