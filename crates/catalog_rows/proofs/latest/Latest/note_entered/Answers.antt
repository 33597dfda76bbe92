use Rattle.std.proofs.Common.{Some}
use Rattle.catalog_rows.proofs.Table.{change_written, latest_more, entered_still}
use Rattle.catalog_rows.proofs.latest.Latest.note_entered.Goals as goal

pub returns-clause-latest : goal.returns-clause-latest
returns-clause-latest c =
    let of_id = c.note.new.self in
    let change = change_written c.args.row.now.id.key c.as_str.result.now c.in-Some.of_id.now of_id c.args.self.now (record { ids = c.get_mut.follows.lender of_id })
    c.as_str.ensures c.in-Some.ensures.value (c.get_mut.follows.holds of_id) in
    latest_more c.args.earlier.now c.args.row.now (Some c.in-Some.of_id.now) of_id c.args.self.now (record { ids = c.get_mut.follows.lender of_id }) change c.in-Ok.ensures.ok

pub returns-clause-keeps : goal.returns-clause-keeps
returns-clause-keeps c =
    let of_id = c.note.new.self in
    let change = change_written c.args.row.now.id.key c.as_str.result.now c.in-Some.of_id.now of_id c.args.self.now (record { ids = c.get_mut.follows.lender of_id })
    c.as_str.ensures c.in-Some.ensures.value (c.get_mut.follows.holds of_id) in
    entered_still c.args.row.now.id.key (Some c.in-Some.of_id.now) of_id c.args.self.now (record { ids = c.get_mut.follows.lender of_id }) change c.note.ensures.keeps
