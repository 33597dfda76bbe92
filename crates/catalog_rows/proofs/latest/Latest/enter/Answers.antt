use Rattle.std.proofs.Common.{◌∙◌, ap, None, Some, subst}
use Rattle.std.specs.Prelude.{IsSome, string_bytes}
use Rattle.nuget_version.specs.Printed.{key_text}
use Rattle.catalog_rows.specs.Latest.{entered_in}
use Rattle.catalog_rows.proofs.Table.{change_new, change_written, entered_there, latest_kept, latest_same, entered_still, same_then}
use Rattle.catalog_rows.proofs.latest.Latest.enter.Goals as goal

pub returns-in_err-enter-in-None-clause-same : goal.returns-in_err-enter-in-None-clause-same
returns-in_err-enter-in-None-clause-same c =
    latest_kept c.args.self.now (record { ids = c.get_mut.follows.lender-at-none }) (ap (λ m. m.entries) c.get_mut.follows.holds-at-none)

pub returns-in_err-from_str-in-None-clause-same : goal.returns-in_err-from_str-in-None-clause-same
returns-in_err-from_str-in-None-clause-same c =
    latest_kept c.args.self.now (record { ids = c.get_mut.follows.lender-at-none }) (ap (λ m. m.entries) c.get_mut.follows.holds-at-none)

pub returns-in_err-insert-in-None-clause-same : goal.returns-in_err-insert-in-None-clause-same
returns-in_err-insert-in-None-clause-same c =
    latest_kept c.args.self.now (record { ids = c.insert.new.self }) (c.in_err-insert-in-None.ensures.err ∙ ap (λ m. m.entries) c.get_mut.follows.holds-at-none)

pub returns-in-Some-clause-keeps : goal.returns-in-Some-clause-keeps
returns-in-Some-clause-keeps c =
    let of_id = c.enter.new.self in
    let change = change_written c.args.row.now.id.key c.as_str-id.result.now c.in-Some.of_id.now of_id c.args.self.now (record { ids = c.get_mut.follows.lender of_id })
    c.as_str-id.ensures c.in-Some.ensures.value (c.get_mut.follows.holds of_id) in
    entered_still c.args.row.now.id.key (Some c.in-Some.of_id.now) of_id c.args.self.now (record { ids = c.get_mut.follows.lender of_id }) change c.enter.ensures.keeps

pub returns-in-Some-clause-same : goal.returns-in-Some-clause-same
returns-in-Some-clause-same c =
    let of_id = c.enter.new.self in
    let change = change_written c.args.row.now.id.key c.as_str-id.result.now c.in-Some.of_id.now of_id c.args.self.now (record { ids = c.get_mut.follows.lender of_id })
    c.as_str-id.ensures c.in-Some.ensures.value (c.get_mut.follows.holds of_id) in
    latest_same c.args.row.now.id.key (Some c.in-Some.of_id.now) of_id c.args.self.now (record { ids = c.get_mut.follows.lender of_id }) change c.enter.ensures.same

pub returns-in_ok-insert-in-None-clause-keeps : goal.returns-in_ok-insert-in-None-clause-keeps
returns-in_ok-insert-in-None-clause-keeps c =
    let change = change_new c.args.row.now.id.key c.as_str-id.result.now (string_bytes c.in_ok-from_str-in-None.field-0) c.enter-in-None.new.self c.args.self.now
    (record { ids = c.get_mut.follows.lender-at-none }) (record { ids = c.insert.new.self }) c.as_str-id.ensures c.in_ok-from_str-in-None.ensures.ok c.in-None.ensures.value
    c.get_mut.follows.holds-at-none c.in_ok-insert-in-None.ensures.updates in
    entered_still c.args.row.now.id.key None c.enter-in-None.new.self c.args.self.now (record { ids = c.insert.new.self }) change (λ version is. cc)

pub returns-in_ok-insert-in-None-clause-same : goal.returns-in_ok-insert-in-None-clause-same
returns-in_ok-insert-in-None-clause-same c =
    let change = change_new c.args.row.now.id.key c.as_str-id.result.now (string_bytes c.in_ok-from_str-in-None.field-0) c.enter-in-None.new.self c.args.self.now
    (record { ids = c.get_mut.follows.lender-at-none }) (record { ids = c.insert.new.self }) c.as_str-id.ensures c.in_ok-from_str-in-None.ensures.ok c.in-None.ensures.value
    c.get_mut.follows.holds-at-none c.in_ok-insert-in-None.ensures.updates in
    latest_same c.args.row.now.id.key None c.enter-in-None.new.self c.args.self.now (record { ids = c.insert.new.self }) change
    (same_then None (Some c.new-of_id.result) (Some c.enter-in-None.new.self) c.new-of_id.ensures c.enter-in-None.ensures.same)

pub returns-in_ok-insert-in-None-clause-entered : goal.returns-in_ok-insert-in-None-clause-entered
returns-in_ok-insert-in-None-clause-entered c =
    let change = change_new c.args.row.now.id.key c.as_str-id.result.now (string_bytes c.in_ok-from_str-in-None.field-0) c.enter-in-None.new.self c.args.self.now
    (record { ids = c.get_mut.follows.lender-at-none }) (record { ids = c.insert.new.self }) c.as_str-id.ensures c.in_ok-from_str-in-None.ensures.ok c.in-None.ensures.value
    c.get_mut.follows.holds-at-none c.in_ok-insert-in-None.ensures.updates in
    entered_there c.args.row.now.id.key None c.enter-in-None.new.self c.args.self.now (record { ids = c.insert.new.self }) change (key_text c.args.row.now.version)
    (subst (λ version. IsSome (entered_in c.enter-in-None.new.self version)) c.requires c.in_ok-enter-in-None.ensures.entered)
