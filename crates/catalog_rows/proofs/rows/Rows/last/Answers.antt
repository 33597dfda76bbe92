use Rattle.std.proofs.Common.{◌∙◌, ap, sym, List, slice_get}
use Rattle.std.specs.Option.{option_and_then}
use Rattle.nuget_version.specs.Printed.{key_text}
use Rattle.catalog_doc.specs.declared.row.Row.{Row}
use Rattle.catalog_rows.specs.Kept.{Kept}
use Rattle.catalog_rows.specs.Last.{last_row}
use Rattle.catalog_rows.proofs.OfItems.{last_row-of}
use Rattle.catalog_rows.proofs.Table.{row_there}
use Rattle.catalog_rows.proofs.rows.Rows.last.Goals as goal

pub returns-in-Some-clause-row : goal.returns-in-Some-clause-row
returns-in-Some-clause-row c =
    let rows = c.self.inside.rows.items in
    let id = c.args.id.now in
    let version = c.args.version.now in
    c.row_at.ensures
    ∙ ap (λ (l : List Row). slice_get l c.in-Some.at) c.as_slice.ensures.value
    ∙ ap (option_and_then (slice_get rows)) (sym c.in-Some.is ∙ c.in_ok-at.ensures ∙ (c.self.invariant.0.each id.key).places (key_text version))
    ∙ row_there id.key (key_text version) rows
    ∙ ap (λ (k : Kept). last_row id.key (key_text version) k.rows) c.self.view_is

pub returns-in-Some-clause-item : goal.returns-in-Some-clause-item
returns-in-Some-clause-item c = λ cs are.
    let id = c.args.id.now in
    let version = c.args.version.now in
    returns-in-Some-clause-row c ∙ ap (last_row id.key (key_text version)) (sym are) ∙ last_row-of id.key (key_text version) cs

pub returns-in-None-clause-row : goal.returns-in-None-clause-row
returns-in-None-clause-row c =
    let rows = c.self.inside.rows.items in
    let id = c.args.id.now in
    let version = c.args.version.now in
    ap (option_and_then (slice_get rows)) (sym c.in-None.is ∙ c.in_ok-at.ensures ∙ (c.self.invariant.0.each id.key).places (key_text version))
    ∙ row_there id.key (key_text version) rows
    ∙ ap (λ (k : Kept). last_row id.key (key_text version) k.rows) c.self.view_is

pub returns-in-None-clause-item : goal.returns-in-None-clause-item
returns-in-None-clause-item c = λ cs are.
    let id = c.args.id.now in
    let version = c.args.version.now in
    returns-in-None-clause-row c ∙ ap (last_row id.key (key_text version)) (sym are) ∙ last_row-of id.key (key_text version) cs
