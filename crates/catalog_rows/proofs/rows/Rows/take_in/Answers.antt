use Rattle.std.proofs.Common.{◌≡◌, ◌∙◌, ◌++◌, ap, ap₂, sym, List}
use Rattle.catalog_doc.specs.Documents.{head_of}
use Rattle.catalog_doc.specs.declared.head.PageHead.{PageHead}
use Rattle.catalog_doc.specs.declared.row.Row.{Row}
use Rattle.catalog_rows.specs.Kept.{add_head, Kept}
use Rattle.catalog_rows.specs.Latest.{rows_in}
use Rattle.catalog_rows.proofs.PageHeads.{taken_in}
use Rattle.catalog_rows.proofs.rows.Rows.take_in.Goals as goal

pub returns-clause-catalog : goal.returns-clause-catalog
returns-clause-catalog c =
    let more : c.in-Some.field-0.rows.items ≡ c.args.self.now.reserved = ap rows_in (sym c.in-Some.is ∙ c.take.ensures.value) ∙ ap (λ (k : Kept). k.reserved) c.self.view_is in
    taken_in c.args.self.now (record { rows = c.append.new.rows.items; pages = c.add_head.new.pages.items; reserved = rows_in c.take.new.self }) c.args.self.now.reserved c.requires.some
    (c.append.ensures ∙ ap₂ (λ (l m : List Row). l ++ m) (ap (λ (k : Kept). k.rows) c.self.view_is) more)
    (c.add_head.ensures
    ∙ ap₂ (λ (l : List PageHead) (head : PageHead). add_head l head) (ap (λ (k : Kept). k.pages) c.self.view_is)
    (c.head_of-head.ensures ∙ ap head_of (c.as_slice.ensures.value ∙ more)))
