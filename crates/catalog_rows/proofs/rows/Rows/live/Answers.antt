use Rattle.std.proofs.Common.{◌∙◌, ap, sym, List, ℕ}
use Rattle.catalog_rows.specs.Kept.{Kept}
use Rattle.catalog_rows.specs.Last.{live_rows}
use Rattle.catalog_rows.proofs.OfItems.{live_rows-all}
use Rattle.catalog_rows.proofs.rows.Rows.live.Goals as goal

pub returns-clause-items : goal.returns-clause-items
returns-clause-items c = λ cs are.
    let id = c.args.id.now.key in
    c.count.ensures ∙ (c.self.invariant.0.each c.as_str.result.now).live
    ∙ ap (λ (t : List ℕ). live_rows t c.self.inside.rows.items) c.as_str.ensures
    ∙ ap (λ (k : Kept). live_rows id k.rows) c.self.view_is
    ∙ ap (live_rows id) (sym are) ∙ live_rows-all id cs
