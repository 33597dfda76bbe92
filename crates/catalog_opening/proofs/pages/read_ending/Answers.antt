use Rattle.std.proofs.Common.{◌≡◌, ◌∙◌, List, [], ◌∷◌, ◌++◌, Err, IfOk, Ok, Result, ap, map, subst, sym}
use Rattle.catalog_doc.specs.Documents.{head_of}
use Rattle.catalog_doc.specs.declared.head.PageHead.{PageHead}
use Rattle.catalog_doc.specs.declared.row.Row.{Row}
use Rattle.catalog_opening.specs.Pages.{IsHeldAs, rows_on}
use Rattle.catalog_opening.specs.Reads.{IsEndingOf}
use Rattle.catalog_opening.specs.declared.error.ReadErr.{ReadErr}
use Rattle.catalog_opening.specs.declared.pages.Found.{Found}
use Rattle.catalog_opening.proofs.Fitting.{ending_read, held_ends, joined_read, Parted}
use Rattle.catalog_opening.proofs.pages.read_ending.Goals as goal

ending_of : (front : List PageHead) (last : PageHead) (pages : List (List Row)) (part : Parted front last pages) (none : List Row) (result : Result Found ReadErr) → none ≡ []
    → IfOk result (λ f. (f.rows ≡ none ++ rows_on part.ends) × (f.heads ≡ front ++ map head_of part.ends)) → IfOk result (IsEndingOf (front ++ last ∷ []) pages)
ending_of front last pages part none (Ok found) empty read = record {
  rows = ending_read front last pages part found.rows (read.0 ∙ ap (λ (l : List Row). l ++ rows_on part.ends) empty);
  heads_are = (joined_read front last pages part (rows_on part.before ++ rows_on part.ends) found.heads (λ i. rows_on part.before ++ rows_on part.ends) read.1).1;
}
ending_of front last pages part none (Err error) empty read = tt

pub returns-in-Some-clause-exact : goal.returns-in-Some-clause-exact
returns-in-Some-clause-exact g c = λ m pages is held.
    let parts = held_ends m c.args.base.now c.in-Some.front.now c.in-Some.last.now pages (subst (λ (heads : List PageHead). IsHeldAs m c.args.base.now heads pages) c.in-Some.ensures.cases.0 held) in
    subst (λ (heads : List PageHead). IfOk c.read_end.result (IsEndingOf heads pages)) (sym c.in-Some.ensures.cases.0)
    (ending_of c.in-Some.front.now c.in-Some.last.now pages parts.part c.new.result.items c.read_end.result c.new.ensures.items (c.read_end.ensures.exact m parts.part.ends is parts.ending))
