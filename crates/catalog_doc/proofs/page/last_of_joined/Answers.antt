use Rattle.std.proofs.Common.{◌≡◌, ◌<◌, ◌∙◌, ◌++◌, [], ◌∷◌, List, arith, length, refl, sym}
use Rattle.catalog_doc.specs.Documents.{last_number, last_stamp}
use Rattle.catalog_doc.specs.declared.row.Row.{Row}
use Rattle.catalog_doc.proofs.page.last_of_joined.Goals as goal

-- the last of rows with some behind them
last_number-append : (rows : List Row) (row : Row) (more : List Row) → last_number (rows ++ row ∷ more) ≡ last_number (row ∷ more)
last_number-append [] row more = refl
last_number-append (x ∷ []) row more = refl
last_number-append (x ∷ y ∷ rows) row more = last_number-append (y ∷ rows) row more

last_stamp-append : (rows : List Row) (row : Row) (more : List Row) → last_stamp (rows ++ row ∷ more) ≡ last_stamp (row ∷ more)
last_stamp-append [] row more = refl
last_stamp-append (x ∷ []) row more = refl
last_stamp-append (x ∷ y ∷ rows) row more = last_stamp-append (y ∷ rows) row more

last_of_some : (rows more : List Row) → 0 < length more → (last_number (rows ++ more) ≡ last_number more) × (last_stamp (rows ++ more) ≡ last_stamp more)
last_of_some rows [] some = absurd (omega (arith, some))
last_of_some rows (row ∷ more) some = (last_number-append rows row more, last_stamp-append rows row more)

pub returns-else-is_empty-clause-number : goal.returns-else-is_empty-clause-number
returns-else-is_empty-clause-number c =
    let some : 0 < length c.args.more.now = grind (arith, c.is_empty.ensures, c.if-is_empty.false) in
    c.last_of-else-is_empty.ensures.number ∙ sym (last_of_some c.args.rows.now c.args.more.now some).0

pub returns-else-is_empty-clause-stamp : goal.returns-else-is_empty-clause-stamp
returns-else-is_empty-clause-stamp c =
    let some : 0 < length c.args.more.now = grind (arith, c.is_empty.ensures, c.if-is_empty.false) in
    c.last_of-else-is_empty.ensures.stamp ∙ sym (last_of_some c.args.rows.now c.args.more.now some).1
