use Rattle.std.proofs.Common.{◌≡◌, ◌∙◌, ◌++◌, ℕ, List, length, map, ap, ap₂, arith}
use Rattle.blob_store.specs.declared.call.Call.{Call}
use Rattle.pkg_meta.specs.Catalog.{Catalog}
use Rattle.pkg_meta.specs.declared.item.Item.{Item}
use Rattle.catalog_doc.specs.CatDocs.{rows_from, rows_of}
use Rattle.catalog_doc.specs.Commits.{commit_at, commit_puts, made, made_from, place_puts, staged_of}
use Rattle.catalog_doc.specs.declared.change.Change.{Change}
use Rattle.catalog_doc.specs.declared.head.PageHead.{PageHead}
use Rattle.catalog_doc.specs.declared.row.Row.{Row}
use Rattle.commit_plan.specs.Plans.{AreKnownFor, fits_last_page, IsKnownOf, IsNumberedAfter, kept_heads, kept_rows, last_puts, made_with}
use Rattle.commit_plan.specs.declared.last.LastItem.{LastItem}
use Rattle.catalog_doc.proofs.OnePage.{length-rows_from}
use Rattle.commit_plan.proofs.NextPage.{puts_known}
use Rattle.commit_plan.proofs.PlaceByPlace.{length-made_with, made_same}
use Rattle.commit_plan.proofs.plan.plan_commit.Goals as goal

-- the commit with this number and stamp is the one that is made
numbered : (cs : Catalog) (now number stamp : ℕ) (changes : List Change) → IsNumberedAfter cs now number stamp → commit_at cs number stamp changes ≡ made cs changes now
numbered cs now number stamp changes next = ap₂ (λ (n moment : ℕ). commit_at cs n moment changes) next.number next.stamp

rows_made : (cs : Catalog) (number stamp : ℕ) (lasts : List LastItem) (changes : List Change) (rows : List Row) → AreKnownFor cs changes lasts
    → rows ≡ rows_from number stamp 0 (made_with number stamp 0 lasts changes) → rows ≡ rows_of (commit_at cs number stamp changes)
rows_made cs number stamp lasts changes rows are told = told ∙ ap (rows_from number stamp 0) (made_same cs number stamp 0 changes lasts are)

-- one row for each change
count_made : (number stamp : ℕ) (lasts : List LastItem) (changes : List Change) (rows : List Row) → length lasts ≡ length changes
    → rows ≡ rows_from number stamp 0 (made_with number stamp 0 lasts changes) → length rows ≡ length changes
count_made number stamp lasts changes rows are told =
    ap length told
    ∙ length-rows_from number stamp 0 (made_with number stamp 0 lasts changes)
    ∙ length-made_with number stamp 0 lasts changes are

pub add_page_puts-requires-clause-few : goal.add_page_puts-requires-clause-few
add_page_puts-requires-clause-few c =
    let count = count_made c.args.number c.args.stamp c.args.lasts.now c.args.changes.now c.in_ok-places.places.rows c.requires.lasts c.in_ok-places.ensures.rows in
    omega (arith, ap length c.as_slice.ensures, count, c.requires.few)

pub returns-clause-count : goal.returns-clause-count
returns-clause-count c =
    count_made c.args.number c.args.stamp c.args.lasts.now c.args.changes.now c.in_ok-places.places.rows c.requires.lasts c.in_ok-places.ensures.rows

pub returns-clause-rows : goal.returns-clause-rows
returns-clause-rows c = λ cs now known next.
    rows_made cs c.args.number c.args.stamp c.args.lasts.now c.args.changes.now c.in_ok-places.places.rows known.lasts c.in_ok-places.ensures.rows
    ∙ ap rows_of (numbered cs now c.args.number c.args.stamp c.args.changes.now next)

calls_made : (base : List ℕ) (cs : Catalog) (number stamp : ℕ) (changes : List Change) (last rows : List Row) (pages : List PageHead) (lasts : List LastItem) (places calls : List Call)
    → IsKnownOf cs changes last pages lasts
    → places ≡ place_puts base number stamp 0 (made_with number stamp 0 lasts changes) (map staged_of changes)
    → rows ≡ rows_of (commit_at cs number stamp changes)
    → (let b = fits_last_page last pages (length rows) in calls ≡ places ++ last_puts base (kept_heads b pages) (kept_rows b last ++ rows))
    → calls ≡ commit_puts base cs (commit_at cs number stamp changes)
calls_made base cs number stamp changes last rows pages lasts places calls known told are pushed =
    let c = commit_at cs number stamp changes in
    let own : List Call = place_puts base number stamp 0 (made_from cs number stamp 0 changes) (map staged_of changes) in
    let same : places ≡ own = told ∙ ap (λ (items : List Item). place_puts base number stamp 0 items (map staged_of changes)) (made_same cs number stamp 0 changes lasts known.lasts) in
    let behind = λ (l : List Row). last_puts base (kept_heads (fits_last_page last pages (length l)) pages) (kept_rows (fits_last_page last pages (length l)) last ++ l) in
    pushed
    ∙ ap₂ (λ (l : List Call) (rs : List Row). l ++ behind rs) same are
    ∙ ap (λ (l : List Call). own ++ l) (puts_known base cs c last pages known.rows known.pages)

pub returns-clause-calls : goal.returns-clause-calls
returns-clause-calls c = λ cs now known next.
    let rows = rows_made cs c.args.number c.args.stamp c.args.lasts.now c.args.changes.now c.in_ok-places.places.rows known.lasts c.in_ok-places.ensures.rows in
    calls_made c.args.base.now cs c.args.number c.args.stamp c.args.changes.now c.args.last_page.now c.as_slice.result.now c.args.pages.now c.args.lasts.now
    c.in_ok-places.places.calls c.add_page_puts.new.calls known c.in_ok-places.ensures.calls (c.as_slice.ensures ∙ rows) c.in_ok-add_page_puts.ensures
    ∙ ap (commit_puts c.args.base.now cs) (numbered cs now c.args.number c.args.stamp c.args.changes.now next)
