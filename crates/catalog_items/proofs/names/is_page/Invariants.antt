use Rattle.std.proofs.Common.{◌≡◌, ◌-◌}
use Rattle.catalog_items.specs.ByRows.{has_page}
use Rattle.catalog_items.proofs.names.is_page.Given as goal

abbrev pub invariant-loop-page : goal.invariant-loop-page
invariant-loop-page l = has_page l.name l.page (l.pages - l.page) ≡ has_page l.name 0 l.pages
