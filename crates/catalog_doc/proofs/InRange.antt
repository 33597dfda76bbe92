-- A lawful catalog's numbers, moments and lengths are in range.
use Rattle.std.proofs.Common.{◌≡◌, ◌<◌, ◌≤◌, ◌+◌, ◌^◌, ℕ, zero, suc, [], ◌∷◌, ◌++◌, length, get_or, refl, arith, length-append}
use Rattle.pkg_meta.specs.Catalog.{Catalog}
use Rattle.pkg_meta.specs.declared.commit.Stored.{Stored}
use Rattle.pkg_meta.specs.Lawful.{IsLawful, MayFollow, all_placed, placed_of}
use Rattle.catalog_doc.specs.CatDocs.{all_rows, rows_of}
use Rattle.catalog_doc.specs.Laws.{IsInRange}
use Rattle.catalog_doc.proofs.Numbered.{few_commits, length-placed}
use Rattle.catalog_doc.proofs.OnePage.{length-rows_from}

abbrev HasRange : Stored → Type 0
HasRange c = (c.commit.number < 2 ^ 32) × (c.commit.stamp ≤ 3_155_378_975_999_999_999)

ranges : (before cs : Catalog) → MayFollow before cs → length before + length cs < 2 ^ 32 → (k : ℕ) (d : Stored) → k < length cs → HasRange (get_or cs k d)
ranges before [] follows few k d within = absurd (omega arith)
ranges before (c ∷ cs) follows few zero d within = (omega (arith, few, follows.0.number), follows.0.moment)
ranges before (c ∷ cs) follows few (suc k) d within =
    let longer = length-append before (c ∷ []) in
    ranges (before ++ c ∷ []) cs follows.1 (omega (arith, few, longer)) k d (omega arith)

-- there are as many rows as items
same_length : (cs : Catalog) → length (all_rows cs) ≡ length (all_placed cs)
same_length [] = refl
same_length (c ∷ cs) =
    let rows = length-append (rows_of c) (all_rows cs) in
    let placed = length-append (placed_of c) (all_placed cs) in
    let own = length-rows_from c.commit.number c.commit.stamp 0 c.commit.items in
    let items = length-placed c.commit.number c.commit.stamp 0 c.commit.items in
    let rest = same_length cs in
    omega (arith, rows, placed, own, items, rest)

pub in_range : (cs : Catalog) → IsLawful cs → IsInRange cs
in_range cs lawful =
    let few = few_commits cs lawful in
    let rows = same_length cs in
    record {
      few = omega (arith, few);
      items = omega (arith, rows, lawful.items);
      commits = ranges [] cs lawful.commits (omega (arith, few));
    }
