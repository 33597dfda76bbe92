use Rattle.std.proofs.Common.{Bor, List, Option, ap, option_map, ℕ}
use Rattle.catalog_opening.proofs.Halting.{differs}
use Rattle.catalog_opening.proofs.opening.check_base.Goals as goal

pub returns : goal.returns
returns c = (
  c.in-Some.other.now,
  ap (λ (given : Option (Bor (List ℕ))). option_map (λ t. t.now) given) c.in-Some.is,
  (λ same. differs c.if-is_same.false (c.is_same.ensures.1 same)),
  c.base_differs.ensures,
)
