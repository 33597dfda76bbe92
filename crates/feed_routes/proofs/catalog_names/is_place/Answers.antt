use Rattle.std.proofs.Common.{List, ℕ, false, refl}
use Rattle.feed_routes.specs.Segments.{IsNumber}
use Rattle.feed_routes.proofs.Cutting.{off_on, pair_is, pair_none, pair_not}
use Rattle.feed_routes.proofs.Keys.{free_number}
use Rattle.feed_routes.proofs.catalog_names.is_place.Goals as goal

abbrev behind : List ℕ → List ℕ → Type 0
behind x y = IsNumber y

pub returns-then-is_number : goal.returns-then-is_number
returns-then-is_number c =
    pair_is IsNumber behind free_number c.args.text.now c.in-Some.number.now c.in-Some.place.now c.is_number-then-is_number.result
    c.in-Some.ensures.found c.in-Some.ensures.first (c.is_number.ensures.0 c.if-is_number.true) c.is_number-then-is_number.ensures

pub returns-else-is_number : goal.returns-else-is_number
returns-else-is_number c =
    pair_not IsNumber behind free_number c.args.text.now c.in-Some.number.now c.in-Some.place.now c.is_number.result c.in-Some.ensures.first
    (λ n. off_on c.is_number.result c.if-is_number.false (c.is_number.ensures.1 n)) c.if-is_number.false

pub returns-in-None : goal.returns-in-None
returns-in-None c = pair_none IsNumber behind free_number c.args.text.now false c.in-None.ensures.first refl
