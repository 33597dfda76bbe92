-- The last of the items.
use Rattle.std.proofs.Common.{◌≡◌, ℕ, ◌-◌, List, [], ◌∷◌, length, Some, Option, sym, ap, subst, arith}
use Rattle.std.specs.List.{slice_get}
use Rattle.std.specs.Option.{option_map}
use Rattle.pkg_meta.specs.Lawful.{Placed, or_earlier}
use Rattle.fold_core.specs.Items.{last_placed}
use Rattle.id_pass.specs.Placing.{all_as_placed, as_placed}
use Rattle.id_pass.specs.declared.placed.Placed.{Placed as GivenItem}

at_end : (y : GivenItem) (items : List GivenItem) (x : GivenItem) → Some x ≡ slice_get (y ∷ items) (length items) → last_placed (all_as_placed (y ∷ items)) ≡ Some (as_placed x)
at_end y [] x is = ap (option_map as_placed) (sym is)
at_end y (z ∷ items) x is = ap (λ (o : Option Placed). or_earlier o (Some (as_placed y))) (at_end z items x is)

pub last_is : (items : List GivenItem) (x : GivenItem) → Some x ≡ slice_get items (length items - 1) → last_placed (all_as_placed items) ≡ Some (as_placed x)
last_is [] x is = cc
last_is (y ∷ items) x is =
    let end : length (y ∷ items) - 1 ≡ length items = omega arith in
    at_end y items x (subst (λ (n : ℕ). Some x ≡ slice_get (y ∷ items) n) end is)
