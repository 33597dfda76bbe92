use Rattle.std.proofs.Common.{List, length, ap, subst, sym, ◌∙◌, arith}
use Rattle.std.specs.List.{All}
use Rattle.std.proofs.lemmas.List.Elements.{All-weaker}
use Rattle.std.proofs.lemmas.Option.{IfSome_then}
use Rattle.catalog_doc.specs.declared.row.Row.{Row}
use Rattle.catalog_rows.specs.Latest.{AreKeysOf, IsLatestOf, IsEntered}
use Rattle.catalog_rows.proofs.rows.Rows.reserve.Goals as goal

pub invariant_of-self-in_err-reserve-2 : goal.invariant_of-self-in_err-reserve-2
invariant_of-self-in_err-reserve-2 c = (
  subst (λ (l : List Row). IsLatestOf l c.enter_all.new.self) (sym c.reserve-2.ensures.items) (c.enter_all.ensures.same c.self.inside.rows.items c.self.invariant.0),
  IfSome_then c.self.inside.reserved c.self.invariant.1 (λ new was. (
    record { keys = was.0.keys; entered = All-weaker (IsEntered c.self.inside.latest) (IsEntered c.enter_all.new.self) c.enter_all.ensures.keeps new.rows.items was.0.entered },
    omega (arith, was.1, c.reserve-2.ensures.len, c.reserve-2.ensures.capacity),
    omega (arith, was.2, c.reserve.ensures.len, c.reserve.ensures.capacity),
  )),
)

pub invariant_of-self-2 : goal.invariant_of-self-2
invariant_of-self-2 c = (
  subst (λ (l : List Row). IsLatestOf l c.enter_all.new.self) (sym c.reserve-2.ensures.items) (c.enter_all.ensures.same c.self.inside.rows.items c.self.invariant.0),
  (
    record {
      keys = subst (AreKeysOf c.in_ok-keys.keys.items) (c.as_slice.ensures ∙ sym c.into_vec-rows.ensures) c.in_ok-keys.ensures.keys;
      entered = subst (All (IsEntered c.enter_all.new.self)) (c.as_slice.ensures ∙ sym c.into_vec-rows.ensures) c.in_ok-keys.ensures.entered;
    },
    omega (arith, c.in_ok-reserve-2.ensures.ok, c.len.ensures, ap length c.into_vec-rows.ensures, c.into_vec-rows.result.ok),
    omega (arith, c.in_ok-reserve.ensures.ok),
  ),
)
