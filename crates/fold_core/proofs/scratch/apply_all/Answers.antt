use Rattle.fold_core.proofs.Gathered.{items_turn}
use Rattle.fold_core.specs.Items.{items_in_of, items_of}
use Rattle.std.proofs.Common.{◌++◌, ◌<◌, ◌≡◌, arith, refl, get_or, length, take, ap, ◌∙◌}
use Rattle.pkg_meta.specs.declared.item.Item.{Item}
use Rattle.std.proofs.Common.{List}
use Rattle.fold_core.proofs.scratch.apply_all.Goals as goal

pub loop-place-preserved : goal.loop-place-preserved
loop-place-preserved g c =
    let commit = c.args.commit.now in
    let same = c.loop-place.invariant.same in
    let below : c.loop-place.place < length commit.items = omega (arith, ap (λ (l : List Item). length l) same) in
    let is : c.item-item.result ≡ get_or commit.items c.loop-place.place c.item-item.result
    = c.item-item.is ∙ ap (λ (l : List Item). get_or l c.loop-place.place c.item-item.result) same in
    let here : c.in-Ok.at ≡ c.loop-place.place = omega (arith, c.in-Ok.ensures) in
    record {
      same = same;
      number = refl;
      applied = λ before were. items_turn g.H.Hive.keeps (items_of before c.args.key.now) c.args.key.now commit.number commit.stamp commit.items
          c.item-item.result c.loop-place.place c.in-Ok.at c.apply_if.new.entries here below is
          (c.in_ok-apply_if.ensures (items_of before c.args.key.now ++ items_in_of c.args.key.now commit.number commit.stamp 0 (take c.loop-place.place commit.items))
          commit.stamp (c.loop-place.invariant.applied before were));
    }
