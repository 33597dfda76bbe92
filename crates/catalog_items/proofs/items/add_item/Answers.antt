use Rattle.std.proofs.Common.{◌≡◌, ◌∙◌, ◌-◌, ◌+◌, ◌<◌, ◌++◌, List, [], ◌∷◌, ap, sym, arith, length, slice_set, get_or}
use Rattle.std.proofs.lemmas.List.{get_or_default}
use Rattle.pkg_meta.specs.declared.commit.Commit.{Commit}
use Rattle.pkg_meta.specs.declared.item.Item.{Item}
use Rattle.catalog_items.specs.Leaves.{commit_of_one}
use Rattle.catalog_doc.proofs.Results.{on_ok}
use Rattle.catalog_items.proofs.LeafReads.{in_first, in_last, in_new}
use Rattle.catalog_items.proofs.items.add_item.Goals.{else-count-gt0-via-then-count-gt0+else-index-row, else-count-gt0-via-else-count-gt0}
use Rattle.catalog_items.proofs.items.add_item.Goals as goal

pub returns-then-index-row : goal.returns-then-index-row
returns-then-index-row c =
    let cs = c.args.commits.now.items in
    let k = c.len-count.result - 1 in
    let x = c.index_mut.result.now in
    let count : length cs ≡ k + 1 = omega (arith, c.len-count.ensures, c.if-count-gt0.true) in
    let within : k < length cs = omega (arith, count) in
    let is : x ≡ get_or cs k x = c.index_mut.ensures.value in
    let own : c.index.result.now ≡ x = c.index.ensures ∙ get_or_default cs k c.index.result.now x within ∙ sym is in
    let number : x.number ≡ c.args.row.now.number = ap (λ (y : Commit). y.number) (sym own) ∙ c.if-index-row.true in
    on_ok c.push.result (λ (pushed : c.push.new.self ≡ x.items ++ c.args.item ∷ []).
    ap (λ (l : List Item). slice_set cs k (record { number = x.number; stamp = x.stamp; items = l })) pushed ∙ in_last cs c.args.row.now c.args.item k x count is number) c.push.ensures.ok

pub returns : goal.returns
returns c =
    let cs = c.args.commits.now.items in
    let row = c.args.row.now in
    let one : c.push-2.new.self ≡ c.args.item ∷ [] = c.in_ok-push.ensures.ok ∙ ap (λ (l : List Item). l ++ c.args.item ∷ []) c.new-items.ensures in
    let added : c.push-3.new.self.items ≡ cs ++ commit_of_one row c.args.item ∷ [] =
    c.in_ok-push-2.ensures.items ∙ ap (λ (l : List Item). cs ++ (record { number = row.number; stamp = row.stamp; items = l }) ∷ []) one in
    added ∙ elim c.else-count-gt0.branch [
      | else-count-gt0-via-then-count-gt0+else-index-row w ↦
          let k = c.len-count.result - 1 in
          let count : length cs ≡ k + 1 = omega (arith, c.len-count.ensures, w.if-count-gt0.true) in
          in_new cs row c.args.item k w.index.result.now count w.index.ensures w.if-index-row.false
      | else-count-gt0-via-else-count-gt0 w ↦
          in_first cs row c.args.item (omega (arith, c.len-count.ensures, w.if-count-gt0.false))
    ]
