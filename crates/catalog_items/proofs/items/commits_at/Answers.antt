use Rattle.std.proofs.Common.{◌≡◌, ◌∙◌, ◌+◌, ◌++◌, ◌∷◌, [], List, Err, ap, drop, take, subst, sym}
use Rattle.std.proofs.lemmas.List.{drop_more, take_more}
use Rattle.std.proofs.lemmas.Result.{err_from_is_err_and}
use Rattle.blob_store.specs.Events.{Get}
use Rattle.pkg_meta.specs.declared.commit.Commit.{Commit}
use Rattle.catalog_doc.specs.Names.{leaf_name}
use Rattle.catalog_doc.specs.declared.row.Row.{Row}
use Rattle.catalog_opening.proofs.Halting.{damaged_told}
use Rattle.catalog_items.specs.Leaves.{AreCommitsAt, commits_with, IsNoLeafOf, with_item}
use Rattle.catalog_items.proofs.Getting.{gets_done, gets_none, gets_then, gets_told, memory_quietly, only_gets}
use Rattle.catalog_items.proofs.LeafReads.{ComesTo, commits_more, holds_more, next_leaf}
use Rattle.catalog_items.proofs.items.commits_at.Goals as goal

pub loop-row-init : goal.loop-row-init
loop-row-init g c = record {
  gets = gets_none (g.B.Blobs.seen c.args.area.now) ⊥ (g.met.B.Blobs.now c.args.area.now) (λ no. no);
  ok = λ m is. ([], tt, c.new-commits.ensures.items);
  exact = λ m items is values held. (items, values, held, ap (λ (cs : List Commit). commits_with cs c.args.rows.now items) c.new-commits.ensures.items);
}

pub returns-in_err-item-clause-gets : goal.returns-in_err-item-clause-gets
returns-in_err-item-clause-gets g c =
    let p = err_from_is_err_and c.from_residual.result c.from_residual.ensures.1 in
    let a = g.B.Blobs.seen c.args.area.now in
    let b = g.B.Blobs.seen c.loop-row.area in
    let d = g.B.Blobs.seen c.item_at.new.area in
    gets_then a b d ⊥ _ c.loop-row.invariant.gets (λ no. no)
    (gets_told b d c.item_at.result c.from_residual.result c.in_err-item.field-0.0 c.in_err-item.was (p.1 ∙ ap Err p.2)
    (only_gets (Get (leaf_name c.row-item.result.number c.row-item.result.place) ∷ []) b d tt c.item_at.result c.item_at.ensures.runs))

pub returns-in_err-item-clause-damaged : goal.returns-in_err-item-clause-damaged
returns-in_err-item-clause-damaged g c = λ m is.
    let p = err_from_is_err_and c.from_residual.result c.from_residual.ensures.1 in
    let row = c.row-item.result in
    damaged_told (IsNoLeafOf m c.args.base.now row) _ c.from_residual.result c.in_err-item.field-0.0 (p.1 ∙ ap Err p.2)
    (λ n told. (row, (c.loop-row.row-index, c.loop-row-test.true, sym c.row-item.is), told))
    (c.in_err-item.ensures.damaged m (c.loop-row.invariant.gets.area ∙ is))

pub returns-in_err-add_item-clause-gets : goal.returns-in_err-add_item-clause-gets
returns-in_err-add_item-clause-gets g c =
    let a = g.B.Blobs.seen c.args.area.now in
    let b = g.B.Blobs.seen c.loop-row.area in
    let d = g.B.Blobs.seen c.item_at.new.area in
    let p = err_from_is_err_and c.from_residual-in_err-add_item.result c.from_residual-in_err-add_item.ensures.1 in
    gets_then a b d ⊥ _ c.loop-row.invariant.gets (λ no. no)
    (gets_done b d c.item_at.result c.in_ok-item.item _ c.in_ok-item.was (memory_quietly c.from_residual-in_err-add_item.result (p.1 ∙ ap Err p.2))
    (only_gets (Get (leaf_name c.row-item.result.number c.row-item.result.place) ∷ []) b d tt c.item_at.result c.item_at.ensures.runs))

pub loop-row-preserved : goal.loop-row-preserved
loop-row-preserved g c =
    let a = g.B.Blobs.seen c.args.area.now in
    let b = g.B.Blobs.seen c.loop-row.area in
    let d = g.B.Blobs.seen c.item_at.new.area in
    let rows = c.args.rows.now in
    let base = c.args.base.now in
    let row = c.row-item.result in
    let i = c.loop-row.row-index in
    let cs = c.loop-row.commits.items in
    let item = c.in_ok-item.item in
    let before : take (i + 1) rows ≡ take i rows ++ row ∷ [] = take_more rows i row c.loop-row-test.true ∙ ap (λ (x : Row). take i rows ++ x ∷ []) (sym c.row-item.is) in
    let behind : drop i rows ≡ row ∷ drop (i + 1) rows = drop_more rows i row c.loop-row-test.true ∙ ap (λ (x : Row). x ∷ drop (i + 1) rows) (sym c.row-item.is) in
    let added : c.add_item.new.commits.items ≡ with_item cs row item = c.in_ok-add_item.ensures in
    record {
      gets = gets_then a b d ⊥ ⊥ c.loop-row.invariant.gets (λ no. no)
          (gets_done b d c.item_at.result item ⊥ c.in_ok-item.was (λ no. no)
          (only_gets (Get (leaf_name row.number row.place) ∷ []) b d tt c.item_at.result c.item_at.ensures.runs));
      ok = λ m is.
          let known = c.loop-row.invariant.ok m is in
          let own = c.in_ok-item.ensures.ok m (c.loop-row.invariant.gets.area ∙ is) in
          subst (λ (l : List Row). AreCommitsAt m base l c.add_item.new.commits.items) (sym before) (
            known.0 ++ item ∷ [],
            holds_more m base (take i rows) known.0 row item known.1 own,
            added ∙ ap (λ (l : List Commit). with_item l row item) known.2 ∙ sym (commits_more m base [] (take i rows) known.0 row item known.1),
          );
      exact = λ m items is values held.
          let wanted = commits_with [] rows items in
          let left = c.loop-row.invariant.exact m items is values held in
          let next = next_leaf m base row (drop (i + 1) rows) cs wanted (subst (λ (l : List Row). ComesTo m base l cs wanted) behind left) in
          let same : item ≡ next.0 = c.in_ok-item.ensures.exact m next.0 (c.loop-row.invariant.gets.area ∙ is) next.1 next.2 in
          let now : with_item cs row next.0 ≡ c.add_item.new.commits.items = ap (with_item cs row) (sym same) ∙ sym added in
          subst (λ (l : List Commit). ComesTo m base (drop (i + 1) rows) l wanted) now next.3;
    }
