use Rattle.std.proofs.Common.{rules, ◌∙◌, List, [], ◌∷◌, ◌++◌, ap, sym, subst, length, get_or, drop, take, arith, length-append, length-drop}
use Rattle.std.proofs.lemmas.Iterator.Adapters.{YieldsList-from_vec}
use Rattle.std.proofs.lemmas.Iterator.Consumers.{YieldsList-end, YieldsList-turn}
use Rattle.std.proofs.lemmas.List.{get_or-drop, length-take-le, take_all, take_more}
use Rattle.std.proofs.lemmas.List.Elements.{All-weaker}
use Rattle.catalog_doc.specs.declared.row.Row.{Row}
use Rattle.catalog_rows.specs.Latest.{IsLatestOf, IsEntered}
use Rattle.catalog_rows.proofs.Keys.{as_many, key_at, within_rows}
use Rattle.catalog_rows.proofs.latest.Latest.note_all.Goals as goal

pub slice_bounds-note_entered-end : goal.slice_bounds-note_entered-end
slice_bounds-note_entered-end c =
    let turn = YieldsList-turn (YieldsList-from_vec {s = c.into_iter-key-iterator.result} c.args.keys.items (search rules) (search rules))
    c.loop-key.yielded c.loop-key.key-iterator c.loop-key.yielded_by c.next.result c.next.new.self c.in-Some.key c.in-Some.is c.next.ensures.steps in
    let within = within_rows c.args.keys.items c.args.rows.now c.args.first (length c.loop-key.yielded) c.loop-key.at c.requires.keys c.requires.within turn.0 c.loop-key.invariant.at in
    sym (length-take-le c.loop-key.at c.args.rows.now (omega (arith, within)))

pub bounds-rows-at : goal.bounds-rows-at
bounds-rows-at c =
    let turn = YieldsList-turn (YieldsList-from_vec {s = c.into_iter-key-iterator.result} c.args.keys.items (search rules) (search rules))
    c.loop-key.yielded c.loop-key.key-iterator c.loop-key.yielded_by c.next.result c.next.new.self c.in-Some.key c.in-Some.is c.next.ensures.steps in
    within_rows c.args.keys.items c.args.rows.now c.args.first (length c.loop-key.yielded) c.loop-key.at c.requires.keys c.requires.within turn.0 c.loop-key.invariant.at

pub note_entered-requires-clause-version : goal.note_entered-requires-clause-version
note_entered-requires-clause-version c =
    let turn = YieldsList-turn (YieldsList-from_vec {s = c.into_iter-key-iterator.result} c.args.keys.items (search rules) (search rules))
    c.loop-key.yielded c.loop-key.key-iterator c.loop-key.yielded_by c.next.result c.next.new.self c.in-Some.key c.in-Some.is c.next.ensures.steps in
    let row = c.index-rows-at.result in
    key_at c.args.keys.items c.args.rows.now c.args.first (length c.loop-key.yielded) c.in-Some.key row c.requires.keys turn.0 turn.1
    (c.index-rows-at.is ∙ ap (λ n. get_or c.args.rows.now n row) c.loop-key.invariant.at)

pub note_entered-requires-clause-entered : goal.note_entered-requires-clause-entered
note_entered-requires-clause-entered c =
    let turn = YieldsList-turn (YieldsList-from_vec {s = c.into_iter-key-iterator.result} c.args.keys.items (search rules) (search rules))
    c.loop-key.yielded c.loop-key.key-iterator c.loop-key.yielded_by c.next.result c.next.new.self c.in-Some.key c.in-Some.is c.next.ensures.steps in
    let row = c.index-rows-at.result in
    let many = as_many c.args.keys.items (drop c.args.first c.args.rows.now) c.requires.keys in
    subst (IsEntered c.loop-key.self)
    (get_or-drop c.args.first c.args.rows.now (length c.loop-key.yielded) row ∙ ap (λ n. get_or c.args.rows.now n row) (sym c.loop-key.invariant.at) ∙ sym c.index-rows-at.is)
    (c.loop-key.invariant.entered (length c.loop-key.yielded) row (omega (arith, turn.0, many)))

pub loop-key-preserved : goal.loop-key-preserved
loop-key-preserved c =
    let rows = c.args.rows.now in
    let was = c.loop-key.invariant in
    let row = c.index-rows-at.result in
    let turn = YieldsList-turn (YieldsList-from_vec {s = c.into_iter-key-iterator.result} c.args.keys.items (search rules) (search rules))
    c.loop-key.yielded c.loop-key.key-iterator c.loop-key.yielded_by c.next.result c.next.new.self c.in-Some.key c.in-Some.is c.next.ensures.steps in
    let within = within_rows c.args.keys.items c.args.rows.now c.args.first (length c.loop-key.yielded) c.loop-key.at c.requires.keys c.requires.within turn.0 c.loop-key.invariant.at in
    record {
      next = tt;
      finite = tt;
      at = omega (arith, was.at, length-append c.loop-key.yielded (c.in-Some.key ∷ []));
      latest = λ is. subst (λ (l : List Row). IsLatestOf l c.note_entered.new.self)
          (ap (λ (r : Row). take c.loop-key.at rows ++ r ∷ []) c.index-rows-at.is ∙ sym (take_more rows c.loop-key.at row within))
          (c.note_entered.ensures.latest (was.latest is));
      entered = All-weaker (IsEntered c.loop-key.self) (IsEntered c.note_entered.new.self) c.note_entered.ensures.keeps (drop c.args.first rows) was.entered;
    }

pub returns : goal.returns
returns c = λ is.
    let rows = c.args.rows.now in
    let end = YieldsList-end (YieldsList-from_vec {s = c.into_iter-key-iterator.result} c.args.keys.items (search rules) (search rules))
    c.loop-key.yielded c.loop-key.key-iterator c.loop-key.yielded_by c.next.result c.next.new.self c.in-None.is c.next.ensures.steps in
    let many = as_many c.args.keys.items (drop c.args.first rows) c.requires.keys in
    subst (λ (l : List Row). IsLatestOf l c.loop-key.self)
    (take_all c.loop-key.at rows (omega (arith, end.1, c.loop-key.invariant.at, c.requires.within, many, length-drop c.args.first rows)))
    (c.loop-key.invariant.latest is)
