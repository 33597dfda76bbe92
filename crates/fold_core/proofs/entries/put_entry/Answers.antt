use Rattle.std.proofs.Common.{Some, sym, ◌∙◌, arith}
use Rattle.fold_core.proofs.Places.{at_within, set_tied, with_none}
use Rattle.fold_core.proofs.entries.put_entry.Goals as goal

pub insert-requires : goal.insert-requires
insert-requires c =
    let within = at_within c.args.version.now c.deref.result.now c.place_of-at.result c.place_of-at.ensures in
    omega (arith, c.deref.ensures.len, within)

pub returns-then-is_tied-clause-ok : goal.returns-then-is_tied-clause-ok
returns-then-is_tied-clause-ok c =
    let at = rw c.deref.ensures.value at c.place_of-at.ensures in
    let tied = rw c.deref-2.ensures.value at (sym c.is_tied.ensures ∙ c.if-is_tied.true) in
    set_tied c.args.version.now c.args.entry c.args.entries.now.items c.place_of-at.result at tied

pub returns-in_ok-insert-clause-ok : goal.returns-in_ok-insert-clause-ok
returns-in_ok-insert-clause-ok c =
    let at = rw c.deref.ensures.value at c.place_of-at.ensures in
    let free = rw c.deref-2.ensures.value at (sym c.is_tied.ensures ∙ c.if-is_tied.false) in
    c.in_ok-insert.ensures.items
    ∙ with_none c.args.version.now (Some c.args.entry) c.args.entries.now.items c.place_of-at.result at free
