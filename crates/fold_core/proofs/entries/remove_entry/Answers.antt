use Rattle.std.proofs.Common.{None, sym, ◌∙◌, arith}
use Rattle.fold_core.proofs.Places.{tied_within, with_none, without_tied}
use Rattle.fold_core.proofs.entries.remove_entry.Goals as goal

pub remove-requires : goal.remove-requires
remove-requires c =
    let within = tied_within c.args.version.now c.deref-2.result.now c.place_of-at.result (sym c.is_tied.ensures ∙ c.if-is_tied.true) in
    omega (arith, c.deref-2.ensures.len, within)

pub returns-then-is_tied : goal.returns-then-is_tied
returns-then-is_tied c =
    let at = rw c.deref.ensures.value at c.place_of-at.ensures in
    let tied = rw c.deref-2.ensures.value at (sym c.is_tied.ensures ∙ c.if-is_tied.true) in
    c.remove.ensures.items ∙ without_tied c.args.version.now None c.args.entries.now.items c.place_of-at.result at tied

pub returns-else-is_tied : goal.returns-else-is_tied
returns-else-is_tied c =
    let at = rw c.deref.ensures.value at c.place_of-at.ensures in
    let free = rw c.deref-2.ensures.value at (sym c.is_tied.ensures ∙ c.if-is_tied.false) in
    with_none c.args.version.now None c.args.entries.now.items c.place_of-at.result at free
