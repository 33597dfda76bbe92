use Rattle.std.proofs.Common.{◌≡◌, ◌∙◌, Err, IfErr, Option, OnErr, Some, ap, false, subst, sym}
use Rattle.std.specs.Prelude.{Result, string_bytes}
use Rattle.std.proofs.lemmas.Map.Text.{btree_map_updates_text}
use Rattle.std.proofs.lemmas.Result.{err_from_is_err_and}
use Rattle.std.specs.BTreeMap.{get_by_text}
use Rattle.catalog_rows.specs.Latest.{EntersSame, is_first}
use Rattle.catalog_rows.proofs.Table.{put_other, same_entered}
use Rattle.catalog_rows.proofs.latest.OfId.put.Goals as goal

pub returns-in_err-before-clause-same : goal.returns-in_err-before-clause-same
returns-in_err-before-clause-same c =
    let p = err_from_is_err_and c.from_residual.result c.from_residual.ensures.1 in
    subst (λ (r : Result _ _). OnErr r (EntersSame c.args.self.now (record { first = c.args.self.now.first; others = c.insert.new.self; live = c.args.self.now.live })))
    (sym p.1) (same_entered c.args.self.now.first c.args.self.now.live c.args.self.now.others c.insert.new.self c.in_err-before.ensures.err)

pub returns-then-not-is_first-clause-put : goal.returns-then-not-is_first-clause-put
returns-then-not-is_first-clause-put c = λ asked.
    let key = string_bytes c.args.version in
    let first = c.args.self.now.first in
    let apart : is_first first key ≡ false = ap (is_first first) (sym c.as_str.ensures.value) ∙ sym c.is_first.ensures ∙ c.if-not-is_first.true in
    put_other first key asked c.args.place (get_by_text c.args.self.now.others asked) (get_by_text c.insert.new.self asked) apart
    (btree_map_updates_text key c.args.self.now.others c.insert.new.self (Some c.args.place) c.in_ok-before.ensures.updates asked)
