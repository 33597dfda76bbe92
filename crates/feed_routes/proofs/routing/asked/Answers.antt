use Rattle.std.proofs.Common.{◌++◌, ◌∙◌, List, ℕ, None, ap, refl, sym}
use Rattle.std.proofs.lemmas.Result.{IfOk-weaker}
use Rattle.feed_routes.proofs.Table.{found_asks, none_asked, root_asked}
use Rattle.feed_routes.proofs.routing.asked.Goals as goal

pub returns-in_default : goal.returns-in_default
returns-in_default c = none_asked c.args.path.now c.args.query.now None c.in_default.ensures refl

pub returns-in_default-after_prefix : goal.returns-in_default-after_prefix
returns-in_default-after_prefix c =
    root_asked c.args.path.now c.args.query.now c.in-Some.root c.in-Some.ensures
    (λ rest e. c.in_default-after_prefix.ensures rest (e ∙ ap (λ (root : List ℕ). root ++ rest) (sym c.text.ensures)))

pub returns : goal.returns
returns c =
    IfOk-weaker c.ask_behind.result _ _
    (λ o h. found_asks c.args.path.now c.args.query.now c.in-Some.root c.in-Some-after_prefix.rest.now o c.in-Some.ensures
    (c.in-Some-after_prefix.ensures ∙ ap (λ (root : List ℕ). root ++ c.in-Some-after_prefix.rest.now) c.text.ensures) h)
    c.ask_behind.ensures
