use Rattle.std.proofs.Common.{◌≡◌, ◌++◌, ◌∙◌, List, ℕ, codes, false, refl, sym}
use Rattle.std.proofs.lemmas.List.{append_cancel_left}
use Rattle.feed_routes.proofs.Cutting.{between_word, never}
use Rattle.feed_routes.proofs.content_names.is_package_of.Goals as goal

abbrev named : List ℕ → List ℕ
named version = codes "." ++ (version ++ codes ".nupkg")

pub returns-in-Some-between : goal.returns-in-Some-between
returns-in-Some-between c =
    between_word c.args.file.now c.args.id.now c.in-Some.rest.now (codes ".") (codes ".nupkg") c.in-Some-between.text.now c.args.version.now c.eq.result
    c.in-Some.ensures c.in-Some-between.ensures c.eq.ensures

pub returns-in-None : goal.returns-in-None
returns-in-None c =
    never false (c.args.file.now ≡ c.args.id.now ++ named c.args.version.now) refl
    (λ e. c.in-None.ensures c.args.version.now (append_cancel_left c.args.id.now c.in-Some.rest.now (named c.args.version.now) (sym c.in-Some.ensures ∙ e)))
