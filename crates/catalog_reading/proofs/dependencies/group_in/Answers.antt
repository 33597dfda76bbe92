use Rattle.std.proofs.Common.{◌≡◌, ◌∙◌, Some, sym}
use Rattle.std.proofs.lemmas.Option.{none-some, same_Some}
use Rattle.catalog_reading.proofs.Shows.{group_deps, group_framework}
use Rattle.catalog_reading.proofs.dependencies.group_in.Goals as goal

pub returns-in_default : goal.returns-in_default
returns-in_default c = λ g is. absurd (none-some _ (sym c.in_default.is ∙ c.in_ok-deps.ensures g.deps (c.items_in.ensures ∙ group_deps g _ is)))

pub returns : goal.returns
returns c = λ g is.
    let frameworks : c.in_ok-framework.framework ≡ g.framework = c.in_ok-framework.ensures ∙ group_framework g _ is in
    let deps : c.in-Some.deps ≡ g.deps = same_Some _ _ (sym c.in-Some.is ∙ c.in_ok-deps.ensures g.deps (c.items_in.ensures ∙ group_deps g _ is)) in
    λ i. Some (record { framework = frameworks i; deps = deps i })
