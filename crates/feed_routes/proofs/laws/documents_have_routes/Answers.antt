use Rattle.std.proofs.Common.{◌++◌, List, ℕ, codes, decimal, inl, inr, refl, sym, ap}
use Rattle.std.proofs.lemmas.List.{append_assoc}
use Rattle.package_id.specs.Ids.{id_key}
use Rattle.feed_routes.proofs.Printed.{id_key_own, number_own}
use Rattle.feed_routes.proofs.laws.documents_have_routes.Goals as goal

pub returns-clause-page : goal.returns-clause-page
returns-clause-page c = λ k query h. (inr (inl (decimal k, number_own k h, refl)), refl)

pub returns-clause-leaf : goal.returns-clause-leaf
returns-clause-leaf c = λ n place query h g.
    let joined = ap (λ (l : List ℕ). codes "data/" ++ l) (sym (append_assoc (decimal n) (codes "/" ++ decimal place) (codes ".json"))) in
    (inr (inr (decimal n ++ (codes "/" ++ decimal place), (decimal n, decimal place, number_own n h, number_own place g, refl), joined)), refl)

pub returns-clause-plain : goal.returns-clause-plain
returns-clause-plain c = λ text tail query id is. (id_key text ++ (codes "/" ++ tail), (id_key text, tail, id_key_own text id, is, refl), refl, refl)

pub returns-clause-semver2 : goal.returns-clause-semver2
returns-clause-semver2 c = λ text tail query id is. (id_key text ++ (codes "/" ++ tail), (id_key text, tail, id_key_own text id, is, refl), refl, refl)

pub returns-clause-content : goal.returns-clause-content
returns-clause-content c = λ text tail query id is. (id_key text ++ (codes "/" ++ tail), (id_key text, tail, id_key_own text id, is, refl), refl, refl)
