use Rattle.pkg_meta.proofs.Ids.{group_refused}
use Rattle.pkg_meta.proofs.Matches.{passed_on}
use Rattle.pkg_meta.proofs.reading.read_object.Goals as goal

pub returns-in_err-groups-clause-refused : goal.returns-in_err-groups-clause-refused
returns-in_err-groups-clause-refused c = passed_on _ _ _ c.from_residual-in_err-groups.ensures.1 (λ not.
    group_refused _ _ _ _ c.in_ok-identity.ensures.ok c.items_in.ensures (c.in_err-groups.ensures.refused not))
