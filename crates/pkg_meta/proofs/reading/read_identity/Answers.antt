use Rattle.std.proofs.Common.{refl, subst}
use Rattle.pkg_meta.specs.Refusals.{bad_version, IsNoVersion}
use Rattle.pkg_meta.proofs.Ids.{short_id}
use Rattle.pkg_meta.proofs.Matches.{none_holds}
use Rattle.pkg_meta.proofs.reading.read_identity.Goals as goal

pub returns-in_default-2-clause-refused : goal.returns-in_default-2-clause-refused
returns-in_default-2-clause-refused c = λ not.
    bad_version refl (short_id _ _ _ _ c.in-Some.is c.in_ok-id.ensures.found c.text_or_empty.ensures)
    (subst IsNoVersion c.text_or_empty-text.ensures (none_holds _ _ c.in_default-2.is c.in_ok-version.ensures.none))
