use Rattle.std.proofs.Common.{◌≡◌, refl, subst}
use Rattle.feed_base.proofs.Options.{at_none, at_some}
use Rattle.nuget_version.specs.Grammar.{Spells}
use Rattle.nuget_version.specs.declared.version.Version.{Version}
use Rattle.package_id.specs.Ids.{IsShortId}
use Rattle.package_id.specs.declared.id.PackageId.{PackageId}
use Rattle.pkg_meta.specs.Refusals.{IsNoVersion}
use Rattle.admin_wire.specs.Bodies.IsRefusedPair.{bad_version}
use Rattle.admin_wire.proofs.names.read_pair.Goals as goal

pub returns-in_default-2-clause-refused : goal.returns-in_default-2-clause-refused
returns-in_default-2-clause-refused c = λ other.
    let same : c.in-Some.id.text ≡ c.args.id.now =
    at_some c.in_ok-id.field-0 (λ (p : PackageId). p.text ≡ c.args.id.now) c.in-Some.id c.in-Some.is c.in_ok-id.ensures.found in
    bad_version refl (subst IsShortId same (c.in-Some.id.spelled, c.in-Some.id.short))
    (at_none c.in_ok-version.field-0 (IsNoVersion c.args.version.now) c.in_default-2.is c.in_ok-version.ensures.none)

pub returns-clause-ok : goal.returns-clause-ok
returns-clause-ok c = record {
  the_id = c.in-Some.id;
  the_version = c.in-Some-2.version;
  id_text = at_some c.in_ok-id.field-0 (λ (p : PackageId). p.text ≡ c.args.id.now) c.in-Some.id c.in-Some.is c.in_ok-id.ensures.found;
  spelled = at_some c.in_ok-version.field-0 (λ (v : Version). Spells c.args.version.now v) c.in-Some-2.version c.in-Some-2.is c.in_ok-version.ensures.found;
  change = c.named_change.ensures;
}
