-- What follows from an id and a version that were read.
use Rattle.std.proofs.Common.{◌≡◌, ℕ, List, Option, Some, IfSome, subst, ◌∙◌, codes}
use Rattle.serde_json.specs.Data.{Data}
use Rattle.nuget_version.specs.Grammar.{Spells}
use Rattle.package_id.specs.Ids.{IsShortId}
use Rattle.package_id.specs.declared.id.PackageId.{PackageId}
use Rattle.pkg_meta.specs.Identity.{IsIdentityOf}
use Rattle.pkg_meta.specs.Publisher.{IsGroupOf}
use Rattle.pkg_meta.specs.Refusals.{IsFirstRefused, IsRefusedGroup, IsRefusedObject, bad_dependency}
use Rattle.pkg_meta.specs.Values.{items_at}
use Rattle.pkg_meta.specs.declared.error.MetaErr.{MetaErr}
use Rattle.pkg_meta.specs.declared.meta.Identity.{Identity}
use Rattle.pkg_meta.proofs.Matches.{some_holds}

pub short_id : (o : Option PackageId) (id : PackageId) (text want : List ℕ) → o ≡ Some id → IfSome o (λ i. i.text ≡ text) → text ≡ want → IsShortId want
short_id o id text want is found same =
    let spelled : id.text ≡ text = some_holds (λ (i : PackageId). i.text ≡ text) o id is found in
    subst IsShortId (spelled ∙ same) (id.spelled, id.short)

-- a group is refused behind an id and a version that are read
pub group_refused : (d : Data) (i : Identity) (e : MetaErr) (ds : List Data) → IsIdentityOf d i → ds ≡ items_at (codes "dependencyGroups") d
    → IsFirstRefused IsGroupOf IsRefusedGroup ds e → IsRefusedObject d e
group_refused d i e ds is same refused =
    bad_dependency (subst IsShortId is.id (i.id.spelled, i.id.short))
    (i.version, subst (λ (text : List ℕ). Spells text i.version) is.verbatim is.version)
    (subst (λ (values : List Data). IsFirstRefused IsGroupOf IsRefusedGroup values e) same refused)
