-- What is read of the texts that ids and versions are written as.
use Rattle.std.proofs.Common.{◌≡◌, List, ℕ, Option, Some, None, IfSome, IfNone, IfOk, Result, Ok, Err, sym, ◌∙◌, ap, subst}
use Rattle.nuget_version.specs.Grammar.{Spells}
use Rattle.nuget_version.specs.Printed.{full_text}
use Rattle.nuget_version.specs.declared.version.Version.{Version}
use Rattle.nuget_version.proofs.OneValue.{one_value}
use Rattle.nuget_version.proofs.ReadBack.{full_reads}
use Rattle.package_id.specs.Ids.{IsShortId}
use Rattle.package_id.specs.declared.id.PackageId.{PackageId}
use Rattle.catalog_doc.proofs.RowData.{same_id}

pub id_read : {E : Type 0} (r : Result (Option PackageId) E) (text : List ℕ) (id : PackageId) → text ≡ id.text
    → IfOk r (λ o. IfSome o (λ i. i.text ≡ text)) → IfOk r (λ o. IfNone o (IsShortId text → ⊥)) → IfOk r (λ o. o ≡ Some id)
id_read (Err e) text id is found none = tt
id_read (Ok None) text id is found none = absurd (none (subst IsShortId (sym is) (id.spelled, id.short)))
id_read (Ok (Some i)) text id is found none = ap Some (same_id i id (found ∙ is))

pub version_read : {E : Type 0} (r : Result (Option Version) E) (text : List ℕ) (v : Version) → text ≡ full_text v
    → IfOk r (λ o. IfSome o (λ w. Spells text w)) → IfOk r (λ o. IfNone o ((w : Version) → Spells text w → ⊥)) → IfOk r (λ o. o ≡ Some v)
version_read (Err e) text v is found none = tt
version_read (Ok None) text v is found none = absurd (none v (subst (λ (t : List ℕ). Spells t v) (sym is) (full_reads v)))
version_read (Ok (Some w)) text v is found none = ap Some (one_value text w v found (subst (λ (t : List ℕ). Spells t v) (sym is) (full_reads v)))
