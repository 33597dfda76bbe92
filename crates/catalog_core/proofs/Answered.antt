-- What an opening answers.
use Rattle.std.proofs.Common.{◌≡◌, ℕ, List, Option, Ok, Err, Result, sym, subst, true}
use Rattle.std.specs.Prelude.{IsErrOf}
use Rattle.blob_store.specs.Seen.{Seen}
use Rattle.pkg_meta.specs.Catalog.{Catalog}
use Rattle.catalog_doc.specs.Catalogs.{IsCatalog}
use Rattle.catalog_doc.specs.declared.head.PageHead.{PageHead}
use Rattle.catalog_doc.specs.declared.row.Row.{Row}
use Rattle.catalog_opening.specs.Openings.{Answers, IsSettledStoreOf, IsStoreOf, KeepsSpelling, Mends}
use Rattle.catalog_opening.specs.declared.error.OpenErr.{OpenErr}
use Rattle.catalog_opening.specs.declared.error.OpenErr.TheVariants as opening
use Rattle.catalog_opening.proofs.Mended.{mends_as}
use Rattle.catalog_rows.specs.Kept.{IsKeptOf, Kept}
use Rattle.catalog_core.specs.Opened.{IsOpenFor, IsStoreFor, KeepsRows, Opened}
use Rattle.catalog_core.specs.Openings.{IsOpenedAs, IsRefusedOpening, OpensAs}
use Rattle.catalog_core.specs.declared.opening.Opening.{Opening}

refused_as : (given : Option (List ℕ)) (base : List ℕ) (rows : List Row) (pages : List PageHead) (error : OpenErr) → Answers given base rows pages (Err error) → IsRefusedOpening given base error
refused_as given base rows pages opening.Fault told = tt
refused_as given base rows pages opening.Missing told = told
refused_as given base rows pages (opening.Damaged name) told = told
refused_as given base rows pages (opening.BaseDiffers stored other) told = told
refused_as given base rows pages opening.Memory told = tt

module _ (given : Option (List ℕ)) (base : List ℕ) (cs : Catalog) (a b : Seen) (store : IsStoreOf b base cs) (moments : KeepsSpelling a b base cs) where
  pub opens_refused : (rows : List Row) (pages : List PageHead) (r : Result Opening OpenErr) (error : OpenErr) → r ≡ Err error → Answers given base rows pages (Err error) → OpensAs given base cs a b r
  opens_refused rows pages r error is told = subst (λ (x : Result Opening OpenErr). OpensAs given base cs a b x) (sym is)
      (record { opened = tt; refused = refused_as given base rows pages error told; settled = tt; store = store; moments = moments })

  pub opens_forgetful : OpensAs given base cs a b (Err opening.Memory)
  opens_forgetful = record { opened = tt; refused = tt; settled = tt; store = store; moments = moments }

  pub opens_known : (rows : Kept) (found : List ℕ) → IsOpenedAs given base cs (record { base = found; rows = rows }) → IsSettledStoreOf b base cs → OpensAs given base cs a b (Ok (record { base = found; rows = rows }))
  opens_known rows found known settled = record { opened = known; refused = tt; settled = settled; store = store; moments = moments }

-- the catalog of an opening is open
pub open_as : {B : Type 0} (o : Opened B) (s : Seen) (base : List ℕ) (cs : Catalog) → IsCatalog cs → IsKeptOf o.kept cs → o.base ≡ base → o.settled ≡ true → IsSettledStoreOf s base cs → IsOpenFor o s cs
open_as o s base cs lawful keeps below settled store = record {
  lawful = lawful;
  keeps = subst (λ (x : _). KeepsRows x o.kept cs) (sym settled) keeps;
  store = subst (λ (x : _). IsStoreFor x s o.base cs) (sym settled) (subst (λ (l : List ℕ). IsSettledStoreOf s l cs) (sym below) store);
}

not_failed : {A : Type 0} (x : A) → IsErrOf {E = OpenErr} (Ok x) opening.Fault → ⊥
not_failed x failed = let no : ⊥ = cc in no

pub mends_opened : {A : Type 0} (a b : Seen) (x : A) → Mends a b (IsErrOf {E = OpenErr} (Ok x) opening.Fault) → Mends a b ⊥
mends_opened a b x mends = mends_as a b _ ⊥ (not_failed x) (λ no. absurd no) mends
