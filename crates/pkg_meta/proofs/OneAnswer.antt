-- Bytes have one reason at most to be refused, and none where they are metadata.
use Rattle.std.proofs.Common.{◌≡◌, ◌<◌, ◌⊎◌, inl, inr, ℕ, zero, suc, List, [], ◌∷◌, length, take, Option, Some, None, refl, sym, ap, ◌∙◌, subst, arith, slice_index_or}
use Rattle.serde_json.specs.Data.{Data, null}
use Rattle.serde_json.specs.Read.{read}
use Rattle.nuget_version.specs.Grammar.{Spells}
use Rattle.package_id.specs.Ids.{IsShortId}
use Rattle.pkg_meta.specs.Kinds.{first_misfit, kinds}
use Rattle.pkg_meta.specs.Publisher.{IsDepOf, IsFitting, IsGroupOf, IsMetaOf, IsMetaText, IsObjectText, Match}
use Rattle.pkg_meta.specs.Refusals.{IsFirstRefused, IsRefusedMeta, IsRefusedDep, IsRefusedGroup, IsRefusedObject, bad_dependency, bad_id, bad_version, dep_id, dep_range, misfit, not_json, object, too_large}
use Rattle.pkg_meta.specs.declared.dependency.Dep.{Dep}
use Rattle.pkg_meta.specs.declared.dependency.DepGroup.{DepGroup}
use Rattle.pkg_meta.specs.declared.error.MetaErr.{MetaErr}
use Rattle.pkg_meta.specs.declared.error.MetaErr.TheVariants.{Field}
use Rattle.pkg_meta.specs.declared.meta.Meta.{Meta}

-- the item that one of the values matches
at_place : {Y : Type 0} (R : Data → Y → Type 0) (ds : List Data) (n : ℕ) (ys : List Y) (k : ℕ)
    → Match R (take n ds) ys → k < n → k < length ds → (y : Y) × R (slice_index_or ds k null) y
at_place R [] n ys k matched below inside = absurd (omega arith)
at_place R (d ∷ ds) zero ys k matched below inside = absurd (omega arith)
at_place R (d ∷ ds) (suc n) [] k matched below inside = absurd matched
at_place R (d ∷ ds) (suc n) (y ∷ ys) zero matched below inside = (y, matched.0)
at_place R (d ∷ ds) (suc n) (y ∷ ys) (suc k) matched below inside = at_place R ds n ys k matched.1 (omega arith) (omega arith)

at_any : {Y : Type 0} (R : Data → Y → Type 0) (ds : List Data) (ys : List Y) (k : ℕ) → Match R ds ys → k < length ds → (y : Y) × R (slice_index_or ds k null) y
at_any R [] ys k matched inside = absurd (omega arith)
at_any R (d ∷ ds) [] k matched inside = absurd matched
at_any R (d ∷ ds) (y ∷ ys) zero matched inside = (y, matched.0)
at_any R (d ∷ ds) (y ∷ ys) (suc k) matched inside = at_any R ds ys k matched.1 (omega arith)

either_way : (j k : ℕ) → (j < k) ⊎ ((k < j) ⊎ (j ≡ k))
either_way zero zero = inr (inr refl)
either_way zero (suc k) = inl (omega arith)
either_way (suc j) zero = inr (inl (omega arith))
either_way (suc j) (suc k) = elim (either_way j k) [ inl h ↦ inl (omega arith) | inr o ↦ elim o [ inl h ↦ inr (inl (omega arith)) | inr h ↦ inr (inr (ap suc h)) ] ]

-- refusals of which each value has one at most, and none where it is read
module _ {Y : Type 0} (Reads : Data → Y → Type 0) (Refuses : ℕ → Data → MetaErr → Type 0)
    (excludes : (k : ℕ) (d : Data) (y : Y) (e : MetaErr) → Reads d y → Refuses k d e → ⊥)
    (one : (k : ℕ) (d : Data) (e f : MetaErr) → Refuses k d e → Refuses k d f → e ≡ f) where
  earlier : (ds : List Data) (e : MetaErr) (x : IsFirstRefused Reads Refuses ds e) (k : ℕ) (f : MetaErr) → k < x.at → Refuses k (slice_index_or ds k null) f → ⊥
  earlier ds e x k f below refused =
      let found = at_place Reads ds x.at x.before k x.read below (omega (arith, x.within)) in
      excludes k (slice_index_or ds k null) found.0 f found.1 refused

  pub first_one : (ds : List Data) (e f : MetaErr) → IsFirstRefused Reads Refuses ds e → IsFirstRefused Reads Refuses ds f → e ≡ f
  first_one ds e f x y = elim (either_way x.at y.at) [
    | inl h ↦ absurd (earlier ds f y x.at e h x.refused)
    | inr o ↦ elim o [
      | inl h ↦ absurd (earlier ds e x y.at f h y.refused)
      | inr h ↦ one y.at (slice_index_or ds y.at null) e f (subst (λ (k : ℕ). Refuses k (slice_index_or ds k null) e) h x.refused) y.refused
    ]
  ]

  pub first_excludes : (ds : List Data) (ys : List Y) (e : MetaErr) → Match Reads ds ys → IsFirstRefused Reads Refuses ds e → ⊥
  first_excludes ds ys e matched x =
      let found = at_any Reads ds ys x.at matched x.within in
      excludes x.at (slice_index_or ds x.at null) found.0 e found.1 x.refused

dep_excludes : (g k : ℕ) (d : Data) (dep : Dep) (e : MetaErr) → IsDepOf d dep → IsRefusedDep g k d e → ⊥
dep_excludes g k d dep e says (dep_id is no_id) = no_id (subst IsShortId says.id (dep.id.spelled, dep.id.short))
dep_excludes g k d dep e says (dep_range is id no_range) = no_range dep.range says.range

dep_one : (g k : ℕ) (d : Data) (e f : MetaErr) → IsRefusedDep g k d e → IsRefusedDep g k d f → e ≡ f
dep_one g k d e f (dep_id is no_id) (dep_id is' no_id') = is ∙ sym is'
dep_one g k d e f (dep_id is no_id) (dep_range is' id no_range) = absurd (no_id id)
dep_one g k d e f (dep_range is id no_range) (dep_id is' no_id) = absurd (no_id id)
dep_one g k d e f (dep_range is id no_range) (dep_range is' id' no_range') = is ∙ sym is'

group_excludes : (g : ℕ) (d : Data) (group : DepGroup) (e : MetaErr) → IsGroupOf d group → IsRefusedGroup g d e → ⊥
group_excludes g d group e says refused = first_excludes IsDepOf (IsRefusedDep g) (dep_excludes g) (dep_one g) _ group.deps e says.deps refused

group_one : (g : ℕ) (d : Data) (e f : MetaErr) → IsRefusedGroup g d e → IsRefusedGroup g d f → e ≡ f
group_one g d e f x y = first_one IsDepOf (IsRefusedDep g) (dep_excludes g) (dep_one g) _ e f x y

object_one : (d : Data) (e f : MetaErr) → IsRefusedObject d e → IsRefusedObject d f → e ≡ f
object_one d e f (bad_id is no_id) (bad_id is' no_id') = is ∙ sym is'
object_one d e f (bad_id is no_id) (bad_version is' id no_version) = absurd (no_id id)
object_one d e f (bad_id is no_id) (bad_dependency id version refused) = absurd (no_id id)
object_one d e f (bad_version is id no_version) (bad_id is' no_id) = absurd (no_id id)
object_one d e f (bad_version is id no_version) (bad_version is' id' no_version') = is ∙ sym is'
object_one d e f (bad_version is id no_version) (bad_dependency id' version refused) = absurd (no_version version.0 version.1)
object_one d e f (bad_dependency id version refused) (bad_id is' no_id) = absurd (no_id id)
object_one d e f (bad_dependency id version refused) (bad_version is' id' no_version) = absurd (no_version version.0 version.1)
object_one d e f (bad_dependency id version refused) (bad_dependency id' version' refused') =
    first_one IsGroupOf IsRefusedGroup group_excludes group_one _ e f refused refused'

object_excludes : (d : Data) (m : Meta) (e : MetaErr) → IsMetaOf d m → IsRefusedObject d e → ⊥
object_excludes d m e says (bad_id is no_id) = no_id (subst IsShortId says.id (m.id.spelled, m.id.short))
object_excludes d m e says (bad_version is id no_version) = no_version m.version (subst (λ (text : List ℕ). Spells text m.version) says.verbatim says.version)
object_excludes d m e says (bad_dependency id version refused) = first_excludes IsGroupOf IsRefusedGroup group_excludes group_one _ m.groups e says.groups refused

same_some : (x y : Data) (o : Option Data) → o ≡ Some x → o ≡ Some y → x ≡ y
same_some x y o p q = cc

same_object : (bytes : List ℕ) (x y : Data) → IsObjectText bytes x → IsObjectText bytes y → x ≡ y
same_object bytes x y text text' = same_some x y (read bytes) text.says text'.says

no_misfit : (o : Option (List ℕ)) (name : List ℕ) → o ≡ Some name → o ≡ None → ⊥
no_misfit o name p q = cc

same_name : (o : Option (List ℕ)) (n k : List ℕ) → o ≡ Some n → o ≡ Some k → n ≡ k
same_name o n k p q = cc

fits_not : (bytes : List ℕ) (x y : Data) (name : List ℕ) → IsFitting bytes x → IsObjectText bytes y → first_misfit kinds y ≡ Some name → ⊥
fits_not bytes x y name fitting text found =
    no_misfit (first_misfit kinds y) name found (subst (λ (d : Data). first_misfit kinds d ≡ None) (same_object bytes x y fitting.text text) fitting.fits)

pub one_refusal : (bytes : List ℕ) (d e : MetaErr) → IsRefusedMeta bytes d → IsRefusedMeta bytes e → d ≡ e
one_refusal bytes d e (too_large is long) (too_large is' long') = is ∙ sym is'
one_refusal bytes d e (too_large is long) (not_json is' short none) = absurd (omega arith)
one_refusal bytes d e (too_large is long) (misfit y n is' text found) = absurd (omega (arith, text.short))
one_refusal bytes d e (too_large is long) (object y fitting refused) = absurd (omega (arith, fitting.text.short))
one_refusal bytes d e (not_json is short none) (too_large is' long) = absurd (omega arith)
one_refusal bytes d e (not_json is short none) (not_json is' short' none') = is ∙ sym is'
one_refusal bytes d e (not_json is short none) (misfit y n is' text found) = absurd (none y text)
one_refusal bytes d e (not_json is short none) (object y fitting refused) = absurd (none y fitting.text)
one_refusal bytes d e (misfit x m is text found) (too_large is' long) = absurd (omega (arith, text.short))
one_refusal bytes d e (misfit x m is text found) (not_json is' short none) = absurd (none x text)
one_refusal bytes d e (misfit x m is text found) (misfit y n is' text' found') =
    let moved : first_misfit kinds y ≡ Some m = subst (λ (v : Data). first_misfit kinds v ≡ Some m) (same_object bytes x y text text') found in
    is ∙ ap Field (same_name (first_misfit kinds y) m n moved found') ∙ sym is'
one_refusal bytes d e (misfit x m is text found) (object y fitting refused) = absurd (fits_not bytes y x m fitting text found)
one_refusal bytes d e (object x fitting refused) (too_large is' long) = absurd (omega (arith, fitting.text.short))
one_refusal bytes d e (object x fitting refused) (not_json is' short none) = absurd (none x fitting.text)
one_refusal bytes d e (object x fitting refused) (misfit y n is' text found) = absurd (fits_not bytes x y n fitting text found)
one_refusal bytes d e (object x fitting refused) (object y fitting' refused') =
    object_one y d e (subst (λ (v : Data). IsRefusedObject v d) (same_object bytes x y fitting.text fitting'.text) refused) refused'

pub not_both : (bytes : List ℕ) (m : Meta) (e : MetaErr) → IsMetaText bytes m → IsRefusedMeta bytes e → ⊥
not_both bytes m e says (too_large is long) = omega (arith, says.fits.text.short)
not_both bytes m e says (not_json is short none) = none says.object says.fits.text
not_both bytes m e says (misfit y n is text found) = fits_not bytes says.object y n says.fits text found
not_both bytes m e says (object y fitting refused) =
    object_excludes y m e (subst (λ (v : Data). IsMetaOf v m) (same_object bytes says.object y says.fits.text fitting.text) says.says) refused
