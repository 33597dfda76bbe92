-- A text has one value.
use Rattle.std.proofs.Common.{◌≡◌, ◌≤◌, ℕ, List, length, true, sym, ◌∙◌, ap, subst, refl}
use Rattle.std.proofs.Props.{props}
use Rattle.nuget_version.specs.Grammar.{Spells}
use Rattle.nuget_version.specs.Parts.{full_of, is_dotted}
use Rattle.nuget_version.specs.Walk.{found_of}
use Rattle.nuget_version.specs.declared.version.Version.{Version}
use Rattle.nuget_version.proofs.Fields.{same_as}

-- what a version's fields keep to
abbrev Kept : ℕ → ℕ → ℕ → ℕ → List ℕ → List ℕ → Type 0
Kept a b c d labels meta =
    (a ≤ 2147483647) × (b ≤ 2147483647) × (c ≤ 2147483647) × (d ≤ 2147483647) × (is_dotted labels ≡ true) × (is_dotted meta ≡ true) × (length (full_of a b c d labels meta) ≤ 64)

version_of : (a b c d : ℕ) (labels meta : List ℕ) → Kept a b c d labels meta → Version
version_of a b c d labels meta k = record {
  major = a;
  minor = b;
  patch = c;
  revision = d;
  labels = labels;
  meta = meta;
  major_fits = k.0;
  minor_fits = k.1;
  patch_fits = k.2;
  revision_fits = k.3;
  labels_dotted = k.4;
  meta_dotted = k.5;
  short = k.6;
}

kept_once : (a b c d : ℕ) (labels meta : List ℕ) (k l : Kept a b c d labels meta) → k ≡ l
kept_once a b c d labels meta = hlevel props

abbrev Is : Version → ℕ → ℕ → ℕ → ℕ → List ℕ → List ℕ → Type 0
Is v a b c d labels meta = (k : Kept a b c d labels meta) → version_of a b c d labels meta k ≡ v

is_own : (v : Version) → Is v v.major v.minor v.patch v.revision v.labels v.meta
unfolding version_of
is_own v k =
    ap (version_of v.major v.minor v.patch v.revision v.labels v.meta)
    (kept_once v.major v.minor v.patch v.revision v.labels v.meta k (v.major_fits, v.minor_fits, v.patch_fits, v.revision_fits, v.labels_dotted, v.meta_dotted, v.short))

same_version : (u v : Version) → v.major ≡ u.major → v.minor ≡ u.minor → v.patch ≡ u.patch → v.revision ≡ u.revision → v.labels ≡ u.labels → v.meta ≡ u.meta → u ≡ v
unfolding version_of
same_version u v a b c d l m =
    let one = subst (λ x. Is v x v.minor v.patch v.revision v.labels v.meta) a (is_own v) in
    let two = subst (λ x. Is v u.major x v.patch v.revision v.labels v.meta) b one in
    let three = subst (λ x. Is v u.major u.minor x v.revision v.labels v.meta) c two in
    let four = subst (λ x. Is v u.major u.minor u.patch x v.labels v.meta) d three in
    let five = subst (λ x. Is v u.major u.minor u.patch u.revision x v.meta) l four in
    let six = subst (λ x. Is v u.major u.minor u.patch u.revision u.labels x) m five in
    six (u.major_fits, u.minor_fits, u.patch_fits, u.revision_fits, u.labels_dotted, u.meta_dotted, u.short)

pub one_value : (text : List ℕ) (u v : Version) → Spells text u → Spells text v → u ≡ v
one_value text u v su sv =
    let p = same_as text (found_of su.pieces) su.pieces su.made refl u su in
    let q = same_as text (found_of su.pieces) su.pieces su.made refl v sv in
    same_version u v (sym q.major ∙ p.major) (sym q.minor ∙ p.minor) (sym q.patch ∙ p.patch) (sym q.revision ∙ p.revision) (sym q.labels ∙ p.labels) (sym q.meta ∙ p.meta)
