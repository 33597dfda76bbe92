-- Words that may be no texts, and the texts that are read in their place.
use Rattle.std.proofs.Common.{◌≡◌, ◌⊎◌, ◌∙◌, true, false, ℕ, List, [], IsUtf8, inl, inr, sym, subst}
use Rattle.catalog_doc.specs.declared.change.Change.{Change}
use Rattle.nuget_version.specs.Grammar.{Spells}
use Rattle.package_id.proofs.Bytes.{IsUtf8-id}
use Rattle.package_id.specs.Ids.{IsShortId}
use Rattle.pkg_meta.specs.Refusals.{IsNoVersion}
use Rattle.admin_wire.specs.Bodies.{IsAsked, IsRefusedPair}
use Rattle.admin_wire.specs.Bodies.IsRefusedPair.{bad_id, bad_version}
use Rattle.admin_wire.specs.declared.error.BodyErr.{BodyErr}
use Rattle.admin_wire.specs.declared.names.NameKind.{NameKind}
use Rattle.admin_wire.proofs.Versions.{no_version, utf8_version}

-- the text of bytes, or the empty text
abbrev pub IsText : List ℕ → List ℕ → Type 0
IsText text bytes = (text ≡ bytes) ⊎ ((¬ IsUtf8 bytes) × (text ≡ []))

no_id : IsShortId [] → ⊥
no_id short = absurd (let none : false ≡ true = short.0 in cc)

pub asked_of : (kind : NameKind) (id version id_text version_text : List ℕ) (c : Change) → IsText id_text id → IsText version_text version
    → IsAsked kind id_text version_text c → IsAsked kind id version c
asked_of kind id version id_text version_text c (inl first) (inl second) a = record {
  the_id = a.the_id;
  the_version = a.the_version;
  id_text = a.id_text ∙ first;
  spelled = subst (λ (t : List ℕ). Spells t a.the_version) second a.spelled;
  change = a.change;
}
asked_of kind id version id_text version_text c (inl first) (inr second) a =
    absurd (no_version a.the_version (subst (λ (t : List ℕ). Spells t a.the_version) second.1 a.spelled))
asked_of kind id version id_text version_text c (inr first) second a = absurd (no_id (subst IsShortId (a.id_text ∙ first.1) (a.the_id.spelled, a.the_id.short)))

-- the id of the text is the id of the bytes
short_of : (id id_text : List ℕ) → IsText id_text id → IsShortId id_text → IsShortId id
short_of id id_text (inl same) short = subst IsShortId same short
short_of id id_text (inr other) short = absurd (no_id (subst IsShortId other.1 short))

none_of : (id id_text : List ℕ) → IsText id_text id → (¬ IsShortId id_text) → ¬ IsShortId id
none_of id id_text (inl same) none short = none (subst IsShortId (sym same) short)
none_of id id_text (inr other) none short = other.0 (IsUtf8-id id short.0)

unspelled : (version text : List ℕ) → IsText text version → IsNoVersion text → IsNoVersion version
unspelled version text (inl same) none v s = none v (subst (λ (t : List ℕ). Spells t v) (sym same) s)
unspelled version text (inr other) none v s = other.0 (utf8_version version v s)

pub refused_of : (place : ℕ) (id version id_text version_text : List ℕ) (e : BodyErr) → IsText id_text id → IsText version_text version
    → IsRefusedPair place id_text version_text e → IsRefusedPair place id version e
refused_of place id version id_text version_text e first second (bad_id is none) = bad_id is (none_of id id_text first none)
refused_of place id version id_text version_text e first second (bad_version is short none) =
    bad_version is (short_of id id_text first short) (unspelled version version_text second none)
