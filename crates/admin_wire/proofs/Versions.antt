-- The texts of versions.
use Rattle.std.proofs.Common.{ℕ, List, [], IsUtf8, refl, sym, subst}
use Rattle.std.proofs.lemmas.Str.{IsUtf8-from_ascii}
use Rattle.nuget_version.specs.Grammar.{Spells, pieces_text}
use Rattle.nuget_version.specs.declared.version.Version.{Version}
use Rattle.nuget_version.specs.declared.errors.VersionErr.TheVariants.{Empty}
use Rattle.nuget_version.proofs.Fields.{pieces_ascii}
use Rattle.nuget_version.proofs.OneAnswer.{refused_unspelled}

-- the text of a version is UTF-8
pub utf8_version : (text : List ℕ) (v : Version) → Spells text v → IsUtf8 text
utf8_version text v s = subst IsUtf8 (sym s.made.spelled) (IsUtf8-from_ascii (pieces_text s.pieces) (pieces_ascii s.pieces s.made.are))

-- the empty text is no version
pub no_version : (v : Version) → Spells [] v → ⊥
no_version v s = refused_unspelled [] Empty v (λ e. absurd (cc e)) refl s
