-- The texts for blobs: an area's word, a slash and a name.
use Rattle.std.proofs.Common.{◌≡◌, ◌∷◌, ◌++◌, ℕ, List, refl}
use Rattle.admin_wire.specs.Lines.{hive_text}
use Rattle.fold_core.specs.declared.hive.HiveName.{HiveName}
use Rattle.fold_core.specs.declared.hive.HiveName.TheVariants.{Plain, SemVer2, Content, Auto}
use Rattle.job_round.specs.Answers.{in_hive}
use Rattle.admin_wire.specs.declared.area.AreaName.{AreaName}
use Rattle.admin_wire.specs.declared.line.Line.TheVariants.{Damaged}
use Rattle.feed_routes.specs.Cuts.{IsFreeSegment}
use Rattle.feed_app.specs.declared.answer.Answer.TheVariants.{Reply}

-- no word has a slash
pub free_word : (hive : HiveName) → IsFreeSegment 47 (hive_text hive)
free_word Plain = refl
free_word SemVer2 = refl
free_word Content = refl
free_word Auto = refl

pub spelled_by : (hive : HiveName) (name : List ℕ) → in_hive hive name ≡ hive_text hive ++ (47 ∷ name)
spelled_by Plain name = refl
spelled_by SemVer2 name = refl
spelled_by Content name = refl
spelled_by Auto name = refl

-- the line for a blob of the same area and name
pub named_as : (area other : AreaName) (name blob : List ℕ) → area ≡ other → name ≡ blob → Reply (Damaged area name) ≡ Reply (Damaged other blob)
named_as area other name blob same is = cc (same, is)
