-- The answers for what a lower call answers.
use Rattle.std.specs.Prelude.{◌≡◌, ◌⊎◌, ℕ, List, Result, ⊤}
use Rattle.std.specs.declared.result.Result.TheVariants.{Ok, Err}
use Rattle.admin_wire.specs.declared.area.AreaName.{AreaName}
use Rattle.admin_wire.specs.declared.area.AreaName.TheVariants as area
use Rattle.admin_wire.specs.declared.line.Line.TheVariants.{Done, Idle, FaultInput, Fault, TooLong, Damaged, Memory, Refused}
use Rattle.admin_wire.specs.declared.line.Refusal.TheVariants as refusal
use Rattle.catalog_doc.specs.declared.error.CommitErr.{CommitErr}
use Rattle.catalog_doc.specs.declared.error.CommitErr.TheVariants as commit
use Rattle.catalog_core.specs.declared.error.InitErr.{InitErr}
use Rattle.catalog_core.specs.declared.error.InitErr.TheVariants as init
use Rattle.catalog_opening.specs.declared.error.OpenErr.{OpenErr}
use Rattle.catalog_opening.specs.declared.error.OpenErr.TheVariants as opening
use Rattle.catalog_opening.specs.declared.error.ReadErr.{ReadErr}
use Rattle.catalog_opening.specs.declared.error.ReadErr.TheVariants as reading
use Rattle.fold_core.specs.declared.hive.HiveName.{HiveName}
use Rattle.id_pass.specs.declared.error.RoundErr.{RoundErr}
use Rattle.id_pass.specs.declared.error.RoundErr.TheVariants as round
use Rattle.id_pass.specs.declared.error.RoundOut.{RoundOut}
use Rattle.id_pass.specs.declared.error.RoundOut.TheVariants as out
use Rattle.job_round.specs.Answers.{in_catalog, in_hive}
use Rattle.feed_base.specs.declared.take.TakeErr.{TakeErr}
use Rattle.feed_base.specs.declared.take.TakeErr.TheVariants as taking
use Rattle.feed_app.specs.declared.answer.Answer.{Answer}
use Rattle.feed_app.specs.declared.answer.Answer.TheVariants.{Reply}

-- where the input wasn't taken
abbrev pub take_answer : TakeErr → Answer
take_answer taking.ReadFault = Reply FaultInput
take_answer taking.TooLong = Reply TooLong
take_answer taking.Memory = Reply Memory

-- where the catalog wasn't made
abbrev pub init_answer : InitErr → Answer
init_answer init.Fault = Reply (Fault area.Catalog)
init_answer init.Already = Reply (Refused refusal.Initialised)
init_answer init.Memory = Reply Memory

-- where it wasn't opened
abbrev pub open_answer : OpenErr → Answer
open_answer opening.Fault = Reply (Fault area.Catalog)
open_answer opening.Missing = Reply (Refused refusal.Uninitialised)
open_answer (opening.Damaged name) = Reply (Damaged area.Catalog name)
open_answer (opening.BaseDiffers stored given) = Reply (Refused (refusal.Base stored given))
open_answer opening.Memory = Reply Memory

-- where the commit wasn't made
abbrev pub commit_answer : CommitErr → Answer
commit_answer commit.Fault = Reply (Fault area.Catalog)
commit_answer (commit.Damaged name) = Reply (Damaged area.Catalog name)
commit_answer commit.Memory = Reply Memory
commit_answer (commit.Exists place number) = Reply (Refused (refusal.Exists place number))
commit_answer (commit.Absent place number) = Reply (Refused (refusal.Absent place number))
commit_answer (commit.Already place number) = Reply (Refused (refusal.Already place number))
commit_answer (commit.Twice place) = Reply (Refused (refusal.Twice place))
commit_answer (commit.IdFull place) = Reply (Refused (refusal.IdFull place))
commit_answer (commit.Full items) = Reply (Refused (refusal.Full items))
commit_answer commit.ClockEnd = Reply (Refused refusal.ClockEnd)
commit_answer commit.Empty = Reply (Refused refusal.Empty)
commit_answer (commit.TooMany count) = Reply (Refused (refusal.TooMany count))

-- where a blob of the catalog wasn't read
abbrev pub read_answer : ReadErr → Answer
read_answer (reading.Damaged name) = Reply (Damaged area.Catalog name)
read_answer reading.Fault = Reply (Fault area.Catalog)
read_answer reading.Memory = Reply Memory

-- what holds of the name of a blob of the catalog, where one is told as damaged
abbrev pub IfCatalogDamaged : Answer → (List ℕ → Type 0) → Type 0
IfCatalogDamaged (Reply (Damaged area.Catalog blob)) P = P blob
IfCatalogDamaged _ P = ⊤

-- a blob of this name in this area is told as damaged, or memory ran out
abbrev pub AnswersDamage : AreaName → List ℕ → Answer → Type 0
AnswersDamage name blob answer = (answer ≡ Reply (Damaged name blob)) ⊎ (answer ≡ Reply Memory)

-- the blob that a round of this hive tells as damaged, whose text is that of its area and its name
pub record AnswersDamagedText (hive : HiveName) (text : List ℕ) (answer : Answer) : Type 0 where
  pub one : (name : AreaName) × (blob : List ℕ) × AnswersDamage name blob answer
  pub of_catalog : (blob : List ℕ) → text ≡ in_catalog blob → AnswersDamage area.Catalog blob answer
  pub of_hive : (other : HiveName) (blob : List ℕ) → text ≡ in_hive other blob → AnswersDamage (area.Hive hive) blob answer

-- where a round of this hive stopped
abbrev pub AnswersStop : HiveName → RoundErr → Answer → Type 0
AnswersStop hive round.CatalogFault answer = answer ≡ Reply (Fault area.Catalog)
AnswersStop hive round.HiveFault answer = answer ≡ Reply (Fault (area.Hive hive))
AnswersStop hive (round.Damaged text) answer = AnswersDamagedText hive text answer
AnswersStop hive round.Memory answer = answer ≡ Reply Memory

-- what a round of this hive answered
abbrev pub AnswersRound : HiveName → Result RoundOut RoundErr → Answer → Type 0
AnswersRound hive (Ok (out.Done n)) answer = answer ≡ Reply (Done hive n)
AnswersRound hive (Ok (out.Idle n)) answer = answer ≡ Reply (Idle hive n)
AnswersRound hive (Err error) answer = AnswersStop hive error answer
