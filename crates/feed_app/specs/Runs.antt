-- A whole call: the command of the words is done, and then its answer is written.
use Rattle.std.specs.Prelude.{◌≡◌, ◌⊎◌, ℕ, List, Some}
use Rattle.admin_wire.specs.declared.area.AreaName.{AreaName}
use Rattle.feed_app.specs.Commands.{Command, base_of, command_of}
use Rattle.feed_app.specs.Does.{Does, meaning, reach_of}
use Rattle.feed_app.specs.Frame.{Reach, Touches, KeepsValue, touch_of}
use Rattle.feed_app.specs.Outside.{Members, Outside, Bounds, Rose, AreaRose, area_of, input_of, output_of, sight}
use Rattle.feed_app.specs.Writes.{WritesAnswer}
use Rattle.feed_app.specs.declared.answer.Answer.{Answer}

pub record RunsCommand {B I O C : Type 0} (b : Bounds B I O C) (words : List (List ℕ)) (before : Outside B I O C) (status : ℕ)
    (after : Outside B I O C) : Type 0 where
  pub answer : Answer
  pub does : Does b.blobs (command_of words) (sight b (base_of words) before) answer (sight b (base_of words) after)
  pub unread : KeepsValue (reach_of b.blobs (command_of words)).input before.input after.input
  pub unasked : KeepsValue (reach_of b.blobs (command_of words)).clock before.clock after.clock
  pub writes : WritesAnswer answer status (output_of b.sink before.output) (output_of b.sink after.output)

-- what holds of every call, of its words, what it was given, its status and what it left
abbrev pub ForRuns : {B I O C : Type 0} → Bounds B I O C → (List (List ℕ) → Outside B I O C → ℕ → Outside B I O C → Type 0) → Type 0
ForRuns {B = B} {I = I} {O = O} {C = C} b P =
    (words : List (List ℕ)) (before after : Outside B I O C) (status : ℕ) → RunsCommand b words before status after → P words before status after

-- no count of faults rose of what may be touched, nor of the output
pub record Quiet {B I O C : Type 0} (b : Bounds B I O C) (reach : Reach) (before after : Outside B I O C) : Type 0 where
  pub areas : (name : AreaName) → Touches (touch_of reach name) → AreaRose b.blobs (area_of before.stores name) (area_of after.stores name) → ⊥
  pub input : Touches reach.input → Rose (input_of b.source before.input) (input_of b.source after.input) → ⊥
  pub output : Rose (output_of b.sink before.output) (output_of b.sink after.output) → ⊥

-- the words ask for a command that touches this area
abbrev pub IsTouchedBy : {B : Type 0} → Members B → List (List ℕ) → AreaName → Type 0
IsTouchedBy m words name = (command : Command) × (command_of words ≡ Some command) × Touches (touch_of (meaning m command).reach name)

-- the words ask for a command that can be done
abbrev pub CanBeDone : {B I O C : Type 0} → Bounds B I O C → List (List ℕ) → Outside B I O C → Type 0
CanBeDone b words before = (command : Command) × (command_of words ≡ Some command) × (meaning b.blobs command).ready (sight b (base_of words) before)

-- what that command may touch stayed quiet
abbrev pub IsQuiet : {B I O C : Type 0} → Bounds B I O C → List (List ℕ) → Outside B I O C → Outside B I O C → Type 0
IsQuiet b words before after = Quiet b (reach_of b.blobs (command_of words)) before after

-- it was done, or memory ran out
abbrev pub IsGood : ℕ → Type 0
IsGood status = (status ≡ 0) ⊎ (status ≡ 8)
