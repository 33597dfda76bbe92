-- What a command does.
use Rattle.std.specs.Prelude.{◌≡◌, ◌⊎◌, Option, None, Some}
use Rattle.admin_wire.specs.declared.line.Line.TheVariants as line
use Rattle.feed_app.specs.Commands.{Command, Init, Get, Publish, Names, Job, Cursor}
use Rattle.feed_app.specs.Frame.{Meaning, IsDone, Reach, nothing}
use Rattle.feed_app.specs.Outside.{Members, Sight}
use Rattle.feed_app.specs.Cursors.{cursor_meaning}
use Rattle.feed_app.specs.Gets.{get_meaning}
use Rattle.feed_app.specs.Inits.{init_meaning}
use Rattle.feed_app.specs.Jobs.{job_meaning}
use Rattle.feed_app.specs.Names.{names_meaning}
use Rattle.feed_app.specs.Publishes.{publish_meaning}
use Rattle.feed_app.specs.declared.answer.Answer.{Answer}
use Rattle.feed_app.specs.declared.answer.Answer.TheVariants.{Reply, Usage}

abbrev pub meaning : {B : Type 0} → Members B → Command → Meaning B
meaning m (Init base) = init_meaning m base
meaning m Publish = publish_meaning m
meaning m (Names kind pairs) = names_meaning m kind pairs
meaning m (Job hive) = job_meaning m hive
meaning m (Cursor hive) = cursor_meaning m hive
meaning m (Get path) = get_meaning m path

-- what words of this meaning may touch
abbrev pub reach_of : {B : Type 0} → Members B → Option Command → Reach
reach_of m None = nothing
reach_of m (Some command) = (meaning m command).reach

-- words without a meaning touch nothing, nor do words for whose reading there is no memory
abbrev pub Does : {B : Type 0} → Members B → Option Command → Sight B → Answer → Sight B → Type 0
Does m None before answer after = ((answer ≡ Usage) ⊎ (answer ≡ Reply line.Memory)) × (after ≡ before)
Does m (Some command) before answer after = IsDone m (meaning m command) before answer after
