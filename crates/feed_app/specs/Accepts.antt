-- When a command can't but be done.
use Rattle.std.specs.Prelude.{◌≡◌, ◌≤◌, length}
use Rattle.feed_app.specs.Answers.{answer_status}
use Rattle.feed_app.specs.Frame.{Meaning, Touches, most_input}
use Rattle.feed_app.specs.Outside.{Sight, Shows}
use Rattle.feed_app.specs.declared.answer.Answer.{Answer}

-- a command that is ready isn't refused, finds no damage, and its input isn't too long
pub record Accepts {B : Type 0} (m : Meaning B) : Type 0 where
  pub refused : (before after : Sight B) (answer : Answer) → m.ready before → m.acts before answer after → answer_status answer ≡ 3 → ⊥
  pub sound : (before after : Sight B) (answer : Answer) → m.ready before → m.acts before answer after → answer_status answer ≡ 6 → ⊥
  pub fits : (before : Sight B) → m.ready before → Touches m.reach.input → Shows before.input.told (λ body. length body ≤ most_input)
