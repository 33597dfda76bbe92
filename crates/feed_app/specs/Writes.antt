-- What is written for an answer, and the status of the call.
use Rattle.std.specs.Prelude.{◌≡◌, ◌≤◌, ◌⊎◌, ◌++◌, ℕ, List, length, take, option_map}
use Rattle.feed_app.specs.Answers.{answer_status, answer_text}
use Rattle.feed_app.specs.Outside.{Stream, Rose}
use Rattle.feed_app.specs.declared.answer.Answer.{Answer}

-- the output has this text behind what it had
abbrev pub HasMore : List ℕ → Stream → Stream → Type 0
HasMore text old new = new.told ≡ option_map (λ out. out ++ text) old.told

-- the whole text, with the status of the answer
pub record WritesAll (answer : Answer) (status : ℕ) (old new : Stream) : Type 0 where
  pub number : status ≡ answer_status answer
  pub text : HasMore (answer_text answer) old new

-- nothing, out of memory
pub record WritesNothing (status : ℕ) (old new : Stream) : Type 0 where
  pub number : status ≡ 8
  pub same : new ≡ old

-- a prefix, where the write failed
pub record WritesPrefix (answer : Answer) (status : ℕ) (old new : Stream) : Type 0 where
  pub number : status ≡ 5
  pub rose : Rose old new
  pub text : (k : ℕ) × (k ≤ length (answer_text answer)) × HasMore (take k (answer_text answer)) old new

abbrev pub WritesAnswer : Answer → ℕ → Stream → Stream → Type 0
WritesAnswer answer status old new = WritesAll answer status old new ⊎ (WritesNothing status old new ⊎ WritesPrefix answer status old new)
