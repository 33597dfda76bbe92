-- What was written, and the status of the answer.
use Rattle.std.proofs.Common.{◌≡◌, ◌≢◌, ◌∙◌, ℕ, List, Option, Some, inl, inr, sym, subst, arith}
use Rattle.feed_app.specs.Answers.{answer_status, answer_text}
use Rattle.feed_app.specs.Commands.{Command, base_of, command_of}
use Rattle.feed_app.specs.Does.{Does, meaning}
use Rattle.feed_app.specs.Frame.{IsDone}
use Rattle.feed_app.specs.Outside.{Bounds, Outside, Stream, output_of, sight}
use Rattle.feed_app.specs.Runs.{RunsCommand}
use Rattle.feed_app.specs.Writes.{HasMore, WritesAnswer}
use Rattle.feed_app.specs.declared.answer.Answer.{Answer}

pub wrote : (answer : Answer) (status : ℕ) (old new : Stream) → WritesAnswer answer status old new → status ≡ 0 → HasMore (answer_text answer) old new
wrote answer status old new (inl all) zero = all.text
wrote answer status old new (inr (inl none)) zero = absurd (let e : status ≡ 8 = none.number in omega (arith, e, zero))
wrote answer status old new (inr (inr front)) zero = absurd (let e : status ≡ 5 = front.number in omega (arith, e, zero))

pub own_status : (answer : Answer) (status : ℕ) (old new : Stream) → WritesAnswer answer status old new → status ≢ 5 → status ≢ 8
    → answer_status answer ≡ status
own_status answer status old new (inl all) no5 no8 = sym all.number
own_status answer status old new (inr (inl none)) no5 no8 = absurd (no8 none.number)
own_status answer status old new (inr (inr front)) no5 no8 = absurd (no5 front.number)

module _ {B I O C : Type 0} (b : Bounds B I O C) (words : List (List ℕ)) (before after : Outside B I O C) (status : ℕ)
    (run : RunsCommand b words before status after) where
  pub done : (command : Command) → command_of words ≡ Some command → IsDone b.blobs (meaning b.blobs command) (sight b (base_of words) before)
      run.answer (sight b (base_of words) after)
  done command is = subst (λ (o : Option Command). Does b.blobs o (sight b (base_of words) before) run.answer (sight b (base_of words) after)) is run.does

  pub zero_of : status ≡ 0 → answer_status run.answer ≡ 0
  zero_of zero = own_status run.answer status (output_of b.sink before.output) (output_of b.sink after.output) run.writes
      (λ e. omega (arith, e, zero)) (λ e. omega (arith, e, zero)) ∙ zero

  pub three_of : status ≡ 3 → answer_status run.answer ≡ 3
  three_of three = own_status run.answer status (output_of b.sink before.output) (output_of b.sink after.output) run.writes
      (λ e. omega (arith, e, three)) (λ e. omega (arith, e, three)) ∙ three
