use Rattle.std.proofs.Common.{◌≡◌, ◌+◌, ℕ, List, [], ◌∷◌, ◌++◌, Some, ap, ◌∙◌, arith}
use Rattle.std.proofs.lemmas.Grind.{common_steps}
use Rattle.std.proofs.lemmas.List.{get_or_default}
use Rattle.feed_base.specs.Clock.{answer_at, answers_of}
use Rattle.feed_base.proofs.Answered.{answers_of-more, length-answers_of}
use Rattle.feed_base.proofs.clock_list.ClockListClock.now.Goals as goal

pub returns-clause-told : goal.returns-clause-told
returns-clause-told c = λ few.
    let list : List ℕ = c.args.self.now.list.items in
    let calls : ℕ = c.args.self.now.calls in
    let one_more : c.next_count-self.result ≡ calls + 1 = omega (arith, few, length-answers_of list calls, c.next_count-self.ensures.next) in
    let answer : answer_at list calls ≡ c.index.result.now = grind (arith, common_steps, get_or_default) in
    ap Some (ap (answers_of list) one_more ∙ answers_of-more list calls ∙ ap (λ (a : ℕ). answers_of list calls ++ a ∷ []) answer)
