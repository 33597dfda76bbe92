use Rattle.std.proofs.Common.{◌≡◌, ℕ, List, Option, Some, option_map, subst}
use Rattle.feed_words.specs.Words.{given}
use Rattle.feed_app.specs.Commands.{Command, asked, of_given}
use Rattle.feed_app.specs.Does.{Does, reach_of}
use Rattle.feed_app.specs.Frame.{KeepsValue}
use Rattle.feed_app.specs.Outside.{input_of, over}
use Rattle.feed_app.proofs.Unasked.{no_memory}
use Rattle.feed_app.proofs.run.act_on.Goals as goal

pub returns-in-Ok-Some-clause-does : goal.returns-in-Ok-Some-clause-does
returns-in-Ok-Some-clause-does g c =
    let old = input_of g.I.Source c.args.input.now in
    let new = input_of g.I.Source c.obey.new.input in
    let asked_at = g.C.Clock.answers c.args.clock.now in
    let later = g.C.Clock.answers c.obey.new.clock in
    let read = option_map (λ t. t.now) c.base.result in
    let meant : Some (asked c.in-Ok-Some.command) ≡ of_given (given c.args.words.now) = rw c.in-Ok-Some.field-0-is at c.in-Ok-Some.ensures in
    subst (λ (b : Option (List ℕ)). Does g.B.Blobs (of_given (given c.args.words.now)) (over b c.args.stores old asked_at) c.obey.result.0
    (over b c.obey.result.1 new later)) c.base.ensures
    (subst (λ (o : Option Command). Does g.B.Blobs o (over read c.args.stores old asked_at) c.obey.result.0
    (over read c.obey.result.1 new later)) meant c.obey.ensures.done)

pub returns-in-Ok-Some-clause-unread : goal.returns-in-Ok-Some-clause-unread
returns-in-Ok-Some-clause-unread g c =
    let meant : Some (asked c.in-Ok-Some.command) ≡ of_given (given c.args.words.now) = rw c.in-Ok-Some.field-0-is at c.in-Ok-Some.ensures in
    subst (λ (o : Option Command). KeepsValue (reach_of g.B.Blobs o).input c.args.input.now c.obey.new.input) meant c.obey.ensures.unread

pub returns-in-Ok-Some-clause-unasked : goal.returns-in-Ok-Some-clause-unasked
returns-in-Ok-Some-clause-unasked g c =
    let meant : Some (asked c.in-Ok-Some.command) ≡ of_given (given c.args.words.now) = rw c.in-Ok-Some.field-0-is at c.in-Ok-Some.ensures in
    subst (λ (o : Option Command). KeepsValue (reach_of g.B.Blobs o).clock c.args.clock.now c.obey.new.clock) meant c.obey.ensures.unasked

pub returns-in-Err-clause-does : goal.returns-in-Err-clause-does
returns-in-Err-clause-does g c =
    no_memory g.B.Blobs g.met.B.Blobs.now
    (over (given c.args.words.now).base c.args.stores (input_of g.I.Source c.args.input.now) (g.C.Clock.answers c.args.clock.now))
    (of_given (given c.args.words.now))
