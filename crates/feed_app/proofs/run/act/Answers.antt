use Rattle.std.proofs.Common.{◌≡◌, Option, Some, subst}
use Rattle.std.specs.Option.{option_and_then}
use Rattle.feed_words.specs.Words.{Given, given, given_in}
use Rattle.feed_app.specs.Commands.{base_of, command_of, of_given}
use Rattle.feed_words.specs.Words.{texts}
use Rattle.feed_app.specs.Does.{Does, reach_of}
use Rattle.feed_app.specs.Frame.{KeepsValue}
use Rattle.feed_app.specs.Outside.{input_of, over}
use Rattle.feed_app.proofs.Unasked.{no_memory, same_value}
use Rattle.feed_app.proofs.run.act.Goals as goal

pub returns-in-Ok-Some-clause-does : goal.returns-in-Ok-Some-clause-does
returns-in-Ok-Some-clause-does g c =
    let old = input_of g.I.Source c.args.input.now in
    let new = input_of g.I.Source c.act_on.new.input in
    let asked_at = g.C.Clock.answers c.args.clock.now in
    let later = g.C.Clock.answers c.act_on.new.clock in
    let meant : Some (given c.in-Ok-Some.words) ≡ given_in (texts c.args.words.now) = rw c.in-Ok-Some.field-0-is at c.in-Ok-Some.ensures in
    subst (λ (o : Option Given). Does g.B.Blobs (option_and_then of_given o) (over (option_and_then (λ read. read.base) o) c.args.stores old asked_at)
    c.act_on.result.0 (over (option_and_then (λ read. read.base) o) c.act_on.result.1 new later)) meant c.act_on.ensures.does

pub returns-in-Ok-Some-clause-unread : goal.returns-in-Ok-Some-clause-unread
returns-in-Ok-Some-clause-unread g c =
    let meant : Some (given c.in-Ok-Some.words) ≡ given_in (texts c.args.words.now) = rw c.in-Ok-Some.field-0-is at c.in-Ok-Some.ensures in
    subst (λ (o : Option Given). KeepsValue (reach_of g.B.Blobs (option_and_then of_given o)).input c.args.input.now c.act_on.new.input)
    meant c.act_on.ensures.unread

pub returns-in-Ok-Some-clause-unasked : goal.returns-in-Ok-Some-clause-unasked
returns-in-Ok-Some-clause-unasked g c =
    let meant : Some (given c.in-Ok-Some.words) ≡ given_in (texts c.args.words.now) = rw c.in-Ok-Some.field-0-is at c.in-Ok-Some.ensures in
    subst (λ (o : Option Given). KeepsValue (reach_of g.B.Blobs (option_and_then of_given o)).clock c.args.clock.now c.act_on.new.clock)
    meant c.act_on.ensures.unasked

pub returns-in-Err-clause-does : goal.returns-in-Err-clause-does
returns-in-Err-clause-does g c =
    no_memory g.B.Blobs g.met.B.Blobs.now
    (over (base_of (texts c.args.words.now)) c.args.stores (input_of g.I.Source c.args.input.now) (g.C.Clock.answers c.args.clock.now))
    (command_of (texts c.args.words.now))

pub returns-in-Err-clause-unread : goal.returns-in-Err-clause-unread
returns-in-Err-clause-unread g c = same_value (reach_of g.B.Blobs (command_of (texts c.args.words.now))).input c.args.input.now

pub returns-in-Err-clause-unasked : goal.returns-in-Err-clause-unasked
returns-in-Err-clause-unasked g c = same_value (reach_of g.B.Blobs (command_of (texts c.args.words.now))).clock c.args.clock.now
