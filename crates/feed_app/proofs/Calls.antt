-- What follows from what a call did, whatever its command.
use Rattle.std.proofs.Common.{◌≡◌, ◌⊎◌, ◌<◌, ◌≤◌, ◌≢◌, ◌∙◌, ℕ, List, length, Option, Some, None, IfSome, inl, inr, ⊎_elim, arith, refl, sym, ap, subst}
use Rattle.feed_base.proofs.Options.{at_some}
use Rattle.admin_wire.specs.declared.line.Line.TheVariants as line
use Rattle.admin_wire.specs.declared.area.AreaName.{AreaName}
use Rattle.feed_app.specs.Accepts.{Accepts}
use Rattle.feed_app.specs.Answers.{answer_status}
use Rattle.feed_app.specs.Commands.{Command, Init, Get, Publish, Names, Job, Cursor, base_of, command_of}
use Rattle.feed_app.specs.Does.{Does, meaning, reach_of}
use Rattle.feed_app.specs.Frame.{Explains, HasLost, IsDone, KeepsAreas, Meaning, Touches, most_input, touch_of}
use Rattle.feed_app.specs.Outside.{AreaRose, Bounds, Members, Outside, Rose, Shows, Sight, Stream, area_of, input_of, output_of, sight}
use Rattle.feed_app.specs.Runs.{IsGood, IsQuiet, CanBeDone, IsTouchedBy, Quiet, RunsCommand}
use Rattle.feed_app.specs.Writes.{WritesAnswer}
use Rattle.feed_app.specs.declared.answer.Answer.{Answer}
use Rattle.feed_app.specs.declared.answer.Answer.TheVariants.{Reply, Usage}
use Rattle.feed_app.proofs.CommittedNames.{names_accepts}
use Rattle.feed_app.proofs.Cursors.{cursor_accepts}
use Rattle.feed_app.proofs.Gets.{get_accepts}
use Rattle.feed_app.proofs.Inits.{init_accepts}
use Rattle.feed_app.proofs.Jobs.{job_accepts}
use Rattle.feed_app.proofs.Publishes.{publish_accepts}

-- one line for each command
accepts : {B : Type 0} (m : Members B) (command : Command) → Accepts (meaning m command)
accepts m (Init base) = init_accepts m base
accepts m Publish = publish_accepts m
accepts m (Names kind pairs) = names_accepts m kind pairs
accepts m (Job hive) = job_accepts m hive
accepts m (Cursor hive) = cursor_accepts m hive
accepts m (Get path) = get_accepts m path

-- a status that isn't 5 or 8 is the answer's
own_status : (answer : Answer) (status : ℕ) (old new : Stream) → WritesAnswer answer status old new → status ≢ 5 → status ≢ 8 → answer_status answer ≡ status
own_status answer status old new (inl all) no5 no8 = sym all.number
own_status answer status old new (inr (inl none)) no5 no8 = absurd (no8 none.number)
own_status answer status old new (inr (inr prefix)) no5 no8 = absurd (no5 prefix.number)

-- the kind of an answer by its status
is_usage : (answer : Answer) → answer_status answer ≡ 2 → answer ≡ Usage
is_usage Usage is = refl
is_usage (Reply line.Memory) is = absurd (omega (arith, is))
is_usage _ is = absurd (omega (arith, is))

is_fault : (answer : Answer) → answer_status answer ≡ 4 → (name : AreaName) × (answer ≡ Reply (line.Fault name))
is_fault (Reply (line.Fault name)) is = (name, refl)
is_fault _ is = absurd (omega (arith, is))

is_input_fault : (answer : Answer) → answer_status answer ≡ 5 → answer ≡ Reply line.FaultInput
is_input_fault (Reply line.FaultInput) is = refl
is_input_fault _ is = absurd (omega (arith, is))

is_damage : (answer : Answer) → answer_status answer ≡ 6 → (name : AreaName) × (blob : List ℕ) × (answer ≡ Reply (line.Damaged name blob))
is_damage (Reply (line.Damaged name blob)) is = (name, blob, refl)
is_damage _ is = absurd (omega (arith, is))

is_long : (answer : Answer) → answer_status answer ≡ 7 → answer ≡ Reply line.TooLong
is_long (Reply line.TooLong) is = refl
is_long _ is = absurd (omega (arith, is))

module _ {B : Type 0} (m : Members B) (before after : Sight B) where
  abbrev ByCommand : Option Command → Answer → Type 0
  ByCommand asked answer = (command : Command) × (asked ≡ Some command) × Explains m (meaning m command).reach before answer after

  -- an answer but Usage is one of a command
  by_command : (asked : Option Command) (answer : Answer) → Does m asked before answer after → answer_status answer ≢ 2 → answer_status answer ≢ 8 → ByCommand asked answer
  by_command None answer (inl usage, same) other no8 = absurd (other (ap answer_status usage))
  by_command None answer (inr memory, same) other no8 = absurd (no8 (ap answer_status memory))
  by_command (Some command) answer does other no8 = (command, refl, does.explains)

  usage_does : (asked : Option Command) → Does m asked before Usage after → asked ≡ None
  usage_does None does = refl
  usage_does (Some command) does = absurd does.explains

  -- an input that is too long doesn't fit
  not_long : Shows before.input.told (λ body. length body ≤ most_input) → IfSome before.input.told (λ body. most_input < length body) → ⊥
  not_long fits long = let more : most_input < length fits.0 = at_some before.input.told (λ body. most_input < length body) fits.0 fits.1 long in
      omega (arith, more, fits.2)

  -- a command that is ready, where no area and no input failed
  good : (meant : Meaning B) (answer : Answer) → Accepts meant → meant.ready before
      → ((name : AreaName) → Touches (touch_of meant.reach name) → AreaRose m (area_of before.stores name) (area_of after.stores name) → ⊥)
      → (Touches meant.reach.input → Rose before.input after.input → ⊥) → IsDone m meant before answer after → IsGood (answer_status answer)
  good meant Usage able ready still steady done = absurd done.explains
  good meant (Reply (line.Refused why)) able ready still steady done = absurd (able.refused before after (Reply (line.Refused why)) ready done.acts refl)
  good meant (Reply (line.Differs hive name)) able ready still steady done =
      absurd (able.refused before after (Reply (line.Differs hive name)) ready done.acts refl)
  good meant (Reply (line.Fault name)) able ready still steady done = absurd (still name done.explains.0 done.explains.1)
  good meant (Reply line.FaultInput) able ready still steady done = absurd (steady done.explains.0 done.explains.1)
  good meant (Reply (line.Damaged name blob)) able ready still steady done =
      absurd (able.sound before after (Reply (line.Damaged name blob)) ready done.acts refl)
  good meant (Reply line.TooLong) able ready still steady done = absurd (not_long (able.fits before ready done.explains.0) done.explains.1)
  good meant (Reply line.Memory) able ready still steady done = inr refl
  good meant _ able ready still steady done = inl refl

module _ {B I O C : Type 0} (b : Bounds B I O C) (words : List (List ℕ)) (before after : Outside B I O C) (status : ℕ)
    (run : RunsCommand b words before status after) where
  its_status : status ≢ 5 → status ≢ 8 → answer_status run.answer ≡ status
  its_status no5 no8 = own_status run.answer status (output_of b.sink before.output) (output_of b.sink after.output) run.writes no5 no8

  pub zero_answer : status ≡ 0 → answer_status run.answer ≡ 0
  zero_answer is = its_status (λ e. omega (arith, is, e)) (λ e. omega (arith, is, e)) ∙ is

  its_cause : answer_status run.answer ≢ 2 → answer_status run.answer ≢ 8 → ByCommand b.blobs (sight b (base_of words) before) (sight b (base_of words) after) (command_of words) run.answer
  its_cause other no8 = by_command b.blobs (sight b (base_of words) before) (sight b (base_of words) after) (command_of words) run.answer run.does other no8

  pub usage_only : status ≡ 2 → command_of words ≡ None
  usage_only is =
      usage_does b.blobs (sight b (base_of words) before) (sight b (base_of words) after) (command_of words)
      (subst (λ (a : Answer). Does b.blobs (command_of words) (sight b (base_of words) before) a (sight b (base_of words) after))
      (is_usage run.answer (its_status (λ e. omega (arith, is, e)) (λ e. omega (arith, is, e)) ∙ is)) run.does)

  nothing_done : command_of words ≡ None → ((run.answer ≡ Usage) ⊎ (run.answer ≡ Reply line.Memory)) × (sight b (base_of words) after ≡ sight b (base_of words) before)
  nothing_done none = subst (λ (o : Option Command). Does b.blobs o (sight b (base_of words) before) run.answer (sight b (base_of words) after)) none run.does

  pub untouched : command_of words ≡ None → after.stores ≡ before.stores
  untouched none = ap (λ (s : Sight B). s.stores) (nothing_done none).1

  pub usage_always : command_of words ≡ None → (status ≡ 2) ⊎ ((status ≡ 5) ⊎ (status ≡ 8))
  usage_always none = ⊎_elim
      (λ all. ⊎_elim (λ usage. inl (all.number ∙ ap answer_status usage)) (λ memory. inr (inr (all.number ∙ ap answer_status memory))) (nothing_done none).0)
      (λ other. inr (⊎_elim (λ memory. inr memory.number) (λ prefix. inl prefix.number) other)) run.writes

  pub refused : status ≡ 3 → (command : Command) × (command_of words ≡ Some command)
  refused is =
      let kind : answer_status run.answer ≡ 3 = its_status (λ e. omega (arith, is, e)) (λ e. omega (arith, is, e)) ∙ is in
      let cause = its_cause (λ e. omega (arith, kind, e)) (λ e. omega (arith, kind, e)) in
      (cause.0, cause.1)

  pub store_fault : status ≡ 4 → (name : AreaName) × IsTouchedBy b.blobs words name × AreaRose b.blobs (area_of before.stores name) (area_of after.stores name)
  store_fault is =
      let kind : answer_status run.answer ≡ 4 = its_status (λ e. omega (arith, is, e)) (λ e. omega (arith, is, e)) ∙ is in
      let cause = its_cause (λ e. omega (arith, kind, e)) (λ e. omega (arith, kind, e)) in
      let fault = is_fault run.answer kind in
      let why = subst (λ (a : Answer). Explains b.blobs (meaning b.blobs cause.0).reach (sight b (base_of words) before) a (sight b (base_of words) after)) fault.1 cause.2 in
      (fault.0, (cause.0, cause.1, why.0), why.1)

  pub stream_fault : status ≡ 5 → Rose (input_of b.source before.input) (input_of b.source after.input)
      ⊎ Rose (output_of b.sink before.output) (output_of b.sink after.output)
  stream_fault is = ⊎_elim
      (λ all.
      let kind : answer_status run.answer ≡ 5 = sym all.number ∙ is in
      let cause = its_cause (λ e. omega (arith, kind, e)) (λ e. omega (arith, kind, e)) in
      let why = subst (λ (a : Answer). Explains b.blobs (meaning b.blobs cause.0).reach (sight b (base_of words) before) a (sight b (base_of words) after))
      (is_input_fault run.answer kind) cause.2 in
      inl why.1)
      (λ other. ⊎_elim (λ memory. absurd (omega (arith, is, memory.number))) (λ prefix. inr prefix.rose) other) run.writes

  pub damaged : status ≡ 6 → (command : Command) × (command_of words ≡ Some command) × HasLost b.blobs (meaning b.blobs command).reach before.stores after.stores
  damaged is =
      let kind : answer_status run.answer ≡ 6 = its_status (λ e. omega (arith, is, e)) (λ e. omega (arith, is, e)) ∙ is in
      let cause = its_cause (λ e. omega (arith, kind, e)) (λ e. omega (arith, kind, e)) in
      let lost = is_damage run.answer kind in
      let why = subst (λ (a : Answer). Explains b.blobs (meaning b.blobs cause.0).reach (sight b (base_of words) before) a (sight b (base_of words) after)) lost.2 cause.2 in
      (cause.0, cause.1, (lost.0, lost.1, why.0, why.1))

  pub too_long : status ≡ 7 → (command : Command) × (command_of words ≡ Some command) × Touches (meaning b.blobs command).reach.input
      × IfSome (b.source.left before.input) (λ body. most_input < length body)
  too_long is =
      let kind : answer_status run.answer ≡ 7 = its_status (λ e. omega (arith, is, e)) (λ e. omega (arith, is, e)) ∙ is in
      let cause = its_cause (λ e. omega (arith, kind, e)) (λ e. omega (arith, kind, e)) in
      let why = subst (λ (a : Answer). Explains b.blobs (meaning b.blobs cause.0).reach (sight b (base_of words) before) a (sight b (base_of words) after)) (is_long run.answer kind) cause.2 in
      (cause.0, cause.1, why.0, why.1)

  pub done : (command : Command) → command_of words ≡ Some command → IsDone b.blobs (meaning b.blobs command) (sight b (base_of words) before) run.answer (sight b (base_of words) after)
  done command is = subst (λ (o : Option Command). Does b.blobs o (sight b (base_of words) before) run.answer (sight b (base_of words) after)) is run.does

  pub keeps : (command : Command) → command_of words ≡ Some command → KeepsAreas b.blobs (meaning b.blobs command).reach before.stores after.stores
  keeps command is = (done command is).keeps

  pub complete : CanBeDone b words before → IsQuiet b words before after → IsGood status
  complete ready quiet =
      let calm = subst (λ (o : Option Command). Quiet b (reach_of b.blobs o) before after) ready.1 quiet in
      let well : IsGood (answer_status run.answer) =
      good b.blobs (sight b (base_of words) before) (sight b (base_of words) after) (meaning b.blobs ready.0) run.answer (accepts b.blobs ready.0) ready.2 calm.areas calm.input
      (done ready.0 ready.1) in
      ⊎_elim (λ all. ⊎_elim (λ zero. inl (all.number ∙ zero)) (λ eight. inr (all.number ∙ eight)) well)
      (λ other. ⊎_elim (λ memory. inr memory.number) (λ prefix. absurd (quiet.output prefix.rose)) other) run.writes
