-- What follows for `job`.
use Rattle.std.proofs.Common.{◌≡◌, ◌⊎◌, ℕ, List, Ok, Err, Option, Result, IfErr, IsErrOf, inl, inr, ⊎_elim, refl, sym, ap, subst, arith}
use Rattle.feed_base.specs.Counts.{CountsFault, HasRisen, raised}
use Rattle.blob_store.specs.Area.{Area}
use Rattle.blob_store.specs.Seen.{Seen}
use Rattle.pkg_meta.specs.Catalog.{Catalog}
use Rattle.catalog_items.proofs.Getting.{counts_as}
use Rattle.catalog_core.specs.Framing.{StaysOpen}
use Rattle.catalog_core.specs.Opened.{Opened}
use Rattle.catalog_core.specs.declared.stores.Stores.{Stores}
use Rattle.fold_core.specs.declared.hive.HiveName.{HiveName}
use Rattle.fold_core.specs.declared.hive.HiveName.TheVariants.{Plain, SemVer2, Content, Auto}
use Rattle.id_pass.specs.declared.error.RoundErr.{RoundErr}
use Rattle.id_pass.specs.declared.error.RoundErr.TheVariants as stop
use Rattle.id_pass.specs.declared.error.RoundOut.{RoundOut}
use Rattle.id_pass.specs.declared.error.RoundOut.TheVariants as out
use Rattle.job_round.specs.Answers.{IfDamagedText, in_catalog, in_hive}
use Rattle.round_laws.specs.OnAreas.{RoundOver}
use Rattle.round_laws.proofs.Wholeness.{none_damaged}
use Rattle.admin_wire.specs.declared.line.Line.TheVariants as line
use Rattle.admin_wire.specs.declared.area.AreaName.{AreaName}
use Rattle.admin_wire.specs.declared.area.AreaName.TheVariants as area
use Rattle.feed_app.specs.Accepts.{Accepts}
use Rattle.feed_app.specs.Answers.{answer_status}
use Rattle.feed_app.specs.Causes.{AnswersDamage, AnswersRound, AnswersStop}
use Rattle.feed_app.specs.Damages.{IsLostOfHive, IsUnread}
use Rattle.feed_app.specs.Frame.{Explains, IsDone, KeepsAreas, Touches}
use Rattle.feed_app.specs.Hives.{hive_fold, keeps_in, makes_in}
use Rattle.feed_app.specs.Jobs.{RoundTold, Jobs, MadeOver, job_meaning, job_reach}
use Rattle.feed_app.specs.Openings.{MayOpen}
use Rattle.feed_app.specs.Outside.{AreaRose, Members, Sight, area_of, held}
use Rattle.feed_app.specs.SoundHives.{HoldsHive}
use Rattle.feed_app.specs.Spelled.{IsSpelled}
use Rattle.feed_app.specs.declared.answer.Answer.{Answer}
use Rattle.feed_app.specs.declared.answer.Answer.TheVariants.{Reply}
use Rattle.feed_app.proofs.Closed.{closed_explains, closed_not, closed_store}
use Rattle.feed_app.proofs.HiveLaws.{laws_of, staged_in}
use Rattle.feed_app.proofs.OneHive.{job_changes, job_touches}

-- what a round's result is told as
module _ (hive : HiveName) (Made : Result RoundOut RoundErr → Type 0) (Unread Lost : List ℕ → Type 0) where
  abbrev AnswersSo : Answer → Type 0
  AnswersSo answer = RoundTold Made Unread Lost hive answer

  -- why a text is told as damaged
  abbrev Why : List ℕ → Type 0
  Why text = ((name : List ℕ) × (text ≡ in_catalog name) × Unread name) ⊎ ((other : HiveName) × (name : List ℕ) × (text ≡ in_hive other name) × Lost name)

  memory : (text : List ℕ) (answer : Answer) → Made (Err (stop.Damaged text)) → answer ≡ Reply line.Memory → AnswersSo answer
  memory text answer made is = subst AnswersSo (sym is) (inr (text, made))

  of_text : (text other : List ℕ) → text ≡ other → Made (Err (stop.Damaged text)) → Made (Err (stop.Damaged other))
  of_text text other is made = subst (λ (t : List ℕ). Made (Err (stop.Damaged t))) is made

  stop_answers : (e : RoundErr) (answer : Answer) → AnswersStop hive e answer → Made (Err e) → IfDamagedText e Why → AnswersSo answer
  stop_answers stop.CatalogFault answer is made why = subst AnswersSo (sym is) made
  stop_answers stop.HiveFault answer is made why = subst AnswersSo (sym is) (refl, made)
  stop_answers (stop.Damaged text) answer is made (inl (name, spelled, unread)) =
      ⊎_elim (λ e. subst AnswersSo (sym e) (unread, of_text text (in_catalog name) spelled made)) (memory text answer made) (is.of_catalog name spelled)
  stop_answers (stop.Damaged text) answer is made (inr (other, name, spelled, lost)) =
      ⊎_elim (λ e. subst AnswersSo (sym e) (refl, lost, (other, of_text text (in_hive other name) spelled made))) (memory text answer made)
      (is.of_hive other name spelled)
  stop_answers stop.Memory answer is made why = subst AnswersSo (sym is) (inl made)

  pub round_answers : (r : Result RoundOut RoundErr) (answer : Answer) → AnswersRound hive r answer → Made r → IfErr r (λ e. IfDamagedText e Why) → AnswersSo answer
  round_answers (Ok (out.Done n)) answer is made why = subst AnswersSo (sym is) (refl, made)
  round_answers (Ok (out.Idle n)) answer is made why = subst AnswersSo (sym is) (refl, made)
  round_answers (Err e) answer is made why = stop_answers e answer is made why

-- a fault that is told
module _ (hive : HiveName) where
  not_damage : {X : Type 0} (answer : Answer) (name other : AreaName) (blob : List ℕ) → AnswersDamage name blob answer → answer ≡ Reply (line.Fault other) → X
  not_damage answer name other blob (inl e) is = cc (e, is)
  not_damage answer name other blob (inr e) is = cc (e, is)

  pub stop_of_hive : (e : RoundErr) (answer : Answer) → AnswersStop hive e answer → answer ≡ Reply (line.Fault (area.Hive hive)) → e ≡ stop.HiveFault
  stop_of_hive stop.CatalogFault answer told is = cc (told, is)
  stop_of_hive stop.HiveFault answer told is = refl
  stop_of_hive (stop.Damaged text) answer told is = not_damage answer told.one.0 (area.Hive hive) told.one.1 told.one.2 is
  stop_of_hive stop.Memory answer told is = cc (told, is)

  stop_of_catalog : (e : RoundErr) (answer : Answer) → AnswersStop hive e answer → answer ≡ Reply (line.Fault area.Catalog) → e ≡ stop.CatalogFault
  stop_of_catalog stop.CatalogFault answer told is = refl
  stop_of_catalog stop.HiveFault answer told is = cc (told, is)
  stop_of_catalog (stop.Damaged text) answer told is = not_damage answer told.one.0 area.Catalog told.one.1 told.one.2 is
  stop_of_catalog stop.Memory answer told is = cc (told, is)

  pub of_hive : (r : Result RoundOut RoundErr) (answer : Answer) → AnswersRound hive r answer → answer ≡ Reply (line.Fault (area.Hive hive)) → IsErrOf r stop.HiveFault
  of_hive (Ok (out.Done n)) answer told is = cc (told, is)
  of_hive (Ok (out.Idle n)) answer told is = cc (told, is)
  of_hive (Err e) answer told is = ap Err (stop_of_hive e answer told is)

  pub of_catalog : (r : Result RoundOut RoundErr) (answer : Answer) → AnswersRound hive r answer → answer ≡ Reply (line.Fault area.Catalog)
      → IsErrOf r stop.CatalogFault
  of_catalog (Ok (out.Done n)) answer told is = cc (told, is)
  of_catalog (Ok (out.Idle n)) answer told is = cc (told, is)
  of_catalog (Err e) answer told is = ap Err (stop_of_catalog e answer told is)

  pub told_of_catalog : (r : Result RoundOut RoundErr) (answer : Answer) → AnswersRound hive r answer → IsErrOf r stop.CatalogFault
      → answer ≡ Reply (line.Fault area.Catalog)
  told_of_catalog r answer told is = subst (λ (x : Result RoundOut RoundErr). AnswersRound hive x answer) is told

-- a count rose where a call failed
pub rose_by : (old new : ℕ) (F : Type 0) → CountsFault old new F → F → HasRisen old new
rose_by old new F counts failed = let is : new ≡ raised old = counts.risen failed in omega (arith, is)

-- a failure that is told otherwise
pub stays_as : {B : Type 0} (o n : Opened B) (a b : Seen) (F G : Type 0) → StaysOpen o n a b F → (F → G) → (G → F) → StaysOpen o n a b G
stays_as o n a b F G stays to back = record {
  mends = record { counts = counts_as a.faults b.faults F G stays.mends.counts to back; area = stays.mends.area };
  base = stays.base;
  settled = stays.settled;
  kept = stays.kept;
  open_for = stays.open_for;
}

-- what a job of an open catalog answered, behind its opening
module _ (hive : HiveName) (Made As : Result RoundOut RoundErr → Type 0) (Unread Lost Absent Gone : List ℕ → Type 0)
    (to : (r : Result RoundOut RoundErr) → Made r → As r) (absent : (name : List ℕ) → Unread name → Absent name)
    (gone : (name : List ℕ) → Lost name → Gone name) where
  pub answers_as : (answer : Answer) → RoundTold Made Unread Lost hive answer → RoundTold As Absent Gone hive answer
  answers_as (Reply (line.Done which n)) is = (is.0, to (Ok (out.Done n)) is.1)
  answers_as (Reply (line.Idle which n)) is = (is.0, to (Ok (out.Idle n)) is.1)
  answers_as (Reply (line.Fault area.Catalog)) is = to (Err stop.CatalogFault) is
  answers_as (Reply (line.Fault (area.Hive which))) is = (is.0, to (Err stop.HiveFault) is.1)
  answers_as (Reply (line.Damaged area.Catalog name)) is = (absent name is.0, to (Err (stop.Damaged (in_catalog name))) is.1)
  answers_as (Reply (line.Damaged (area.Hive which) name)) is = (is.0, gone name is.1, (is.2.0, to (Err (stop.Damaged (in_hive is.2.0 name))) is.2.1))
  answers_as (Reply line.Memory) (inl made) = inl (to (Err stop.Memory) made)
  answers_as (Reply line.Memory) (inr (text, made)) = inr (text, to (Err (stop.Damaged text)) made)
  answers_as _ is = absurd is

module _ {B : Type 0} (m : Members B) (hive : HiveName) (before after : Sight B) where
  abbrev Explained : Answer → Type 0
  Explained answer = Explains m (job_reach hive) before answer after

  abbrev Told : Seen
  Told = m.seen before.stores.catalog

  abbrev Kept : Option Area
  Kept = held m (area_of after.stores (area.Hive hive))

  abbrev CatalogCause : Answer → Type 0
  CatalogCause answer = answer ≡ Reply (line.Fault area.Catalog) → AreaRose m before.stores.catalog after.stores.catalog

  abbrev HiveCause : Answer → Type 0
  HiveCause answer = answer ≡ Reply (line.Fault (area.Hive hive)) → AreaRose m (area_of before.stores (area.Hive hive)) (area_of after.stores (area.Hive hive))

  round_explains : (Made : Result RoundOut RoundErr → Type 0) (answer : Answer) → CatalogCause answer → HiveCause answer
      → RoundTold Made (IsUnread Told.held) (IsLostOfHive (IsSpelled Told) Kept) hive answer → Explained answer
  round_explains Made (Reply (line.Done which n)) rose other is = tt
  round_explains Made (Reply (line.Idle which n)) rose other is = tt
  round_explains Made (Reply (line.Fault area.Catalog)) rose other is = ((job_touches hive).0, rose refl)
  round_explains Made (Reply (line.Fault (area.Hive which))) rose other is =
      subst (λ (h : HiveName). Explained (Reply (line.Fault (area.Hive h)))) (sym is.0)
      ((job_touches hive).1, other (ap (λ (h : HiveName). Reply (line.Fault (area.Hive h))) is.0))
  round_explains Made (Reply (line.Damaged area.Catalog name)) rose other is = ((job_touches hive).0, inr (job_changes hive, is.0))
  round_explains Made (Reply (line.Damaged (area.Hive which) name)) rose other is =
      subst (λ (h : HiveName). Explained (Reply (line.Damaged (area.Hive h) name))) (sym is.0) ((job_touches hive).1, is.1)
  round_explains Made (Reply line.Memory) rose other is = tt
  round_explains Made _ rose other is = absurd is

  explains : (given : Option (List ℕ)) (now : Seen) (answer : Answer) (untouched : Type 0) (old : Seen) → CatalogCause answer → HiveCause answer
      → Jobs m given hive answer Told now untouched old (m.seen (area_of after.stores (area.Hive hive))) → Explained answer
  explains given now answer untouched old rose other (inl (closed, same)) =
      closed_explains m (job_reach hive) before after given now answer (job_touches hive).0 rose closed
  explains given now answer untouched old rose other (inr (may, is)) =
      round_explains (MadeOver m hive Told now old (m.seen (area_of after.stores (area.Hive hive)))) answer rose other is

  -- the job of a hive was done
  pub job_done : (answer : Answer) → KeepsAreas m (job_reach hive) before.stores after.stores → CatalogCause answer → HiveCause answer
      → (job_meaning m hive).acts before answer after → IsDone m (job_meaning m hive) before answer after
  job_done answer keeps rose other is = record { keeps = keeps; explains = explains before.given (m.seen after.stores.catalog) answer _ _ rose other is; acts = is }

-- a job over a sound hive
module _ {B : Type 0} (m : Members B) (hive : HiveName) (stores : Stores B) (base : List ℕ) (cs : Catalog) (c : ℕ)
    (holds : HoldsHive m stores hive base cs c) where
  abbrev Before : Seen
  Before = m.seen stores.catalog

  abbrev Old : Seen
  Old = m.seen (area_of stores (area.Hive hive))

  -- tells no blob as damaged
  none_told : (later new : Seen) (text : List ℕ) → MadeOver m hive Before later Old new (Err (stop.Damaged text)) → ⊥
  none_told later new text over =
      let at = over.spelled base cs holds.catalog in
      none_damaged (keeps_in hive) (makes_in hive) base (staged_in hive) over.opened over.left (m.seen over.opened.area) later Old new cs c
      holds.sound.0 (laws_of hive base cs holds.catalog.lawful.lawful)
      (record { meant = at.1; catalog = holds.catalog.lawful; held = holds.sound.1; sound = holds.sound.2 }) text
      (subst (λ (b : List ℕ). RoundOver (hive_fold hive b) over.opened over.left (m.seen over.opened.area) later Old new (Err (stop.Damaged text))) at.0
      over.made.round)

  round_refused : (later new : Seen) (Unread Lost : List ℕ → Type 0) (answer : Answer)
      → RoundTold (MadeOver m hive Before later Old new) Unread Lost hive answer
      → answer_status answer ≡ 3 → ⊥
  round_refused later new Unread Lost (Reply (line.Done which n)) is three = omega (arith, three)
  round_refused later new Unread Lost (Reply (line.Idle which n)) is three = omega (arith, three)
  round_refused later new Unread Lost (Reply (line.Fault name)) is three = omega (arith, three)
  round_refused later new Unread Lost (Reply (line.Damaged name blob)) is three = omega (arith, three)
  round_refused later new Unread Lost (Reply line.Memory) is three = omega (arith, three)
  round_refused later new Unread Lost _ is three = is

  round_whole : (later new : Seen) (Unread Lost : List ℕ → Type 0) (answer : Answer)
      → RoundTold (MadeOver m hive Before later Old new) Unread Lost hive answer
      → answer_status answer ≡ 6 → ⊥
  round_whole later new Unread Lost (Reply (line.Damaged area.Catalog name)) is six = none_told later new (in_catalog name) is.1
  round_whole later new Unread Lost (Reply (line.Damaged (area.Hive which) name)) is six = none_told later new (in_hive is.2.0 name) is.2.1
  round_whole later new Unread Lost (Reply (line.Done which n)) is six = omega (arith, six)
  round_whole later new Unread Lost (Reply (line.Idle which n)) is six = omega (arith, six)
  round_whole later new Unread Lost (Reply (line.Fault name)) is six = omega (arith, six)
  round_whole later new Unread Lost (Reply line.Memory) is six = omega (arith, six)
  round_whole later new Unread Lost _ is six = is

  never_refused : {Same : Type 0} (given : Option (List ℕ)) (later new : Seen) (answer : Answer) → MayOpen given Before
      → Jobs m given hive answer Before later Same Old new → answer_status answer ≡ 3 → ⊥
  never_refused given later new answer may (inl (closed, same)) three =
      closed_store given answer Before later closed base cs holds.catalog may 3 three (λ e. omega (arith, e)) (λ e. omega (arith, e))
  never_refused given later new answer may (inr (allowed, told)) three =
      round_refused later new (IsUnread Before.held) (IsLostOfHive (IsSpelled Before) new.held) answer told three

  never_damaged : {Same : Type 0} (given : Option (List ℕ)) (later new : Seen) (answer : Answer) → Jobs m given hive answer Before later Same Old new
      → answer_status answer ≡ 6 → ⊥
  never_damaged given later new answer (inl (closed, same)) six =
      closed_not given answer Before later closed base cs holds.catalog 6 six (λ e. omega (arith, e)) (λ e. omega (arith, e)) (λ e. omega (arith, e))
  never_damaged given later new answer (inr (allowed, told)) six =
      round_whole later new (IsUnread Before.held) (IsLostOfHive (IsSpelled Before) new.held) answer told six

reads_none : (hive : HiveName) → Touches (job_reach hive).input → ⊥
reads_none Plain touched = touched
reads_none SemVer2 touched = touched
reads_none Content touched = touched
reads_none Auto touched = touched

pub job_accepts : {B : Type 0} (m : Members B) (hive : HiveName) → Accepts (job_meaning m hive)
job_accepts m hive = record {
  refused = λ before after answer ready acts three.
      let (may, (base, cs, c, holds)) = ready in
      never_refused m hive before.stores base cs c holds before.given (m.seen after.stores.catalog) (m.seen (area_of after.stores (area.Hive hive))) answer
      may acts three;
  sound = λ before after answer ready acts six.
      let (may, (base, cs, c, holds)) = ready in
      never_damaged m hive before.stores base cs c holds before.given (m.seen after.stores.catalog) (m.seen (area_of after.stores (area.Hive hive))) answer
      acts six;
  fits = λ before ready touched. absurd (reads_none hive touched);
}
