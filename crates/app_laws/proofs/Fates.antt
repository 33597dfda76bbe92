-- What a run of a command says of a sound hive's store, of its documents and of its cursor.
use Rattle.std.proofs.Common.{◌≡◌, ◌≢◌, ◌⊎◌, ◌≤◌, inl, inr, ℕ, List, length, take, Option, Some, None, sym, ◌∙◌, ap, subst, arith}
use Rattle.std.specs.FinMap.{get}
use Rattle.blob_store.specs.Area.{Area}
use Rattle.blob_store.specs.Moments.{LeavesOnly}
use Rattle.blob_store.specs.Seen.{IsSure}
use Rattle.pkg_meta.specs.Catalog.{Catalog}
use Rattle.cursor_doc.specs.Cursor.{cursor_name}
use Rattle.fold_core.specs.declared.hive.HiveName.{HiveName}
use Rattle.hive_laws.specs.Areas.{SettledArea}
use Rattle.id_pass.specs.declared.error.RoundOut.{RoundOut}
use Rattle.id_pass.specs.declared.error.RoundOut.TheVariants as out
use Rattle.job_round.specs.Answers.{told_number}
use Rattle.job_round.specs.Cursors.{IsCursor}
use Rattle.round_laws.specs.OnAreas.{HoldsArea, IsSoundOrSettled}
use Rattle.round_laws.proofs.Ways.{cursor_is}
use Rattle.admin_wire.specs.Lines.{line_text}
use Rattle.admin_wire.specs.declared.area.AreaName.TheVariants as area
use Rattle.admin_wire.specs.declared.line.Line.TheVariants as line
use Rattle.feed_app.specs.Answers.{answer_status, answer_text}
use Rattle.feed_app.specs.Commands.{Cursor, Get, Job, base_of, command_of}
use Rattle.feed_app.specs.Cursors.{Cursors, TellsCursor}
use Rattle.feed_app.specs.Gets.{OfHive}
use Rattle.feed_app.specs.Hives.{hive_fold, hive_name, hive_stores}
use Rattle.feed_app.specs.Openings.{MayOpen}
use Rattle.feed_app.specs.Outside.{Bounds, Outside, Stream, area_of, held, output_of}
use Rattle.feed_app.specs.Runs.{RunsCommand}
use Rattle.feed_app.specs.Targets.{IsHivePath}
use Rattle.feed_app.specs.Writes.{HasMore}
use Rattle.feed_app.specs.declared.answer.Answer.{Answer}
use Rattle.feed_app.specs.declared.answer.Answer.TheVariants.{Document, Reply}
use Rattle.feed_app.specs.declared.hives.ServedHive.{ServedHive}
use Rattle.feed_app.proofs.Closed.{closed_not}
use Rattle.feed_app.specs.SoundHives.{HoldsHive}
use Rattle.app_laws.specs.Scratch.{IsFromScratchOf, from_scratch}
use Rattle.app_laws.proofs.Documents.{found, missing, of_get, prefix_of, same_store}
use Rattle.app_laws.proofs.JobRounds.{job_ended, job_kept, line_of, made_of_all, unmoved}
use Rattle.app_laws.proofs.Runs.{done, three_of, wrote, zero_of}

-- of status 0 a cursor's number is told
told_cursor : (hive : HiveName) (answer : Answer) (blobs : Area) → TellsCursor hive answer (Some blobs) → answer_status answer ≡ 0
    → (n : ℕ) × (answer ≡ Reply (line.Cursor hive n)) × IsCursor (get blobs cursor_name) n
told_cursor hive (Reply (line.Cursor which n)) blobs is zero = (n, ap (λ (h : HiveName). Reply (line.Cursor h n)) is.0, is.1)
told_cursor hive (Reply (line.Damaged name blob)) blobs is zero = absurd (omega (arith, zero))
told_cursor hive (Reply (line.Fault name)) blobs is zero = absurd (omega (arith, zero))
told_cursor hive (Reply line.Memory) blobs is zero = absurd (omega (arith, zero))
told_cursor hive _ blobs is zero = absurd is

done_line : (hive : HiveName) (told : RoundOut) (n : ℕ) (old new : Stream) → told_number told ≡ n → HasMore (line_text (line_of hive told)) old new
    → HasMore (line_text (line.Done hive n)) old new ⊎ HasMore (line_text (line.Idle hive n)) old new
done_line hive (out.Done k) n old new is more = inl (subst (λ (x : ℕ). HasMore (line_text (line.Done hive x)) old new) is more)
done_line hive (out.Idle k) n old new is more = inr (subst (λ (x : ℕ). HasMore (line_text (line.Idle hive x)) old new) is more)

module _ {B I O C : Type 0} (b : Bounds B I O C) (words : List (List ℕ)) (before after : Outside B I O C) (status : ℕ)
    (run : RunsCommand b words before status after) where
  abbrev More : List ℕ → Type 0
  More text = HasMore text (output_of b.sink before.output) (output_of b.sink after.output)

  written : (answer : Answer) → run.answer ≡ answer → status ≡ 0 → More (answer_text answer)
  written answer is zero = subst (λ (a : Answer). More (answer_text a)) is (wrote run.answer status _ _ run.writes zero)

  module _ (hive : HiveName) (base : List ℕ) (cs : Catalog) (c : ℕ) (holds : HoldsHive b.blobs before.stores hive base cs c) where
    abbrev Old : B
    Old = area_of before.stores (area.Hive hive)

    abbrev New : B
    New = area_of after.stores (area.Hive hive)

    pub job_settled : command_of words ≡ Some (Job hive) → status ≡ 0
        → HoldsArea (b.blobs.seen New) (SettledArea (hive_fold hive base) cs (length cs)) × (More (line_text (line.Done hive (length cs))) ⊎ More (line_text (line.Idle hive (length cs))))
    job_settled asked zero =
        let its = done b words before after status run (Job hive) asked in
        let end = job_ended b.blobs hive (b.blobs.seen before.stores.catalog) (b.blobs.seen after.stores.catalog) (b.blobs.seen Old) (b.blobs.seen New)
        base cs c holds.sound.0 holds.catalog
        holds.sound.1 holds.sound.2 (base_of words) run.answer its.acts (zero_of b words before after status run zero) in (
          end.0,
          done_line hive end.1.0 (length cs) (output_of b.sink before.output) (output_of b.sink after.output) end.1.1
              (written (Reply (line_of hive end.1.0)) end.1.2 zero),
        )

    pub job_documents : command_of words ≡ Some (Job hive) → status ≡ 0 → HoldsArea (b.blobs.seen New) (IsFromScratchOf hive base cs)
    job_documents asked zero = let left = (job_settled asked zero).0 in (left.0, left.1, made_of_all hive base cs left.0 left.2)

    pub job_sound : command_of words ≡ Some (Job hive) → IsSure (b.blobs.seen Old)
        → HoldsArea (b.blobs.seen New) (IsSoundOrSettled (hive_fold hive base) cs c)
        × LeavesOnly (b.blobs.seen Old) (b.blobs.seen New) (IsSoundOrSettled (hive_fold hive base) cs c)
    job_sound asked sure =
        let its = done b words before after status run (Job hive) asked in
        job_kept b.blobs hive (b.blobs.seen before.stores.catalog) (b.blobs.seen after.stores.catalog) (b.blobs.seen Old) (b.blobs.seen New)
        base cs c holds.sound.0 holds.catalog
        holds.sound.1 holds.sound.2 (base_of words) run.answer
        (λ same. unmoved b.blobs Old New holds.sound.0 (IsSoundOrSettled (hive_fold hive base) cs c) sure holds.sound.1 (inl holds.sound.2) same) its.acts

    cursor_answer : Cursors (base_of words) hive run.answer (b.blobs.seen before.stores.catalog) (b.blobs.seen after.stores.catalog) (New ≡ Old) (b.blobs.seen Old) (b.blobs.seen New)
        → answer_status run.answer ≡ 0
        → run.answer ≡ Reply (line.Cursor hive c)
    cursor_answer (inl (closed, same)) zero =
        absurd (closed_not (base_of words) run.answer (b.blobs.seen before.stores.catalog) (b.blobs.seen after.stores.catalog) closed base cs holds.catalog 0 zero
        (λ e. omega (arith, e)) (λ e. omega (arith, e)) (λ e. omega (arith, e)))
    cursor_answer (inr (may, is, calls)) zero =
        let told = told_cursor hive run.answer holds.sound.0 (subst (λ (h : Option Area). TellsCursor hive run.answer h) holds.sound.1 is) zero in
        let sound = holds.sound.2.1 in
        told.1 ∙ ap (λ (n : ℕ). Reply (line.Cursor hive n))
        (cursor_is cs c told.0 (get holds.sound.0 cursor_name) holds.catalog.lawful.lawful sound.sound.cursor sound.area.cursor told.2)

    pub cursor_told : command_of words ≡ Some (Cursor hive) → status ≡ 0 → More (line_text (line.Cursor hive c))
    cursor_told asked zero =
        let its = done b words before after status run (Cursor hive) asked in
        written (Reply (line.Cursor hive c)) (cursor_answer its.acts (zero_of b words before after status run zero)) zero

  module _ (hive : ServedHive) (path name base : List ℕ) (cs : Catalog) (c : ℕ) (asked : command_of words ≡ Some (Get path)) (names : IsHivePath hive path name)
      (holds : HoldsHive b.blobs before.stores (hive_name hive) base cs c) where
    abbrev Blobs : Area
    Blobs = holds.sound.0

    there : held b.blobs (hive_stores before.stores hive) ≡ Some Blobs
    there = ap (held b.blobs) (same_store before.stores hive) ∙ holds.sound.1

    of_it : (n : ℕ) → (n ≢ 3) ⊎ MayOpen (base_of words) (b.blobs.seen before.stores.catalog) → answer_status run.answer ≡ n → (n ≡ 4 → ⊥) → (n ≡ 8 → ⊥)
        → OfHive hive run.answer name (Some Blobs)
    of_it n other own no4 no8 =
        let its = done b words before after status run (Get path) asked in
        subst (λ (h : Option Area). OfHive hive run.answer name h) there
        (of_get b.blobs hive path name names (hive_stores before.stores) (hive_stores after.stores) run.answer (base_of words) (b.blobs.seen before.stores.catalog)
        (b.blobs.seen after.stores.catalog) base cs n holds.catalog its.acts other own no4 no8)

    pub get_found : status ≡ 0 → (k : ℕ) × (bytes : List ℕ) × (c ≤ k) × (k ≤ length cs)
        × (from_scratch (hive_name hive) base (take k cs) name ≡ Some bytes) × More bytes
    get_found zero =
        let is = found hive name Blobs run.answer (of_it 0 (inl (λ e. omega (arith, e))) (zero_of b words before after status run zero) (λ e. omega (arith, e)) (λ e. omega (arith, e)))
        (zero_of b words before after status run zero) in
        let at = prefix_of hive path name base cs c Blobs names holds.sound.2 in
        (at.0, is.0, at.1, at.2, sym at.3 ∙ is.2, written (Document is.0) is.1 zero)

    pub get_missing : MayOpen (base_of words) (b.blobs.seen before.stores.catalog) → status ≡ 3 → (k : ℕ) × (c ≤ k) × (k ≤ length cs) × (from_scratch (hive_name hive) base (take k cs) name ≡ None)
    get_missing may three =
        let own = three_of b words before after status run three in
        let none = missing hive name Blobs run.answer (of_it 3 (inr may) own (λ e. omega (arith, e)) (λ e. omega (arith, e))) own in
        let at = prefix_of hive path name base cs c Blobs names holds.sound.2 in
        (at.0, at.1, at.2, sym at.3 ∙ none)
