-- Calls that were made as an answer tells, and those behind an opening.
use Rattle.std.proofs.Common.{◌≡◌, ◌⊎◌, ◌∷◌, [], ℕ, List, Option, None, Some, Bool, true, Err, Result, inl, inr, ⊎_elim, refl, sym, ap, ◌∙◌, subst}
use Rattle.std.specs.FinMap.{get}
use Rattle.std.specs.Option.{is_some}
use Rattle.blob_store.specs.Area.{Area}
use Rattle.blob_store.specs.Events.{Act, Get}
use Rattle.blob_store.specs.Plans.{Makes, MakesSome, StopsAt, all_done}
use Rattle.blob_store.specs.Seen.{IsSure, Seen}
use Rattle.blob_store.specs.declared.error.BlobErr.TheVariants as blob
use Rattle.blob_store.proofs.Compose.{compose}
use Rattle.blob_store.proofs.OneCall.{none}
use Rattle.pkg_meta.specs.Catalog.{Catalog}
use Rattle.catalog_doc.specs.CatDocs.{doc_at}
use Rattle.catalog_core.specs.Framing.{RunsDoc, doc_gets}
use Rattle.catalog_core.specs.Opened.{IsOpenFor, IsReady, IsUnsettled, Opened}
use Rattle.catalog_items.specs.Reads.{IsAbsent}
use Rattle.catalog_opening.specs.Errors.{IfDamagedBy}
use Rattle.catalog_opening.specs.Openings.{IsMended}
use Rattle.catalog_opening.specs.Plans.{RunsReading}
use Rattle.catalog_opening.specs.declared.error.ReadErr.{ReadErr}
use Rattle.catalog_opening.specs.declared.error.ReadErr.TheVariants as reading
use Rattle.admin_wire.specs.declared.area.AreaName.{AreaName}
use Rattle.admin_wire.specs.declared.area.AreaName.TheVariants as area
use Rattle.admin_wire.specs.declared.line.Line.TheVariants as line
use Rattle.cursor_doc.specs.Cursor.{cursor_name}
use Rattle.fold_core.specs.declared.hive.HiveName.{HiveName}
use Rattle.id_pass.specs.declared.error.RoundErr.{RoundErr}
use Rattle.id_pass.specs.declared.error.RoundErr.TheVariants as stop
use Rattle.job_round.specs.Answers.{IfDamagedText, IsNoNumber}
use Rattle.job_round.specs.Rounds.{EndsAt}
use Rattle.feed_app.specs.Calls.{ForOpenings, GoesAsTold, RunsBehind}
use Rattle.feed_app.specs.Causes.{AnswersStop, IfCatalogDamaged, read_answer}
use Rattle.feed_app.specs.Gets.{GetCalls, OfHive}
use Rattle.feed_app.specs.Outside.{Members}
use Rattle.feed_app.specs.Spelled.{IsOpenOver}
use Rattle.feed_app.specs.Targets.{IsCatalogPath, IsHivePath}
use Rattle.feed_app.specs.declared.hives.ServedHive.{ServedHive}
use Rattle.feed_app.specs.declared.answer.Answer.{Answer}
use Rattle.feed_app.specs.declared.answer.Answer.TheVariants.{Reply}
use Rattle.feed_app.proofs.Holding.{told_after}

module _ (plan : List Act) (a b : Seen) where
  pub made_all : (answer : Answer) → GoesAsTold plan answer (all_done plan) → Makes plan a b → RunsBehind [] plan answer a b
  made_all answer told made = record { events = all_done plan; told = told; made = made }

  pub failed_at : (name : AreaName) → StopsAt plan blob.Failed a b → RunsBehind [] plan (Reply (line.Fault name)) a b
  failed_at name (events, ends, made) = record { events = events; told = ends; made = made }

  pub short_at : StopsAt plan blob.Memory a b → RunsBehind [] plan (Reply line.Memory) a b
  short_at (events, ends, made) = record { events = events; told = inl ends; made = made }

  pub short_between : MakesSome plan a b → RunsBehind [] plan (Reply line.Memory) a b
  short_between (first, unmade, planned, made) = record { events = all_done first; told = inr (first, unmade, planned, refl); made = made }

  pub damaged_at : (name : AreaName) (lost : List ℕ) → MakesSome plan a b → RunsBehind [] plan (Reply (line.Damaged name lost)) a b
  damaged_at name lost (first, unmade, planned, made) = record { events = all_done first; told = (first, unmade, planned, refl); made = made }

  -- a read of the catalog that told an error
  pub read_told : {A : Type 0} (error : ReadErr) (r : Result A ReadErr) → r ≡ Err error → RunsReading plan a b r → RunsBehind [] plan (read_answer error) a b
  read_told {A} error r is runs = by_error error (subst (λ (x : Result _ ReadErr). RunsReading plan a b x) is runs)
    where
      by_error : (e : ReadErr) → RunsReading {A = A} plan a b (Err e) → RunsBehind [] plan (read_answer e) a b
      by_error reading.Fault stops = failed_at _ stops
      by_error (reading.Damaged name) some = damaged_at _ name some
      by_error reading.Memory (inl stops) = short_at stops
      by_error reading.Memory (inr some) = short_between some

-- memory ran out before the first of them
pub short_before : (plan : List Act) (a : Seen) → IsSure a → RunsBehind [] plan (Reply line.Memory) a a
short_before plan a sure = record { events = []; told = inr ([], plan, refl, refl); made = none a sure }

-- behind calls that were made
pub then_behind : (first plan : List Act) (answer : Answer) (a b c : Seen) → Makes first a b → RunsBehind [] plan answer b c → RunsBehind first plan answer a c
then_behind first plan answer a b c made runs = record {
  events = runs.events;
  told = runs.told;
  made = compose (all_done first) runs.events a b c made runs.made;
}

-- a read of the catalog's document
pub doc_told : {A B : Type 0} (o : Opened B) (name : List ℕ) (a b : Seen) (cs : Catalog) (answer : Answer) (r : Result A ReadErr) → RunsDoc o name a b r
    → IsOpenFor o a cs → ((plan : List Act) → RunsReading plan a b r → RunsBehind [] plan answer a b)
    → RunsBehind [] (doc_gets (is_some (doc_at o.base cs name)) name) answer a b
doc_told o name a b cs answer r runs open_for to =
    subst (λ (there : Bool). RunsBehind [] (doc_gets there name) answer a b) (sym (runs.1 cs open_for)) (to (doc_gets runs.0 name) runs.2)

-- a blob that a settled catalog's read of a document tells as damaged isn't held
pub absent_told : {B : Type 0} (o : Opened B) (name : List ℕ) (m later : Area) (error : ReadErr) → o.settled ≡ true
    → IfDamagedBy error (λ blob. IsUnsettled m o blob ⊎ IsAbsent name later blob) → IfCatalogDamaged (read_answer error) (λ blob. get later blob ≡ None)
absent_told o name m later (reading.Damaged blob) settled (inl unsettled) = let no : ⊥ = cc (settled, unsettled.0) in absurd no
absent_told o name m later (reading.Damaged blob) settled (inr (is, none)) = ap (get later) is ∙ none
absent_told o name m later reading.Fault settled lost = tt
absent_told o name m later reading.Memory settled lost = tt

-- what a hive's document answers tells no blob of the catalog
pub hive_whole : (hive : ServedHive) (answer : Answer) (name : List ℕ) (told : Option Area) (P : List ℕ → Type 0) → OfHive hive answer name told
    → IfCatalogDamaged answer P
hive_whole hive (Reply (line.Damaged area.Catalog blob)) name told P is = absurd is
hive_whole hive _ name told P is = tt

-- the calls of a read of the cursor
pub cursor_runs : (hive : HiveName) (held : Option Area) (plan : List Act) (a b : Seen) (e : RoundErr) (answer : Answer) → AnswersStop hive e answer
    → IsNoNumber hive held e → EndsAt plan e a b → RunsBehind [] plan answer a b
cursor_runs hive held plan a b stop.CatalogFault answer is why runs = absurd why
cursor_runs hive held plan a b stop.HiveFault answer is why runs = subst (λ (x : Answer). RunsBehind [] plan x a b) (sym is) (failed_at plan a b _ runs)
cursor_runs hive held plan a b (stop.Damaged text) answer is why runs = ⊎_elim
    (λ e. subst (λ (x : Answer). RunsBehind [] plan x a b) (sym e) (damaged_at plan a b _ cursor_name runs))
    (λ e. subst (λ (x : Answer). RunsBehind [] plan x a b) (sym e) (short_between plan a b runs))
    (is.of_hive hive cursor_name why.0)
cursor_runs hive held plan a b stop.Memory answer is why runs = subst (λ (x : Answer). RunsBehind [] plan x a b) (sym is)
    (⊎_elim (short_at plan a b) (short_between plan a b) runs)

-- what holds where a damaged cursor is told holds where the answer tells it
pub damaged_answer : (hive which : HiveName) (name : List ℕ) (e : RoundErr) (answer : Answer) (M : Type 0) → AnswersStop hive e answer
    → IfDamagedText e (λ text. M) → answer ≡ Reply (line.Damaged (area.Hive which) name) → M
damaged_answer hive which name stop.CatalogFault answer M is holds told = let no : ⊥ = cc (is, told) in absurd no
damaged_answer hive which name stop.HiveFault answer M is holds told = let no : ⊥ = cc (is, told) in absurd no
damaged_answer hive which name (stop.Damaged text) answer M is holds told = holds
damaged_answer hive which name stop.Memory answer M is holds told = let no : ⊥ = cc (is, told) in absurd no

-- the calls of a `get`, behind those of its opening
pub get_calls : {B : Type 0} (m : Members B) (answer : Answer) (path : List ℕ) (s : Seen) (o n : Opened B) (last : B) (old new : ServedHive → B)
    → last ≡ n.area → IsOpenOver s o (m.seen o.area) → o.settled ≡ true → ForOpenings s (λ base cs plan. Makes plan s (m.seen o.area))
    → ((cs : Catalog) (name : List ℕ) → IsReady o (m.seen o.area) cs → IsCatalogPath path name
    → RunsBehind [] (doc_gets (is_some (doc_at o.base cs name)) name) answer (m.seen o.area) (m.seen n.area))
    → (((name : List ℕ) → IsCatalogPath path name → ⊥) → n ≡ o)
    → ((hive : ServedHive) (name : List ℕ) → IsHivePath hive path name → RunsBehind [] (Get name ∷ []) answer (m.seen (old hive)) (m.seen (new hive)))
    → IsMended s.held (m.seen o.area).held
    → ((before after : Area) → (m.seen o.area).held ≡ Some before → (m.seen n.area).held ≡ Some after → IfCatalogDamaged answer (λ blob. get after blob ≡ None))
    → GetCalls m answer path s (m.seen last) old new
get_calls m answer path s o n last old new is over settled opens document alone hive mended absent = record {
  absent = λ before after told left.
      let opened = told_after s.held (m.seen o.area).held before mended told in
      absent opened.0 after opened.1 (ap (λ (x : _). (m.seen x).held) (sym is) ∙ left);
  document = λ name names. λ area base cs plan lawful there spells its.
      let at = over base cs (record { lawful = lawful; store = (area, there, spells) }) in
      let ran = document cs name (record { settled = settled; open_for = at.1 }) names in
      subst (λ (x : _). RunsBehind plan (doc_gets (is_some (doc_at base cs name)) name) answer s (m.seen x)) (sym is)
      (then_behind plan (doc_gets (is_some (doc_at base cs name)) name) answer s (m.seen o.area) (m.seen n.area)
      (opens area base cs plan lawful there spells its)
      (subst (λ (b : List ℕ). RunsBehind [] (doc_gets (is_some (doc_at b cs name)) name) answer (m.seen o.area) (m.seen n.area)) at.0 ran));
  alone = λ none. λ area base cs plan lawful there spells its.
      subst (λ (x : _). Makes plan s (m.seen x)) (sym (is ∙ ap (λ (x : Opened _). x.area) (alone none))) (opens area base cs plan lawful there spells its);
  hive = hive;
}
