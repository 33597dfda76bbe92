-- The command `job`.
use Rattle.std.specs.Prelude.{◌≡◌, ◌⊎◌, ◌<◌, ℕ, List, length, true, IfOk, IfSome, Option, Result}
use Rattle.std.specs.declared.result.Result.TheVariants.{Ok, Err}
use Rattle.std.specs.FinMap.{get}
use Rattle.blob_store.specs.Plans.{Makes}
use Rattle.blob_store.specs.Seen.{Seen}
use Rattle.pkg_meta.specs.Catalog.{Catalog}
use Rattle.catalog_core.specs.Opened.{IsOpenFor, Opened}
use Rattle.cursor_doc.specs.Cursor.{cursor_name}
use Rattle.fold_core.specs.Folds.{Fold}
use Rattle.fold_core.specs.declared.hive.HiveName.{HiveName}
use Rattle.fold_core.specs.declared.hive.HiveName.TheVariants.{Plain, SemVer2, Content, Auto}
use Rattle.id_pass.specs.declared.error.RoundErr.{RoundErr}
use Rattle.id_pass.specs.declared.error.RoundErr.TheVariants as stop
use Rattle.id_pass.specs.declared.error.RoundOut.{RoundOut}
use Rattle.id_pass.specs.declared.error.RoundOut.TheVariants as out
use Rattle.job_round.specs.Answers.{IfDone, IfIdle, IsLostInCatalog, IsLostInHive, in_catalog, in_hive, told_number}
use Rattle.job_round.specs.Cursors.{IsCursor}
use Rattle.round_laws.specs.OnAreas.{RoundOver}
use Rattle.admin_wire.specs.declared.area.AreaName.TheVariants as area
use Rattle.admin_wire.specs.declared.line.Line.TheVariants as line
use Rattle.feed_app.specs.Calls.{ForOpenings}
use Rattle.feed_app.specs.Damages.{IsLostOfHive, IsUnread}
use Rattle.feed_app.specs.Frame.{Meaning, Reach, Changes, Opens, nothing}
use Rattle.feed_app.specs.Hives.{hive_fold}
use Rattle.feed_app.specs.Openings.{MayOpen, NotOpened}
use Rattle.feed_app.specs.Outside.{Members, area_of}
use Rattle.feed_app.specs.SoundHives.{HasSoundHive}
use Rattle.feed_app.specs.Spelled.{IsOpenOver, IsSpelled}
use Rattle.feed_app.specs.declared.answer.Answer.{Answer}
use Rattle.feed_app.specs.declared.answer.Answer.TheVariants.{Reply}

-- A round was made over an open catalog, which is settled: its calls on both stores, and why a blob is told as damaged. The number told is that
-- of the commits, of each catalog that may be meant; where it was done the cursor found was below that, and else at it, and the area is as it was.
pub record RoundMade {B : Type 0} (f : Fold) (o n : Opened B) (before after old new : Seen) (result : Result RoundOut RoundErr) : Type 0 where
  pub round : RoundOver f o n before after old new result
  pub number : (cs : Catalog) → IsOpenFor o before cs → IfOk result (λ told. told_number told ≡ length cs)
  pub behind : (cs : Catalog) → IsOpenFor o before cs
      → IfOk result (λ told. IfDone told (λ n. IfSome old.held (λ m. (c : ℕ) × IsCursor (get m cursor_name) c × (c < n))))
  pub idle : IfOk result (λ told. IfIdle told (λ n. (new.held ≡ old.held) × IfSome old.held (λ m. IsCursor (get m cursor_name) n)))

-- What is answered of a round that was made so, by what is damaged in the catalog's area and in the hive's: the blob that is told is the round's,
-- whose text has the area before the name.
abbrev pub RoundTold : (Result RoundOut RoundErr → Type 0) → (Unread Lost : List ℕ → Type 0) → HiveName → Answer → Type 0
RoundTold Made Unread Lost hive (Reply (line.Done which n)) = (which ≡ hive) × Made (Ok (out.Done n))
RoundTold Made Unread Lost hive (Reply (line.Idle which n)) = (which ≡ hive) × Made (Ok (out.Idle n))
RoundTold Made Unread Lost hive (Reply (line.Fault area.Catalog)) = Made (Err stop.CatalogFault)
RoundTold Made Unread Lost hive (Reply (line.Fault (area.Hive which))) = (which ≡ hive) × Made (Err stop.HiveFault)
RoundTold Made Unread Lost hive (Reply (line.Damaged area.Catalog name)) = Unread name × Made (Err (stop.Damaged (in_catalog name)))
RoundTold Made Unread Lost hive (Reply (line.Damaged (area.Hive which) name)) =
    (which ≡ hive) × Lost name × ((other : HiveName) × Made (Err (stop.Damaged (in_hive other name))))
RoundTold Made Unread Lost hive (Reply line.Memory) = Made (Err stop.Memory) ⊎ ((text : List ℕ) × Made (Err (stop.Damaged text)))
RoundTold Made Unread Lost hive _ = ⊥

-- what is answered of a round over an open catalog that is settled
abbrev pub RoundAnswers : {B : Type 0} → Fold → (o n : Opened B) → (before after old new : Seen) → HiveName → Answer → Type 0
RoundAnswers f o n before after old new hive answer = o.settled ≡ true
    → RoundTold (RoundMade f o n before after old new) (IsLostInCatalog o n before after) (IsLostInHive o before new.held) hive answer

-- A round of the hive was made so over a catalog that was opened of the store, `catalog` before and `later` after it. The store's calls were
-- those of the opening, of each catalog that its area spells, and behind them those of the round.
pub record MadeOver {B : Type 0} (m : Members B) (hive : HiveName) (catalog later old new : Seen) (result : Result RoundOut RoundErr) : Type 0 where
  pub opened : Opened B
  pub left : Opened B
  pub spelled : IsOpenOver catalog opened (m.seen opened.area)
  pub opening : ForOpenings catalog (λ base cs plan. Makes plan catalog (m.seen opened.area))
  pub made : RoundMade (hive_fold hive opened.base) opened left (m.seen opened.area) later old new result

-- what a job answers: of an area that opens no catalog, or of one that is open
abbrev pub Jobs : {B : Type 0} → Members B → Option (List ℕ) → HiveName → Answer → (catalog later : Seen) → Type 0 → (old new : Seen) → Type 0
Jobs m given hive answer catalog later untouched old new = (NotOpened given answer catalog later × untouched)
    ⊎ (MayOpen given catalog
    × RoundTold (MadeOver m hive catalog later old new) (IsUnread catalog.held) (IsLostOfHive (IsSpelled catalog) new.held) hive answer)

-- it opens the catalog and changes the hive's area
abbrev pub job_reach : HiveName → Reach
job_reach Plain = record nothing { catalog = Opens; plain = Changes }
job_reach SemVer2 = record nothing { catalog = Opens; semver2 = Changes }
job_reach Content = record nothing { catalog = Opens; content = Changes }
job_reach Auto = record nothing { catalog = Opens; auto = Changes }

-- it is done where the hive is sound over the catalog that the catalog's area spells
abbrev pub job_meaning : {B : Type 0} → Members B → HiveName → Meaning B
job_meaning m hive = record {
  reach = job_reach hive;
  ready = λ before. MayOpen before.given (m.seen before.stores.catalog) × HasSoundHive m before.stores hive;
  acts = λ before answer after.
      let old = area_of before.stores (area.Hive hive) in
      let new = area_of after.stores (area.Hive hive) in
      Jobs m before.given hive answer (m.seen before.stores.catalog) (m.seen after.stores.catalog) (new ≡ old) (m.seen old) (m.seen new);
}
