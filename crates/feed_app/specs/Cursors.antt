-- The command `cursor`.
use Rattle.std.specs.Prelude.{◌≡◌, ◌⊎◌, ℕ, List, [], ◌∷◌, Option, IfSome, ⊤}
use Rattle.std.specs.FinMap.{get}
use Rattle.blob_store.specs.Area.{Area}
use Rattle.blob_store.specs.Events.{Get}
use Rattle.blob_store.specs.Plans.{Makes}
use Rattle.blob_store.specs.Seen.{Seen}
use Rattle.cursor_doc.specs.Cursor.{cursor_name}
use Rattle.fold_core.specs.declared.hive.HiveName.{HiveName}
use Rattle.fold_core.specs.declared.hive.HiveName.TheVariants.{Plain, SemVer2, Content, Auto}
use Rattle.job_round.specs.Cursors.{IsCursor, IsNoCursor}
use Rattle.admin_wire.specs.declared.area.AreaName.TheVariants as area
use Rattle.admin_wire.specs.declared.line.Line.TheVariants as line
use Rattle.feed_app.specs.Calls.{OpensAlone, RunsBehind}
use Rattle.feed_app.specs.Frame.{Meaning, Reach, Asks, Opens, nothing}
use Rattle.feed_app.specs.Openings.{MayOpen, NotOpened}
use Rattle.feed_app.specs.Outside.{Members, Shows, area_of, held}
use Rattle.feed_app.specs.Spelled.{HoldsCatalog}
use Rattle.feed_app.specs.declared.answer.Answer.{Answer}
use Rattle.feed_app.specs.declared.answer.Answer.TheVariants.{Reply}

-- what is answered of what the hive's area holds: the number that its cursor tells, 0 where there is none
abbrev pub TellsCursor : HiveName → Answer → Option Area → Type 0
TellsCursor hive (Reply (line.Cursor which n)) held = (which ≡ hive) × IfSome held (λ m. IsCursor (get m cursor_name) n)
TellsCursor hive (Reply (line.Damaged (area.Hive which) name)) held =
    (which ≡ hive) × (name ≡ cursor_name) × IfSome held (λ m. IsNoCursor (get m cursor_name))
TellsCursor hive (Reply (line.Fault (area.Hive which))) held = which ≡ hive
TellsCursor hive (Reply line.Memory) held = ⊤
TellsCursor hive _ held = ⊥

-- the calls of a `cursor` that opened a catalog: on the catalog's area those of the opening alone, on the hive's one get, of the cursor
pub record CursorCalls (answer : Answer) (catalog later old new : Seen) : Type 0 where
  pub opening : OpensAlone catalog later
  pub hive : RunsBehind [] (Get cursor_name ∷ []) answer old new
  -- told as damaged, it was got
  pub got : (which : HiveName) (name : List ℕ) → answer ≡ Reply (line.Damaged (area.Hive which) name) → Makes (Get cursor_name ∷ []) old new

-- what a `cursor` answers: of an area that opens no catalog, or of one that is open
abbrev pub Cursors : Option (List ℕ) → HiveName → Answer → (catalog later : Seen) → Type 0 → (old new : Seen) → Type 0
Cursors given hive answer catalog later untouched old new = (NotOpened given answer catalog later × untouched)
    ⊎ (MayOpen given catalog × TellsCursor hive answer old.held × CursorCalls answer catalog later old new)

-- it opens the catalog and asks the hive's area
abbrev pub cursor_reach : HiveName → Reach
cursor_reach Plain = record nothing { catalog = Opens; plain = Asks }
cursor_reach SemVer2 = record nothing { catalog = Opens; semver2 = Asks }
cursor_reach Content = record nothing { catalog = Opens; content = Asks }
cursor_reach Auto = record nothing { catalog = Opens; auto = Asks }

-- it is done where the one area spells a catalog and the other's cursor tells a number
abbrev pub cursor_meaning : {B : Type 0} → Members B → HiveName → Meaning B
cursor_meaning m hive = record {
  reach = cursor_reach hive;
  ready = λ before. MayOpen before.given (m.seen before.stores.catalog) × Shows (held m before.stores.catalog) HoldsCatalog
      × Shows (held m (area_of before.stores (area.Hive hive))) (λ blobs. (n : ℕ) × IsCursor (get blobs cursor_name) n);
  acts = λ before answer after.
      let old = area_of before.stores (area.Hive hive) in
      let new = area_of after.stores (area.Hive hive) in
      Cursors before.given hive answer (m.seen before.stores.catalog) (m.seen after.stores.catalog) (new ≡ old) (m.seen old) (m.seen new);
}
