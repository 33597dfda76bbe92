-- What a job's round left.
use Rattle.std.proofs.Common.{◌≡◌, inl, inr, ℕ, List, length, Option, Some, Ok, Err, Result, sym, ◌∙◌, ap, subst, arith}
use Rattle.std.proofs.lemmas.List.{take_all}
use Rattle.std.specs.Option.{option_and_then}
use Rattle.blob_store.specs.Area.{Area}
use Rattle.blob_store.specs.Moments.{LeavesOnly}
use Rattle.blob_store.specs.Seen.{IsSure, Seen}
use Rattle.blob_store.proofs.Moments.{started}
use Rattle.pkg_meta.specs.Catalog.{Catalog}
use Rattle.catalog_core.specs.Opened.{IsOpenFor}
use Rattle.fold_core.specs.Docs.{id_doc, owner}
use Rattle.fold_core.specs.Folds.{Fold}
use Rattle.fold_core.specs.declared.hive.HiveName.{HiveName}
use Rattle.hive_laws.specs.Areas.{SettledArea, SoundArea}
use Rattle.id_pass.specs.declared.error.RoundErr.{RoundErr}
use Rattle.id_pass.specs.declared.error.RoundErr.TheVariants as stop
use Rattle.id_pass.specs.declared.error.RoundOut.{RoundOut}
use Rattle.id_pass.specs.declared.error.RoundOut.TheVariants as out
use Rattle.job_round.specs.Answers.{in_catalog, in_hive, told_number}
use Rattle.job_round.specs.Rounds.{Rounds}
use Rattle.round_laws.specs.OnAreas.{HoldsArea, IsSoundOrSettled, OnSoundArea}
use Rattle.round_laws.proofs.Leaving.{keeps_either}
use Rattle.round_laws.proofs.Rounding as rounding
use Rattle.admin_wire.specs.declared.area.AreaName.TheVariants as area
use Rattle.admin_wire.specs.declared.line.Line.{Line}
use Rattle.admin_wire.specs.declared.line.Line.TheVariants as line
use Rattle.feed_app.specs.Answers.{answer_status}
use Rattle.feed_app.specs.Damages.{IsLostOfHive, IsUnread}
use Rattle.feed_app.specs.Hives.{hive_fold, keeps_in, makes_in}
use Rattle.feed_app.specs.Jobs.{Jobs, MadeOver, RoundTold}
use Rattle.feed_app.specs.Outside.{Members}
use Rattle.feed_app.specs.Spelled.{HasCatalog, IsSpelled}
use Rattle.feed_app.specs.declared.answer.Answer.{Answer}
use Rattle.feed_app.specs.declared.answer.Answer.TheVariants.{Reply}
use Rattle.feed_app.proofs.Closed.{closed_not}
use Rattle.app_laws.specs.Scratch.{IsFromScratchOf, from_scratch}
use Rattle.feed_app.proofs.HiveLaws.{laws_of, staged_in}

-- the line for what a round answered
abbrev pub line_of : HiveName → RoundOut → Line
line_of hive (out.Done n) = line.Done hive n
line_of hive (out.Idle n) = line.Idle hive n

module _ (hive : HiveName) (Made : Result RoundOut RoundErr → Type 0) (Unread Lost : List ℕ → Type 0) where
  -- the answer tells of a round that was made
  made_of : (answer : Answer) → RoundTold Made Unread Lost hive answer → (result : Result RoundOut RoundErr) × Made result
  made_of (Reply (line.Done which n)) is = (Ok (out.Done n), is.1)
  made_of (Reply (line.Idle which n)) is = (Ok (out.Idle n), is.1)
  made_of (Reply (line.Fault area.Catalog)) is = (Err stop.CatalogFault, is)
  made_of (Reply (line.Fault (area.Hive which))) is = (Err stop.HiveFault, is.1)
  made_of (Reply (line.Damaged area.Catalog name)) is = (Err (stop.Damaged (in_catalog name)), is.1)
  made_of (Reply (line.Damaged (area.Hive which) name)) is = (Err (stop.Damaged (in_hive is.2.0 name)), is.2.1)
  made_of (Reply line.Memory) (inl made) = (Err stop.Memory, made)
  made_of (Reply line.Memory) (inr (text, made)) = (Err (stop.Damaged text), made)
  made_of _ is = absurd is

  -- of status 0, of one that ended
  ended_of : (answer : Answer) → RoundTold Made Unread Lost hive answer → answer_status answer ≡ 0
      → (told : RoundOut) × Made (Ok told) × (answer ≡ Reply (line_of hive told))
  ended_of (Reply (line.Done which n)) is zero = (out.Done n, is.1, ap (λ (h : HiveName). Reply (line.Done h n)) is.0)
  ended_of (Reply (line.Idle which n)) is zero = (out.Idle n, is.1, ap (λ (h : HiveName). Reply (line.Idle h n)) is.0)
  ended_of (Reply (line.Fault name)) is zero = absurd (omega (arith, zero))
  ended_of (Reply (line.Damaged name blob)) is zero = absurd (omega (arith, zero))
  ended_of (Reply line.Memory) is zero = absurd (omega (arith, zero))
  ended_of _ is zero = absurd is

module _ {B : Type 0} (m : Members B) (hive : HiveName) (catalog later old new : Seen) (base : List ℕ) (cs : Catalog) (c : ℕ) (blobs : Area)
    (has : HasCatalog catalog base cs) (is : old.held ≡ Some blobs) (sound : SoundArea (hive_fold hive base) cs c blobs) where
  abbrev f : Fold
  f = hive_fold hive base

  -- the catalog that was opened is this one
  its_calls : (result : Result RoundOut RoundErr) (over : MadeOver m hive catalog later old new result)
      → Rounds f (IsOpenFor over.opened (m.seen over.opened.area)) old new result
  its_calls result over =
      subst (λ (x : List ℕ). Rounds (hive_fold hive x) (IsOpenFor over.opened (m.seen over.opened.area)) old new result) (over.spelled base cs has).0
      over.made.round.runs

  on_it : (result : Result RoundOut RoundErr) (over : MadeOver m hive catalog later old new result)
      → OnSoundArea f (IsOpenFor over.opened (m.seen over.opened.area)) cs c blobs old
  on_it result over = record { meant = (over.spelled base cs has).1; catalog = has.lawful; held = is; sound = sound }

  abbrev Either : Area → Type 0
  Either left = IsSoundOrSettled f cs c left

  kept : (result : Result RoundOut RoundErr) → MadeOver m hive catalog later old new result → HoldsArea new Either × LeavesOnly old new Either
  kept result over =
      keeps_either (keeps_in hive) (makes_in hive) base (staged_in hive) cs (IsOpenFor over.opened (m.seen over.opened.area)) c blobs old new
      (laws_of hive base cs has.lawful.lawful) (on_it result over) result (its_calls result over)

  settled : (told : RoundOut) → MadeOver m hive catalog later old new (Ok told) → HoldsArea new (SettledArea f cs (length cs))
  settled (out.Done n) over =
      rounding.settled (keeps_in hive) (makes_in hive) base (staged_in hive) cs (IsOpenFor over.opened (m.seen over.opened.area)) c blobs old new
      (laws_of hive base cs has.lawful.lawful) (on_it (Ok (out.Done n)) over) n (its_calls (Ok (out.Done n)) over)
  settled (out.Idle n) over =
      let idle = rounding.idle_settled (keeps_in hive) (makes_in hive) base (staged_in hive) cs (IsOpenFor over.opened (m.seen over.opened.area)) c blobs old new
      (laws_of hive base cs has.lawful.lawful) (on_it (Ok (out.Idle n)) over) n (its_calls (Ok (out.Idle n)) over) in
      (blobs, idle.0, idle.1)

  number : (told : RoundOut) → MadeOver m hive catalog later old new (Ok told) → told_number told ≡ length cs
  number told over = over.made.number cs (over.spelled base cs has).1

  pub job_ended : {Same : Type 0} (given : Option (List ℕ)) (answer : Answer) → Jobs m given hive answer catalog later Same old new
      → answer_status answer ≡ 0
      → HoldsArea new (SettledArea f cs (length cs)) × ((told : RoundOut) × (told_number told ≡ length cs) × (answer ≡ Reply (line_of hive told)))
  job_ended given answer (inl (closed, same)) zero =
      absurd (closed_not given answer catalog later closed base cs has 0 zero (λ e. omega (arith, e)) (λ e. omega (arith, e)) (λ e. omega (arith, e)))
  job_ended given answer (inr (may, told)) zero =
      let end = ended_of hive (MadeOver m hive catalog later old new) (IsUnread catalog.held) (IsLostOfHive (IsSpelled catalog) new.held) answer told zero in
      (settled end.0 end.1, (end.0, number end.0 end.1, end.2))

  pub job_kept : {Same : Type 0} (given : Option (List ℕ)) (answer : Answer) → (Same → HoldsArea new Either × LeavesOnly old new Either)
      → Jobs m given hive answer catalog later Same old new
      → HoldsArea new Either × LeavesOnly old new Either
  job_kept given answer unmoved (inl (closed, same)) = unmoved same
  job_kept given answer unmoved (inr (may, told)) =
      let made = made_of hive (MadeOver m hive catalog later old new) (IsUnread catalog.held) (IsLostOfHive (IsSpelled catalog) new.held) answer told in
      kept made.0 made.1

-- where nothing was asked
pub unmoved : {B : Type 0} (m : Members B) (old new : B) (blobs : Area) (P : Area → Type 0) → IsSure (m.seen old) → (m.seen old).held ≡ Some blobs → P blobs → new ≡ old
    → HoldsArea (m.seen new) P × LeavesOnly (m.seen old) (m.seen new) P
unmoved {B} m old new blobs P sure is here same =
    subst (λ (x : B). HoldsArea (m.seen x) P × LeavesOnly (m.seen old) (m.seen x) P) (sym same)
    ((blobs, is, here), started (m.seen old) blobs P sure is here)

-- a settled area is what the hive makes of the catalog from scratch
pub scratch_of : (hive : HiveName) (base : List ℕ) (cs : Catalog) (key name : List ℕ) → owner name ≡ Some key
    → from_scratch hive base cs name ≡ id_doc (keeps_in hive) (makes_in hive) base cs key name
scratch_of hive base cs key name own = ap (option_and_then (λ (q : List ℕ). id_doc (keeps_in hive) (makes_in hive) base cs q name)) own

pub made_of_all : (hive : HiveName) (base : List ℕ) (cs : Catalog) (left : Area) → SettledArea (hive_fold hive base) cs (length cs) left → IsFromScratchOf hive base cs left
made_of_all hive base cs left settled = record {
  documents = λ key name own.
      (settled.1.settled key).holds name own
      ∙ ap (λ (ds : Catalog). id_doc (keeps_in hive) (makes_in hive) base ds key name) (take_all (length cs) cs (omega arith))
      ∙ sym (scratch_of hive base cs key name own);
  cursor = settled.1.area.cursor;
  others = settled.1.area.known;
}
