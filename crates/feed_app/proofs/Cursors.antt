-- What follows for `cursor`.
use Rattle.std.proofs.Common.{◌≡◌, ℕ, List, Option, Some, IfSome, inl, inr, ⊎_elim, refl, sym, ap, subst, arith}
use Rattle.std.specs.FinMap.{get}
use Rattle.feed_base.proofs.Options.{at_some}
use Rattle.blob_store.specs.Area.{Area}
use Rattle.blob_store.specs.Seen.{Seen}
use Rattle.cursor_doc.specs.Cursor.{cursor_name}
use Rattle.fold_core.specs.declared.hive.HiveName.{HiveName}
use Rattle.id_pass.specs.declared.error.RoundErr.{RoundErr}
use Rattle.id_pass.specs.declared.error.RoundErr.TheVariants as stop
use Rattle.job_round.specs.Answers.{IsNoNumber}
use Rattle.job_round.specs.Cursors.{IsCursor, IsNoCursor}
use Rattle.admin_wire.specs.declared.line.Line.TheVariants as line
use Rattle.admin_wire.specs.declared.area.AreaName.TheVariants as area
use Rattle.feed_app.specs.Accepts.{Accepts}
use Rattle.feed_app.specs.Answers.{answer_status}
use Rattle.feed_app.specs.Causes.{AnswersStop}
use Rattle.feed_app.specs.Cursors.{Cursors, TellsCursor, cursor_meaning, cursor_reach}
use Rattle.feed_app.specs.Damages.{IsLostOfHive}
use Rattle.feed_app.specs.Frame.{Explains, IsDone, KeepsAreas}
use Rattle.feed_app.specs.Openings.{MayOpen}
use Rattle.feed_app.specs.Outside.{AreaRose, Members, Shows, Sight, area_of, held}
use Rattle.feed_app.specs.Spelled.{HasCatalog, HoldsCatalog, IsSpelled}
use Rattle.feed_app.specs.declared.answer.Answer.{Answer}
use Rattle.feed_app.specs.declared.answer.Answer.TheVariants.{Reply}
use Rattle.feed_app.proofs.Closed.{closed_explains, closed_store}
use Rattle.feed_app.proofs.OneHive.{cursor_touches, cursor_unread}

-- the number is told, or why not
module _ (hive : HiveName) (told : Option Area) where
  abbrev Tells : Answer → Type 0
  Tells answer = TellsCursor hive answer told

  pub stop_tells : (e : RoundErr) (answer : Answer) → AnswersStop hive e answer → IsNoNumber hive told e → Tells answer
  stop_tells stop.CatalogFault answer is why = absurd why
  stop_tells stop.HiveFault answer is why = subst Tells (sym is) refl
  stop_tells (stop.Damaged text) answer is why =
      ⊎_elim (λ e. subst Tells (sym e) (refl, refl, why.1)) (λ e. subst Tells (sym e) tt) (is.of_hive hive cursor_name why.0)
  stop_tells stop.Memory answer is why = subst Tells (sym is) tt

-- the fault of the catalog's store isn't told
pub tells_no_catalog : (hive : HiveName) (told : Option Area) (answer : Answer) → TellsCursor hive answer told → answer ≡ Reply (line.Fault area.Catalog) → ⊥
tells_no_catalog hive told answer tells is = subst (λ (a : Answer). TellsCursor hive a told) is tells

module _ {B : Type 0} (m : Members B) (hive : HiveName) (before after : Sight B) where
  abbrev Explained : Answer → Type 0
  Explained answer = Explains m (cursor_reach hive) before answer after

  abbrev Told : Seen
  Told = m.seen before.stores.catalog

  abbrev Held : Option Area
  Held = held m (area_of before.stores (area.Hive hive))

  abbrev Left : Option Area
  Left = held m (area_of after.stores (area.Hive hive))

  abbrev CatalogCause : Answer → Type 0
  CatalogCause answer = answer ≡ Reply (line.Fault area.Catalog) → AreaRose m before.stores.catalog after.stores.catalog

  abbrev HiveCause : Answer → Type 0
  HiveCause answer = answer ≡ Reply (line.Fault (area.Hive hive)) → AreaRose m (area_of before.stores (area.Hive hive)) (area_of after.stores (area.Hive hive))

  abbrev NoCursor : Option Area → Type 0
  NoCursor area = IfSome area (λ blobs. IsNoCursor (get blobs cursor_name))

  lost_after : (area : Option Area) (name : List ℕ) → name ≡ cursor_name → NoCursor area → IsLostOfHive (IsSpelled Told) area name
  lost_after (Some blobs) name is none = inl (is, inl none)
  lost_after _ name is none = tt

  tells_explains : (answer : Answer) → Left ≡ Held → HiveCause answer → TellsCursor hive answer Held → Explained answer
  tells_explains (Reply (line.Cursor which n)) same other is = tt
  tells_explains (Reply (line.Damaged (area.Hive which) name)) same other is =
      subst (λ (h : HiveName). Explained (Reply (line.Damaged (area.Hive h) name))) (sym is.0)
      ((cursor_touches hive).1, lost_after Left name is.1 (subst NoCursor (sym same) is.2))
  tells_explains (Reply (line.Fault (area.Hive which))) same other is =
      subst (λ (h : HiveName). Explained (Reply (line.Fault (area.Hive h)))) (sym is)
      ((cursor_touches hive).1, other (ap (λ (h : HiveName). Reply (line.Fault (area.Hive h))) is))
  tells_explains (Reply line.Memory) same other is = tt
  tells_explains _ same other is = absurd is

  explains : (given : Option (List ℕ)) (now : Seen) (answer : Answer) (untouched : Type 0) → Left ≡ Held → CatalogCause answer → HiveCause answer
      → Cursors given hive answer Told now untouched (m.seen (area_of before.stores (area.Hive hive))) (m.seen (area_of after.stores (area.Hive hive))) → Explained answer
  explains given now answer untouched same rose other (inl (closed, kept)) =
      closed_explains m (cursor_reach hive) before after given now answer (cursor_touches hive).0 rose closed
  explains given now answer untouched same rose other (inr (may, tells, calls)) = tells_explains answer same other tells

  -- the cursor of a hive was asked for
  pub cursor_done : (answer : Answer) → KeepsAreas m (cursor_reach hive) before.stores after.stores → Left ≡ Held → CatalogCause answer → HiveCause answer
      → (cursor_meaning m hive).acts before answer after → IsDone m (cursor_meaning m hive) before answer after
  cursor_done answer keeps same rose other is = record { keeps = keeps; explains = explains before.given (m.seen after.stores.catalog) answer _ same rose other is; acts = is }

-- a cursor that tells a number isn't damaged
module _ (hive : HiveName) (told : Option Area) (blobs : Area) (kept : told ≡ Some blobs) (number : ℕ) (is_cursor : IsCursor (get blobs cursor_name) number) where
  not_none : (found : Option (List ℕ)) → IsCursor found number → IsNoCursor found → ⊥
  not_none (Some bytes) (mark, value, spelled, is) none = none mark value spelled
  not_none _ is none = none

  not_refused : (answer : Answer) → TellsCursor hive answer told → answer_status answer ≡ 3 → ⊥
  not_refused (Reply (line.Cursor which n)) is three = omega (arith, three)
  not_refused (Reply (line.Damaged name blob)) is three = omega (arith, three)
  not_refused (Reply (line.Fault name)) is three = omega (arith, three)
  not_refused (Reply line.Memory) is three = omega (arith, three)
  not_refused _ is three = is

  not_damaged : (answer : Answer) → TellsCursor hive answer told → answer_status answer ≡ 6 → ⊥
  not_damaged (Reply (line.Damaged (area.Hive which) name)) is six =
      not_none (get blobs cursor_name) is_cursor (at_some told (λ b. IsNoCursor (get b cursor_name)) blobs kept is.2)
  not_damaged (Reply (line.Cursor which n)) is six = omega (arith, six)
  not_damaged (Reply (line.Fault name)) is six = omega (arith, six)
  not_damaged (Reply line.Memory) is six = omega (arith, six)
  not_damaged _ is six = is

abbrev IsReady : Option (List ℕ) → Seen → Option Area → Type 0
IsReady given told area = MayOpen given told × Shows told.held HoldsCatalog × Shows area (λ blobs. (n : ℕ) × IsCursor (get blobs cursor_name) n)

module _ (given : Option (List ℕ)) (hive : HiveName) (told later : Seen) (old new : Seen) (untouched : Type 0) (ready : IsReady given told old.held) where
  abbrev its : HoldsCatalog ready.1.0
  its = ready.1.2

  its_catalog : HasCatalog told its.0 its.1
  its_catalog = record { lawful = its.2; store = (ready.1.0, ready.1.1, its.3) }

  refused : (answer : Answer) → Cursors given hive answer told later untouched old new → answer_status answer ≡ 3 → ⊥
  refused answer (inl (closed, same)) three =
      closed_store given answer told later closed its.0 its.1 its_catalog ready.0 3 three (λ e. omega (arith, e)) (λ e. omega (arith, e))
  refused answer (inr (may, tells, calls)) three = not_refused hive old.held ready.2.0 ready.2.1 ready.2.2.0 ready.2.2.1 answer tells three

  sound : (answer : Answer) → Cursors given hive answer told later untouched old new → answer_status answer ≡ 6 → ⊥
  sound answer (inl (closed, same)) six =
      closed_store given answer told later closed its.0 its.1 its_catalog ready.0 6 six (λ e. omega (arith, e)) (λ e. omega (arith, e))
  sound answer (inr (may, tells, calls)) six = not_damaged hive old.held ready.2.0 ready.2.1 ready.2.2.0 ready.2.2.1 answer tells six

pub cursor_accepts : {B : Type 0} (m : Members B) (hive : HiveName) → Accepts (cursor_meaning m hive)
cursor_accepts m hive = record {
  refused = λ before after answer ready acts.
      refused before.given hive (m.seen before.stores.catalog) (m.seen after.stores.catalog) (m.seen (area_of before.stores (area.Hive hive)))
      (m.seen (area_of after.stores (area.Hive hive))) _ ready answer acts;
  sound = λ before after answer ready acts.
      sound before.given hive (m.seen before.stores.catalog) (m.seen after.stores.catalog) (m.seen (area_of before.stores (area.Hive hive)))
      (m.seen (area_of after.stores (area.Hive hive))) _ ready answer acts;
  fits = λ before ready touched. absurd (cursor_unread hive touched);
}
