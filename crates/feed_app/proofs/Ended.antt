-- What follows where changes were to be committed, whatever the command.
use Rattle.std.proofs.Common.{◌≡◌, ◌∙◌, ℕ, List, Option, ap, arith, inl, inr, refl, sym, subst}
use Rattle.std.specs.Prelude.{Result, Ok, Err}
use Rattle.pkg_meta.specs.Catalog.{Catalog}
use Rattle.catalog_doc.specs.declared.change.Change.{Change}
use Rattle.catalog_doc.specs.declared.change.Committed.{Committed}
use Rattle.catalog_doc.specs.declared.error.CommitErr.{CommitErr}
use Rattle.catalog_doc.specs.declared.error.CommitErr.TheVariants as error
use Rattle.catalog_core.specs.Committing.{MayBeCommitted}
use Rattle.admin_wire.specs.declared.line.Line.TheVariants as line
use Rattle.admin_wire.specs.declared.area.AreaName.TheVariants as area
use Rattle.feed_app.specs.Answers.{answer_status}
use Rattle.feed_app.specs.Frame.{Explains, Reach, Touches}
use Rattle.feed_app.specs.Outside.{AreaRose, Members, Sight}
use Rattle.feed_app.specs.Openings.{MayOpen}
use Rattle.feed_app.specs.Publishes.{commit_reply, CommitsAt, Ends}
use Rattle.feed_app.specs.Spelled.{HasCatalog}
use Rattle.feed_app.specs.declared.answer.Answer.{Answer}
use Rattle.feed_app.specs.declared.answer.Answer.TheVariants.{Reply}
use Rattle.feed_app.proofs.Closed.{closed_explains, closed_not, closed_store}
use Rattle.feed_app.proofs.Endings.{not_damaged, not_refused}

module _ {B : Type 0} (m : Members B) (before after : Sight B) (reach : Reach) (touches : Touches reach.catalog) where
  abbrev Explained : Answer → Type 0
  Explained answer = Explains m reach before answer after

  commit_explains : (changes : List Change) (now : ℕ) (r : Result Committed CommitErr)
      → (commit_reply r ≡ Reply (line.Fault area.Catalog) → AreaRose m before.stores.catalog after.stores.catalog)
      → CommitsAt changes now (m.seen before.stores.catalog) (m.seen after.stores.catalog) r → Explained (commit_reply r)
  commit_explains changes now (Ok done) rose is = tt
  commit_explains changes now (Err error.Fault) rose is = (touches, rose refl)
  commit_explains changes now (Err (error.Damaged name)) rose is =
      (touches, inl ((λ base cs has. is.commits base cs has), λ m later told left. inr (inr (is.damaged m later told left))))
  commit_explains changes now (Err error.Memory) rose is = tt
  commit_explains changes now (Err error.Empty) rose is = tt
  commit_explains changes now (Err (error.TooMany count)) rose is = tt
  commit_explains changes now (Err (error.Twice place)) rose is = tt
  commit_explains changes now (Err (error.Exists place number)) rose is = tt
  commit_explains changes now (Err (error.Absent place number)) rose is = tt
  commit_explains changes now (Err (error.Already place number)) rose is = tt
  commit_explains changes now (Err (error.IdFull place)) rose is = tt
  commit_explains changes now (Err (error.Full items)) rose is = tt
  commit_explains changes now (Err error.ClockEnd) rose is = tt

  -- changes that were asked for
  pub end_explains : (changes : List Change) (told later : Option (List ℕ)) (answer : Answer)
      → (answer ≡ Reply (line.Fault area.Catalog) → AreaRose m before.stores.catalog after.stores.catalog)
      → Ends before.given answer changes (m.seen before.stores.catalog) (m.seen after.stores.catalog) told later → Explained answer
  end_explains changes told later answer rose (inl (closed, spelled, unasked)) = closed_explains m reach before after before.given (m.seen after.stores.catalog) answer touches rose closed
  end_explains changes told later answer rose (inr (allowed, now, r, tells, is, commits)) =
      subst Explained (sym is) (commit_explains changes now r (λ fault. rose (is ∙ fault)) commits)

module _ {B : Type 0} (m : Members B) (before after : Sight B) (base : List ℕ) (cs : Catalog) (changes : List Change) (told later : Option (List ℕ))
    (has : HasCatalog (m.seen before.stores.catalog) base cs) where
  abbrev EndsSo : Answer → Type 0
  EndsSo answer = Ends before.given answer changes (m.seen before.stores.catalog) (m.seen after.stores.catalog) told later

  -- changes that may be committed aren't refused
  pub end_taken : MayOpen before.given (m.seen before.stores.catalog) → ((now : ℕ) → MayBeCommitted cs changes now) → (answer : Answer) → EndsSo answer → answer_status answer ≡ 3 → ⊥
  end_taken may taken answer (inl (closed, spelled, unasked)) three =
      closed_store before.given answer (m.seen before.stores.catalog) (m.seen after.stores.catalog) closed base cs has may 3 three (λ e. omega (arith, e))
      (λ e. omega (arith, e))
  end_taken may taken answer (inr (allowed, now, r, tells, is, commits)) three =
      not_refused cs changes now (HasCatalog (m.seen after.stores.catalog) base) r (taken now) (sym (ap answer_status is) ∙ three) (commits.commits base cs has)

  pub end_sound : (answer : Answer) → EndsSo answer → answer_status answer ≡ 6 → ⊥
  end_sound answer (inl (closed, spelled, unasked)) six =
      closed_not before.given answer (m.seen before.stores.catalog) (m.seen after.stores.catalog) closed base cs has 6 six (λ e. omega (arith, e))
      (λ e. omega (arith, e)) (λ e. omega (arith, e))
  end_sound answer (inr (allowed, now, r, tells, is, commits)) six =
      not_damaged cs changes now (HasCatalog (m.seen after.stores.catalog) base) r (sym (ap answer_status is) ∙ six) (commits.commits base cs has)
