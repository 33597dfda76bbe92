-- What a commit leaves of a catalog that was spelled.
use Rattle.std.proofs.Common.{◌≡◌, ℕ, List, [], Option, Result, inl, inr, sym, ◌∙◌, ap, subst, arith, length}
use Rattle.admin_wire.specs.declared.names.NameKind.{NameKind}
use Rattle.blob_store.specs.Seen.{IsSure}
use Rattle.blob_store.proofs.Moments.{started, weaker}
use Rattle.catalog_doc.specs.Spelled.{SpellsCatalog}
use Rattle.catalog_doc.specs.declared.change.Change.{Change}
use Rattle.catalog_doc.specs.declared.change.Committed.{Committed}
use Rattle.catalog_doc.specs.declared.error.CommitErr.{CommitErr}
use Rattle.catalog_core.specs.Committing.{Commits, WithOrWithout}
use Rattle.admin_wire.specs.declared.line.Line.TheVariants as line
use Rattle.feed_app.specs.Answers.{answer_status}
use Rattle.feed_app.specs.Commands.{Command, CommitsChanges, Names, Pair, Publish}
use Rattle.feed_app.specs.Does.{meaning}
use Rattle.feed_app.specs.Names.{CommitsNames, NotAsked, NotRead}
use Rattle.feed_app.specs.Outside.{Members, Sight}
use Rattle.feed_app.specs.Publishes.{Ends, HasCommit, HasCommitOrNot, IsCommitOrNot, NotTaken, Publishes}
use Rattle.feed_app.specs.Spelled.{HasCatalog}
use Rattle.feed_app.specs.declared.answer.Answer.{Answer}
use Rattle.feed_app.specs.declared.answer.Answer.TheVariants.{Reply}
use Rattle.feed_app.proofs.Closed.{closed_not}
use Rattle.feed_app.proofs.Endings.{reply_done, with_or_without}

not_taken_zero : (answer : Answer) (rest : Option (List ℕ)) → NotTaken answer rest → answer_status answer ≡ 0 → ⊥
not_taken_zero (Reply (line.Refused why)) rest is zero = omega (arith, zero)
not_taken_zero (Reply line.FaultInput) rest is zero = omega (arith, zero)
not_taken_zero (Reply line.TooLong) rest is zero = omega (arith, zero)
not_taken_zero (Reply line.Memory) rest is zero = omega (arith, zero)
not_taken_zero _ rest is zero = is

not_asked_zero : (answer : Answer) (place : ℕ) (id version : List ℕ) → NotAsked answer place id version → answer_status answer ≡ 0 → ⊥
not_asked_zero (Reply (line.Refused why)) place id version is zero = omega (arith, zero)
not_asked_zero (Reply line.Memory) place id version is zero = omega (arith, zero)
not_asked_zero _ place id version is zero = is

unread_zero : (answer : Answer) (kind : NameKind) (pairs : List Pair) → NotRead answer kind pairs → answer_status answer ≡ 0 → ⊥
unread_zero (Reply line.Memory) kind pairs first zero = omega (arith, zero)
unread_zero answer kind pairs first zero = not_asked_zero answer (length first.front) first.pair.0 first.pair.1 first.refused zero

module _ {B : Type 0} (m : Members B) (before after : Sight B) (answer : Answer) where
  abbrev FoundAfter : Type 0
  FoundAfter = HasCommit (m.seen before.stores.catalog) (m.seen after.stores.catalog)

  abbrev LeftAfter : Type 0
  LeftAfter = HasCommitOrNot (m.seen before.stores.catalog) (m.seen after.stores.catalog)

  abbrev EndsWith : List Change → Type 0
  EndsWith changes = Ends before.given answer changes (m.seen before.stores.catalog) (m.seen after.stores.catalog) before.clock after.clock

  found_end : (changes : List Change) → EndsWith changes → answer_status answer ≡ 0 → FoundAfter
  found_end changes (inl (closed, spelled, unasked)) zero =
      λ base cs has. absurd (closed_not before.given answer (m.seen before.stores.catalog) (m.seen after.stores.catalog) closed base cs has 0 zero
      (λ e. omega (arith, e)) (λ e. omega (arith, e)) (λ e. omega (arith, e)))
  found_end changes (inr (allowed, now, r, tells, is, commits)) zero = λ base cs has.
      let done = reply_done r (sym (ap answer_status is) ∙ zero) in
      let all = subst (λ (x : Result Committed CommitErr). Commits cs changes now x (HasCatalog (m.seen after.stores.catalog) base)) done.1
      (commits.commits base cs has) in
      (changes, now, all.0, all.2)

  unmoved : IsSure (m.seen before.stores.catalog) → after.stores.catalog ≡ before.stores.catalog → LeftAfter
  unmoved sure is = λ base cs has. subst (λ (x : B). IsCommitOrNot (m.seen before.stores.catalog) (m.seen x) base cs) (sym is) (
    [],
    0,
    inl has,
    started (m.seen before.stores.catalog) has.store.0 (λ area. WithOrWithout cs [] 0 (SpellsCatalog area base)) sure has.store.1
        (inl has.store.2),
  )

  left_end : (changes : List Change) → EndsWith changes → LeftAfter
  left_end changes (inl (cause, spelled, unasked)) = λ base cs has.
      let at = spelled.spelled base cs has in (
        changes,
        0,
        inl at.0,
        weaker (m.seen before.stores.catalog) (m.seen after.stores.catalog) (λ area. SpellsCatalog area base cs)
            (λ area. WithOrWithout cs changes 0 (SpellsCatalog area base)) at.1 (λ area here. inl here),
      )
  left_end changes (inr (allowed, now, r, tells, is, commits)) = λ base cs has. (
    changes,
    now,
    with_or_without cs changes now r (HasCatalog (m.seen after.stores.catalog) base) (commits.commits base cs has),
    commits.moments base cs has,
  )

  found : Publishes m before answer after → answer_status answer ≡ 0 → FoundAfter
  found (inl (not_taken, same, unasked)) zero = λ base cs has. absurd (not_taken_zero answer before.input.told not_taken zero)
  found (inr (changes, brings, ends)) zero = found_end changes ends zero

  left : IsSure (m.seen before.stores.catalog) → Publishes m before answer after → LeftAfter
  left sure (inl (not_taken, same, unasked)) = unmoved sure same
  left sure (inr (changes, brings, ends)) = left_end changes ends

  names_found : (kind : NameKind) (pairs : List Pair) → CommitsNames m kind pairs before answer after → answer_status answer ≡ 0 → FoundAfter
  names_found kind pairs (inl (first, same, unasked)) zero = λ base cs has. absurd (unread_zero answer kind pairs first zero)
  names_found kind pairs (inr (changes, asked, ends)) zero = found_end changes ends zero

  names_left : (kind : NameKind) (pairs : List Pair) → IsSure (m.seen before.stores.catalog) → CommitsNames m kind pairs before answer after → LeftAfter
  names_left kind pairs sure (inl (first, same, unasked)) = unmoved sure same
  names_left kind pairs sure (inr (changes, asked, ends)) = left_end changes ends

  pub commit_found : (command : Command) → CommitsChanges command → (meaning m command).acts before answer after → answer_status answer ≡ 0 → FoundAfter
  commit_found Publish commits acts zero = found acts zero
  commit_found (Names kind pairs) commits acts zero = names_found kind pairs acts zero
  commit_found _ commits acts zero = absurd commits

  pub commit_left : (command : Command) → CommitsChanges command → IsSure (m.seen before.stores.catalog) → (meaning m command).acts before answer after
      → LeftAfter
  commit_left Publish commits sure acts = left sure acts
  commit_left (Names kind pairs) commits sure acts = names_left kind pairs sure acts
  commit_left _ commits sure acts = absurd commits
