-- What a command that commits makes of the catalog.
use Rattle.std.proofs.Common.{◌≡◌, ◌⊎◌, inl, inr, ℕ, List, length, Option, Ok, Err, Result, refl, sym, ◌∙◌, ap, subst, arith}
use Rattle.admin_wire.specs.declared.line.Line.TheVariants as line
use Rattle.admin_wire.specs.declared.names.NameKind.{NameKind}
use Rattle.blob_store.specs.Area.{Area}
use Rattle.blob_store.specs.Seen.{IsSure}
use Rattle.blob_store.proofs.Moments.{started}
use Rattle.pkg_meta.specs.Catalog.{Catalog}
use Rattle.catalog_doc.specs.Catalogs.{IsCatalog}
use Rattle.catalog_doc.specs.Spelled.{SpellsCatalog}
use Rattle.catalog_doc.specs.declared.change.Change.{Change}
use Rattle.catalog_doc.specs.declared.change.Committed.{Committed}
use Rattle.catalog_doc.specs.declared.error.CommitErr.{CommitErr}
use Rattle.catalog_doc.specs.declared.error.CommitErr.TheVariants as error
use Rattle.catalog_core.specs.Committing.{Commits, MayBeCommitted, WithOrWithout, with_made}
use Rattle.feed_app.specs.Answers.{answer_status}
use Rattle.feed_app.specs.Commands.{Command, Names, Pair, Publish}
use Rattle.feed_app.specs.Names.{CommitsNames, NotAsked, NotRead}
use Rattle.feed_app.specs.Outside.{Members, Sight}
use Rattle.feed_app.specs.Publishes.{Ends, NotTaken, Publishes, commit_reply}
use Rattle.feed_app.specs.Spelled.{HasCatalog}
use Rattle.feed_app.specs.declared.answer.Answer.{Answer}
use Rattle.feed_app.specs.declared.answer.Answer.TheVariants.{Reply}
use Rattle.feed_app.proofs.Closed.{closed_not}
use Rattle.app_laws.specs.Histories.{AsksChanges, IsEndedWith, IsLeftByCrash, IsWithCommit}
use Rattle.app_laws.proofs.Stores.{at_moment}

not_taken_zero : (answer : Answer) (rest : Option (List ℕ)) → NotTaken answer rest → answer_status answer ≡ 0 → ⊥
not_taken_zero (Reply (line.Refused why)) rest is zero = omega (arith, zero)
not_taken_zero (Reply line.FaultInput) rest is zero = omega (arith, zero)
not_taken_zero (Reply line.TooLong) rest is zero = omega (arith, zero)
not_taken_zero (Reply line.Memory) rest is zero = omega (arith, zero)
not_taken_zero _ rest is zero = is

not_asked_zero : (answer : Answer) (place : ℕ) (id version : List ℕ) → NotAsked answer place id version → answer_status answer ≡ 0 → ⊥
not_asked_zero (Reply (line.Refused why)) place id version is zero = omega (arith, zero)
not_asked_zero (Reply line.Memory) place id version is zero = omega (arith, zero)
not_asked_zero _ place id version is zero = is

unread_zero : (answer : Answer) (kind : NameKind) (pairs : List Pair) → NotRead answer kind pairs → answer_status answer ≡ 0 → ⊥
unread_zero (Reply line.Memory) kind pairs first zero = omega (arith, zero)
unread_zero answer kind pairs first zero = not_asked_zero answer (length first.front) first.pair.0 first.pair.1 first.refused zero

module _ {B : Type 0} (m : Members B) (before after : Sight B) (answer : Answer) (base : List ℕ) (cs : Catalog)
    (has : HasCatalog (m.seen before.stores.catalog) base cs) (command : Command) where
  abbrev HasAfter : Catalog → Type 0
  HasAfter ds = HasCatalog (m.seen after.stores.catalog) base ds

  abbrev Made : Answer → Type 0
  Made told = (ds : Catalog) × HasAfter ds × IsEndedWith command before.input.told cs ds (answer_status told)

  -- without a commit, where none was told
  without : (told : Answer) → HasAfter cs → (answer_status told ≡ 0 → ⊥) → Made told
  without told there other = (cs, there, record { either = inl refl; told = λ zero. absurd (other zero); refused = λ three. refl })

  -- with one, where none was refused
  with_it : (told : Answer) (changes : List Change) (now : ℕ) → AsksChanges command before.input.told changes → MayBeCommitted cs changes now
      → HasAfter (with_made cs changes now) → (answer_status told ≡ 3 → ⊥) → Made told
  with_it told changes now asks taken there other = (
    with_made cs changes now,
    there,
    record {
      either = inr (changes, now, asks, taken, refl);
      told = λ zero. (changes, now, asks, taken, refl);
      refused = λ three. absurd (other three);
    },
  )

  by_result : (changes : List Change) (now : ℕ) (r : Result Committed CommitErr) → AsksChanges command before.input.told changes
      → Commits cs changes now r HasAfter → Made (commit_reply r)
  by_result changes now (Ok done) asks (taken, tells, there) = with_it (commit_reply (Ok done)) changes now asks taken there (λ three. omega (arith, three))
  by_result changes now (Err error.Fault) asks (inl there) = without (commit_reply (Err error.Fault)) there (λ zero. omega (arith, zero))
  by_result changes now (Err error.Fault) asks (inr (taken, there)) =
      with_it (commit_reply (Err error.Fault)) changes now asks taken there (λ three. omega (arith, three))
  by_result changes now (Err (error.Damaged name)) asks commits = absurd commits
  by_result changes now (Err error.Memory) asks (inl there) = without (commit_reply (Err error.Memory)) there (λ zero. omega (arith, zero))
  by_result changes now (Err error.Memory) asks (inr (taken, there)) =
      with_it (commit_reply (Err error.Memory)) changes now asks taken there (λ three. omega (arith, three))
  by_result changes now (Err error.Empty) asks (why, there) = without (commit_reply (Err error.Empty)) there (λ zero. omega (arith, zero))
  by_result changes now (Err (error.TooMany count)) asks (why, there) = without (commit_reply (Err (error.TooMany count))) there (λ zero. omega (arith, zero))
  by_result changes now (Err (error.Twice place)) asks (why, there) = without (commit_reply (Err (error.Twice place))) there (λ zero. omega (arith, zero))
  by_result changes now (Err (error.Exists place n)) asks (why, there) = without (commit_reply (Err (error.Exists place n))) there (λ zero. omega (arith, zero))
  by_result changes now (Err (error.Absent place n)) asks (why, there) = without (commit_reply (Err (error.Absent place n))) there (λ zero. omega (arith, zero))
  by_result changes now (Err (error.Already place n)) asks (why, there) = without (commit_reply (Err (error.Already place n))) there (λ zero. omega (arith, zero))
  by_result changes now (Err (error.IdFull place)) asks (why, there) = without (commit_reply (Err (error.IdFull place))) there (λ zero. omega (arith, zero))
  by_result changes now (Err (error.Full items)) asks (why, there) = without (commit_reply (Err (error.Full items))) there (λ zero. omega (arith, zero))
  by_result changes now (Err error.ClockEnd) asks (why, there) = without (commit_reply (Err error.ClockEnd)) there (λ zero. omega (arith, zero))

  abbrev EndsWith : List Change → Type 0
  EndsWith changes = Ends before.given answer changes (m.seen before.stores.catalog) (m.seen after.stores.catalog) before.clock after.clock

  by_end : (changes : List Change) → AsksChanges command before.input.told changes → EndsWith changes → Made answer
  by_end changes asks (inl (closed, spelled, unasked)) =
      without answer (spelled.spelled base cs has).0
      (λ zero. closed_not before.given answer (m.seen before.stores.catalog) (m.seen after.stores.catalog) closed base cs has 0 zero
      (λ e. omega (arith, e)) (λ e. omega (arith, e)) (λ e. omega (arith, e)))
  by_end changes asks (inr (may, now, r, tells, is, commits)) = subst Made (sym is) (by_result changes now r asks (commits.commits base cs has))

  unmoved : after.stores.catalog ≡ before.stores.catalog → HasAfter cs
  unmoved same = subst (λ (x : B). HasCatalog (m.seen x) base cs) (sym same) has

  -- what a crash leaves
  module _ (left : Area) (at : IsLeftByCrash (m.seen before.stores.catalog) (m.seen after.stores.catalog) left) where
    abbrev Left : Type 0
    Left = (ds : Catalog) × IsCatalog ds × SpellsCatalog left base ds × ((ds ≡ cs) ⊎ IsWithCommit command before.input.told cs ds)

    left_with : (changes : List Change) (now : ℕ) → AsksChanges command before.input.told changes
        → (MayBeCommitted cs changes now → IsCatalog (with_made cs changes now)) → WithOrWithout cs changes now (SpellsCatalog left base) → Left
    left_with changes now asks lawful (inl spells) = (cs, has.lawful, spells, inl refl)
    left_with changes now asks lawful (inr (taken, spells)) = (with_made cs changes now, lawful taken, spells, inr (changes, now, asks, taken, refl))

    left_by_end : (changes : List Change) → AsksChanges command before.input.told changes → EndsWith changes → Left
    left_by_end changes asks (inl (closed, spelled, unasked)) = (
      cs,
      has.lawful,
      at_moment (m.seen before.stores.catalog) (m.seen after.stores.catalog) (λ (a : Area). SpellsCatalog a base cs) left (spelled.spelled base cs has).1 at,
      inl refl,
    )
    left_by_end changes asks (inr (may, now, r, tells, is, commits)) =
        left_with changes now asks (commits.lawful base cs has)
        (at_moment (m.seen before.stores.catalog) (m.seen after.stores.catalog) (λ (a : Area). WithOrWithout cs changes now (SpellsCatalog a base)) left
        (commits.moments base cs has) at)

    left_unmoved : IsSure (m.seen before.stores.catalog) → after.stores.catalog ≡ before.stores.catalog → Left
    left_unmoved sure same = (
      cs,
      has.lawful,
      at_moment (m.seen before.stores.catalog) (m.seen before.stores.catalog) (λ (a : Area). SpellsCatalog a base cs) left
          (started (m.seen before.stores.catalog) has.store.0 (λ (a : Area). SpellsCatalog a base cs) sure has.store.1 has.store.2)
          (subst (λ (x : B). IsLeftByCrash (m.seen before.stores.catalog) (m.seen x) left) same at),
      inl refl,
    )

-- of a publish
module _ {B : Type 0} (m : Members B) (before after : Sight B) (answer : Answer) (base : List ℕ) (cs : Catalog)
    (has : HasCatalog (m.seen before.stores.catalog) base cs) where
  pub publish_made : Publishes m before answer after → Made m before after answer base cs has Publish answer
  publish_made (inl (not_taken, same, unasked)) =
      without m before after answer base cs has Publish answer (unmoved m before after answer base cs has Publish same)
      (not_taken_zero answer before.input.told not_taken)
  publish_made (inr (changes, brings, ends)) = by_end m before after answer base cs has Publish changes brings ends

  pub publish_left : (left : Area) (at : IsLeftByCrash (m.seen before.stores.catalog) (m.seen after.stores.catalog) left) → IsSure (m.seen before.stores.catalog)
      → Publishes m before answer after → Left m before after answer base cs has Publish left at
  publish_left left at sure (inl (not_taken, same, unasked)) = left_unmoved m before after answer base cs has Publish left at sure same
  publish_left left at sure (inr (changes, brings, ends)) = left_by_end m before after answer base cs has Publish left at changes brings ends

  -- of names
  pub names_made : (kind : NameKind) (pairs : List Pair) → CommitsNames m kind pairs before answer after
      → Made m before after answer base cs has (Names kind pairs) answer
  names_made kind pairs (inl (first, same, unasked)) =
      without m before after answer base cs has (Names kind pairs) answer (unmoved m before after answer base cs has (Names kind pairs) same)
      (unread_zero answer kind pairs first)
  names_made kind pairs (inr (changes, asked, ends)) = by_end m before after answer base cs has (Names kind pairs) changes asked ends

  pub names_left : (kind : NameKind) (pairs : List Pair) (left : Area) (at : IsLeftByCrash (m.seen before.stores.catalog) (m.seen after.stores.catalog) left)
      → IsSure (m.seen before.stores.catalog) → CommitsNames m kind pairs before answer after → Left m before after answer base cs has (Names kind pairs) left at
  names_left kind pairs left at sure (inl (first, same, unasked)) = left_unmoved m before after answer base cs has (Names kind pairs) left at sure same
  names_left kind pairs left at sure (inr (changes, asked, ends)) =
      left_by_end m before after answer base cs has (Names kind pairs) left at changes asked ends
