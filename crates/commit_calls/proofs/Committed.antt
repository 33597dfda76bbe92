-- The calls of a commit.
use Rattle.std.proofs.Common.{◌≡◌, ⊎_elim, ℕ, List, [], ◌++◌, map, Option, None, Some, Ok, Err, Result, refl, sym, ◌∙◌, ap, subst}
use Rattle.std.specs.Prelude.{suc, take}
use Rattle.blob_store.specs.Area.{Area}
use Rattle.blob_store.specs.Events.{Act, Change}
use Rattle.blob_store.specs.Plans.{Makes, all_done}
use Rattle.blob_store.specs.Seen.{Seen}
use Rattle.blob_store.specs.Steps.{after_plan}
use Rattle.blob_store.specs.declared.error.BlobErr.TheVariants as blob
use Rattle.pkg_meta.specs.Catalog.{Catalog}
use Rattle.catalog_doc.specs.CatDocs.{all_rows}
use Rattle.catalog_doc.specs.Catalogs.{IsCatalog}
use Rattle.catalog_doc.specs.Commits.{commit_puts, made}
use Rattle.catalog_doc.specs.Verdict.{answer_for, refusal}
use Rattle.catalog_doc.specs.declared.change.Change.{Change as OneChange}
use Rattle.catalog_doc.specs.declared.change.Committed.{Committed}
use Rattle.catalog_doc.specs.declared.error.CommitErr.{CommitErr}
use Rattle.catalog_doc.specs.declared.error.CommitErr.TheVariants as commit
use Rattle.catalog_laws.proofs.Kept.{stays_catalog}
use Rattle.catalog_rows.specs.Reasons.{misshapen}
use Rattle.catalog_rows.proofs.Places.{or_first, parts}
use Rattle.commit_plan.specs.Lookups.{listing_gets}
use Rattle.catalog_core.specs.Committing.{IsSettledBy, MayBeCommitted, RunsCommit, commit_acts, with_made}
use Rattle.catalog_core.specs.Opened.{Opened}
use Rattle.commit_calls.specs.Called.{Committing}
use Rattle.commit_calls.proofs.Opened.{Settled, settled}
use Rattle.commit_calls.proofs.Still.{AreStill, all_meet, gets_leave, listing_are, listing_still, made_still, some_still, still_joined, stop_still}
use Rattle.feed_laws.specs.Calls.{CallsMeetOnCatalog, MeetAllOnCatalog}
use Rattle.feed_laws.proofs.Called.{commit_meets, joined, plan_meets, some_meet, stop_meets}

module _ {B : Type 0} (o n : Opened B) (cs : Catalog) (changes : List OneChange) (now : ℕ) (m : Area) (before after : Seen) (result : Result Committed CommitErr)
    (is : Committing o n cs changes now m before after result) where
  abbrev base : List ℕ
  base = o.base

  abbrev gets : List Act
  gets = listing_gets (all_rows cs) changes

  abbrev puts : List Act
  puts = map Change (commit_puts base cs (made cs changes now))

  -- where no catalog takes the changes, this one doesn't either
  refused : (error : CommitErr) → misshapen changes ≡ Some error → MayBeCommitted cs changes now → ⊥
  refused error own may =
      let reason : refusal cs changes ≡ Some error = parts cs changes ∙ or_first (misshapen changes) _ error own in
      let told : Err error ≡ Ok (made cs changes now) = sym (ap (answer_for (made cs changes now)) reason) ∙ may in
      cc

  first_still : (found : Option CommitErr) (first : List Act) → IsSettledBy o cs found first → AreStill base cs first
  first_still None first by = (settled o cs m before is.open_for is.held first by).still
  first_still (Some error) first by = subst (AreStill base cs) (sym by) tt

  first_settles : (found : Option CommitErr) (first : List Act) → misshapen changes ≡ found → IsSettledBy o cs found first → MayBeCommitted cs changes now
      → Settled o cs m before is.open_for is.held first
  first_settles None first own by may = settled o cs m before is.open_for is.held first by
  first_settles (Some error) first own by may = absurd (refused error own may)

  module _ (first : List Act) (by : IsSettledBy o cs (misshapen changes) first) where
    still : AreStill base cs first
    still = first_still (misshapen changes) first by

    gets_still : AreStill base cs (first ++ gets)
    gets_still = still_joined base cs first gets still (listing_still base cs (all_rows cs) changes)

    refused_still : (place : ℕ) → AreStill base cs (first ++ listing_gets (all_rows cs) (take (suc place) changes))
    refused_still place = still_joined base cs first (listing_gets (all_rows cs) (take (suc place) changes)) still
        (listing_still base cs (all_rows cs) (take (suc place) changes))

    refuses : Makes (first ++ []) before after → (last : Catalog) × CallsMeetOnCatalog base cs m before after last
    refuses made_ = (cs, made_still base cs (first ++ []) m (still_joined base cs first [] still tt) before after made_)

    module _ (may : MayBeCommitted cs changes now) where
      whole : IsCatalog (with_made cs changes now)
      whole = stays_catalog cs changes now (made cs changes now)
          (record { whole = is.open_for.lawful; values = is.values; moment = is.moment; taken = may })

      begun : Settled o cs m before is.open_for is.held first
      begun = first_settles (misshapen changes) first refl by may

      abbrev there : Area
      there = after_plan first m

      puts_meet : MeetAllOnCatalog base cs there (all_done puts) (with_made cs changes now)
      puts_meet = commit_meets base cs (made cs changes now) there whole begun.spells begun.index

      own_meet : MeetAllOnCatalog base cs there (all_done (gets ++ puts)) (with_made cs changes now)
      own_meet = joined base gets puts cs cs (with_made cs changes now) there
          (all_meet base cs gets there (listing_still base cs (all_rows cs) changes))
          (subst (λ (a : Area). MeetAllOnCatalog base cs a (all_done puts) (with_made cs changes now)) (sym (gets_leave gets there (listing_are (all_rows cs) changes))) puts_meet)

      pub every_meets : MeetAllOnCatalog base cs m (all_done (first ++ commit_acts base cs changes now)) (with_made cs changes now)
      every_meets = joined base first (gets ++ puts) cs cs (with_made cs changes now) m (all_meet base cs first m still) own_meet

  abbrev Meets : Type 0
  Meets = (last : Catalog) × CallsMeetOnCatalog base cs m before after last

  module _ (first : List Act) (by : IsSettledBy o cs (misshapen changes) first) where
    abbrev acts : List Act
    acts = first ++ commit_acts base cs changes now

    pub done_meets : MayBeCommitted cs changes now → Makes acts before after → CallsMeetOnCatalog base cs m before after (with_made cs changes now)
    done_meets may made_ = plan_meets base acts cs (with_made cs changes now) m (every_meets first by may) before after made_

    by_answer : (r : Result Committed CommitErr) → (r ≡ result) → RunsCommit first base cs changes now before after r → ((done : Committed) → r ≡ Ok done → MayBeCommitted cs changes now) → Meets
    by_answer (Ok done) e runs may = (with_made cs changes now, done_meets (may done refl) runs)
    by_answer (Err commit.Fault) e runs may = ⊎_elim
        (λ early. (cs, stop_still base cs (first ++ gets) m (gets_still first by) before after blob.Failed early))
        (λ late. stop_meets base acts cs (with_made cs changes now) m (every_meets first by late.0) before after blob.Failed late.1) runs
    by_answer (Err (commit.Damaged name)) e runs may = absurd runs
    by_answer (Err commit.Memory) e runs may = ⊎_elim
        (λ early. (
          cs,
          ⊎_elim (stop_still base cs (first ++ gets) m (gets_still first by) before after blob.Memory)
              (some_still base cs (first ++ gets) m (gets_still first by) before after) early,
        ))
        (λ late. ⊎_elim (stop_meets base acts cs (with_made cs changes now) m (every_meets first by late.0) before after blob.Memory)
        (some_meet base acts cs (with_made cs changes now) m (every_meets first by late.0) before after) late.1) runs
    by_answer (Err (commit.Already place number)) e runs may =
        (cs, made_still base cs (first ++ listing_gets (all_rows cs) (take (suc place) changes)) m (refused_still first by place) before after runs)
    by_answer (Err commit.Empty) e runs may = refuses first by runs
    by_answer (Err (commit.TooMany k)) e runs may = refuses first by runs
    by_answer (Err (commit.Twice k)) e runs may = refuses first by runs
    by_answer (Err (commit.Exists p k)) e runs may = refuses first by runs
    by_answer (Err (commit.Absent p k)) e runs may = refuses first by runs
    by_answer (Err (commit.IdFull p)) e runs may = refuses first by runs
    by_answer (Err (commit.Full k)) e runs may = refuses first by runs
    by_answer (Err commit.ClockEnd) e runs may = refuses first by runs

  taken : (r : Result Committed CommitErr) → r ≡ result → (done : Committed) → r ≡ Ok done → MayBeCommitted cs changes now
  taken r e done told = (subst (λ (x : Result Committed CommitErr). Committing o n cs changes now m before after x) (sym e ∙ told) is).answers.0

  pub calls_meet : Meets
  calls_meet = by_answer is.runs.0 is.runs.1 result refl is.runs.2 (taken result refl)
