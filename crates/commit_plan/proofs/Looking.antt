-- The gets of changes of listing, one behind the other.
use Rattle.std.proofs.Common.{◌≡◌, ◌<◌, ◌+◌, ℕ, suc, List, [], ◌∷◌, ◌++◌, length, take, drop, get_or, Option, None, Some, Ok, Err, Result, inl, inr, refl, sym, ◌∙◌, ap, subst, add-one, append-nil}
use Rattle.std.specs.Prelude.{flat_map, IsErrOf}
use Rattle.std.proofs.lemmas.Grind.{flat_map-append}
use Rattle.std.proofs.lemmas.List.{take-append-drop, take_more}
use Rattle.blob_store.specs.Events.{Act, Change as change_act, Get}
use Rattle.blob_store.specs.Plans.{Makes, MakesSome}
use Rattle.blob_store.specs.Seen.{Seen, IsSure}
use Rattle.blob_store.specs.declared.error.BlobErr.TheVariants as blob
use Rattle.blob_store.proofs.InMemory.{some_behind, some_early}
use Rattle.blob_store.proofs.OneCall.{none}
use Rattle.blob_store.proofs.Stepping.{next_plan_made, next_plan_stopped}
use Rattle.catalog_doc.specs.declared.change.Change.{Change}
use Rattle.catalog_doc.specs.declared.change.Change.TheVariants.{Publish, Unlist, Relist, Delete}
use Rattle.catalog_doc.specs.declared.error.CommitErr.{CommitErr}
use Rattle.catalog_doc.specs.declared.error.CommitErr.TheVariants as commit
use Rattle.catalog_doc.specs.declared.row.Row.{Row}
use Rattle.catalog_opening.specs.Plans.{HaltsAt}
use Rattle.catalog_opening.specs.declared.error.ReadErr.{ReadErr}
use Rattle.catalog_opening.specs.declared.error.ReadErr.TheVariants as read
use Rattle.catalog_opening.proofs.Halting.{AreGets}
use Rattle.catalog_rows.specs.Reasons.{IsOfRows}
use Rattle.catalog_items.specs.Framing.{OnlyGets}
use Rattle.catalog_items.specs.Leaves.{leaf_gets}
use Rattle.catalog_items.proofs.Getting.{gets_as, made_gets, only_gets}
use Rattle.commit_plan.specs.Lookups.{commit_err_for, gets_for, HaltsAtOne, HaltsLooking, listing_gets, RunsLooking}

gets_append : (p q : List Act) → AreGets p → AreGets q → AreGets (p ++ q)
gets_append [] q first second = second
gets_append (Get name ∷ p) q first second = gets_append p q first second
gets_append (change_act call ∷ p) q first second = absurd first

leaf_gets-gets : (found : Option Row) → AreGets (leaf_gets found)
leaf_gets-gets None = tt
leaf_gets-gets (Some row) = tt

gets_for-gets : (rows : List Row) (change : Change) → AreGets (gets_for rows change)
gets_for-gets rows (Publish meta nuspec nupkg) = tt
gets_for-gets rows (Unlist i v) = leaf_gets-gets _
gets_for-gets rows (Relist i v) = leaf_gets-gets _
gets_for-gets rows (Delete i v) = tt

pub listing_gets-gets : (rows : List Row) (changes : List Change) → AreGets (listing_gets rows changes)
listing_gets-gets rows [] = tt
listing_gets-gets rows (change ∷ changes) = gets_append (gets_for rows change) (listing_gets rows changes) (gets_for-gets rows change) (listing_gets-gets rows changes)

module _ (rows : List Row) (changes : List Change) (i : ℕ) (change : Change) (within : i < length changes) (is : change ≡ get_or changes i change) (a b c : Seen)
    (first : Makes (listing_gets rows (take i changes)) a b) where
  -- one change more
  pub looked_more : Makes (gets_for rows change) b c → Makes (listing_gets rows (take (i + 1) changes)) a c
  looked_more second = next_plan_made (gets_for rows) changes i change within is a b c first second

  whole : listing_gets rows (take (i + 1) changes) ++ listing_gets rows (drop (i + 1) changes) ≡ listing_gets rows changes
  whole = sym (flat_map-append (gets_for rows) (take (i + 1) changes) (drop (i + 1) changes)) ∙ ap (flat_map (gets_for rows)) (take-append-drop (i + 1) changes)

  next_is : listing_gets rows (take i changes) ++ gets_for rows change ≡ listing_gets rows (take (i + 1) changes)
  next_is = ap (λ (y : Change). listing_gets rows (take i changes) ++ gets_for rows y) is ∙ ap (λ (l : List Act). listing_gets rows (take i changes) ++ l) (sym (append-nil (gets_for rows (get_or changes i change))))
      ∙ sym (ap (flat_map (gets_for rows)) (take_more changes i change within) ∙ flat_map-append (gets_for rows) (take i changes) (get_or changes i change ∷ []))

  cut_off : MakesSome (gets_for rows change) b c → MakesSome (listing_gets rows changes) a c
  cut_off some = subst (λ (l : List Act). MakesSome l a c) whole
      (some_early (listing_gets rows (take (i + 1) changes)) (listing_gets rows (drop (i + 1) changes)) a c
      (subst (λ (l : List Act). MakesSome l a c) next_is (some_behind (listing_gets rows (take i changes)) (gets_for rows change) a b c first some)))

  -- memory ran out behind its gets
  pub looked_out : Makes (gets_for rows change) b c → MakesSome (listing_gets rows changes) a c
  looked_out second = (listing_gets rows (take (i + 1) changes), listing_gets rows (drop (i + 1) changes), sym whole, looked_more second)

  -- the look ended at this change
  pub looked_up_to : (error : CommitErr) → HaltsAtOne i (gets_for rows change) error b c → HaltsLooking rows changes error a c
  looked_up_to (commit.Already at number) halts =
      subst (λ (k : ℕ). Makes (listing_gets rows (take k changes)) a c) (add-one i ∙ ap suc (sym halts.0)) (looked_more halts.1)
  looked_up_to commit.Fault halts = next_plan_stopped (gets_for rows) changes i change within is blob.Failed a b c first halts
  looked_up_to (commit.Damaged name) halts = cut_off halts
  looked_up_to commit.Memory (inl stops) = inl (next_plan_stopped (gets_for rows) changes i change within is blob.Memory a b c first stops)
  looked_up_to commit.Memory (inr some) = inr (cut_off some)
  looked_up_to commit.Empty halts = absurd halts
  looked_up_to (commit.TooMany n) halts = absurd halts
  looked_up_to (commit.Twice n) halts = absurd halts
  looked_up_to (commit.Exists p n) halts = absurd halts
  looked_up_to (commit.Absent p n) halts = absurd halts
  looked_up_to (commit.IdFull p) halts = absurd halts
  looked_up_to (commit.Full n) halts = absurd halts
  looked_up_to commit.ClockEnd halts = absurd halts

-- refused before the first get
pub unlooked : (rows : List Row) (changes : List Change) (a : Seen) (error : CommitErr) → IsSure a → IsOfRows error → HaltsLooking rows changes error a a
unlooked rows changes a commit.Empty sure kind = none a sure
unlooked rows changes a (commit.TooMany n) sure kind = none a sure
unlooked rows changes a (commit.Twice n) sure kind = none a sure
unlooked rows changes a (commit.Exists p n) sure kind = none a sure
unlooked rows changes a (commit.Absent p n) sure kind = none a sure
unlooked rows changes a (commit.IdFull p) sure kind = none a sure
unlooked rows changes a (commit.Full n) sure kind = none a sure
unlooked rows changes a commit.ClockEnd sure kind = none a sure
unlooked rows changes a (commit.Already at number) sure kind = absurd kind
unlooked rows changes a commit.Fault sure kind = absurd kind
unlooked rows changes a (commit.Damaged name) sure kind = absurd kind
unlooked rows changes a commit.Memory sure kind = absurd kind

pub unlooked_out : (rows : List Row) (changes : List Change) (a : Seen) → IsSure a → HaltsLooking rows changes commit.Memory a a
unlooked_out rows changes a sure = inr ([], listing_gets rows changes, refl, none a sure)

-- behind a `?`
pub looking_told : {A : Type 0} (rows : List Row) (changes : List Change) (a b : Seen) (r : Result A CommitErr) (error : CommitErr) → r ≡ Err error → HaltsLooking rows changes error a b
    → RunsLooking rows changes a b r
looking_told rows changes a b r error is halts = subst (λ (x : Result _ CommitErr). RunsLooking rows changes a b x) (sym is) halts

-- nothing but gets
quiet_gets : {A : Type 0} (plan : List Act) (a b : Seen) (error : CommitErr) → AreGets plan → (error ≡ commit.Fault → ⊥) → Makes plan a b → OnlyGets a b (IsErrOf {T = A} (Err error) commit.Fault)
quiet_gets plan a b error gets other made = made_gets plan a b gets _ (λ failed. other (let same : error ≡ commit.Fault = cc in same)) made

read_gets : {A : Type 0} (plan : List Act) (a b : Seen) (error : ReadErr) → AreGets plan → HaltsAt plan error a b → OnlyGets a b (IsErrOf {T = A} (Err (commit_err_for error)) commit.Fault)
read_gets {A} plan a b error gets halts = gets_as a b _ _ (only_gets plan a b gets {A = Unit {0}} (Err error) halts) (told error) (back error)
  where
    told : (error : ReadErr) → IsErrOf {T = Unit {0}} (Err error) read.Fault → IsErrOf {T = A} (Err (commit_err_for error)) commit.Fault
    told (read.Damaged name) failed = absurd (let no : ⊥ = cc in no)
    told read.Fault failed = refl
    told read.Memory failed = absurd (let no : ⊥ = cc in no)

    back : (error : ReadErr) → IsErrOf {T = A} (Err (commit_err_for error)) commit.Fault → IsErrOf {T = Unit {0}} (Err error) read.Fault
    back (read.Damaged name) failed = absurd (let no : ⊥ = cc in no)
    back read.Fault failed = refl
    back read.Memory failed = absurd (let no : ⊥ = cc in no)

module _ (rows : List Row) (changes : List Change) (a b : Seen) where
  halted_gets : {A : Type 0} (error : CommitErr) → HaltsLooking rows changes error a b → OnlyGets a b (IsErrOf {T = A} (Err error) commit.Fault)
  halted_gets (commit.Already place number) made = quiet_gets (listing_gets rows (take (suc place) changes)) a b (commit.Already place number) (listing_gets-gets rows (take (suc place) changes)) (λ is. let no : ⊥ = cc in no) made
  halted_gets commit.Fault stops = read_gets (listing_gets rows changes) a b read.Fault (listing_gets-gets rows changes) stops
  halted_gets (commit.Damaged name) some = read_gets (listing_gets rows changes) a b (read.Damaged name) (listing_gets-gets rows changes) some
  halted_gets commit.Memory halts = read_gets (listing_gets rows changes) a b read.Memory (listing_gets-gets rows changes) halts
  halted_gets commit.Empty made = quiet_gets [] a b commit.Empty tt (λ is. let no : ⊥ = cc in no) made
  halted_gets (commit.TooMany n) made = quiet_gets [] a b (commit.TooMany n) tt (λ is. let no : ⊥ = cc in no) made
  halted_gets (commit.Twice n) made = quiet_gets [] a b (commit.Twice n) tt (λ is. let no : ⊥ = cc in no) made
  halted_gets (commit.Exists p n) made = quiet_gets [] a b (commit.Exists p n) tt (λ is. let no : ⊥ = cc in no) made
  halted_gets (commit.Absent p n) made = quiet_gets [] a b (commit.Absent p n) tt (λ is. let no : ⊥ = cc in no) made
  halted_gets (commit.IdFull p) made = quiet_gets [] a b (commit.IdFull p) tt (λ is. let no : ⊥ = cc in no) made
  halted_gets (commit.Full n) made = quiet_gets [] a b (commit.Full n) tt (λ is. let no : ⊥ = cc in no) made
  halted_gets commit.ClockEnd made = quiet_gets [] a b commit.ClockEnd tt (λ is. let no : ⊥ = cc in no) made

  pub looks_only : {A : Type 0} (r : Result A CommitErr) → RunsLooking rows changes a b r → OnlyGets a b (IsErrOf r commit.Fault)
  looks_only (Ok x) made = made_gets (listing_gets rows changes) a b (listing_gets-gets rows changes) _ (λ failed. let no : ⊥ = cc in no) made
  looks_only (Err error) halts = halted_gets error halts
