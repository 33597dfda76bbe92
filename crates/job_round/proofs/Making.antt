-- Calls of a pass as they are made, one behind the other.
use Rattle.std.proofs.Common.{◌≡◌, ℕ, List, [], ◌∷◌, ◌++◌, map, drop, Bool, true, None, Some, Ok, Err, Result, refl, sym, ◌∙◌, ap, subst, append_assoc, append-nil}
use Rattle.std.specs.Prelude.{IsErrOf}
use Rattle.std.proofs.lemmas.Grind.{flat_map-append}
use Rattle.std.proofs.lemmas.List.{map-append}
use Rattle.std.specs.List.{Contains, slice_get}
use Rattle.std.specs.Option.{is_some}
use Rattle.blob_store.specs.Events.{Act, Change}
use Rattle.blob_store.specs.Plans.{Makes}
use Rattle.blob_store.specs.Seen.{IsSure, Seen}
use Rattle.blob_store.specs.declared.call.Call.{Call as StoreCall}
use Rattle.blob_store.proofs.Following.{makes_then}
use Rattle.blob_store.proofs.OneCall.{none}
use Rattle.pkg_meta.specs.Catalog.{Catalog}
use Rattle.pkg_meta.specs.declared.commit.Staged.{Staged}
use Rattle.pkg_meta.specs.declared.commit.Stored.{Stored}
use Rattle.catalog_core.specs.Framing.{StaysOpen}
use Rattle.catalog_core.specs.Opened.{IsOpenFor, Opened, staged_bytes}
use Rattle.catalog_items.specs.Reads.{IsRead}
use Rattle.fold_core.specs.Docs.{part}
use Rattle.fold_core.specs.declared.doc.Body.TheVariants.{Made, Staged as FromPublish}
use Rattle.id_pass.specs.declared.call.Call.{Call}
use Rattle.id_pass.specs.declared.call.Call.TheVariants.{Put, Remove}
use Rattle.job_round.specs.Made.{AreMade, AreSomeMade, IsBody, IsMadeCall, RunsCalls}
use Rattle.job_round.specs.Reads.{RunsReads, StopsReading, bodies_of, body_of}
use Rattle.job_round.specs.Stops.{JobHaltsAt, RunsOne}
use Rattle.job_round.specs.declared.stop.Stop.{Stop}
use Rattle.job_round.specs.declared.stop.Stop.TheVariants.{CatalogFault}
use Rattle.job_round.proofs.Bodies.{brought_of}
use Rattle.job_round.proofs.Halting.{halts_of, halts_then}
use Rattle.job_round.proofs.Reading.{reads_early, reads_then, reads_told}
use Rattle.job_round.proofs.Staying.{quiet_ok, stays_next, stays_on, stays_still, stays_well, stopped, well, went_well}

module _ (Q R : Catalog → Type 0) (more : (cs : Catalog) → R cs → Q cs) where
  pub weaker_one : (call : Call) (c : StoreCall) → IsMadeCall Q call c → IsMadeCall R call c
  weaker_one (Put name (Made bytes)) c is = is
  weaker_one (Put name (FromPublish number place nuspec)) c (bytes, is, body) = (bytes, is, λ cs meant. body cs (more cs meant))
  weaker_one (Remove name) c is = is

  pub weaker_all : (calls : List Call) (made : List StoreCall) → AreMade Q calls made → AreMade R calls made
  weaker_all [] [] all = all
  weaker_all [] (c ∷ made) all = all
  weaker_all (call ∷ calls) [] all = all
  weaker_all (call ∷ calls) (c ∷ made) all = (weaker_one call c all.0, weaker_all calls made all.1)

  pub weaker_some : (calls : List Call) (made : List StoreCall) → AreSomeMade Q calls made → AreSomeMade R calls made
  weaker_some calls [] some = tt
  weaker_some [] (c ∷ made) some = some
  weaker_some (call ∷ calls) (c ∷ made) some = (weaker_one call c some.0, weaker_some calls made some.1)

module _ (Q : Catalog → Type 0) where
  pub made_joined : (xs ys : List Call) (us vs : List StoreCall) → AreMade Q xs us → AreMade Q ys vs → AreMade Q (xs ++ ys) (us ++ vs)
  made_joined [] ys [] vs first second = second
  made_joined [] ys (u ∷ us) vs first second = absurd first
  made_joined (x ∷ xs) ys [] vs first second = absurd first
  made_joined (x ∷ xs) ys (u ∷ us) vs first second = (first.0, made_joined xs ys us vs first.1 second)

  pub some_joined : (xs ys : List Call) (us vs : List StoreCall) → AreMade Q xs us → AreSomeMade Q ys vs → AreSomeMade Q (xs ++ ys) (us ++ vs)
  some_joined [] ys [] vs first second = second
  some_joined [] ys (u ∷ us) vs first second = absurd first
  some_joined (x ∷ xs) ys [] vs first second = absurd first
  some_joined (x ∷ xs) ys (u ∷ us) vs first second = (first.0, some_joined xs ys us vs first.1 second)

  pub some_front : (xs ys : List Call) (us : List StoreCall) → AreSomeMade Q xs us → AreSomeMade Q (xs ++ ys) us
  some_front xs ys [] some = tt
  some_front [] ys (u ∷ us) some = absurd some
  some_front (x ∷ xs) ys (u ∷ us) some = (some.0, some_front xs ys us some.1)

  -- one call
  pub calls_one : {A : Type 0} (call : Call) (c : StoreCall) (a b : Seen) (r : Result A Stop) → IsMadeCall Q call c → RunsOne (Change c) a b r → RunsCalls Q (call ∷ []) a b r
  calls_one call c a b (Ok x) is runs = (c ∷ [], (is, tt), runs)
  calls_one call c a b (Err stop) is (error, told, stops) = (c ∷ [], (is, tt), subst (λ (s : Stop). JobHaltsAt (Change c ∷ []) s a b) (sym told) (halts_of (Change c ∷ []) error a b stops))

-- calls behind others
pub calls_then : {A : Type 0} (Q : Catalog → Type 0) (done ys : List Call) (made : List StoreCall) (a b c : Seen) (r : Result A Stop) → AreMade Q done made → Makes (map Change made) a b
    → RunsCalls Q ys b c r → RunsCalls Q (done ++ ys) a c r
calls_then Q done ys made a b c (Ok x) all first (more, these, second) =
    (made ++ more, made_joined Q done ys made more all these, subst (λ (l : List Act). Makes l a c) (sym (map-append Change made more)) (makes_then (map Change made) (map Change more) a b c first second))
calls_then Q done ys made a b c (Err stop) all first (more, some, second) =
    (made ++ more, some_joined Q done ys made more all some, subst (λ (l : List Act). JobHaltsAt l stop a c) (sym (map-append Change made more)) (halts_then (map Change made) (map Change more) stop a b c first second))

-- what the catalog read is the body
pub read_body : {B : Type 0} (o : Opened B) (s : Seen) (number place : ℕ) (nuspec : Bool) (bytes : List ℕ)
    → ((cs : Catalog) (c : Stored) (brought : Staged) → IsOpenFor o s cs → Contains cs c → c.commit.number ≡ number → slice_get c.staged place ≡ Some (Some brought)
    → IsRead (staged_bytes nuspec brought) (Ok bytes)) → IsBody (IsOpenFor o s) (FromPublish number place nuspec) bytes
read_body o s number place nuspec bytes reads = λ cs is_open own is.
    let at = brought_of cs number place nuspec is_open.lawful.lawful.commits (ap is_some is) in
    let read : bytes ≡ staged_bytes nuspec at.brought = reads cs at.commit at.brought is_open at.within at.number_is at.stands in
    let same : Some (part nuspec at.brought) ≡ Some own = sym at.bytes ∙ is in
    cc

-- a plan that was run so far: its calls up to those that are left
pub record RunSoFar {B : Type 0} (o n : Opened B) (s t : Seen) (old new : Seen) (whole left : List Call) : Type 0 where
  pub stays : StaysOpen o n s t (IsErrOf went_well CatalogFault)
  pub done : List Call
  pub made : List StoreCall
  pub split : whole ≡ done ++ left
  pub all : AreMade (IsOpenFor o s) done made
  pub ran : Makes (map Change made) old new
  pub read : o.settled ≡ true → Makes (bodies_of done) s t

pub head_is : (left : List Call) (call : Call) → Some call ≡ slice_get left 0 → left ≡ call ∷ drop 1 left
head_is [] call is = absurd (let no : ⊥ = cc in no)
head_is (x ∷ left) call is = let same : x ≡ call = cc in ap (λ (y : Call). y ∷ left) same

none_left : (left : List Call) → None ≡ slice_get left 0 → left ≡ []
none_left [] is = refl
none_left (x ∷ left) is = absurd (let no : ⊥ = cc in no)

pub run_none : {B : Type 0} (o : Opened B) (s old : Seen) (whole : List Call) → IsSure s → IsSure old → RunSoFar o o s s old old whole whole
run_none o s old whole sure quiet = record { stays = stays_still o s went_well sure (quiet_ok tt); done = []; made = []; split = refl; all = tt; ran = none old quiet; read = λ settled. none s sure }

module _ {B : Type 0} (o mid n : Opened B) (s t u : Seen) (old now new : Seen) (whole left : List Call) (so_far : RunSoFar o mid s t old now whole left) where
  open_then : (cs : Catalog) → IsOpenFor o s cs → IsOpenFor mid t cs
  open_then cs is_open = (so_far.stays.open_for cs is_open).open_for

  module _ (call : Call) (is : Some call ≡ slice_get left 0) where
    own : left ≡ call ∷ drop 1 left
    own = head_is left call is

    pub run_more : {A : Type 0} (x : A) → StaysOpen mid n t u (IsErrOf (well x) CatalogFault) → RunsCalls (IsOpenFor mid t) (call ∷ []) now new (well x)
        → (mid.settled ≡ true → RunsReads (bodies_of (call ∷ [])) t u (well x)) → RunSoFar o n s u old new whole (drop 1 left)
    run_more x stays (more, these, runs) reads = record {
      stays = stays_next o mid n s t u tt went_well so_far.stays (stays_well mid n t u x went_well (quiet_ok tt) stays);
      done = so_far.done ++ call ∷ [];
      made = so_far.made ++ more;
      split = so_far.split ∙ ap (λ (l : List Call). so_far.done ++ l) own ∙ sym (append_assoc so_far.done (call ∷ []) (drop 1 left));
      all = made_joined (IsOpenFor o s) so_far.done (call ∷ []) so_far.made more so_far.all (weaker_all (IsOpenFor mid t) (IsOpenFor o s) open_then (call ∷ []) more these);
      ran = subst (λ (l : List Act). Makes l old new) (sym (map-append Change so_far.made more)) (makes_then (map Change so_far.made) (map Change more) old now new so_far.ran runs);
      read = λ settled.
          subst (λ (l : List Act). Makes l s u) (sym (flat_map-append body_of so_far.done (call ∷ [])))
          (makes_then (bodies_of so_far.done) (bodies_of (call ∷ [])) s t u (so_far.read settled) (reads (so_far.stays.settled settled).0));
    }

    pub run_unread : {A : Type 0} (stop : Stop) (r : Result A Stop) → r ≡ Err stop → (mid.settled ≡ true → StopsReading (bodies_of (call ∷ [])) stop t u) → o.settled ≡ true
        → RunsReads (bodies_of whole) s u r
    run_unread stop r told reads settled =
        let same : whole ≡ (so_far.done ++ call ∷ []) ++ drop 1 left = so_far.split ∙ ap (λ (l : List Call). so_far.done ++ l) own ∙ sym (append_assoc so_far.done (call ∷ []) (drop 1 left)) in
        let all : bodies_of whole ≡ (bodies_of so_far.done ++ bodies_of (call ∷ [])) ++ bodies_of (drop 1 left) =
        ap bodies_of same ∙ flat_map-append body_of (so_far.done ++ call ∷ []) (drop 1 left)
        ∙ ap (λ (l : List Act). l ++ bodies_of (drop 1 left)) (flat_map-append body_of so_far.done (call ∷ [])) in
        reads_told (bodies_of whole) s u stop r told
        (subst (λ (l : List Act). StopsReading l stop s u) (sym all)
        (reads_early (bodies_of so_far.done ++ bodies_of (call ∷ [])) (bodies_of (drop 1 left)) stop s u
        (reads_then (bodies_of so_far.done) (bodies_of (call ∷ [])) stop s t u (so_far.read settled) (reads (so_far.stays.settled settled).0))))

    pub run_stopped : {A : Type 0} (stop : Stop) (r : Result A Stop) → r ≡ Err stop → RunsCalls (IsOpenFor mid t) (call ∷ []) now new (stopped (Unit {0}) stop) → RunsCalls (IsOpenFor o s) whole old new r
    run_stopped {A} stop r told (more, some, halts) =
        let first : AreSomeMade (IsOpenFor o s) ((so_far.done ++ call ∷ []) ++ drop 1 left) (so_far.made ++ more) =
        some_front (IsOpenFor o s) (so_far.done ++ call ∷ []) (drop 1 left) (so_far.made ++ more)
        (some_joined (IsOpenFor o s) so_far.done (call ∷ []) so_far.made more so_far.all (weaker_some (IsOpenFor mid t) (IsOpenFor o s) open_then (call ∷ []) more some)) in
        let same : whole ≡ (so_far.done ++ call ∷ []) ++ drop 1 left = so_far.split ∙ ap (λ (l : List Call). so_far.done ++ l) own ∙ sym (append_assoc so_far.done (call ∷ []) (drop 1 left)) in
        subst (λ (x : Result A Stop). RunsCalls (IsOpenFor o s) whole old new x) (sym told) (
          so_far.made ++ more,
          subst (λ (l : List Call). AreSomeMade (IsOpenFor o s) l (so_far.made ++ more)) (sym same) first,
          subst (λ (l : List Act). JobHaltsAt l stop old new) (sym (map-append Change so_far.made more)) (halts_then (map Change so_far.made) (map Change more) stop old now new so_far.ran halts),
        )

    pub stays_stopped : {A T : Type 0} (stop : Stop) (r : Result A Stop) → r ≡ Err stop → StaysOpen mid n t u (IsErrOf (stopped T stop) CatalogFault) → StaysOpen o n s u (IsErrOf r CatalogFault)
    stays_stopped {A} {T} stop r told stays = stays_next o mid n s t u tt r so_far.stays (stays_on mid n t u stop r told stays)

  pub run_ended : None ≡ slice_get left 0 → RunsCalls (IsOpenFor o s) whole old now went_well
  run_ended is =
      let same : whole ≡ so_far.done = so_far.split ∙ ap (λ (l : List Call). so_far.done ++ l) (none_left left is) ∙ append-nil so_far.done in
      (so_far.made, subst (λ (l : List Call). AreMade (IsOpenFor o s) l so_far.made) (sym same) so_far.all, so_far.ran)

  pub run_read : None ≡ slice_get left 0 → o.settled ≡ true → Makes (bodies_of whole) s t
  run_read is settled =
      let same : whole ≡ so_far.done = so_far.split ∙ ap (λ (l : List Call). so_far.done ++ l) (none_left left is) ∙ append-nil so_far.done in
      subst (λ (l : List Call). Makes (bodies_of l) s t) (sym same) (so_far.read settled)
