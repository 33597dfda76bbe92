-- Plans of reads, one behind the other.
use Rattle.std.proofs.Common.{◌≡◌, ℕ, zero, suc, List, [], ◌∷◌, ◌++◌, Bool, true, false, Option, Some, None, Ok, Err, Result, inl, inr, refl, sym, ◌∙◌, ap, subst, option_map, arith}
use Rattle.std.specs.Prelude.{⊤}
use Rattle.feed_base.specs.Counts.{CountsFault}
use Rattle.blob_store.specs.Area.{Area}
use Rattle.blob_store.specs.Events.{Act, Event, Fate, Get, Change, Done, FailedOld, FailedNew, NoMemory, after_act, after_events}
use Rattle.blob_store.specs.Plans.{all_done, Makes, MakesSome, StopsAt}
use Rattle.blob_store.specs.Seen.{Seen, IsSure}
use Rattle.blob_store.specs.declared.error.BlobErr.{BlobErr}
use Rattle.blob_store.specs.declared.error.BlobErr.TheVariants as blob
use Rattle.blob_store.proofs.Compose.{after_events-append}
use Rattle.blob_store.proofs.Following.{makes_then, stops_behind, stops_early}
use Rattle.blob_store.proofs.InMemory.{some_behind, some_early, some_all}
use Rattle.blob_store.proofs.OneCall.{none}
use Rattle.blob_store.proofs.Told.{made_quietly, stop_counts}
use Rattle.catalog_opening.specs.Errors.{IfDamagedBy, IfDamagedError, IfDamagedRead, read_err_of}
use Rattle.catalog_opening.specs.Plans.{HaltsAt, RunsReading, page_gets}
use Rattle.catalog_opening.specs.declared.error.ReadErr.{ReadErr}
use Rattle.catalog_opening.specs.declared.error.ReadErr.TheVariants.{Damaged, Fault, Memory}

module _ (p q : List Act) (a b c : Seen) (first : Makes p a b) where
  pub halts_behind : (error : ReadErr) → HaltsAt q error b c → HaltsAt (p ++ q) error a c
  halts_behind (Damaged name) some = some_behind p q a b c first some
  halts_behind Fault stops = stops_behind p q blob.Failed a b c first stops
  halts_behind Memory (inl stops) = inl (stops_behind p q blob.Memory a b c first stops)
  halts_behind Memory (inr some) = inr (some_behind p q a b c first some)

  pub reading_then : {A : Type 0} (result : Result A ReadErr) → RunsReading q b c result → RunsReading (p ++ q) a c result
  reading_then (Ok x) second = makes_then p q a b c first second
  reading_then (Err error) second = halts_behind error second

module _ (p q : List Act) (a b : Seen) where
  pub halts_early : (error : ReadErr) → HaltsAt p error a b → HaltsAt (p ++ q) error a b
  halts_early (Damaged name) some = some_early p q a b some
  halts_early Fault stops = stops_early p q blob.Failed a b stops
  halts_early Memory (inl stops) = inl (stops_early p q blob.Memory a b stops)
  halts_early Memory (inr some) = inr (some_early p q a b some)

-- memory ran out, or something is damaged, behind a whole plan
pub halts_made : (p : List Act) (error : ReadErr) (a b : Seen) → Makes p a b → (error ≡ Fault → ⊥) → HaltsAt p error a b
halts_made p (Damaged name) a b made other = some_all p a b made
halts_made p Fault a b made other = absurd (other refl)
halts_made p Memory a b made other = inr (some_all p a b made)

-- before the first call
pub halts_unstarted : (plan : List Act) (a : Seen) → IsSure a → HaltsAt plan Memory a a
halts_unstarted plan a sure = inr ([], plan, refl, none a sure)

-- a call of the store stopped it
pub halts_of : (plan : List Act) (error : BlobErr) (a b : Seen) → StopsAt plan error a b → HaltsAt plan (read_err_of error) a b
halts_of plan blob.Failed a b stops = stops
halts_of plan blob.Memory a b stops = inl stops

-- behind a `?`
pub reading_told : {A : Type 0} (plan : List Act) (a b : Seen) (result : Result A ReadErr) (error : ReadErr) → result ≡ Err error → HaltsAt plan error a b → RunsReading plan a b result
reading_told plan a b result error is halts = subst (λ (r : Result _ ReadErr). RunsReading plan a b r) (sym is) halts

some_quietly : (plan : List Act) (a b : Seen) → MakesSome plan a b → b.faults ≡ a.faults
some_quietly plan a b (first, unmade, is, made) = made_quietly first a b made

quiet : (a b : Seen) (failed : Type 0) → (failed → ⊥) → b.faults ≡ a.faults → CountsFault a.faults b.faults failed
quiet a b failed not_so same = record { later = omega (arith, same); risen = λ is. absurd (not_so is); kept = λ _. same }

pub halt_counts : (plan : List Act) (error : ReadErr) (a b : Seen) → HaltsAt plan error a b → CountsFault a.faults b.faults (error ≡ Fault)
halt_counts plan (Damaged name) a b some = quiet a b (Damaged name ≡ Fault) (λ is. let no : ⊥ = cc in no) (some_quietly plan a b some)
halt_counts plan Fault a b stops =
    let count = stop_counts plan blob.Failed a b stops in
    record { later = count.later; risen = λ _. count.risen refl; kept = λ no. absurd (no refl) }
halt_counts plan Memory a b (inl stops) =
    let count = stop_counts plan blob.Memory a b stops in
    quiet a b (Memory ≡ Fault) (λ is. let no : ⊥ = cc in no) (count.kept (λ is. let no : ⊥ = cc in no))
halt_counts plan Memory a b (inr some) = quiet a b (Memory ≡ Fault) (λ is. let no : ⊥ = cc in no) (some_quietly plan a b some)

-- gets alone
abbrev pub AreGets : List Act → Type 0
AreGets [] = ⊤
AreGets (Get name ∷ plan) = AreGets plan
AreGets (Change call ∷ plan) = ⊥

pub page_gets-gets : (k n : ℕ) → AreGets (page_gets k n)
page_gets-gets k zero = tt
page_gets-gets k (suc n) = page_gets-gets (suc k) n

front_gets : (p q : List Act) → AreGets (p ++ q) → AreGets p
front_gets [] q gets = tt
front_gets (Get name ∷ p) q gets = front_gets p q gets
front_gets (Change call ∷ p) q gets = gets

one_get : (p : List Act) (last : Act) (q : List Act) (fate : Fate) (m : Area) → AreGets (p ++ last ∷ q) → after_act last fate m ≡ m
one_get [] (Get name) q Done m gets = refl
one_get [] (Get name) q FailedOld m gets = refl
one_get [] (Get name) q FailedNew m gets = refl
one_get [] (Get name) q NoMemory m gets = refl
one_get [] (Change call) q fate m gets = absurd gets
one_get (Get name ∷ p) last q fate m gets = one_get p last q fate m gets
one_get (Change call ∷ p) last q fate m gets = absurd gets

pub after_gets : (p : List Act) (m : Area) → AreGets p → after_events (all_done p) m ≡ m
after_gets [] m gets = refl
after_gets (Get name ∷ p) m gets = after_gets p m gets
after_gets (Change call ∷ p) m gets = absurd gets

mapped : (o : Option Area) (f : Area → Area) → ((m : Area) → f m ≡ m) → option_map f o ≡ o
mapped None f same = refl
mapped (Some m) f same = ap Some (same m)

pub gets_keep : (p : List Act) (a b : Seen) → AreGets p → Makes p a b → b.held ≡ a.held
gets_keep p a b gets made = made.area ∙ mapped a.held (after_events (all_done p)) (λ m. after_gets p m gets)

stop_keeps : (p : List Act) (error : BlobErr) (a b : Seen) → AreGets p → StopsAt p error a b → b.held ≡ a.held
stop_keeps p error a b gets (events, ends, tracked) =
    tracked.area ∙ mapped a.held (after_events events) (λ m.
    ap (λ (es : List Event). after_events es m) ends.made
    ∙ after_events-append (all_done ends.first) ((record { act = ends.last; fate = ends.fate }) ∷ []) m
    ∙ ap (after_act ends.last ends.fate) (after_gets ends.first m (front_gets ends.first (ends.last ∷ ends.unmade) planned))
    ∙ one_get ends.first ends.last ends.unmade ends.fate m planned)
  where
    planned : AreGets (ends.first ++ ends.last ∷ ends.unmade)
    planned = subst AreGets ends.planned gets

some_keeps : (p : List Act) (a b : Seen) → AreGets p → MakesSome p a b → b.held ≡ a.held
some_keeps p a b gets (first, unmade, is, made) = gets_keep first a b (front_gets first unmade (subst AreGets is gets)) made

-- reads leave the area as it is
pub halt_keeps : (p : List Act) (error : ReadErr) (a b : Seen) → AreGets p → HaltsAt p error a b → b.held ≡ a.held
halt_keeps p (Damaged name) a b gets some = some_keeps p a b gets some
halt_keeps p Fault a b gets stops = stop_keeps p blob.Failed a b gets stops
halt_keeps p Memory a b gets (inl stops) = stop_keeps p blob.Memory a b gets stops
halt_keeps p Memory a b gets (inr some) = some_keeps p a b gets some

-- what is told of a damaged blob behind a `?`
pub damaged_told : {A : Type 0} (P Q : List ℕ → Type 0) (result : Result A ReadErr) (error : ReadErr) → result ≡ Err error → ((name : List ℕ) → P name → Q name) → IfDamagedBy error P → IfDamagedRead result Q
damaged_told P Q result error is to told = subst (λ (r : Result _ ReadErr). IfDamagedRead r Q) (sym is) (weaker error told)
  where
    weaker : (e : ReadErr) → IfDamagedBy e P → IfDamagedBy e Q
    weaker (Damaged name) holds = to name holds
    weaker Fault holds = tt
    weaker Memory holds = tt

pub differs : {b : Bool} → b ≡ false → b ≡ true → ⊥
differs off on = cc

-- an error that tells a damaged blob or want of memory is no fault
pub never_fault : (P : List ℕ → Type 0) (error : ReadErr) → IfDamagedError error P → error ≡ Fault → ⊥
never_fault P (Damaged name) told is = cc
never_fault P Fault told is = told
never_fault P Memory told is = cc
