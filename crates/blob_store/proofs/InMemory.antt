-- Plans one behind the other, where memory may run out between calls.
use Rattle.std.proofs.Common.{◌≡◌, List, [], ◌∷◌, ◌++◌, Ok, Err, Result, inl, inr, sym, ◌∙◌, ap, subst, append_assoc, append-nil}
use Rattle.blob_store.specs.Seen.{Seen}
use Rattle.blob_store.specs.declared.error.BlobErr.{BlobErr}
use Rattle.blob_store.specs.declared.error.BlobErr.TheVariants.{Failed, Memory}
use Rattle.blob_store.specs.Events.{Act}
use Rattle.blob_store.specs.Plans.{Makes, MakesSome, Runs, RunsInMemory}
use Rattle.blob_store.proofs.Following.{makes_then, stops_behind, stops_early}
use Rattle.blob_store.specs.Steps.{RunsThenLast}

pub some_behind : (p q : List Act) (a b c : Seen) → Makes p a b → MakesSome q b c → MakesSome (p ++ q) a c
some_behind p q a b c made (first, unmade, is, some) =
    (p ++ first, unmade, ap (λ (l : List Act). p ++ l) is ∙ sym (append_assoc p first unmade), makes_then p first a b c made some)

pub some_early : (p q : List Act) (a b : Seen) → MakesSome p a b → MakesSome (p ++ q) a b
some_early p q a b (first, unmade, is, some) = (first, unmade ++ q, ap (λ (l : List Act). l ++ q) is ∙ append_assoc first unmade q, some)

pub some_all : (p : List Act) (a b : Seen) → Makes p a b → MakesSome p a b
some_all p a b made = (p, [], sym (append-nil p), made)

pub in_memory_then : {A : Type 0} (p q : List Act) (a b c : Seen) (result : Result A BlobErr) → Makes p a b → RunsInMemory q b c result → RunsInMemory (p ++ q) a c result
in_memory_then p q a b c (Ok x) first second = makes_then p q a b c first second
in_memory_then p q a b c (Err Failed) first second = stops_behind p q Failed a b c first second
in_memory_then p q a b c (Err Memory) first (inl second) = inl (stops_behind p q Memory a b c first second)
in_memory_then p q a b c (Err Memory) first (inr second) = inr (some_behind p q a b c first second)

pub from_runs : {A : Type 0} (p : List Act) (a b : Seen) (result : Result A BlobErr) → Runs p a b result → RunsInMemory p a b result
from_runs p a b (Ok x) runs = runs
from_runs p a b (Err Failed) runs = runs
from_runs p a b (Err Memory) runs = inl runs

-- what a stop says, whatever the type of the result
abbrev pub Stopped : List Act → Seen → Seen → BlobErr → Type 0
Stopped plan old new error = RunsInMemory {A = Unit {0}} plan old new (Err error)

pub stopped_early : (p q : List Act) (a b : Seen) (error : BlobErr) → Stopped p a b error → Stopped (p ++ q) a b error
stopped_early p q a b Failed stops = stops_early p q Failed a b stops
stopped_early p q a b Memory (inl stops) = inl (stops_early p q Memory a b stops)
stopped_early p q a b Memory (inr some) = inr (some_early p q a b some)

pub stopped_before_last : (p : List Act) (last : Act) (a b : Seen) (error : BlobErr) → Stopped p a b error → RunsThenLast {A = Unit {0}} p last a b (Err error)
stopped_before_last p last a b Failed stops = stops_early p (last ∷ []) Failed a b stops
stopped_before_last p last a b Memory (inl stops) = inl (stops_early p (last ∷ []) Memory a b stops)
stopped_before_last p last a b Memory (inr some) = inr some

pub then_last : {A : Type 0} (p : List Act) (last : Act) (a b c : Seen) (result : Result A BlobErr) → Makes p a b → Runs (last ∷ []) b c result → RunsThenLast p last a c result
then_last p last a b c (Ok x) first second = makes_then p (last ∷ []) a b c first second
then_last p last a b c (Err Failed) first second = stops_behind p (last ∷ []) Failed a b c first second
then_last p last a b c (Err Memory) first second = inl (stops_behind p (last ∷ []) Memory a b c first second)

pub as_in_memory : {A : Type 0} (p : List Act) (last : Act) (a b : Seen) (result : Result A BlobErr) → RunsThenLast p last a b result → RunsInMemory (p ++ last ∷ []) a b result
as_in_memory p last a b (Ok x) runs = runs
as_in_memory p last a b (Err Failed) runs = runs
as_in_memory p last a b (Err Memory) (inl stops) = inl stops
as_in_memory p last a b (Err Memory) (inr some) = inr (some_early p (last ∷ []) a b some)

-- behind a `?`
module _ {A : Type 0} (p : List Act) (a b : Seen) (result : Result A BlobErr) where
  pub told_stop : (error : BlobErr) → result ≡ Err error → Stopped p a b error → RunsInMemory p a b result
  told_stop Failed is stops = subst (λ (r : Result A BlobErr). RunsInMemory p a b r) (sym is) stops
  told_stop Memory is stops = subst (λ (r : Result A BlobErr). RunsInMemory p a b r) (sym is) stops

  pub told_before_last : (last : Act) (error : BlobErr) → result ≡ Err error → Stopped p a b error → RunsThenLast p last a b result
  told_before_last last Failed is stops = subst (λ (r : Result A BlobErr). RunsThenLast p last a b r) (sym is) (stopped_before_last p last a b Failed stops)
  told_before_last last Memory is stops = subst (λ (r : Result A BlobErr). RunsThenLast p last a b r) (sym is) (stopped_before_last p last a b Memory stops)
