-- The last call of a round.
use Rattle.std.proofs.Common.{◌≡◌, Ok, Err, Result, inr, subst}
use Rattle.blob_store.specs.Events.{Act}
use Rattle.blob_store.specs.Seen.{Seen}
use Rattle.job_round.specs.Rounds.{RunsLast}
use Rattle.job_round.specs.Stops.{RunsOne}
use Rattle.job_round.specs.declared.stop.Stop.{Stop}

as_last : {A : Type 0} (last : Act) (a b : Seen) (r : Result A Stop) → RunsOne last a b r → RunsLast last a b r
as_last last a b (Ok x) runs = runs
as_last last a b (Err stop) runs = inr runs

pub last_of : {A : Type 0} (last made : Act) (a b : Seen) (r : Result A Stop) → made ≡ last → RunsOne made a b r → RunsLast last a b r
last_of last made a b r same runs = subst (λ (act : Act). RunsLast act a b r) same (as_last made a b r runs)
