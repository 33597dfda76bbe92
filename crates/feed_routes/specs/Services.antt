-- What a service answers.
use Rattle.std.specs.Prelude.{◌≢◌, ℕ, IsSome, Result}
use Rattle.http.specs.StatusCode.{reason_phrase}
use Rattle.http_wire.specs.declared.request.Request.{Request}
use Rattle.nuget_version.specs.declared.values.NoMemory.{NoMemory}
use Rattle.feed_routes.specs.declared.service.Answer.{Answer}

-- a status that a service may answer: one that has a phrase, and not that of another method
pub record IsStatus (status : ℕ) : Type 0 where
  pub phrase : IsSome (reason_phrase status)
  pub allowed : status ≢ 405

-- how a service acts, on a state of this kind: the state before, the request, the answer, the state after
abbrev pub Acts : Type 0 → Type 1
Acts State = State → Request → Result Answer NoMemory → State → Type 0
