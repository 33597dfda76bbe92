use Rattle.nuget_version.proofs.version.Version.read.Goals as goal

pub returns-in_default-clause-none : goal.returns-in_default-clause-none
returns-in_default-clause-none c = λ v spelled. c.in_default.not-Memory (c.in-Err.ensures.accepts v spelled)
