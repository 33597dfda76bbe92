use Rattle.nuget_version.proofs.OneAnswer.{one_refusal, refused_unspelled}
use Rattle.nuget_version.proofs.laws.has_one_answer.Goals as goal

pub returns : goal.returns
returns c = λ text e ne re. (λ f nf rf. one_refusal text e f ne nf re rf, λ v s. refused_unspelled text e v ne re s)
