use Rattle.http_wire.proofs.TalkLemmas.{leads_more, leads_talk}
use Rattle.http_wire.proofs.laws.leads_on.Goals as goal

pub returns-clause-more : goal.returns-clause-more
returns-clause-more c input rest behind rs r leads answers stays = leads_more rs input rest behind r leads answers stays

pub returns-clause-talk : goal.returns-clause-talk
returns-clause-talk c input rest rs others x leads talk = leads_talk rs input rest others x leads talk
