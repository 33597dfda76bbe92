use Rattle.feed_laws.proofs.Begun.{new_begun, world_begun}
use Rattle.feed_laws.proofs.laws.feeds_begin_sound.Goals as goal

pub returns-clause-new : goal.returns-clause-new
returns-clause-new c = new_begun

pub returns-clause-found : goal.returns-clause-found
returns-clause-found c = world_begun
