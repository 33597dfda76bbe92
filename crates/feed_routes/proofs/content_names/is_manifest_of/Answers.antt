use Rattle.std.proofs.Common.{codes}
use Rattle.feed_routes.proofs.Cutting.{word_is}
use Rattle.feed_routes.proofs.content_names.is_manifest_of.Goals as goal

pub returns-in-Some : goal.returns-in-Some
returns-in-Some c = word_is c.args.file.now c.args.id.now c.in-Some.rest.now (codes ".nuspec") c.eq.result c.in-Some.ensures c.eq.ensures
