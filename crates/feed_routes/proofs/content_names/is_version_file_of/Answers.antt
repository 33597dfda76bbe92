use Rattle.std.proofs.Common.{false, refl}
use Rattle.feed_routes.specs.Names.{IsFileOf}
use Rattle.feed_routes.specs.Segments.{IsVersionKey}
use Rattle.feed_routes.proofs.Cutting.{off_on, pair_is, pair_none, pair_not}
use Rattle.feed_routes.proofs.Keys.{free_version_key}
use Rattle.feed_routes.proofs.content_names.is_version_file_of.Goals as goal

pub returns-in_default : goal.returns-in_default
returns-in_default c = pair_none IsVersionKey (IsFileOf c.args.id.now) free_version_key c.args.tail.now false c.in_default.ensures.first refl

pub returns-then-branch : goal.returns-then-branch
returns-then-branch c =
    pair_is IsVersionKey (IsFileOf c.args.id.now) free_version_key c.args.tail.now c.in-Some.version.now c.in-Some.file.now c.is_file_of.result
    c.in-Some.ensures.found c.in-Some.ensures.first (c.in_ok-is_version_key.ensures.0 c.if-branch.true) c.is_file_of.ensures

pub returns-else-branch : goal.returns-else-branch
returns-else-branch c =
    pair_not IsVersionKey (IsFileOf c.args.id.now) free_version_key c.args.tail.now c.in-Some.version.now c.in-Some.file.now false c.in-Some.ensures.first
    (λ k. off_on c.in_ok-is_version_key.field-0 c.if-branch.false (c.in_ok-is_version_key.ensures.1 k)) refl
