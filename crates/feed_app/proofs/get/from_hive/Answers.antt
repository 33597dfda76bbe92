use Rattle.feed_app.proofs.Places.{but_content, but_plain, but_semver2}
use Rattle.feed_app.proofs.get.from_hive.Goals as goal

pub returns-in-Plain-clause-others : goal.returns-in-Plain-clause-others
returns-in-Plain-clause-others g c =
    rw c.in-Plain.is (but_plain c.args.plain.now c.args.semver2.now c.args.content.now c.hive_document.new.area)

pub returns-in-SemVer2-clause-others : goal.returns-in-SemVer2-clause-others
returns-in-SemVer2-clause-others g c =
    rw c.in-SemVer2.is (but_semver2 c.args.plain.now c.args.semver2.now c.args.content.now c.hive_document-in-SemVer2.new.area)

pub returns-in-Content-clause-others : goal.returns-in-Content-clause-others
returns-in-Content-clause-others g c =
    rw c.in-Content.is (but_content c.args.plain.now c.args.semver2.now c.args.content.now c.hive_document-in-Content.new.area)
