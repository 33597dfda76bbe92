use Rattle.feed_app.proofs.OneHive.{but_auto, but_content, but_plain, but_semver2}
use Rattle.feed_app.proofs.cursor.cursor_among.Goals as goal

pub returns-in-Plain-clause-is : goal.returns-in-Plain-clause-is
returns-in-Plain-clause-is g c = rw c.in-Plain.is (rw c.in-Plain.is at c.cursor_in.ensures.is)

pub returns-in-Plain-clause-same : goal.returns-in-Plain-clause-same
returns-in-Plain-clause-same g c = rw c.in-Plain.is c.cursor_in.ensures.same

pub returns-in-Plain-clause-hive_cause : goal.returns-in-Plain-clause-hive_cause
returns-in-Plain-clause-hive_cause g c = rw c.in-Plain.is (rw c.in-Plain.is at c.cursor_in.ensures.hive_cause)

pub returns-in-Plain-clause-others : goal.returns-in-Plain-clause-others
returns-in-Plain-clause-others g c = rw c.in-Plain.is (but_plain c.args.plain.now c.args.semver2.now c.args.content.now c.args.auto.now c.cursor_in.new.area)

pub returns-in-SemVer2-clause-is : goal.returns-in-SemVer2-clause-is
returns-in-SemVer2-clause-is g c = rw c.in-SemVer2.is (rw c.in-SemVer2.is at c.cursor_in-in-SemVer2.ensures.is)

pub returns-in-SemVer2-clause-same : goal.returns-in-SemVer2-clause-same
returns-in-SemVer2-clause-same g c = rw c.in-SemVer2.is c.cursor_in-in-SemVer2.ensures.same

pub returns-in-SemVer2-clause-hive_cause : goal.returns-in-SemVer2-clause-hive_cause
returns-in-SemVer2-clause-hive_cause g c = rw c.in-SemVer2.is (rw c.in-SemVer2.is at c.cursor_in-in-SemVer2.ensures.hive_cause)

pub returns-in-SemVer2-clause-others : goal.returns-in-SemVer2-clause-others
returns-in-SemVer2-clause-others g c = rw c.in-SemVer2.is (but_semver2 c.args.plain.now c.args.semver2.now c.args.content.now c.args.auto.now c.cursor_in-in-SemVer2.new.area)

pub returns-in-Content-clause-is : goal.returns-in-Content-clause-is
returns-in-Content-clause-is g c = rw c.in-Content.is (rw c.in-Content.is at c.cursor_in-in-Content.ensures.is)

pub returns-in-Content-clause-same : goal.returns-in-Content-clause-same
returns-in-Content-clause-same g c = rw c.in-Content.is c.cursor_in-in-Content.ensures.same

pub returns-in-Content-clause-hive_cause : goal.returns-in-Content-clause-hive_cause
returns-in-Content-clause-hive_cause g c = rw c.in-Content.is (rw c.in-Content.is at c.cursor_in-in-Content.ensures.hive_cause)

pub returns-in-Content-clause-others : goal.returns-in-Content-clause-others
returns-in-Content-clause-others g c = rw c.in-Content.is (but_content c.args.plain.now c.args.semver2.now c.args.content.now c.args.auto.now c.cursor_in-in-Content.new.area)

pub returns-in-Auto-clause-is : goal.returns-in-Auto-clause-is
returns-in-Auto-clause-is g c = rw c.in-Auto.is (rw c.in-Auto.is at c.cursor_in-in-Auto.ensures.is)

pub returns-in-Auto-clause-same : goal.returns-in-Auto-clause-same
returns-in-Auto-clause-same g c = rw c.in-Auto.is c.cursor_in-in-Auto.ensures.same

pub returns-in-Auto-clause-hive_cause : goal.returns-in-Auto-clause-hive_cause
returns-in-Auto-clause-hive_cause g c = rw c.in-Auto.is (rw c.in-Auto.is at c.cursor_in-in-Auto.ensures.hive_cause)

pub returns-in-Auto-clause-others : goal.returns-in-Auto-clause-others
returns-in-Auto-clause-others g c = rw c.in-Auto.is (but_auto c.args.plain.now c.args.semver2.now c.args.content.now c.args.auto.now c.cursor_in-in-Auto.new.area)

pub returns-in-Plain-clause-runs : goal.returns-in-Plain-clause-runs
returns-in-Plain-clause-runs g c = rw c.in-Plain.is c.cursor_in.ensures.runs

pub returns-in-SemVer2-clause-runs : goal.returns-in-SemVer2-clause-runs
returns-in-SemVer2-clause-runs g c = rw c.in-SemVer2.is c.cursor_in-in-SemVer2.ensures.runs

pub returns-in-Content-clause-runs : goal.returns-in-Content-clause-runs
returns-in-Content-clause-runs g c = rw c.in-Content.is c.cursor_in-in-Content.ensures.runs

pub returns-in-Auto-clause-runs : goal.returns-in-Auto-clause-runs
returns-in-Auto-clause-runs g c = rw c.in-Auto.is c.cursor_in-in-Auto.ensures.runs

pub returns-in-Plain-clause-got : goal.returns-in-Plain-clause-got
returns-in-Plain-clause-got g c = rw c.in-Plain.is c.cursor_in.ensures.got

pub returns-in-SemVer2-clause-got : goal.returns-in-SemVer2-clause-got
returns-in-SemVer2-clause-got g c = rw c.in-SemVer2.is c.cursor_in-in-SemVer2.ensures.got

pub returns-in-Content-clause-got : goal.returns-in-Content-clause-got
returns-in-Content-clause-got g c = rw c.in-Content.is c.cursor_in-in-Content.ensures.got

pub returns-in-Auto-clause-got : goal.returns-in-Auto-clause-got
returns-in-Auto-clause-got g c = rw c.in-Auto.is c.cursor_in-in-Auto.ensures.got
