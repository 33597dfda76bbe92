use Rattle.std.proofs.Common.{refl, arith}
use Rattle.nuget_version.proofs.Fields.{full_is}
use Rattle.nuget_version.proofs.Lengths.{full_short}
use Rattle.nuget_version.proofs.parse.too_long.Goals as goal

pub returns-then-labels-meta-clause-none : goal.returns-then-labels-meta-clause-none
returns-then-labels-meta-clause-none c =
    full_short c.args.major c.args.minor c.args.patch c.args.revision c.args.labels.now c.args.meta.now c.ranges.major.fits c.ranges.minor.fits c.ranges.patch.fits c.ranges.revision.fits c.if-labels-meta.true

pub returns-then-len-gt-MOST-clause-some : goal.returns-then-len-gt-MOST-clause-some
returns-then-len-gt-MOST-clause-some c =
    let labels = c.args.labels.now in
    let meta = c.args.meta.now in
    let len = full_is c.args.major c.args.minor c.args.patch c.args.revision labels labels meta meta c.numbers_len-numbers.result c.marked_len.result c.marked_len-2.result refl refl c.numbers_len-numbers.ensures.value c.marked_len.ensures.value c.marked_len-2.ensures.value in
    (len, c.if-len-gt-MOST.true)

pub returns-else-len-gt-MOST-clause-none : goal.returns-else-len-gt-MOST-clause-none
returns-else-len-gt-MOST-clause-none c =
    let labels = c.args.labels.now in
    let meta = c.args.meta.now in
    let len = full_is c.args.major c.args.minor c.args.patch c.args.revision labels labels meta meta c.numbers_len-numbers.result c.marked_len.result c.marked_len-2.result refl refl c.numbers_len-numbers.ensures.value c.marked_len.ensures.value c.marked_len-2.ensures.value in
    omega (arith, len, c.if-len-gt-MOST.false)
