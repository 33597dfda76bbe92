use Rattle.std.proofs.Common.{◌∙◌}
use Rattle.nuget_version.specs.Precedence.{precedence}
use Rattle.nuget_version.proofs.Compared.{differ_first, tie_first}
use Rattle.nuget_version.proofs.version.Version.compare.Goals as goal

pub returns-then-self-other : goal.returns-then-self-other
unfolding precedence
returns-then-self-other c = c.cmp.ensures ∙ differ_first c.args.self.now.major c.args.other.now.major _ c.if-self-other.true

pub returns-then-self-other-2 : goal.returns-then-self-other-2
unfolding precedence
returns-then-self-other-2 c =
    c.cmp-then-self-other-2.ensures ∙ differ_first c.args.self.now.minor c.args.other.now.minor _ c.if-self-other-2.true
    ∙ tie_first c.args.self.now.major c.args.other.now.major _ c.if-self-other.false

pub returns-then-self-other-3 : goal.returns-then-self-other-3
unfolding precedence
returns-then-self-other-3 c =
    c.cmp-then-self-other-3.ensures ∙ differ_first c.args.self.now.patch c.args.other.now.patch _ c.if-self-other-3.true
    ∙ tie_first c.args.self.now.minor c.args.other.now.minor _ c.if-self-other-2.false
    ∙ tie_first c.args.self.now.major c.args.other.now.major _ c.if-self-other.false

pub returns-then-self-other-4 : goal.returns-then-self-other-4
unfolding precedence
returns-then-self-other-4 c =
    c.cmp-then-self-other-4.ensures ∙ differ_first c.args.self.now.revision c.args.other.now.revision _ c.if-self-other-4.true
    ∙ tie_first c.args.self.now.patch c.args.other.now.patch _ c.if-self-other-3.false
    ∙ tie_first c.args.self.now.minor c.args.other.now.minor _ c.if-self-other-2.false
    ∙ tie_first c.args.self.now.major c.args.other.now.major _ c.if-self-other.false

pub returns : goal.returns
unfolding precedence
returns c =
    rw (c.as_bytes.ensures.value, c.as_bytes-2.ensures.value) at c.cmp_labels.ensures
    ∙ tie_first c.args.self.now.revision c.args.other.now.revision _ c.if-self-other-4.false
    ∙ tie_first c.args.self.now.patch c.args.other.now.patch _ c.if-self-other-3.false
    ∙ tie_first c.args.self.now.minor c.args.other.now.minor _ c.if-self-other-2.false
    ∙ tie_first c.args.self.now.major c.args.other.now.major _ c.if-self-other.false
