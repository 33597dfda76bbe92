use Rattle.std.proofs.lemmas.Result.{IfOk-weaker, IfErr-weaker, MatchResult-weaker}
use Rattle.version_range.specs.Form.{form}
use Rattle.version_range.specs.Grammar.{SpellsRange}
use Rattle.version_range.specs.Refusals.{IsRangeRefused}
use Rattle.version_range.specs.Steps.{IsReadAs, IsRefusedAs}
use Rattle.version_range.proofs.Sound.{sound}
use Rattle.version_range.proofs.Complete.{only_memory}
use Rattle.version_range.proofs.ToText.{to_text}
use Rattle.version_range.proofs.range.VersionRange.parse.Goals as goal

pub returns-clause-ok : goal.returns-clause-ok
returns-clause-ok c =
    IfOk-weaker c.read_range.result (IsReadAs (form c.args.text.now)) (SpellsRange c.args.text.now) (λ r read. sound c.args.text.now r read) c.read_range.ensures.ok

pub returns-clause-accepts : goal.returns-clause-accepts
returns-clause-accepts c r spells =
    MatchResult-weaker c.read_range.result c.read_range.ensures.refused (λ v held. held) (λ e refused. only_memory c.args.text.now r spells e refused)

pub returns-clause-refused : goal.returns-clause-refused
returns-clause-refused c =
    IfErr-weaker c.read_range.result (IsRefusedAs (form c.args.text.now)) (IsRangeRefused c.args.text.now) (λ e bad. to_text c.args.text.now e bad) c.read_range.ensures.refused
