use Rattle.std.proofs.Common.{sym, ◌∙◌, ap}
use Rattle.version_range.specs.Cuts.{trimmed, without_spaces_behind}
use Rattle.version_range.proofs.Trims.{trimmed_start, trimmed_end}
use Rattle.version_range.proofs.cuts.trim.Goals as goal

pub returns-clause-text : goal.returns-clause-text
unfolding trimmed
returns-clause-text c =
    sym (ap without_spaces_behind (trimmed_start c.args.text.now c.trim_start_matches.result.now c.trim_start_matches.ensures.matches)
    ∙ trimmed_end c.trim_start_matches.result.now c.trim_end_matches.result.now c.trim_end_matches.ensures.matches)
