use Rattle.std.proofs.Common.{◌-◌, ℕ, List, ◌+◌, ◌≤◌, length, sym, ap, subst}
use Rattle.version_range.specs.Cuts.{lead, trimmed}
use Rattle.version_range.proofs.Trims.{trimmed_start, lead_fits}
use Rattle.version_range.proofs.cuts.count_lead.Goals as goal

pub returns-clause-lead : goal.returns-clause-lead
unfolding lead
returns-clause-lead c =
    ap (λ (l : List ℕ). length c.args.text.now - length l) (sym (trimmed_start c.args.text.now c.trim_start_matches.result.now c.trim_start_matches.ensures.matches))

pub returns-clause-fits : goal.returns-clause-fits
returns-clause-fits c =
    subst (λ (n : ℕ). n + length (trimmed c.args.text.now) ≤ length c.args.text.now) (sym (returns-clause-lead c)) (lead_fits c.args.text.now)
