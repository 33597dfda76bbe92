-- Versions that tie.
use Rattle.std.proofs.Common.{◌≡◌}
use Rattle.std.proofs.lemmas.Cmp.{tied_itself}
use Rattle.std.specs.declared.cmp.Ordering.TheVariants.{Equal}
use Rattle.nuget_version.specs.declared.version.Version.{Version}
use Rattle.nuget_version.specs.Precedence.{precedence}
use Rattle.nuget_version.proofs.Order.{precedence_total}

pub precedence_same : (v : Version) → precedence v v ≡ Equal
precedence_same v = tied_itself precedence_total v
