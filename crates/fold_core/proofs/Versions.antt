-- Entries of rising versions have different keys.
use Rattle.std.proofs.Common.{◌≡◌, ◌≢◌, ◌∙◌, sym}
use Rattle.std.specs.declared.cmp.Ordering.TheVariants.{Less}
use Rattle.nuget_version.specs.Precedence.{precedence}
use Rattle.nuget_version.specs.Printed.{key_text}
use Rattle.nuget_version.proofs.Order.{keys_tie}
use Rattle.pkg_meta.specs.Entries.{version_in}
use Rattle.pkg_meta.specs.declared.entry.Entry.{Entry}

pub other_key : (e f : Entry) → precedence (version_in e) (version_in f) ≡ Less → key_text (version_in e) ≢ key_text (version_in f)
other_key e f less same = cc (sym less ∙ keys_tie (version_in e) (version_in f) same)
