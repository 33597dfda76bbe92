use Rattle.nuget_version.proofs.Lengths.{labels_short}
use Rattle.nuget_version.proofs.version.Version.normal_string.Goals as goal

pub marked_len-requires : goal.marked_len-requires
marked_len-requires c = rw c.as_str.ensures (labels_short c.args.self.now)
