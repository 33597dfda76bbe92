use Rattle.nuget_version.proofs.Lengths.{meta_short}
use Rattle.nuget_version.proofs.version.Version.full.Goals as goal

pub marked_len-requires : goal.marked_len-requires
marked_len-requires c = rw c.as_str.ensures (meta_short c.args.self.now)
