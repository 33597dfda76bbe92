-- Calls that met their conditions are a run of the feed.
use Rattle.std.proofs.Common.{◌≡◌, List, true}
use Rattle.blob_store.specs.Seen.{Seen}
use Rattle.pkg_meta.specs.Catalog.{Catalog}
use Rattle.fold_core.specs.Folds.{Fold}
use Rattle.feed_laws.specs.Calls.{CallsMeetOnCatalog, RunsInCalls}
use Rattle.feed_laws.specs.Worlds.{World}
use Rattle.feed_laws.proofs.Stepped.{all_stepped}

pub runs : (fs : List Fold) (w : World) (old new : Seen) (last : Catalog) → w.up ≡ true → CallsMeetOnCatalog w.base w.commits w.area old new last
    → RunsInCalls fs w old new last
runs fs w old new last up (events, tracked, meet) =
    let all = all_stepped fs events w last up meet in (events, all.0, tracked, all.1, all.2)
