use Rattle.fold_core.proofs.Stays.{docs_none, docs_owned, docs_same}
use Rattle.fold_core.proofs.laws.documents_follow_items.Goals as goal

pub returns : goal.returns
returns g c = record {
  same = λ base cs key. docs_same g.H.Hive.keeps g.H.Hive.makes base key (g.met.H.Hive.staged base key) cs;
  none = λ base cs key. docs_none g.H.Hive.keeps g.H.Hive.makes base key (g.met.H.Hive.empty base key) cs;
  owned = λ base cs key whole. docs_owned g.H.Hive.keeps g.H.Hive.makes base key (λ number stamp es. g.met.H.Hive.owned base key number stamp es whole) cs;
}
