-- What a crash leaves over no call, and weaker facts of it.
use Rattle.std.proofs.Common.{◌≡◌, [], Some, sym, subst}
use Rattle.blob_store.specs.Area.{Area}
use Rattle.blob_store.specs.Moments.{LeavesOnly}
use Rattle.blob_store.specs.Seen.{Seen, IsSure}
use Rattle.blob_store.proofs.OneCall.{none}
use Rattle.blob_store.proofs.RunFronts.{leaves_only}

pub weaker : (a b : Seen) (P Q : Area → Type 0) → LeavesOnly a b P → ((m : Area) → P m → Q m) → LeavesOnly a b Q
weaker a b P Q leaves to = record { later = leaves.later; each = λ few t m low high at. to m (leaves.each few t m low high at); before = leaves.before }

-- before the first call
pub started : (a : Seen) (m : Area) (P : Area → Type 0) → IsSure a → a.held ≡ Some m → P m → LeavesOnly a a P
started a m P sure is here = leaves_only [] a a m P (none a sure) is (λ k crashed within left. subst P (sym left) here)
