-- The numbers of a catalog's commits, and how many they are.
use Rattle.std.proofs.Common.{◌≡◌, ◌<◌, ◌≤◌, ◌+◌, ℕ, zero, suc, List, [], ◌∷◌, ◌++◌, length, get_or, Some, Option, refl, sym, ap, subst, arith, append_assoc, append-nil, length-append, slice_get}
use Rattle.std.specs.List.{Contains}
use Rattle.pkg_meta.specs.Catalog.{Catalog}
use Rattle.pkg_meta.specs.declared.commit.Staged.{Staged}
use Rattle.pkg_meta.specs.declared.commit.Stored.{Stored}
use Rattle.pkg_meta.specs.Lawful.{AreLawfulItems, IsLawful, IsNext, MayFollow, Placed, all_placed, placed_from, placed_of}
use Rattle.pkg_meta.specs.declared.item.Item.{Item}

-- the k-th commit behind these has the number behind theirs and k
numbered : (before cs : Catalog) (d : Stored) → MayFollow before cs → (k : ℕ) → k < length cs → get_or cs k d ≡ d → d.commit.number ≡ length before + (k + 1)
numbered before [] d follows k within is = absurd (omega arith)
numbered before (c ∷ cs) d follows zero within is = subst (λ (x : Stored). x.commit.number ≡ length before + 1) is follows.0.number
numbered before (c ∷ cs) d follows (suc k) within is =
    let rest = numbered (before ++ c ∷ []) cs d follows.1 k (omega arith) is in
    let longer = length-append before (c ∷ []) in
    omega (arith, rest, longer)

pub number_within : (cs : Catalog) (d : Stored) → MayFollow [] cs → Contains cs d → (0 < d.commit.number) × (d.commit.number ≤ length cs)
number_within cs d follows (k, within, is) =
    let at = numbered [] cs d follows k within is in
    (omega (arith, at), omega (arith, at, within))

last_follows : (before cs : Catalog) (c : Stored) → MayFollow before (cs ++ c ∷ []) → IsNext (before ++ cs) c
last_follows before [] c follows = subst (λ (ds : Catalog). IsNext ds c) (sym (append-nil before)) follows.0
last_follows before (x ∷ cs) c follows =
    subst (λ (ds : Catalog). IsNext ds c) (append_assoc before (x ∷ []) cs) (last_follows (before ++ x ∷ []) cs c follows.1)

-- the last commit follows the others
pub last_is_next : (cs : Catalog) (c : Stored) → MayFollow [] (cs ++ c ∷ []) → IsNext cs c
last_is_next cs c follows = last_follows [] cs c follows

pub length-placed : (number stamp place : ℕ) (items : List Item) → length (placed_from number stamp place items) ≡ length items
length-placed number stamp place [] = refl
length-placed number stamp place (it ∷ items) = ap suc (length-placed number stamp (suc place) items)

-- there are no more commits than items
few_from : (before cs : Catalog) → MayFollow before cs → length cs ≤ length (all_placed cs)
few_from before [] follows = omega arith
few_from before (c ∷ cs) follows =
    let rest = few_from (before ++ c ∷ []) cs follows.1 in
    let split = length-append (placed_of c) (all_placed cs) in
    let own = length-placed c.commit.number c.commit.stamp 0 c.commit.items in
    omega (arith, rest, split, own, follows.0.some)

pub few_commits : (cs : Catalog) → IsLawful cs → length cs ≤ 200_000
few_commits cs lawful = let few = few_from [] cs lawful.commits in omega (arith, few, lawful.items)

-- each item has its place in what the commit brought, and the other way round
pub brought_at : (before : List Placed) (number stamp place : ℕ) (items : List Item) (staged : List (Option Staged)) → AreLawfulItems before number stamp place items staged
    → (k : ℕ) (it : Item) → slice_get items k ≡ Some it → (s : Option Staged) × (slice_get staged k ≡ Some s)
brought_at before number stamp place [] staged are k it is = cc
brought_at before number stamp place (x ∷ items) [] are k it is = absurd are
brought_at before number stamp place (x ∷ items) (s ∷ staged) are zero it is = (s, refl)
brought_at before number stamp place (x ∷ items) (s ∷ staged) are (suc k) it is = brought_at before number stamp (suc place) items staged are.1 k it is

pub item_at : (before : List Placed) (number stamp place : ℕ) (items : List Item) (staged : List (Option Staged)) → AreLawfulItems before number stamp place items staged
    → (k : ℕ) (s : Option Staged) → slice_get staged k ≡ Some s → (it : Item) × (slice_get items k ≡ Some it)
item_at before number stamp place [] [] are k s is = cc
item_at before number stamp place [] (x ∷ staged) are k s is = absurd are
item_at before number stamp place (it ∷ items) [] are k s is = absurd are
item_at before number stamp place (it ∷ items) (x ∷ staged) are zero s is = (it, refl)
item_at before number stamp place (it ∷ items) (x ∷ staged) are (suc k) s is = item_at before number stamp (suc place) items staged are.1 k s is
