-- The rows of a catalog's items.
use Rattle.std.proofs.Common.{◌≡◌, ◌≢◌, ◌<◌, ◌+◌, ℕ, zero, suc, List, [], ◌∷◌, ◌++◌, length, Bool, true, false, Some, refl, sym, ◌∙◌, ap, ap₂, subst, length-append, arith}
use Rattle.std.specs.Prelude.{◌&&◌, Contains, nat_eq, slice_get}
use Rattle.pkg_meta.specs.Catalog.{Catalog}
use Rattle.pkg_meta.specs.Items.{id_of, version_of, is_gone}
use Rattle.pkg_meta.specs.Lawful.{MayFollow}
use Rattle.pkg_meta.specs.declared.commit.Stored.{Stored}
use Rattle.pkg_meta.specs.declared.item.Item.{Item}
use Rattle.catalog_doc.specs.CatDocs.{all_rows, rows_from, rows_of}
use Rattle.catalog_doc.specs.declared.row.Row.{Row}
use Rattle.catalog_items.specs.Leaves.{row_with}
use Rattle.catalog_items.proofs.LeafReads.{if_false, if_true, other_number, same_number}

-- the row of an item at a place of a commit
abbrev pub row_for : Stored → ℕ → Item → Row
row_for c place it = record { number = c.commit.number; place = place; stamp = c.commit.stamp; id = id_of it; version = version_of it; gone = is_gone it }

and_false : (a b : Bool) → a ≡ false → (a && b) ≡ false
and_false true b e = absurd (let no : ⊥ = cc in no)
and_false false b e = refl

and_true : (a b : Bool) → a ≡ true → (a && b) ≡ b
and_true true b e = refl
and_true false b e = absurd (let no : ⊥ = cc in no)

-- rows of other numbers are passed over
skipped : (n p number stamp place : ℕ) (items : List Item) (rest : List Row) → number ≢ n → row_with n p (rows_from number stamp place items ++ rest) ≡ row_with n p rest
skipped n p number stamp place [] rest other = refl
skipped n p number stamp place (it ∷ items) rest other =
    if_false (nat_eq number n && nat_eq place p) _ (row_with n p (rows_from number stamp (suc place) items ++ rest)) (and_false (nat_eq number n) (nat_eq place p) (other_number number n other))
    ∙ skipped n p number stamp (suc place) items rest other

-- and the one at the place is found
hit : (number stamp place k p : ℕ) (items : List Item) (rest : List Row) (it : Item) → p ≡ place + k → slice_get items k ≡ Some it
    → row_with number p (rows_from number stamp place items ++ rest)
    ≡ Some (record { number = number; place = p; stamp = stamp; id = id_of it; version = version_of it; gone = is_gone it })
hit number stamp place k p [] rest it is there = absurd (let no : ⊥ = cc in no)
hit number stamp place zero p (x ∷ items) rest it is there =
    let same : place ≡ p = omega (arith, is) in
    let item : x ≡ it = cc in
    if_true (nat_eq number number && nat_eq place p) _ (row_with number p (rows_from number stamp (suc place) items ++ rest))
    (and_true (nat_eq number number) (nat_eq place p) (same_number number number refl) ∙ same_number place p same)
    ∙ ap₂ (λ (at : ℕ) (y : Item). Some (record { number = number; place = at; stamp = stamp; id = id_of y; version = version_of y; gone = is_gone y })) same item
hit number stamp place (suc k) p (x ∷ items) rest it is there =
    let apart : place ≢ p = λ e. absurd (omega (arith, is, e)) in
    if_false (nat_eq number number && nat_eq place p) _ (row_with number p (rows_from number stamp (suc place) items ++ rest))
    (and_true (nat_eq number number) (nat_eq place p) (same_number number number refl) ∙ other_number place p apart)
    ∙ hit number stamp (suc place) k p items rest it (omega (arith, is)) there

-- later commits have greater numbers
later : (before cs : Catalog) → MayFollow before cs → (c : Stored) → Contains cs c → length before < c.commit.number
later before [] follows c there = absurd (omega (arith, there.1))
later before (d ∷ cs) follows c (zero, within, is) =
    let number : d.commit.number ≡ length before + 1 = follows.0.number in
    let same : d.commit.number ≡ c.commit.number = ap (λ (x : Stored). x.commit.number) is in
    omega (arith, number, same)
later before (d ∷ cs) follows c (suc k, within, is) =
    let rest = later (before ++ d ∷ []) cs follows.1 c (k, omega (arith, within), is) in
    let more = length-append before (d ∷ []) in
    omega (arith, rest, more)

found : (before cs : Catalog) → MayFollow before cs → (c : Stored) → Contains cs c → (place : ℕ) (it : Item) → slice_get c.commit.items place ≡ Some it
    → row_with c.commit.number place (all_rows cs) ≡ Some (row_for c place it)
found before [] follows c there place it at = absurd (omega (arith, there.1))
found before (d ∷ cs) follows c (zero, within, is) place it at =
    subst (λ (x : Stored). row_with c.commit.number place (rows_of x ++ all_rows cs) ≡ Some (row_for c place it)) (sym is)
    (hit c.commit.number c.commit.stamp 0 place place c.commit.items (all_rows cs) it (omega arith) at)
found before (d ∷ cs) follows c (suc k, within, is) place it at =
    let behind : Contains cs c = (k, omega (arith, within), is) in
    let after = later (before ++ d ∷ []) cs follows.1 c behind in
    let more = length-append before (d ∷ []) in
    let number : d.commit.number ≡ length before + 1 = follows.0.number in
    let other : d.commit.number ≢ c.commit.number = λ e. absurd (omega (arith, after, more, number, e)) in
    skipped c.commit.number place d.commit.number d.commit.stamp 0 d.commit.items (all_rows cs) other ∙ found (before ++ d ∷ []) cs follows.1 c behind place it at

pub item_row : (cs : Catalog) → MayFollow [] cs → (c : Stored) → Contains cs c → (place : ℕ) (it : Item) → slice_get c.commit.items place ≡ Some it
    → row_with c.commit.number place (all_rows cs) ≡ Some (row_for c place it)
item_row cs follows = found [] cs follows
