-- The items of rows.
use Rattle.std.proofs.Common.{◌≡◌, ◌<◌, ◌≤◌, ◌+◌, ◌⊎◌, ℕ, zero, suc, List, [], ◌∷◌, ◌++◌, length, take, get_or, map, Bool, true, false, cond, Option, Some, inl, ⊎_elim, refl, sym, ◌∙◌, ap, ap₂, subst, append-nil, arith}
use Rattle.std.proofs.lemmas.Bool.{lt-ltb, le-ltb}
use Rattle.std.proofs.lemmas.List.{length-map, map-append, take_all}
use Rattle.std.proofs.lemmas.List.Elements.{Contains-append_cases}
use Rattle.std.specs.List.{Contains, filter, slice_get}
use Rattle.std.specs.Prelude.{IsErrOf, IfSome}
use Rattle.blob_store.specs.Area.{Area}
use Rattle.blob_store.specs.Plans.{Makes}
use Rattle.blob_store.specs.Seen.{Seen}
use Rattle.pkg_meta.specs.Catalog.{Catalog}
use Rattle.pkg_meta.specs.Items.{id_of, version_of, is_gone}
use Rattle.pkg_meta.specs.Lawful.{Placed, all_placed, placed_from, placed_of}
use Rattle.pkg_meta.specs.declared.commit.Stored.{Stored}
use Rattle.pkg_meta.specs.declared.item.Item.{Item}
use Rattle.pkg_meta.specs.declared.item.Item.TheVariants as the
use Rattle.catalog_doc.specs.Names.{leaf_name}
use Rattle.catalog_doc.specs.declared.row.Row.{Row}
use Rattle.catalog_items.specs.Leaves.{HasNoLeaf, row_with}
use Rattle.catalog_opening.specs.Errors.{IfDamagedBy}
use Rattle.catalog_opening.specs.declared.error.ReadErr.{ReadErr}
use Rattle.catalog_opening.specs.declared.error.ReadErr.TheVariants as reading
use Rattle.catalog_core.specs.Framing.{StaysOpen}
use Rattle.catalog_core.specs.Opened.{IsOpenFor, IsUnsettled, Opened}
use Rattle.id_pass.specs.Placing.{all_as_placed, as_placed}
use Rattle.id_pass.specs.declared.placed.Placed.{Placed as Given}
use Rattle.catalog_rows.specs.Last.{placed_row}
use Rattle.job_round.specs.Items.{AreOf, IsLostBlob, is_behind}
use Rattle.job_round.specs.Reads.{AreKept, leaves_behind}
use Rattle.job_round.specs.Stops.{IsStopOfCatalog, catalog_stop_of}
use Rattle.job_round.specs.declared.stop.Stop.{Stop}
use Rattle.job_round.specs.declared.stop.Stop.TheVariants.{CatalogFault}
use Rattle.job_round.proofs.Staying.{went_well}

-- an item among those that stand at these places on
placed_at : (number stamp place : ℕ) (items : List Item) (x : Placed) → Contains (placed_from number stamp place items) x
    → (k : ℕ) × (x.place ≡ place + k) × (x.number ≡ number) × (slice_get items k ≡ Some x.what)
placed_at number stamp place [] x there = absurd (omega (arith, there.1))
placed_at number stamp place (it ∷ items) x (zero, within, is) = (0, omega (arith, ap (λ (y : Placed). y.place) is), sym (ap (λ (y : Placed). y.number) is), ap (λ (y : Placed). Some y.what) is)
placed_at number stamp place (it ∷ items) x (suc k, within, is) =
    let rest = placed_at number stamp (suc place) items x (k, omega (arith, within), is) in
    (suc rest.0, omega (arith, rest.1), rest.2, rest.3)

-- the commit of an item of a catalog
pub in_catalog : (cs : Catalog) (x : Placed) → Contains (all_placed cs) x → (c : Stored) × Contains cs c × (c.commit.number ≡ x.number) × (slice_get c.commit.items x.place ≡ Some x.what)
in_catalog [] x there = absurd (omega (arith, there.1))
in_catalog (c ∷ cs) x there = ⊎_elim
    (λ here.
    let at = placed_at c.commit.number c.commit.stamp 0 c.commit.items x here in
    let same : at.0 ≡ x.place = omega (arith, at.1) in
    (c, (0, omega arith, refl), sym at.2, subst (λ (n : ℕ). slice_get c.commit.items n ≡ Some x.what) same at.3))
    (λ later.
    let rest = in_catalog cs x later in
    (rest.0, (suc rest.1.0, omega (arith, rest.1.1), rest.1.2), rest.2, rest.3))
    (Contains-append_cases (placed_of c) (all_placed cs) x there)

pub gone_of : (what : Item) → is_gone what ≡ true → the.Gone (id_of what) (version_of what) ≡ what
gone_of (the.Details d) gone = absurd (let no : ⊥ = cc in no)
gone_of (the.Gone i v) gone = refl

-- the leaf of a row that is kept wasn't read
pub leaf_lost : {B : Type 0} (o n : Opened B) (s t : Seen) (number place : ℕ) (error : ReadErr) (stop : Stop) → stop ≡ catalog_stop_of error
    → ((m now : Area) → s.held ≡ Some m → t.held ≡ Some now → IfDamagedBy error (λ name. IsUnsettled m o name ⊎ ((name ≡ leaf_name number place) × IfSome (row_with number place n.kept.rows) (HasNoLeaf now n.base))))
    → o.settled ≡ true → t.held ≡ s.held → (row : Row) → row_with number place n.kept.rows ≡ Some row → IsStopOfCatalog (IsLostBlob n t) stop
leaf_lost o n s t number place error stop told damaged settled same row stands_there = subst (IsStopOfCatalog (IsLostBlob n t)) (sym told) (by error damaged)
  where
    no_leaf : (m : Area) → IfSome (row_with number place n.kept.rows) (HasNoLeaf m n.base) → HasNoLeaf m n.base row
    no_leaf m lost = subst (λ (found : Option Row). IfSome found (HasNoLeaf m n.base)) stands_there lost

    by : (e : ReadErr) → ((m now : Area) → s.held ≡ Some m → t.held ≡ Some now → IfDamagedBy e (λ name. IsUnsettled m o name ⊎ ((name ≡ leaf_name number place) × IfSome (row_with number place n.kept.rows) (HasNoLeaf now n.base))))
        → IsStopOfCatalog (IsLostBlob n t) (catalog_stop_of e)
    by (reading.Damaged name) lost = λ m is.
        ⊎_elim (λ here. let no : ⊥ = cc in absurd no) (λ there. inl (number, place, there.0, (row, stands_there, no_leaf m there.1))) (lost m m (sym same ∙ is) is)
    by reading.Fault lost = tt
    by reading.Memory lost = tt

-- the item of a row among those of items
pub at_row : (xs : List Placed) (i : ℕ) (row : Row) → i < length (map placed_row xs) → row ≡ get_or (map placed_row xs) i row
    → (x : Placed) × (take (suc i) xs ≡ take i xs ++ x ∷ []) × Contains xs x × (row ≡ placed_row x)
at_row [] i row within is = absurd (omega (arith, within))
at_row (x ∷ xs) zero row within is = (x, refl, (0, omega arith, refl), is)
at_row (x ∷ xs) (suc i) row within is =
    let rest = at_row xs i row (omega (arith, within)) is in
    (rest.0, ap (λ (l : List Placed). x ∷ l) rest.1, (suc rest.2.0, omega (arith, rest.2.1), rest.2.2), rest.3)

filter_more : (p : Placed → Bool) (xs : List Placed) (x : Placed) → filter p (xs ++ x ∷ []) ≡ filter p xs ++ cond (p x) (x ∷ []) []
filter_more p [] x = refl
filter_more p (y ∷ xs) x =
    elim (p y) as (λ (b : Bool). cond b (y ∷ filter p (xs ++ x ∷ [])) (filter p (xs ++ x ∷ [])) ≡ cond b (y ∷ filter p xs) (filter p xs) ++ cond (p x) (x ∷ []) []) [
      | true ↦ ap (λ (l : List Placed). y ∷ l) (filter_more p xs x)
      | false ↦ filter_more p xs x
    ]

-- the items of the rows so far
pub record ItemsSoFar {B : Type 0} (o n : Opened B) (s t : Seen) (rows : List Row) (at i : ℕ) (items : List Given) : Type 0 where
  pub stays : StaysOpen o n s t (IsErrOf went_well CatalogFault)
  pub items_are : (cs : Catalog) (xs : List Placed) → IsOpenFor o s cs → AreOf cs xs → rows ≡ map placed_row xs → all_as_placed items ≡ filter (is_behind at) (take i xs)
  pub read : o.settled ≡ true → AreKept o.kept.rows rows → Makes (leaves_behind at (take i rows)) s t

module _ (rows : List Row) (at i : ℕ) (row : Row) (within : i < length rows) (is : row ≡ get_or rows i row) (xs : List Placed) (same : rows ≡ map placed_row xs) where
  pub there : (x : Placed) × (take (suc i) xs ≡ take i xs ++ x ∷ []) × Contains xs x × (row ≡ placed_row x)
  there = at_row xs i row (subst (λ (l : List Row). i < length l) same within) (subst (λ (l : List Row). row ≡ get_or l i row) same is)

  next_taken : take (i + 1) xs ≡ take i xs ++ there.0 ∷ []
  next_taken = let more : i + 1 ≡ suc i = omega arith in ap (λ (n : ℕ). take n xs) more ∙ there.1

  -- a row that is passed over
  pub row_skipped : (items : List Given) → row.number ≤ at → all_as_placed items ≡ filter (is_behind at) (take i xs) → all_as_placed items ≡ filter (is_behind at) (take (i + 1) xs)
  row_skipped items low so_far =
      let number : row.number ≡ there.0.number = ap (λ (r : Row). r.number) there.3 in
      let not : is_behind at there.0 ≡ false = le-ltb at there.0.number (omega (arith, low, number)) in
      so_far ∙ sym (ap (filter (is_behind at)) next_taken ∙ filter_more (is_behind at) (take i xs) there.0 ∙ ap (λ (b : Bool). filter (is_behind at) (take i xs) ++ cond b (there.0 ∷ []) []) not
      ∙ append-nil (filter (is_behind at) (take i xs)))

  -- one that is taken up
  pub row_added : (items more : List Given) (it : Item) → at < row.number → all_as_placed items ≡ filter (is_behind at) (take i xs)
      → (Contains xs there.0 → it ≡ there.0.what) → more ≡ items ++ (record { number = row.number; place = row.place; stamp = row.stamp; item = it }) ∷ []
      → all_as_placed more ≡ filter (is_behind at) (take (i + 1) xs)
  row_added items more it high so_far read pushed =
      let number : row.number ≡ there.0.number = ap (λ (r : Row). r.number) there.3 in
      let behind : is_behind at there.0 ≡ true = lt-ltb at there.0.number (omega (arith, high, number)) in
      let made : (record { number = row.number; place = row.place; stamp = row.stamp; what = it }) ≡ there.0 =
      ap (λ (r : Row). record { number = r.number; place = r.place; stamp = r.stamp; what = it }) there.3
      ∙ ap (λ (w : Item). record { number = there.0.number; place = there.0.place; stamp = there.0.stamp; what = w }) (read there.2) in
      ap all_as_placed pushed ∙ map-append as_placed items _ ∙ ap₂ (λ (l : List Placed) (x : Placed). l ++ x ∷ []) so_far made
      ∙ sym (ap (filter (is_behind at)) next_taken ∙ filter_more (is_behind at) (take i xs) there.0 ∙ ap (λ (b : Bool). filter (is_behind at) (take i xs) ++ cond b (there.0 ∷ []) []) behind)

-- all rows were gone through
pub all_taken : (rows : List Row) (i : ℕ) (xs : List Placed) → rows ≡ map placed_row xs → length rows ≤ i → take i xs ≡ xs
all_taken rows i xs same all =
    let long : length rows ≡ length xs = ap (λ (l : List Row). length l) same ∙ length-map xs placed_row in
    take_all i xs (omega (arith, long, all))
