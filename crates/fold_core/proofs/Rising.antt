-- Entries rise, and what holds of each item's entry holds of each entry.
use Rattle.std.proofs.Common.{◌≡◌, ℕ, List, [], ◌∷◌, ◌++◌, map, reverse, Bool, true, false, cond, T, Option, Some, None, sym, ◌∙◌, subst}
use Rattle.std.proofs.lemmas.List.{reverse-append}
use Rattle.std.specs.Cmp.{alike_right}
use Rattle.std.specs.FinMap.{entries, entries-insert, entries_sorted, from_entries, is_sorted, put}
use Rattle.std.specs.FinMap.Entries.{below_all, by_order}
use Rattle.std.specs.List.{AllByRecursion, cons_option}
use Rattle.std.specs.List.Sorted.{IsStrictlySortedBy}
use Rattle.std.specs.Option.{IfSome}
use Rattle.std.specs.declared.cmp.Ordering.{Ordering}
use Rattle.std.specs.declared.cmp.Ordering.TheVariants.{Less, Equal, Greater}
use Rattle.nuget_version.specs.Precedence.{precedence}
use Rattle.nuget_version.specs.declared.version.Version.{Version}
use Rattle.nuget_version.proofs.Order.{precedence_total}
use Rattle.pkg_meta.specs.Items.{version_of}
use Rattle.pkg_meta.specs.Lawful.{Placed}
use Rattle.pkg_meta.specs.declared.item.Item.{Item}
use Rattle.pkg_meta.specs.declared.item.Item.TheVariants as the
use Rattle.pkg_meta.specs.Entries.{AreRising, version_in}
use Rattle.fold_core.specs.Entries.{Keeps, by_version, entries_of, entry_at, entry_of, last_items}
use Rattle.pkg_meta.specs.declared.entry.Entry.{Entry}
use Rattle.fold_core.proofs.Applied.{AreKeyed, back, entries_in, from_keyed, front, is_less, no_entries}

-- what holds of an item's version holds of its entry's
pub kept_version : (P : Version → Type 0) (keeps : Keeps) (number place : ℕ) (it : Item) → P (version_of it) → IfSome (entry_at keeps number place it) (λ (e : Entry). P (version_in e))
kept_version P keeps number place (the.Details d) h =
    elim (keeps d) as (λ (b : Bool). IfSome (cond b (Some (record { number = number; place = place; details = d })) None) (λ (e : Entry). P (version_in e))) [
      | true ↦ h
      | false ↦ tt
    ]
kept_version P keeps number place (the.Gone i w) h = tt

pub all_kept : (P : Version → Type 0) (o : Option Entry) (es : List Entry) → IfSome o (λ (e : Entry). P (version_in e)) → AllByRecursion P (map version_in es)
    → AllByRecursion P (map version_in (cons_option o es))
all_kept P None es h rest = rest
all_kept P (Some e) es h rest = (h, rest)

above : (keeps : Keeps) (v : Version) (es : List (Version × Placed)) → T (below_all precedence v es) → AreKeyed es
    → AllByRecursion (λ w. precedence v w ≡ Less) (map version_in (entries_in keeps es))
above keeps v [] below keyed = tt
above keeps v (e ∷ es) below keyed =
    all_kept (λ w. precedence v w ≡ Less) (entry_of keeps e.1) (entries_in keeps es)
    (kept_version (λ w. precedence v w ≡ Less) keeps e.1.number e.1.place e.1.what
    (sym (alike_right precedence_total e.0 (version_of e.1.what) v keyed.0) ∙ is_less _ (front _ _ below)))
    (above keeps v es (back _ _ below) keyed.1)

pub with_first : (k : Version) (o : Option Entry) (es : List Entry) → IfSome o (λ (e : Entry). precedence k (version_in e) ≡ Equal)
    → AllByRecursion (λ w. precedence k w ≡ Less) (map version_in es) → AreRising es → AreRising (cons_option o es)
unfolding IsStrictlySortedBy
with_first k None es h higher rising = rising
with_first k (Some e) es h higher rising =
    (subst (λ (c : Version → Ordering). AllByRecursion (λ w. c w ≡ Less) (map version_in es)) (λ i w. precedence_total.congr k (version_in e) w h i) higher, rising)

rising_in : (keeps : Keeps) (es : List (Version × Placed)) → T (is_sorted precedence es) → AreKeyed es → AreRising (entries_in keeps es)
unfolding IsStrictlySortedBy
rising_in keeps [] sorted keyed = tt
rising_in keeps (e ∷ es) sorted keyed =
    with_first e.0 (entry_of keeps e.1) (entries_in keeps es)
    (kept_version (λ w. precedence e.0 w ≡ Equal) keeps e.1.number e.1.place e.1.what keyed.0)
    (above keeps e.0 es (front _ _ sorted) keyed.1)
    (rising_in keeps es (back _ _ sorted) keyed.1)

pub entries_rise : (keeps : Keeps) (items : List Placed) → AreRising (entries_of keeps items)
entries_rise keeps items = rising_in keeps (entries (last_items items)) (entries_sorted (last_items items)) (from_keyed (reverse items))

module _ (P : Placed → Type 0) where
  put_all : (v : Version) (x : Placed) (es : List (Version × Placed)) → P x → AllByRecursion (λ (e : Version × Placed). P e.1) es
      → AllByRecursion (λ (e : Version × Placed). P e.1) (put precedence v x es)
  put_all v x [] h all = (h, tt)
  put_all v x (e ∷ es) h all =
      elim (precedence v e.0) as (λ (r : Ordering). AllByRecursion (λ (f : Version × Placed). P f.1) (by_order r ((v, x) ∷ e ∷ es) ((e.0, x) ∷ es) (e ∷ put precedence v x es))) [
        | Less ↦ (h, all)
        | Equal ↦ (h, all.1)
        | Greater ↦ (all.0, put_all v x es h all.1)
      ]

  from_all : (items : List Placed) → AllByRecursion P items → AllByRecursion (λ (e : Version × Placed). P e.1) (entries (from_entries {R = precedence} (map by_version items)))
  from_all [] all = subst (AllByRecursion (λ (e : Version × Placed). P e.1)) (sym no_entries) tt
  from_all (x ∷ items) all =
      subst (AllByRecursion (λ (e : Version × Placed). P e.1)) (sym (entries-insert precedence_total (from_entries {R = precedence} (map by_version items)) (version_of x.what) x))
      (put_all (version_of x.what) x (entries (from_entries {R = precedence} (map by_version items))) all.0 (from_all items all.1))

  pub all_joined : (xs ys : List Placed) → AllByRecursion P xs → AllByRecursion P ys → AllByRecursion P (xs ++ ys)
  all_joined [] ys p q = q
  all_joined (x ∷ xs) ys p q = (p.0, all_joined xs ys p.1 q)

  all_reversed : (xs : List Placed) → AllByRecursion P xs → AllByRecursion P (reverse xs)
  all_reversed [] all = tt
  all_reversed (x ∷ xs) all = subst (AllByRecursion P) (sym (reverse-append (x ∷ []) xs)) (all_joined (reverse xs) (x ∷ []) (all_reversed xs all.1) (all.0, tt))

  module _ (keeps : Keeps) (Q : Entry → Type 0) (gives : (x : Placed) → P x → IfSome (entry_of keeps x) Q) where
    consed : (o : Option Entry) (es : List Entry) → IfSome o Q → AllByRecursion Q es → AllByRecursion Q (cons_option o es)
    consed None es h all = all
    consed (Some e) es h all = (h, all)

    kept_all : (es : List (Version × Placed)) → AllByRecursion (λ (e : Version × Placed). P e.1) es → AllByRecursion Q (entries_in keeps es)
    kept_all [] all = tt
    kept_all (e ∷ es) all = consed (entry_of keeps e.1) (entries_in keeps es) (gives e.1 all.0) (kept_all es all.1)

    -- what each item gives its entry holds of each entry
    pub entries_all : (items : List Placed) → AllByRecursion P items → AllByRecursion Q (entries_of keeps items)
    entries_all items all = kept_all (entries (last_items items)) (from_all (reverse items) (all_reversed items all))
