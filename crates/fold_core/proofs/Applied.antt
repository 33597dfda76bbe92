-- An item more replaces, adds or takes out one entry.
use Rattle.std.proofs.Common.{◌≡◌, ℕ, List, [], ◌∷◌, ◌++◌, length, map, reverse, Bool, true, false, cond, ◌&&◌, T, Option, Some, None, refl, sym, ap, ◌∙◌, subst, arith}
use Rattle.std.proofs.lemmas.List.{reverse-append}
use Rattle.std.proofs.lemmas.Cmp.{tied_itself}
use Rattle.std.specs.Cmp.{alike_right, tied_back}
use Rattle.std.specs.FinMap.{FinMap, empty, entries, entries-insert, entries_sorted, from_entries, is_sorted, len-empty, len-entries, put, values}
use Rattle.std.specs.FinMap.Entries.{below_all, by_order}
use Rattle.std.specs.List.{cons_option, filter_map}
use Rattle.std.specs.Ordering.{is_lt}
use Rattle.std.specs.declared.cmp.Ordering.{Ordering}
use Rattle.std.specs.declared.cmp.Ordering.TheVariants.{Less, Equal, Greater}
use Rattle.nuget_version.specs.Precedence.{precedence}
use Rattle.nuget_version.specs.declared.version.Version.{Version}
use Rattle.nuget_version.proofs.Order.{precedence_total}
use Rattle.pkg_meta.specs.Items.{version_of}
use Rattle.pkg_meta.specs.Lawful.{Placed}
use Rattle.pkg_meta.specs.declared.item.Item.{Item}
use Rattle.pkg_meta.specs.declared.item.Item.TheVariants as the
use Rattle.fold_core.specs.Entries.{Keeps, by_version, entries_of, entry_at, entry_of, last_items}
use Rattle.fold_core.specs.Places.{replaced}
use Rattle.pkg_meta.specs.declared.entry.Entry.{Entry}

-- each key ties with its item's version
abbrev pub AreKeyed : List (Version × Placed) → Type 0
AreKeyed [] = Unit {0}
AreKeyed (e ∷ es) = (precedence e.0 (version_of e.1.what) ≡ Equal) × AreKeyed es

pub front : (a b : Bool) → T (a && b) → T a
front true b h = tt
front false b h = h

pub back : (a b : Bool) → T (a && b) → T b
back true b h = h
back false b h = absurd h

pub both : (a b : Bool) → T a → T b → T (a && b)
both true b p q = q
both false b p q = p

pub is_less : (r : Ordering) → T (is_lt r) → r ≡ Less
is_less Less h = refl
is_less Equal h = absurd h
is_less Greater h = absurd h

pub less_is : (r : Ordering) → r ≡ Less → T (is_lt r)
less_is Less e = tt
less_is Equal e = cc
less_is Greater e = cc

module _ (keeps : Keeps) (v : Version) (new : Option Entry) (number place : ℕ) where
  greater : (it : Item) (l : List Entry) → precedence v (version_of it) ≡ Greater
      → replaced v new (cons_option (entry_at keeps number place it) l) ≡ cons_option (entry_at keeps number place it) (replaced v new l)
  greater (the.Details d) l is =
      elim (keeps d) as (λ (b : Bool). replaced v new (cons_option (cond b (Some (record { number = number; place = place; details = d })) None) l)
      ≡ cons_option (cond b (Some (record { number = number; place = place; details = d })) None) (replaced v new l)) [
        | true ↦ rw is refl
        | false ↦ refl
      ]
  greater (the.Gone i w) l is = refl

  less : (it : Item) (l : List Entry) → precedence v (version_of it) ≡ Less → replaced v new l ≡ cons_option new l
      → replaced v new (cons_option (entry_at keeps number place it) l) ≡ cons_option new (cons_option (entry_at keeps number place it) l)
  less (the.Details d) l is rest =
      elim (keeps d) as (λ (b : Bool). replaced v new (cons_option (cond b (Some (record { number = number; place = place; details = d })) None) l)
      ≡ cons_option new (cons_option (cond b (Some (record { number = number; place = place; details = d })) None) l)) [
        | true ↦ rw is refl
        | false ↦ rest
      ]
  less (the.Gone i w) l is rest = rest

  equal : (it : Item) (l : List Entry) → precedence v (version_of it) ≡ Equal → replaced v new l ≡ cons_option new l
      → replaced v new (cons_option (entry_at keeps number place it) l) ≡ cons_option new l
  equal (the.Details d) l is rest =
      elim (keeps d) as (λ (b : Bool). replaced v new (cons_option (cond b (Some (record { number = number; place = place; details = d })) None) l) ≡ cons_option new l) [
        | true ↦ rw is refl
        | false ↦ rest
      ]
  equal (the.Gone i w) l is rest = rest

-- the entries of the last items
abbrev pub entries_in : Keeps → List (Version × Placed) → List Entry
entries_in keeps es = filter_map (entry_of keeps) (map (λ e. e.1) es)

pub below_more : (v x : Version) (es : List (Version × Placed)) → ((y : Version) → precedence x y ≡ Less → precedence v y ≡ Less)
    → T (below_all precedence x es) → T (below_all precedence v es)
below_more v x [] lower below = tt
below_more v x (e ∷ es) lower below =
    both _ _ (less_is _ (lower e.0 (is_less _ (front _ _ below)))) (below_more v x es lower (back _ _ below))

above_all : (keeps : Keeps) (v : Version) (new : Option Entry) (es : List (Version × Placed)) → T (below_all precedence v es) → AreKeyed es
    → replaced v new (entries_in keeps es) ≡ cons_option new (entries_in keeps es)
above_all keeps v new [] below keyed = refl
above_all keeps v new (e ∷ es) below keyed =
    less keeps v new e.1.number e.1.place e.1.what (entries_in keeps es)
    (sym (alike_right precedence_total e.0 (version_of e.1.what) v keyed.0) ∙ is_less _ (front _ _ below))
    (above_all keeps v new es (back _ _ below) keyed.1)

put_step : (keeps : Keeps) (x : Placed) (es : List (Version × Placed)) → T (is_sorted precedence es) → AreKeyed es
    → entries_in keeps (put precedence (version_of x.what) x es) ≡ replaced (version_of x.what) (entry_of keeps x) (entries_in keeps es)
put_step keeps x [] sorted keyed = refl
put_step keeps x (e ∷ es) sorted keyed =
    let v : Version = version_of x.what in
    let new : Option Entry = entry_of keeps x in
    let own : Version = version_of e.1.what in
    let same : precedence v e.0 ≡ precedence v own = alike_right precedence_total e.0 own v keyed.0 in
    elim (precedence v e.0) as (λ (r : Ordering). precedence v e.0 ≡ r
    → entries_in keeps (by_order r ((v, x) ∷ e ∷ es) ((e.0, x) ∷ es) (e ∷ put precedence v x es)) ≡ replaced v new (entries_in keeps (e ∷ es))) [
      | Less ↦ λ is. sym (above_all keeps v new (e ∷ es)
          (both _ _ (less_is _ is) (below_more v e.0 es (λ y. precedence_total.trans v e.0 y is) (front _ _ sorted))) keyed)
      | Equal ↦ λ is. sym (equal keeps v new e.1.number e.1.place e.1.what (entries_in keeps es) (sym same ∙ is)
          (above_all keeps v new es (below_more v e.0 es (λ y less. precedence_total.congr v e.0 y is ∙ less) (front _ _ sorted)) keyed.1))
      | Greater ↦ λ is. ap (cons_option (entry_of keeps e.1)) (put_step keeps x es (back _ _ sorted) keyed.1)
          ∙ sym (greater keeps v new e.1.number e.1.place e.1.what (entries_in keeps es) (sym same ∙ is))
    ] refl

put_keyed : (x : Placed) (es : List (Version × Placed)) → AreKeyed es → AreKeyed (put precedence (version_of x.what) x es)
put_keyed x [] keyed = (tied_itself precedence_total (version_of x.what), tt)
put_keyed x (e ∷ es) keyed =
    elim (precedence (version_of x.what) e.0) as (λ (r : Ordering). precedence (version_of x.what) e.0 ≡ r
    → AreKeyed (by_order r ((version_of x.what, x) ∷ e ∷ es) ((e.0, x) ∷ es) (e ∷ put precedence (version_of x.what) x es))) [
      | Less ↦ λ is. (tied_itself precedence_total (version_of x.what), keyed)
      | Equal ↦ λ is. (tied_back precedence_total (version_of x.what) e.0 is, keyed.1)
      | Greater ↦ λ is. (keyed.0, put_keyed x es keyed.1)
    ] refl

no_items : (es : List (Version × Placed)) → length es ≡ 0 → es ≡ []
no_items [] e = refl
no_items (x ∷ es) e = absurd (omega arith)

pub no_entries : entries (empty {X = Placed} {R = precedence}) ≡ []
no_entries = no_items _ (sym (len-entries (empty {X = Placed} {R = precedence})) ∙ len-empty precedence Placed)

pub from_keyed : (items : List Placed) → AreKeyed (entries (from_entries {R = precedence} (map by_version items)))
from_keyed [] = subst AreKeyed (sym no_entries) tt
from_keyed (x ∷ items) =
    subst AreKeyed (sym (entries-insert precedence_total (from_entries {R = precedence} (map by_version items)) (version_of x.what) x))
    (put_keyed x (entries (from_entries {R = precedence} (map by_version items))) (from_keyed items))

-- an item more
pub entries_step : (keeps : Keeps) (items : List Placed) (x : Placed)
    → entries_of keeps (items ++ x ∷ []) ≡ replaced (version_of x.what) (entry_of keeps x) (entries_of keeps items)
entries_step keeps items x =
    let before : FinMap precedence Placed = last_items items in
    ap (λ (l : List Placed). filter_map (entry_of keeps) (values (from_entries {R = precedence} (map by_version l)))) (reverse-append items (x ∷ []))
    ∙ ap (entries_in keeps) (entries-insert precedence_total before (version_of x.what) x)
    ∙ put_step keeps x (entries before) (entries_sorted before) (from_keyed (reverse items))

-- no items leave no entries
pub entries_none : (keeps : Keeps) → entries_of keeps [] ≡ []
entries_none keeps = ap (entries_in keeps) no_entries
