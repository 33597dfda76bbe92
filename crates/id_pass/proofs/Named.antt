-- The documents that a map spells.
use Rattle.std.proofs.Common.{All, IsUtf8, zero, suc, ◌≡◌, ℕ, List, [], ◌∷◌, ◌++◌, length, arith, drop, map, String, Bool, Some, None, cond, refl, sym, ◌∙◌, ap, append-nil}
use Rattle.std.proofs.lemmas.Map.Text.{btree_map_updates_text, is_eq-slice_cmp}
use Rattle.std.proofs.lemmas.Bool.Decides.{same_from_decides}
use Rattle.std.proofs.lemmas.Str.{IsUtf8-string_bytes}
use Rattle.std.proofs.lemmas.Slice.Eq.{bytes_eq-Decides}
use Rattle.std.specs.BTreeMap.{BTreeMap, IsEmpty, IsOrdered, UpdatesBy, get_by_text, is_at, keys}
use Rattle.std.specs.Cmp.Lexicographic.{slice_cmp, nat_list_cmp_total}
use Rattle.std.specs.FinMap.{empty, entries, entries-insert, find, from_entries, get, get-from_entries, get-insert, get-remove, insert, nat_cmp-IsAntisymmetric, remove, same_map, slice_cmp-IsAntisymmetric, len-empty, len-entries}
use Rattle.std.specs.FinMap.Entries.{by_order, put}
use Rattle.std.specs.List.{AllByRecursion}
use Rattle.std.specs.List.Sorted.{IsStrictlySortedBy}
use Rattle.std.specs.Map.{keys_of, lookup}
use Rattle.std.specs.Ordering.{nat_cmp}
use Rattle.std.specs.Str.{bytes_eq}
use Rattle.std.specs.String.{string_bytes, string_cmp}
use Rattle.std.specs.declared.cmp.Ordering.{Ordering}
use Rattle.std.specs.declared.cmp.Ordering.TheVariants.{Less}
use Rattle.std.proofs.lemmas.List.{drop_at}
use Rattle.fold_core.specs.declared.doc.Body.{Body}
use Rattle.fold_core.specs.declared.doc.Doc.{Doc}
use Rattle.id_pass.specs.Named.{NamedBodies, bodies_of, by_name}

-- an entry of a map, with its name as bytes
abbrev pub as_named : {Y : Type 0} → String Y × Body → List ℕ × Body
as_named e = (string_bytes e.0, e.1)

pub same_named : (m n : NamedBodies) → ((q : List ℕ) → get m q ≡ get n q) → m ≡ n
same_named m n is = same_map nat_list_cmp_total (slice_cmp-IsAntisymmetric nat_cmp-IsAntisymmetric) m n is

found : {Y : Type 0} (q : List ℕ) (es : List (String Y × Body)) → find (slice_cmp nat_cmp) q (map as_named es) ≡ lookup (is_at (λ k. slice_cmp nat_cmp q (string_bytes k))) es
found q [] = refl
found q (e ∷ es) = ap (cond (is_at (λ k. slice_cmp nat_cmp q (string_bytes k)) e.0) (Some e.1)) (found q es)

pub get-bodies_of : {Y : Type 0} (named : BTreeMap (String Y) Body) (q : List ℕ) → get (bodies_of named) q ≡ get_by_text named q
unfolding bodies_of
get-bodies_of named q = get-from_entries nat_list_cmp_total (map as_named named.entries) q ∙ found q named.entries

pub spells_none : {Y : Type 0} (named : BTreeMap (String Y) Body) → IsEmpty named → bodies_of named ≡ empty
unfolding bodies_of
spells_none named none = ap (λ es. from_entries (map as_named es)) none

turned : (q name : List ℕ) → bytes_eq q name ≡ bytes_eq name q
turned q name =
    let back = bytes_eq-Decides name q in
    same_from_decides (bytes_eq q name) (bytes_eq name q) (bytes_eq-Decides q name) ((λ same. sym (back.0 same)), (λ is. back.1 (sym is)))

pub get_with : (m : NamedBodies) (name : List ℕ) (body : Body) (q : List ℕ) → get (insert m name body) q ≡ cond (bytes_eq q name) (Some body) (get m q)
get_with m name body q = get-insert nat_list_cmp_total m name body q ∙ ap (λ (b : Bool). cond b (Some body) (get m q)) (is_eq-slice_cmp q name)

pub get_without : (m : NamedBodies) (name : List ℕ) (q : List ℕ) → get (remove m name) q ≡ cond (bytes_eq q name) None (get m q)
get_without m name q = get-remove nat_list_cmp_total m name q ∙ ap (λ (b : Bool). cond b None (get m q)) (is_eq-slice_cmp q name)

module _ {Y : Type 0} (name : List ℕ) (old new : BTreeMap (String Y) Body) where
  -- a document more
  pub bodies_of-with : (body : Body) → UpdatesBy string_cmp (λ k. slice_cmp nat_cmp name (string_bytes k)) old new (Some body) → bodies_of new ≡ insert (bodies_of old) name body
  bodies_of-with body updates = same_named _ _ (λ q.
      get-bodies_of new q ∙ btree_map_updates_text name old new (Some body) updates q
      ∙ (λ i. cond (turned name q i) (Some body) (sym (get-bodies_of old q) i)) ∙ sym (get_with (bodies_of old) name body q))

  -- one less
  pub bodies_of-without : UpdatesBy string_cmp (λ k. slice_cmp nat_cmp name (string_bytes k)) old new None → bodies_of new ≡ remove (bodies_of old) name
  bodies_of-without updates = same_named _ _ (λ q.
      get-bodies_of new q ∙ btree_map_updates_text name old new None updates q
      ∙ (λ i. cond (turned name q i) None (sym (get-bodies_of old q) i)) ∙ sym (get_without (bodies_of old) name q))

-- what is put before all others comes first
put_first : (k : List ℕ) (v : Body) (es : List (List ℕ × Body)) → AllByRecursion (λ y. slice_cmp nat_cmp k y ≡ Less) (keys_of es) → put (slice_cmp nat_cmp) k v es ≡ (k, v) ∷ es
put_first k v [] all = refl
put_first k v (e ∷ es) all = ap (λ (r : Ordering). by_order r ((k, v) ∷ e ∷ es) ((e.0, v) ∷ es) (e ∷ put (slice_cmp nat_cmp) k v es)) all.0

none_left : (es : List (List ℕ × Body)) → length es ≡ 0 → es ≡ []
none_left [] e = refl
none_left (x ∷ es) e = absurd (omega arith)

no_entries : entries (empty {X = Body} {R = slice_cmp nat_cmp}) ≡ []
no_entries = none_left _ (sym (len-entries empty) ∙ len-empty (slice_cmp nat_cmp) Body)

-- sorted entries are those of their map
entries_stay : (es : List (List ℕ × Body)) → IsStrictlySortedBy (slice_cmp nat_cmp) (keys_of es) → entries (from_entries {R = slice_cmp nat_cmp} es) ≡ es
unfolding IsStrictlySortedBy
entries_stay [] sorted = no_entries
entries_stay (e ∷ es) sorted =
    entries-insert nat_list_cmp_total (from_entries es) e.0 e.1
    ∙ ap (put (slice_cmp nat_cmp) e.0 e.1) (entries_stay es sorted.1)
    ∙ put_first e.0 e.1 es sorted.0

below_bytes : {Y : Type 0} (k : String Y) (ks : List (String Y)) → AllByRecursion (λ y. string_cmp k y ≡ Less) ks → AllByRecursion (λ y. slice_cmp nat_cmp (string_bytes k) y ≡ Less) (map string_bytes ks)
below_bytes k [] all = tt
below_bytes k (x ∷ ks) all = (all.0, below_bytes k ks all.1)

-- texts that rise do so by their bytes
pub bytes_rise : {Y : Type 0} (ks : List (String Y)) → IsStrictlySortedBy string_cmp ks → IsStrictlySortedBy (slice_cmp nat_cmp) (map string_bytes ks)
unfolding IsStrictlySortedBy
bytes_rise [] sorted = tt
bytes_rise (k ∷ ks) sorted = (below_bytes k ks sorted.0, bytes_rise ks sorted.1)

-- texts are UTF-8
pub keys_are_texts : {Y : Type 0} (ks : List (String Y)) → All IsUtf8 (map string_bytes ks)
keys_are_texts [] k d within = absurd (omega arith)
keys_are_texts (x ∷ ks) zero d within = IsUtf8-string_bytes x
keys_are_texts (x ∷ ks) (suc k) d within = keys_are_texts ks k d (omega (arith, within))

pub named_keys : {Y : Type 0} (es : List (String Y × Body)) → keys_of (map as_named es) ≡ map string_bytes (keys_of es)
named_keys [] = refl
named_keys (e ∷ es) = ap (λ l. string_bytes e.0 ∷ l) (named_keys es)

module _ {Y : Type 0} (named : BTreeMap (String Y) Body) (ordered : IsOrdered string_cmp named) where
  pub entries-bodies_of : entries (bodies_of named) ≡ map as_named named.entries
  unfolding bodies_of
  entries-bodies_of = entries_stay (map as_named named.entries) (subst_sorted (sym (named_keys named.entries)) (bytes_rise (keys named) ordered))
    where
      subst_sorted : {xs ys : List (List ℕ)} → xs ≡ ys → IsStrictlySortedBy (slice_cmp nat_cmp) xs → IsStrictlySortedBy (slice_cmp nat_cmp) ys
      subst_sorted e s = rw (← e) s

  -- the names are those of the map's keys
  pub keys-bodies_of : map (λ (e : List ℕ × Body). e.0) (entries (bodies_of named)) ≡ map string_bytes (keys named)
  keys-bodies_of = ap (map (λ (e : List ℕ × Body). e.0)) entries-bodies_of ∙ named_keys named.entries

-- before the first document is named
nothing_left : (all : List Doc) → drop (length all) all ≡ []
nothing_left all = ap (drop (length all)) (sym (append-nil all)) ∙ drop_at all [] (length all) refl

module _ (all items : List Doc) (is : items ≡ all) where
  none_dropped : drop (length items) all ≡ []
  none_dropped = ap (λ (l : List Doc). drop (length l) all) is ∙ nothing_left all

  pub all_left : all ≡ items ++ drop (length items) all
  all_left = sym is ∙ sym (append-nil items) ∙ ap (λ (l : List Doc). items ++ l) (sym none_dropped)

  pub none_named : (named : NamedBodies) → named ≡ empty → named ≡ by_name (drop (length items) all)
  none_named named none = none ∙ ap by_name (sym none_dropped)
