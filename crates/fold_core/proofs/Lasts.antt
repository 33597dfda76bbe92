-- The entry of a version is that of its last item.
use Rattle.std.proofs.Common.{◌≡◌, ℕ, List, [], ◌∷◌, ◌++◌, map, reverse, Bool, true, false, cond, ◌&&◌, T, Option, Some, None, refl, sym, ap, ◌∙◌}
use Rattle.std.proofs.lemmas.List.{map-append, reverse-append}
use Rattle.std.proofs.lemmas.Slice.Eq.{bytes_eq-Decides}
use Rattle.std.specs.Bool.{one_answer}
use Rattle.std.specs.Cmp.{Equal-is, alike_right}
use Rattle.std.specs.FinMap.{entries, entries_sorted, find, get-entries, get-from_entries, is_sorted}
use Rattle.std.specs.FinMap.Entries.{below_all}
use Rattle.std.specs.List.{cons_option, filter}
use Rattle.std.specs.Option.{option_and_then}
use Rattle.std.specs.Ordering.{eq_by_cmp, is_eq}
use Rattle.std.specs.Prelude.{flat_map}
use Rattle.std.specs.Str.{bytes_eq}
use Rattle.std.specs.declared.cmp.Ordering.TheVariants.{Equal}
use Rattle.nuget_version.specs.Precedence.{precedence}
use Rattle.nuget_version.specs.Printed.{key_text}
use Rattle.nuget_version.specs.declared.version.Version.{Version}
use Rattle.nuget_version.proofs.Order.{keys_tie, precedence_total, tie_keys}
use Rattle.pkg_meta.specs.Items.{version_of}
use Rattle.pkg_meta.specs.Lawful.{Placed, last_of, or_earlier}
use Rattle.pkg_meta.specs.declared.commit.Commit.{Commit}
use Rattle.pkg_meta.specs.declared.item.Item.{Item}
use Rattle.pkg_meta.specs.declared.item.Item.TheVariants as the
use Rattle.fold_core.specs.Entries.{Keeps, by_version, entries_of, entry_at, entry_of, find_entry, last_items}
use Rattle.fold_core.specs.Items.{is_of, items_in, items_of}
use Rattle.pkg_meta.specs.declared.entry.Entry.{Entry}
use Rattle.fold_core.proofs.Applied.{AreKeyed, back, below_more, entries_in, from_keyed, front, is_less}

-- the last of an id's items that is of the version
last_in : List ℕ → List Placed → Option Placed
last_in w [] = None
last_in w (x ∷ xs) = or_earlier (last_in w xs) (cond (bytes_eq w (key_text (version_of x.what))) (Some x) None)

or_none : (o : Option Placed) → or_earlier o None ≡ o
or_none None = refl
or_none (Some x) = refl

all_last : (key w : List ℕ) (xs : List Placed) → last_of key w xs ≡ last_in w (filter (λ (x : Placed). is_of key x.what) xs)
unfolding last_in
all_last key w [] = refl
all_last key w (x ∷ xs) =
    elim (is_of key x.what) as (λ (b : Bool). or_earlier (last_of key w xs) (cond (b && bytes_eq w (key_text (version_of x.what))) (Some x) None)
    ≡ last_in w (cond b (x ∷ filter (λ (y : Placed). is_of key y.what) xs) (filter (λ (y : Placed). is_of key y.what) xs))) [
      | true ↦ ap (λ (o : Option Placed). or_earlier o (cond (bytes_eq w (key_text (version_of x.what))) (Some x) None)) (all_last key w xs)
      | false ↦ or_none (last_of key w xs) ∙ all_last key w xs
    ]

-- equal keys and ties are one
same_test : (u v : Version) → bytes_eq (key_text u) (key_text v) ≡ eq_by_cmp precedence u v
same_test u v =
    let keys = bytes_eq-Decides (key_text u) (key_text v) in
    let ties = Equal-is (precedence u v) in
    one_answer (bytes_eq (key_text u) (key_text v)) (eq_by_cmp precedence u v) (λ e. keys_tie u v (keys.0 e), λ e. keys.1 (tie_keys u v e)) ties

found_last : (v : Version) (es : List (Version × Placed)) (k : Version) (x : Placed)
    → find precedence v (es ++ (k, x) ∷ []) ≡ or_earlier (find precedence v es) (cond (eq_by_cmp precedence v k) (Some x) None)
found_last v [] k x = refl
found_last v (e ∷ es) k x =
    elim (eq_by_cmp precedence v e.0) as (λ (b : Bool). cond b (Some e.1) (find precedence v (es ++ (k, x) ∷ []))
    ≡ or_earlier (cond b (Some e.1) (find precedence v es)) (cond (eq_by_cmp precedence v k) (Some x) None)) [
      | true ↦ refl
      | false ↦ found_last v es k x
    ]

last_found : (v : Version) (items : List Placed) → last_in (key_text v) items ≡ find precedence v (map by_version (reverse items))
unfolding last_in
last_found v [] = refl
last_found v (x ∷ items) =
    let turned : map by_version (reverse (x ∷ items)) ≡ map by_version (reverse items) ++ by_version x ∷ [] =
    ap (map by_version) (reverse-append (x ∷ []) items) ∙ map-append by_version (reverse items) (x ∷ []) in
    ap (λ (o : Option Placed). or_earlier o (cond (bytes_eq (key_text v) (key_text (version_of x.what))) (Some x) None)) (last_found v items)
    ∙ ap (λ (b : Bool). or_earlier (find precedence v (map by_version (reverse items))) (cond b (Some x) None)) (same_test v (version_of x.what))
    ∙ sym (ap (find precedence v) turned ∙ found_last v (map by_version (reverse items)) (version_of x.what) x)

module _ (keeps : Keeps) (v : Version) where
  hit : (number place : ℕ) (it : Item) (es : List Entry) → eq_by_cmp precedence v (version_of it) ≡ true → find_entry v es ≡ None
      → find_entry v (cons_option (entry_at keeps number place it) es) ≡ entry_at keeps number place it
  hit number place (the.Details d) es tied none =
      elim (keeps d) as (λ (b : Bool). find_entry v (cons_option (cond b (Some (record { number = number; place = place; details = d })) None) es)
      ≡ cond b (Some (record { number = number; place = place; details = d })) None) [
        | true ↦ ap (λ (t : Bool). cond t (Some (record { number = number; place = place; details = d })) (find_entry v es)) tied
        | false ↦ none
      ]
  hit number place (the.Gone i w) es tied none = none

  miss : (number place : ℕ) (it : Item) (es : List Entry) → eq_by_cmp precedence v (version_of it) ≡ false
      → find_entry v (cons_option (entry_at keeps number place it) es) ≡ find_entry v es
  miss number place (the.Details d) es free =
      elim (keeps d) as (λ (b : Bool). find_entry v (cons_option (cond b (Some (record { number = number; place = place; details = d })) None) es) ≡ find_entry v es) [
        | true ↦ ap (λ (t : Bool). cond t (Some (record { number = number; place = place; details = d })) (find_entry v es)) free
        | false ↦ refl
      ]
  miss number place (the.Gone i w) es free = refl

  as_key : (e : Version × Placed) → precedence e.0 (version_of e.1.what) ≡ Equal → precedence v (version_of e.1.what) ≡ precedence v e.0
  as_key e keyed = sym (alike_right precedence_total e.0 (version_of e.1.what) v keyed)

  none_above : (es : List (Version × Placed)) → T (below_all precedence v es) → AreKeyed es → find_entry v (entries_in keeps es) ≡ None
  none_above [] below keyed = refl
  none_above (e ∷ es) below keyed =
      miss e.1.number e.1.place e.1.what (entries_in keeps es) (ap is_eq (as_key e keyed.0 ∙ is_less _ (front _ _ below)))
      ∙ none_above es (back _ _ below) keyed.1

  found_in : (es : List (Version × Placed)) → T (is_sorted precedence es) → AreKeyed es
      → find_entry v (entries_in keeps es) ≡ option_and_then (entry_of keeps) (find precedence v es)
  found_in [] sorted keyed = refl
  found_in (e ∷ es) sorted keyed =
      elim (eq_by_cmp precedence v e.0) as (λ (b : Bool). eq_by_cmp precedence v e.0 ≡ b
      → find_entry v (entries_in keeps (e ∷ es)) ≡ option_and_then (entry_of keeps) (cond b (Some e.1) (find precedence v es))) [
        | true ↦ λ is. hit e.1.number e.1.place e.1.what (entries_in keeps es) (ap is_eq (as_key e keyed.0) ∙ is)
            (none_above es (below_more v e.0 es (λ y less. precedence_total.congr v e.0 y ((Equal-is (precedence v e.0)).0 is) ∙ less) (front _ _ sorted)) keyed.1)
        | false ↦ λ is. miss e.1.number e.1.place e.1.what (entries_in keeps es) (ap is_eq (as_key e keyed.0) ∙ is) ∙ found_in es (back _ _ sorted) keyed.1
      ] refl

pub entry_is_last : (keeps : Keeps) (cs : List Commit) (key : List ℕ) (v : Version)
    → find_entry v (entries_of keeps (items_of cs key)) ≡ option_and_then (entry_of keeps) (last_of key (key_text v) (flat_map items_in cs))
entry_is_last keeps cs key v =
    let items : List Placed = items_of cs key in
    found_in keeps v (entries (last_items items)) (entries_sorted (last_items items)) (from_keyed (reverse items))
    ∙ ap (option_and_then (entry_of keeps)) (sym (get-entries (last_items items) v)
    ∙ get-from_entries precedence_total (map by_version (reverse items)) v
    ∙ sym (last_found v items)
    ∙ sym (all_last key (key_text v) (flat_map items_in cs)))
