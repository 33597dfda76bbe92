-- An item that is applied to rising entries changes one version, and they stay rising.
use Rattle.std.proofs.Common.{◌≡◌, ℕ, List, [], ◌∷◌, map, Bool, true, false, cond, Option, Some, None, refl, sym, ap, ◌∙◌}
use Rattle.std.specs.Cmp.{Equal-is, alike_right, tied_itself}
use Rattle.std.specs.List.{AllByRecursion, cons_option}
use Rattle.std.specs.List.Sorted.{IsStrictlySortedBy}
use Rattle.std.specs.Option.{IfSome}
use Rattle.std.specs.Ordering.{eq_by_cmp, is_eq, match_ordering, ordering_reverse}
use Rattle.std.specs.declared.cmp.Ordering.{Ordering}
use Rattle.std.specs.declared.cmp.Ordering.TheVariants.{Less, Equal, Greater}
use Rattle.nuget_version.specs.Precedence.{precedence}
use Rattle.nuget_version.specs.declared.version.Version.{Version}
use Rattle.nuget_version.proofs.Order.{precedence_total}
use Rattle.pkg_meta.specs.Entries.{AreRising, version_in}
use Rattle.pkg_meta.specs.Items.{version_of}
use Rattle.pkg_meta.specs.Lawful.{Placed}
use Rattle.pkg_meta.specs.declared.entry.Entry.{Entry}
use Rattle.pkg_meta.specs.declared.item.Item.{Item}
use Rattle.fold_core.specs.Entries.{Keeps, entry_at, entry_of, find_entry}
use Rattle.fold_core.specs.Laws.{ChangesOneVersion}
use Rattle.fold_core.specs.Places.{applied, replaced}
use Rattle.fold_core.proofs.Rising.{all_kept, kept_version, with_first}

implied : (P Q : Version → Type 0) → ((w : Version) → P w → Q w) → (ks : List Version) → AllByRecursion P ks → AllByRecursion Q ks
implied P Q h [] all = tt
implied P Q h (k ∷ ks) all = (h k all.0, implied P Q h ks all.1)

if_some : (P Q : Entry → Type 0) → ((e : Entry) → P e → Q e) → (o : Option Entry) → IfSome o P → IfSome o Q
if_some P Q h None p = tt
if_some P Q h (Some e) p = h e p

-- what is above a version is above one that is below it
above_lower : (u v : Version) (ks : List Version) → precedence u v ≡ Less → AllByRecursion (λ w. precedence v w ≡ Less) ks → AllByRecursion (λ w. precedence u w ≡ Less) ks
above_lower u v ks less = implied (λ w. precedence v w ≡ Less) (λ w. precedence u w ≡ Less) (λ w. precedence_total.trans u v w less) ks

-- and above one that ties with it
above_tied : (u v : Version) (ks : List Version) → precedence u v ≡ Equal → AllByRecursion (λ w. precedence v w ≡ Less) ks → AllByRecursion (λ w. precedence u w ≡ Less) ks
above_tied u v ks tied = implied (λ w. precedence v w ≡ Less) (λ w. precedence u w ≡ Less) (λ w less. precedence_total.congr u v w tied ∙ less) ks

module _ (v : Version) (new : Option Entry) (own : IfSome new (λ (e : Entry). precedence v (version_in e) ≡ Equal)) where
  all_replaced : (P : Version → Type 0) → IfSome new (λ (e : Entry). P (version_in e)) → (es : List Entry) → AllByRecursion P (map version_in es)
      → AllByRecursion P (map version_in (replaced v new es))
  all_replaced P h [] all = all_kept P new [] h tt
  all_replaced P h (e ∷ es) all =
      elim (precedence v (version_in e)) as (λ (r : Ordering). AllByRecursion P (map version_in (match_ordering r (cons_option new (e ∷ es)) (cons_option new es) (e ∷ replaced v new es)))) [
        | Less ↦ all_kept P new (e ∷ es) h all
        | Equal ↦ all_kept P new es h all.1
        | Greater ↦ (all.0, all_replaced P h es all.1)
      ]

  -- the new entry is above those that the version is above
  new_above : (u : Version) → precedence v u ≡ Greater → IfSome new (λ (e : Entry). precedence u (version_in e) ≡ Less)
  new_above u is =
      if_some (λ e. precedence v (version_in e) ≡ Equal) (λ e. precedence u (version_in e) ≡ Less)
      (λ e tied. sym (alike_right precedence_total v (version_in e) u tied) ∙ precedence_total.antisymm u v ∙ ap ordering_reverse is) new own

  replaced_rises : (es : List Entry) → AreRising es → AreRising (replaced v new es)
  unfolding IsStrictlySortedBy
  replaced_rises [] rising = with_first v new [] own tt tt
  replaced_rises (e ∷ es) rising =
      elim (precedence v (version_in e)) as (λ (r : Ordering). precedence v (version_in e) ≡ r
      → AreRising (match_ordering r (cons_option new (e ∷ es)) (cons_option new es) (e ∷ replaced v new es))) [
        | Less ↦ λ is. with_first v new (e ∷ es) own (is, above_lower v (version_in e) (map version_in es) is rising.0) rising
        | Equal ↦ λ is. with_first v new es own (above_tied v (version_in e) (map version_in es) is rising.0) rising.1
        | Greater ↦ λ is. (all_replaced (λ w. precedence (version_in e) w ≡ Less) (new_above (version_in e) is) es rising.0, replaced_rises es rising.1)
      ] refl

  module _ (w : Version) where
    none_above : (es : List Entry) → AllByRecursion (λ u. precedence w u ≡ Less) (map version_in es) → find_entry w es ≡ None
    none_above [] all = refl
    none_above (e ∷ es) all = ap (λ (r : Ordering). cond (is_eq r) (Some e) (find_entry w es)) all.0 ∙ none_above es all.1

    first_is : (o : Option Entry) (es : List Entry) → IfSome o (λ (e : Entry). precedence w (version_in e) ≡ Equal) → find_entry w es ≡ None → find_entry w (cons_option o es) ≡ o
    first_is None es tied none = none
    first_is (Some e) es tied none = ap (λ (r : Ordering). cond (is_eq r) (Some e) (find_entry w es)) tied

    first_not : (o : Option Entry) (es : List Entry) → IfSome o (λ (e : Entry). eq_by_cmp precedence w (version_in e) ≡ false) → find_entry w (cons_option o es) ≡ find_entry w es
    first_not None es free = refl
    first_not (Some e) es free = ap (λ (b : Bool). cond b (Some e) (find_entry w es)) free

    -- the version has the new entry
    finds_new : precedence w v ≡ Equal → IfSome new (λ (e : Entry). precedence w (version_in e) ≡ Equal) → (es : List Entry) → AreRising es → find_entry w (replaced v new es) ≡ new
    unfolding IsStrictlySortedBy
    finds_new tied alike [] rising = first_is new [] alike refl
    finds_new tied alike (e ∷ es) rising =
        let same : precedence w (version_in e) ≡ precedence v (version_in e) = precedence_total.congr w v (version_in e) tied in
        elim (precedence v (version_in e)) as (λ (r : Ordering). precedence v (version_in e) ≡ r
        → find_entry w (match_ordering r (cons_option new (e ∷ es)) (cons_option new es) (e ∷ replaced v new es)) ≡ new) [
          | Less ↦ λ is. first_is new (e ∷ es) alike
              (none_above (e ∷ es) (same ∙ is, above_lower w (version_in e) (map version_in es) (same ∙ is) rising.0))
          | Equal ↦ λ is. first_is new es alike (none_above es (above_tied w (version_in e) (map version_in es) (same ∙ is) rising.0))
          | Greater ↦ λ is. ap (λ (r : Ordering). cond (is_eq r) (Some e) (find_entry w (replaced v new es))) (same ∙ is) ∙ finds_new tied alike es rising.1
        ] refl

    -- another version has what it had
    finds_old : eq_by_cmp precedence w v ≡ false → IfSome new (λ (e : Entry). eq_by_cmp precedence w (version_in e) ≡ false) → (es : List Entry)
        → find_entry w (replaced v new es) ≡ find_entry w es
    finds_old free other [] = first_not new [] other
    finds_old free other (e ∷ es) =
        elim (precedence v (version_in e)) as (λ (r : Ordering). precedence v (version_in e) ≡ r
        → find_entry w (match_ordering r (cons_option new (e ∷ es)) (cons_option new es) (e ∷ replaced v new es)) ≡ find_entry w (e ∷ es)) [
          | Less ↦ λ is. first_not new (e ∷ es) other
          | Equal ↦ λ is. first_not new es other
              ∙ sym (ap (λ (r : Ordering). cond (is_eq r) (Some e) (find_entry w es)) (sym (alike_right precedence_total v (version_in e) w is))
              ∙ ap (λ (b : Bool). cond b (Some e) (find_entry w es)) free)
          | Greater ↦ λ is. ap (λ (o : Option Entry). cond (eq_by_cmp precedence w (version_in e)) (Some e) o) (finds_old free other es)
        ] refl

    finds : (es : List Entry) → AreRising es → find_entry w (replaced v new es) ≡ cond (eq_by_cmp precedence w v) new (find_entry w es)
    finds es rising =
        elim (eq_by_cmp precedence w v) as (λ (b : Bool). eq_by_cmp precedence w v ≡ b → find_entry w (replaced v new es) ≡ cond b new (find_entry w es)) [
          | true ↦ λ is. let tied : precedence w v ≡ Equal = (Equal-is (precedence w v)).0 is in
              finds_new tied (if_some (λ e. precedence v (version_in e) ≡ Equal) (λ e. precedence w (version_in e) ≡ Equal)
              (λ e h. precedence_total.congr w v (version_in e) tied ∙ h) new own) es rising
          | false ↦ λ is. finds_old is (if_some (λ e. precedence v (version_in e) ≡ Equal) (λ e. eq_by_cmp precedence w (version_in e) ≡ false)
              (λ e h. ap is_eq (sym (alike_right precedence_total v (version_in e) w h)) ∙ is) new own) es
        ] refl

own_entry : (keeps : Keeps) (number place : ℕ) (it : Item) → IfSome (entry_at keeps number place it) (λ (e : Entry). precedence (version_of it) (version_in e) ≡ Equal)
own_entry keeps number place it =
    kept_version (λ u. precedence (version_of it) u ≡ Equal) keeps number place it (tied_itself precedence_total (version_of it))

pub item_rises : (keeps : Keeps) (number place : ℕ) (it : Item) (es : List Entry) → AreRising es → AreRising (replaced (version_of it) (entry_at keeps number place it) es)
item_rises keeps number place it = replaced_rises (version_of it) (entry_at keeps number place it) (own_entry keeps number place it)

pub stays_rising : (keeps : Keeps) (es : List Entry) (x : Placed) → AreRising es → AreRising (applied keeps es x)
stays_rising keeps es x = item_rises keeps x.number x.place x.what es

pub one_changes : (keeps : Keeps) (es : List Entry) (x : Placed) → AreRising es → ChangesOneVersion keeps es x
one_changes keeps es x rising = λ v. finds (version_of x.what) (entry_of keeps x) (own_entry keeps x.number x.place x.what) v es rising
