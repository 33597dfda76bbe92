-- Names in a set.
use Rattle.std.proofs.Common.{◌<◌, ◌+◌, length, get_or, drop, ◌≡◌, ℕ, List, [], ◌∷◌, map, String, Bool, true, false, ◌||◌, refl, sym, ◌∙◌, ap, cond, ◌⊎◌, inl, inr, ⊎_elim, Result, Ok, Err, IfOk}
use Rattle.std.specs.Cmp.Lexicographic.{slice_cmp}
use Rattle.std.specs.Ordering.{nat_cmp}
use Rattle.std.proofs.lemmas.Map.Text.{is_eq-slice_cmp}
use Rattle.std.specs.BTreeMap.{is_at}
use Rattle.std.specs.BTreeSet.{BTreeSet, UpdatesBy, contains_text}
use Rattle.std.proofs.lemmas.Bool.Decides.{same_from_decides}
use Rattle.std.proofs.lemmas.Map.Text.{btree_set_updates_text}
use Rattle.std.proofs.lemmas.Slice.Eq.{bytes_eq-Decides}
use Rattle.std.proofs.lemmas.List.{drop_more}
use Rattle.std.specs.List.{Contains, list_any}
use Rattle.std.specs.Prelude.{◌↔◌}
use Rattle.std.proofs.lemmas.Cmp.{nat_list_eq_equiv}
use Rattle.std.proofs.lemmas.Map.Views.{Contains-from_any, list_any-from_Contains}
use Rattle.std.specs.Str.{bytes_eq}
use Rattle.std.specs.String.{string_bytes, string_cmp}

any_text : {Y : Type 0} (name : List ℕ) (ks : List (String Y)) → list_any (is_at (λ k. slice_cmp nat_cmp name (string_bytes k))) ks ≡ list_any (bytes_eq name) (map string_bytes ks)
any_text name [] = refl
any_text name (k ∷ ks) = (λ i. is_eq-slice_cmp name (string_bytes k) i || any_text name ks i)

pub text_among : {Y : Type 0} (name : List ℕ) (set : BTreeSet (String Y)) → contains_text set name ≡ list_any (bytes_eq name) (map string_bytes set.keys)
text_among name set = any_text name set.keys

moved : (x : Bool) (rest before : Bool) → (rest || cond x true before) ≡ ((x || rest) || before)
moved true true before = refl
moved true false before = refl
moved false true before = refl
moved false false before = refl

turned : (q name : List ℕ) → bytes_eq q name ≡ bytes_eq name q
turned q name =
    let back = bytes_eq-Decides name q in
    same_from_decides (bytes_eq q name) (bytes_eq name q) (bytes_eq-Decides q name) ((λ same. sym (back.0 same)), (λ is. back.1 (sym is)))

-- a name more goes from those to come to those in the set
pub name_more : {Y : Type 0} (names : List (List ℕ)) (i : ℕ) (name x : List ℕ) (old new : BTreeSet (String Y)) (text : String Y)
    → i < length names → x ≡ get_or names i x → string_bytes text ≡ x
    → UpdatesBy string_cmp (string_cmp text) old new true → (all : Bool)
    → (list_any (bytes_eq name) (drop i names) || contains_text old name) ≡ all
    → (list_any (bytes_eq name) (drop (i + 1) names) || contains_text new name) ≡ all
name_more names i name x old new text within is same updates all so_far =
    ap (λ (b : Bool). list_any (bytes_eq name) (drop (i + 1) names) || b) (btree_set_updates_text (string_bytes text) old new true updates name)
    ∙ moved (bytes_eq (string_bytes text) name) (list_any (bytes_eq name) (drop (i + 1) names)) (contains_text old name)
    ∙ ap (λ (b : Bool). (b || list_any (bytes_eq name) (drop (i + 1) names)) || contains_text old name) (turned (string_bytes text) name ∙ ap (bytes_eq name) same)
    ∙ ap (λ (l : List (List ℕ)). list_any (bytes_eq name) l || contains_text old name)
    (ap (λ (first : List ℕ). first ∷ drop (i + 1) names) is ∙ sym (drop_more names i x within))
    ∙ so_far

joined : (a b : Bool) → (a || (b || false)) ≡ true → (b ≡ true) ⊎ (a ≡ true)
joined true b is = inr refl
joined false true is = inl refl
joined false false is = cc

left : (a b : Bool) → b ≡ true → (a || (b || false)) ≡ true
left true b is = refl
left false true is = refl
left false false is = cc

right : (a b : Bool) → a ≡ true → (a || (b || false)) ≡ true
right true b is = refl
right false b is = cc

equal_bytes : (x y : List ℕ) → bytes_eq x y ≡ true → x ≡ y
equal_bytes x y = (bytes_eq-Decides x y).0

-- the names of a set that these two lists made
pub members : {Y : Type 0} (set : BTreeSet (String Y)) (old new names : List (List ℕ)) (name : List ℕ)
    → contains_text set name ≡ (list_any (bytes_eq name) new || (list_any (bytes_eq name) old || false))
    → names ≡ map string_bytes set.keys → Contains names name ↔ (Contains old name ⊎ Contains new name)
members set old new names name has are =
    let test : list_any (bytes_eq name) names ≡ (list_any (bytes_eq name) new || (list_any (bytes_eq name) old || false)) =
    ap (list_any (bytes_eq name)) are ∙ sym (text_among name set) ∙ has in (
      (λ here. ⊎_elim (λ one. inl (Contains-from_any equal_bytes name old one)) (λ other. inr (Contains-from_any equal_bytes name new other))
          (joined (list_any (bytes_eq name) new) (list_any (bytes_eq name) old) (sym test ∙ list_any-from_Contains nat_list_eq_equiv name names here))),
      λ there. Contains-from_any equal_bytes name names (test ∙ ⊎_elim
          (λ one. left (list_any (bytes_eq name) new) (list_any (bytes_eq name) old) (list_any-from_Contains nat_list_eq_equiv name old one))
          (λ other. right (list_any (bytes_eq name) new) (list_any (bytes_eq name) old) (list_any-from_Contains nat_list_eq_equiv name new other)) there),
    )

pub in_ok : {T E : Type 0} (P Q : T → Type 0) → ((x : T) → P x → Q x) → (r : Result T E) → IfOk r P → IfOk r Q
in_ok P Q implies (Ok x) p = implies x p
in_ok P Q implies (Err e) p = tt
