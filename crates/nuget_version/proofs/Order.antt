-- Precedence is a total order, and ties exactly where keys are equal.
use Rattle.std.proofs.Common.{◌≡◌, ℕ, List, [], refl, sym, ◌∙◌, ap, inl, inr}
use Rattle.std.specs.Prelude.{if◌then◌else◌}
use Rattle.std.specs.Cmp.{IsTotalOrder}
use Rattle.std.specs.Cmp.Lexicographic.{slice_cmp}
use Rattle.std.specs.FinMap.{IsAntisymmetric, nat_cmp-IsAntisymmetric, slice_cmp-IsAntisymmetric}
use Rattle.std.specs.Ordering.{nat_cmp, on, ordering_reverse, ordering_then, then_cmp}
use Rattle.std.specs.Str.{str_to_ascii_lowercase}
use Rattle.std.specs.Str.Parse.{digits_value}
use Rattle.std.specs.declared.cmp.Ordering.{Ordering}
use Rattle.std.specs.declared.cmp.Ordering.TheVariants.{Less, Equal, Greater}
use Rattle.std.proofs.lemmas.Bool.{cases_Bool}
use Rattle.std.proofs.lemmas.Cmp.{lists_total, nat_cmp_total, nat_list_cmp_total, on_total, then_total, tied_itself}
use Rattle.std.proofs.lemmas.List.Splits.{join_with_byte-slice_split}
use Rattle.std.specs.List.{join_with_byte}
use Rattle.nuget_version.specs.Parts.{parts}
use Rattle.nuget_version.specs.Precedence.{is_numeric, labels_cmp, labels_rank, part_cmp, precedence}
use Rattle.nuget_version.specs.Printed.{key_text}
use Rattle.nuget_version.specs.declared.version.Version.{Version}
use Rattle.nuget_version.proofs.Numbers.{cmp_equal, numeric_cmp}
use Rattle.nuget_version.proofs.OneValue.{one_value}
use Rattle.nuget_version.proofs.ReadBack.{key_is, key_reads}

-- an order that answers as a total one is total
total_from : {K : Type 0} (R S : K → K → Ordering) → ((x y : K) → R x y ≡ S x y) → IsTotalOrder S → IsTotalOrder R
total_from {K} R S same o = record {
  antisymm = λ x y. same x y ∙ o.antisymm x y ∙ ap ordering_reverse (sym (same y x));
  trans = λ x y z p q. same x z ∙ o.trans x y z (sym (same x y) ∙ p) (sym (same y z) ∙ q);
  congr = λ x y z p. same x z ∙ o.congr x y z (sym (same x y) ∙ p) ∙ sym (same y z);
}

-- the order of parts, by class, by value, and by text
part_class : List ℕ → ℕ
part_class part = if is_numeric part then 0 else 1

part_value : List ℕ → ℕ
part_value part = if is_numeric part then digits_value 10 part else 0

part_text : List ℕ → List ℕ
part_text part = if is_numeric part then [] else part

by_steps : List ℕ → List ℕ → Ordering
by_steps = then_cmp (on part_class nat_cmp) (then_cmp (on part_value nat_cmp) (on part_text (slice_cmp nat_cmp)))

then_equal : (r : Ordering) → ordering_then r Equal ≡ r
then_equal Less = refl
then_equal Equal = refl
then_equal Greater = refl

part-steps : (x y : List ℕ) → part_cmp x y ≡ by_steps x y
unfolding by_steps part_class part_value part_text
part-steps x y = elim (cases_Bool (is_numeric x)) [
  | inl nx ↦ elim (cases_Bool (is_numeric y)) [
    | inl ny ↦ rw (nx, ny) (sym (then_equal (nat_cmp (digits_value 10 x) (digits_value 10 y))))
    | inr ny ↦ rw (nx, ny) refl
  ]
  | inr nx ↦ elim (cases_Bool (is_numeric y)) [
    | inl ny ↦ rw (nx, ny) refl
    | inr ny ↦ rw (nx, ny) refl
  ]
]

steps_total : IsTotalOrder by_steps
unfolding by_steps
steps_total = then_total (on_total part_class nat_cmp_total) (then_total (on_total part_value nat_cmp_total) (on_total part_text nat_list_cmp_total))

part_total : IsTotalOrder part_cmp
part_total = total_from part_cmp by_steps part-steps steps_total

labels_total : IsTotalOrder labels_cmp
labels_total = then_total (on_total labels_rank nat_cmp_total) (on_total parts (lists_total part_total))

pub precedence_total : IsTotalOrder precedence
unfolding precedence
precedence_total =
    then_total (on_total (λ (v : Version). v.major) nat_cmp_total) (then_total (on_total (λ (v : Version). v.minor) nat_cmp_total)
    (then_total (on_total (λ (v : Version). v.patch) nat_cmp_total) (then_total (on_total (λ (v : Version). v.revision) nat_cmp_total)
    (on_total (λ (v : Version). str_to_ascii_lowercase v.labels) labels_total))))

-- what a tie of two comparisons says of each
then_first : (r s : Ordering) → ordering_then r s ≡ Equal → r ≡ Equal
then_first Less s e = cc e
then_first Equal s e = refl
then_first Greater s e = cc e

then_second : (r s : Ordering) → ordering_then r s ≡ Equal → s ≡ Equal
then_second Less s e = cc e
then_second Equal s e = e
then_second Greater s e = cc e

-- two parts that tie are the same
part_tie : IsAntisymmetric part_cmp
part_tie x y e = elim (cases_Bool (is_numeric x)) [
  | inl nx ↦ elim (cases_Bool (is_numeric y)) [
    | inl ny ↦ slice_cmp-IsAntisymmetric nat_cmp-IsAntisymmetric x y (then_second _ _ (numeric_cmp x y nx ny ∙ rw (nx, ny) at e))
    | inr ny ↦ cc (rw (nx, ny) at e)
  ]
  | inr nx ↦ elim (cases_Bool (is_numeric y)) [
    | inl ny ↦ cc (rw (nx, ny) at e)
    | inr ny ↦ slice_cmp-IsAntisymmetric nat_cmp-IsAntisymmetric x y (rw (nx, ny) at e)
  ]
]

-- a text is told by its parts
parts_same : (x y : List ℕ) → parts x ≡ parts y → x ≡ y
parts_same x y e = sym (join_with_byte-slice_split 46 x) ∙ ap (join_with_byte 46) e ∙ join_with_byte-slice_split 46 y

labels_tie : IsAntisymmetric labels_cmp
labels_tie x y e = parts_same x y (slice_cmp-IsAntisymmetric part_tie (parts x) (parts y) (then_second _ _ e))

pub tie_keys : (u v : Version) → precedence u v ≡ Equal → key_text u ≡ key_text v
unfolding precedence
tie_keys u v e =
    let a : u.major ≡ v.major = nat_cmp-IsAntisymmetric _ _ (then_first _ _ e) in
    let e1 = then_second _ _ e in
    let b : u.minor ≡ v.minor = nat_cmp-IsAntisymmetric _ _ (then_first _ _ e1) in
    let e2 = then_second _ _ e1 in
    let c : u.patch ≡ v.patch = nat_cmp-IsAntisymmetric _ _ (then_first _ _ e2) in
    let e3 = then_second _ _ e2 in
    let d : u.revision ≡ v.revision = nat_cmp-IsAntisymmetric _ _ (then_first _ _ e3) in
    let l : str_to_ascii_lowercase u.labels ≡ str_to_ascii_lowercase v.labels = labels_tie _ _ (then_second _ _ e3) in
    key_is u ∙ rw (a, b, c, d, l) (sym (key_is v))

then_both : (r s : Ordering) → r ≡ Equal → s ≡ Equal → ordering_then r s ≡ Equal
then_both r s p q = rw (p, q) refl

labels_tied : (x y : List ℕ) → x ≡ y → labels_cmp x y ≡ Equal
labels_tied x y e = ap (λ (t : List ℕ). labels_cmp t y) e ∙ tied_itself labels_total y

pub keys_tie : (u v : Version) → key_text u ≡ key_text v → precedence u v ≡ Equal
unfolding precedence
keys_tie u v e =
    let x = key_reads u in
    let y = key_reads v in
    let same : x.version ≡ y.version = one_value (key_text u) x.version y.version x.spelled (rw e y.spelled) in
    let a : u.major ≡ v.major = sym x.same_major ∙ ap (λ (w : Version). w.major) same ∙ y.same_major in
    let b : u.minor ≡ v.minor = sym x.same_minor ∙ ap (λ (w : Version). w.minor) same ∙ y.same_minor in
    let c : u.patch ≡ v.patch = sym x.same_patch ∙ ap (λ (w : Version). w.patch) same ∙ y.same_patch in
    let d : u.revision ≡ v.revision = sym x.same_revision ∙ ap (λ (w : Version). w.revision) same ∙ y.same_revision in
    let l : str_to_ascii_lowercase u.labels ≡ str_to_ascii_lowercase v.labels = sym x.has_labels ∙ ap (λ (w : Version). w.labels) same ∙ y.has_labels in
    then_both _ _ (cmp_equal u.major v.major a) (then_both _ _ (cmp_equal u.minor v.minor b)
    (then_both _ _ (cmp_equal u.patch v.patch c) (then_both _ _ (cmp_equal u.revision v.revision d) (labels_tied _ _ l))))
