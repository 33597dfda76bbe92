-- What stands under a name among an id's documents by name.
use Rattle.std.proofs.Common.{◌≡◌, ◌≢◌, ◌⊎◌, inl, inr, ℕ, List, [], ◌∷◌, map, Bool, true, false, cond, T, Option, Some, None, refl, sym, ◌∙◌, ap, subst}
use Rattle.std.proofs.lemmas.Bool.{false_from_ne_true}
use Rattle.std.proofs.lemmas.Cmp.{nat_list_eq_equiv, tied_itself}
use Rattle.std.proofs.lemmas.Map.Text.{is_eq-slice_cmp}
use Rattle.std.proofs.lemmas.Map.Views.{Contains-from_any, list_any-from_Contains}
use Rattle.std.proofs.lemmas.Slice.Eq.{bytes_eq-Decides}
use Rattle.std.specs.Cmp.Lexicographic.{slice_cmp, nat_list_cmp_total}
use Rattle.std.specs.FinMap.{contains_key-keys, entries, entries_sorted, find, get, get-entries, get-from_entries, get-remove, is_sorted, keys, remove}
use Rattle.std.specs.FinMap.Entries.{below_all}
use Rattle.std.specs.List.{Contains, list_any}
use Rattle.std.specs.Ordering.{is_lt, nat_cmp}
use Rattle.std.specs.Prelude.{IsSome, is_some}
use Rattle.std.specs.Str.{bytes_eq}
use Rattle.std.specs.declared.cmp.Ordering.TheVariants.{Less, Equal}
use Rattle.fold_core.specs.Docs.{body_named}
use Rattle.fold_core.specs.declared.doc.Body.{Body}
use Rattle.fold_core.specs.declared.doc.Doc.{Doc}
use Rattle.fold_core.proofs.Applied.{back, front, is_less}
use Rattle.id_pass.specs.Named.{NamedBodies, by_name}
use Rattle.hive_laws.proofs.Listed.{first, later, nothing_in, split}

pub equal_bytes : (x y : List ℕ) → bytes_eq x y ≡ true → x ≡ y
equal_bytes x y = (bytes_eq-Decides x y).0

pub other_bytes : (x y : List ℕ) → x ≢ y → bytes_eq x y ≡ false
other_bytes x y other = false_from_ne_true (bytes_eq x y) (λ is. other (equal_bytes x y is))

pub same_bytes : (x y : List ℕ) → x ≡ y → bytes_eq x y ≡ true
same_bytes x y = (bytes_eq-Decides x y).1

-- among documents
looked_up : (q : List ℕ) (docs : List Doc) → find (slice_cmp nat_cmp) q (map (λ (d : Doc). (d.name, d.body)) docs) ≡ body_named q docs
looked_up q [] = refl
looked_up q (d ∷ docs) = λ i. cond (is_eq-slice_cmp q d.name i) (Some d.body) (looked_up q docs i)

pub get-by_name : (docs : List Doc) (q : List ℕ) → get (by_name docs) q ≡ body_named q docs
get-by_name docs q = get-from_entries nat_list_cmp_total (map (λ (d : Doc). (d.name, d.body)) docs) q ∙ looked_up q docs

-- among entries
find_in : List ℕ → List (List ℕ × Body) → Option Body
find_in q [] = None
find_in q (e ∷ es) = cond (bytes_eq q e.0) (Some e.1) (find_in q es)

found_by_bytes : (q : List ℕ) (es : List (List ℕ × Body)) → find (slice_cmp nat_cmp) q es ≡ find_in q es
unfolding find_in
found_by_bytes q [] = refl
found_by_bytes q (e ∷ es) = λ i. cond (is_eq-slice_cmp q e.0 i) (Some e.1) (found_by_bytes q es i)

get_found : (m : NamedBodies) (q : List ℕ) → get m q ≡ find_in q (entries m)
get_found m q = get-entries m q ∙ found_by_bytes q (entries m)

not_below : (k : List ℕ) (es : List (List ℕ × Body)) (e : List ℕ × Body) → T (below_all (slice_cmp nat_cmp) k es) → Contains es e → e.0 ≢ k
not_below k [] e below is = absurd (nothing_in e is)
not_below k (x ∷ es) e below is = not_by (λ within. not_below k es e (back _ _ below) within) (split x e es is)
  where
    not_by : (Contains es e → e.0 ≢ k) → (e ≡ x) ⊎ Contains es e → e.0 ≢ k
    not_by rest (inl same) = λ eq. absurd (
        let less : slice_cmp nat_cmp k x.0 ≡ Less = is_less (slice_cmp nat_cmp k x.0) (front (is_lt (slice_cmp nat_cmp k x.0)) (below_all (slice_cmp nat_cmp) k es) below) in
        let there : x.0 ≡ k = sym (ap (λ (z : List ℕ × Body). z.0) same) ∙ eq in
        let tied : slice_cmp nat_cmp k x.0 ≡ Equal = ap (slice_cmp nat_cmp k) there ∙ tied_itself nat_list_cmp_total k in
        let no : ⊥ = cc in
        no)
    not_by rest (inr within) = rest within

-- an entry of sorted ones is found
entry_found : (es : List (List ℕ × Body)) (e : List ℕ × Body) → T (is_sorted (slice_cmp nat_cmp) es) → Contains es e → find_in e.0 es ≡ Some e.1
unfolding find_in
entry_found [] e sorted is = absurd (nothing_in e is)
entry_found (x ∷ es) e sorted is = found_at (λ within. entry_found es e (back _ _ sorted) within) (split x e es is)
  where
    found_at : (Contains es e → find_in e.0 es ≡ Some e.1) → (e ≡ x) ⊎ Contains es e → find_in e.0 (x ∷ es) ≡ Some e.1
    found_at rest (inl same) =
        ap (λ (b : Bool). cond b (Some x.1) (find_in e.0 es)) (same_bytes e.0 x.0 (ap (λ (z : List ℕ × Body). z.0) same)) ∙ ap (λ (z : List ℕ × Body). Some z.1) (sym same)
    found_at rest (inr within) =
        ap (λ (b : Bool). cond b (Some x.1) (find_in e.0 es)) (other_bytes e.0 x.0 (not_below x.0 es e (front _ _ sorted) within)) ∙ rest within

found_entry : (q : List ℕ) (body : Body) (es : List (List ℕ × Body)) → find_in q es ≡ Some body → Contains es (q, body)
unfolding find_in
found_entry q body [] is = absurd (let no : ⊥ = cc in no)
found_entry q body (e ∷ es) is = found_if (found_entry q body es) (bytes_eq q e.0) refl is
  where
    found_if : (find_in q es ≡ Some body → Contains es (q, body)) → (b : Bool) → bytes_eq q e.0 ≡ b → cond b (Some e.1) (find_in q es) ≡ Some body → Contains (e ∷ es) (q, body)
    found_if rest true same here =
        let own : e.1 ≡ body = cc in
        subst (λ (z : List ℕ × Body). Contains (e ∷ es) z) (λ i. (sym (equal_bytes q e.0 same) i, own i)) (first e es)
    found_if rest false same there = later e (q, body) es (rest there)

-- an entry of a map stands under its name, and what stands there is an entry
pub get_entry : (m : NamedBodies) (e : List ℕ × Body) → Contains (entries m) e → get m e.0 ≡ Some e.1
get_entry m e is = get_found m e.0 ∙ entry_found (entries m) e (entries_sorted m) is

pub entry_get : (m : NamedBodies) (q : List ℕ) (body : Body) → get m q ≡ Some body → Contains (entries m) (q, body)
entry_get m q body is = found_entry q body (entries m) (sym (get_found m q) ∙ is)

-- the names of a map are those under which something stands
has_key : (m : NamedBodies) (q : List ℕ) → is_some (get m q) ≡ list_any (bytes_eq q) (keys m)
has_key m q = contains_key-keys m q ∙ (λ i. list_any (λ (k : List ℕ). is_eq-slice_cmp q k i) (keys m))

pub key_get : (m : NamedBodies) (q : List ℕ) → Contains (keys m) q → IsSome (get m q)
key_get m q is = has_key m q ∙ list_any-from_Contains nat_list_eq_equiv q (keys m) is

pub get_key : (m : NamedBodies) (q : List ℕ) → IsSome (get m q) → Contains (keys m) q
get_key m q is = Contains-from_any equal_bytes q (keys m) (sym (has_key m q) ∙ is)

-- what stands in a map without a name
pub get_without : (m : NamedBodies) (name q : List ℕ) → get (remove m name) q ≡ cond (bytes_eq q name) None (get m q)
get_without m name q = get-remove nat_list_cmp_total m name q ∙ ap (λ (b : Bool). cond b None (get m q)) (is_eq-slice_cmp q name)
