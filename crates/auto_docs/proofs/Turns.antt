-- Versions one by one, and the last of the entries.
use Rattle.std.proofs.Common.{◌≡◌, ◌<◌, ◌+◌, ◌-◌, ◌++◌, ℕ, suc, List, [], ◌∷◌, length, get_or, drop, map, Some, slice_get, ap, sym, ◌∙◌, append_assoc, arith, false, refl}
use Rattle.std.proofs.lemmas.List.{drop_more, map-append}
use Rattle.serde_json.specs.Data.{Data}
use Rattle.serde_json.specs.View.{items_of, view}
use Rattle.serde_json.specs.Written.{has_float, items_have_float}
use Rattle.serde_json.specs.declared.value.Value.{Value}
use Rattle.pkg_meta.specs.declared.entry.Entry.{Entry}
use Rattle.auto_docs.specs.Documents.{auto_index_object, last_id, auto_version_data}

-- one version more
pub version_turn : (vs later : List Value) (v : Value) (xs : List Entry) (x : Entry) (i : ℕ) (whole : List Data)
    → i < length xs → x ≡ get_or xs i x → view v ≡ auto_version_data x → later ≡ vs ++ v ∷ []
    → map view vs ++ map auto_version_data (drop i xs) ≡ whole
    → map view later ++ map auto_version_data (drop (i + 1) xs) ≡ whole
version_turn vs later v xs x i whole lt is seen pushed so_far =
    let rest = map auto_version_data (drop (i + 1) xs) in
    ap (λ (l : List Value). map view l ++ rest) pushed
    ∙ ap (λ (l : List Data). l ++ rest) (map-append view vs (v ∷ []))
    ∙ append_assoc (map view vs) (view v ∷ []) rest
    ∙ ap (λ (d : Data). map view vs ++ d ∷ rest) seen
    ∙ sym (ap (λ (l : List Entry). map view vs ++ map auto_version_data l) (drop_more xs i x lt ∙ ap (λ (h : Entry). h ∷ drop (i + 1) xs) (sym is)))
    ∙ so_far

no_floats_in : (es : List Entry) → items_have_float (items_of (map auto_version_data es)) ≡ false
no_floats_in [] = refl
no_floats_in (e ∷ es) = no_floats_in es

-- an index has no float
pub no_floats : (id : List ℕ) (es : List Entry) → has_float (auto_index_object id (map auto_version_data es)) ≡ false
no_floats id es = rw (no_floats_in es)

-- the last of the entries
pub last_is : (es : List Entry) (e : Entry) → slice_get es (length es - 1) ≡ Some e → last_id es ≡ e.details.meta.id.text
last_is [] e is = cc
last_is (x ∷ []) e is = let same : x ≡ e = cc in ap (λ (h : Entry). h.details.meta.id.text) same
last_is (x ∷ y ∷ es) e is =
    let step : suc (length (y ∷ es) - 1) ≡ length (x ∷ y ∷ es) - 1 = omega arith in
    last_is (y ∷ es) e (ap (slice_get (x ∷ y ∷ es)) step ∙ is)
