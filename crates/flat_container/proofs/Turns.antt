-- Versions and files one by one.
use Rattle.std.proofs.Common.{◌≡◌, ◌<◌, ◌+◌, ◌++◌, ℕ, List, [], ◌∷◌, length, get_or, drop, map, ap, sym, ◌∙◌, append_assoc, false, refl}
use Rattle.std.proofs.lemmas.List.{drop_more, map-append}
use Rattle.serde_json.specs.Data.{Data}
use Rattle.serde_json.specs.View.{items_of, view}
use Rattle.serde_json.specs.Written.{has_float, items_have_float}
use Rattle.serde_json.specs.declared.value.Value.{Value}
use Rattle.pkg_meta.specs.declared.entry.Entry.{Entry}
use Rattle.flat_container.specs.Documents.{content_index_object, version_data}

-- one version more
pub version_turn : (vs later : List Value) (v : Value) (xs : List Entry) (x : Entry) (i : ℕ) (whole : List Data)
    → i < length xs → x ≡ get_or xs i x → view v ≡ version_data x → later ≡ vs ++ v ∷ []
    → map view vs ++ map version_data (drop i xs) ≡ whole
    → map view later ++ map version_data (drop (i + 1) xs) ≡ whole
version_turn vs later v xs x i whole lt is seen pushed so_far =
    let rest = map version_data (drop (i + 1) xs) in
    ap (λ (l : List Value). map view l ++ rest) pushed
    ∙ ap (λ (l : List Data). l ++ rest) (map-append view vs (v ∷ []))
    ∙ append_assoc (map view vs) (view v ∷ []) rest
    ∙ ap (λ (d : Data). map view vs ++ d ∷ rest) seen
    ∙ sym (ap (λ (l : List Entry). map view vs ++ map version_data l) (drop_more xs i x lt ∙ ap (λ (h : Entry). h ∷ drop (i + 1) xs) (sym is)))
    ∙ so_far

no_floats_in : (es : List Entry) → items_have_float (items_of (map version_data es)) ≡ false
no_floats_in [] = refl
no_floats_in (e ∷ es) = no_floats_in es

-- an index has no float
pub no_floats : (es : List Entry) → has_float (content_index_object (map version_data es)) ≡ false
no_floats es = rw (no_floats_in es)
