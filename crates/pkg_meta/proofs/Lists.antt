-- Lists of values as the items of arrays.
use Rattle.std.proofs.Common.{◌≡◌, List, [], ◌∷◌, Bool, false, ◌&&◌, Option, Some, option_map, map, refl, ap, sym, ◌∙◌}
use Rattle.std.specs.List.{list_all}
use Rattle.std.specs.Option.{option_map_or}
use Rattle.serde_json.specs.Data.{Data, Items}
use Rattle.serde_json.specs.View.{items_of, items_view, view}
use Rattle.serde_json.specs.declared.value.Value.{Value}
use Rattle.pkg_meta.specs.Values.{list_of}

pub list_of-items_of : (ds : List Data) → list_of (items_of ds) ≡ ds
list_of-items_of [] = refl
list_of-items_of (d ∷ ds) = ap (λ rest. d ∷ rest) (list_of-items_of ds)

pub list_all-items : (kind : Data → Bool) (vs : List Value) → list_all (λ v. kind (view v)) vs ≡ list_all kind (list_of (items_view vs))
list_all-items kind [] = refl
list_all-items kind (v ∷ vs) = ap (λ b. kind (view v) && b) (list_all-items kind vs)

-- the items of an array that was found
pub items_found : {A : Type 0} (values : A → List Value) (found : Option A) (x : A) (array : Option Items) {vs : List Value}
    → found ≡ Some x → option_map (λ a. items_view (values a)) found ≡ array → vs ≡ values x → map view vs ≡ option_map_or list_of array []
items_found values found x array is same slice =
    let seen : array ≡ Some (items_view (values x)) = sym same ∙ ap (option_map (λ a. items_view (values a))) is in
    ap (map view) slice ∙ sym (list_of-items_of (map view (values x))) ∙ ap (λ o. option_map_or list_of o []) (sym seen)

-- whether the items of an array that was found are of a kind
pub array_all : {A : Type 0} (values : A → List Value) (found : Option A) (x : A) (array : Option Items) (kind : Data → Bool) {vs : List Value} {answer : Bool}
    → found ≡ Some x → option_map (λ a. items_view (values a)) found ≡ array → vs ≡ values x → answer ≡ list_all (λ v. kind (view v)) vs
    → answer ≡ option_map_or (λ items. list_all kind (list_of items)) array false
array_all values found x array kind is same slice answered =
    let seen : array ≡ Some (items_view (values x)) = sym same ∙ ap (option_map (λ a. items_view (values a))) is in
    answered ∙ ap (list_all (λ v. kind (view v))) slice ∙ list_all-items kind (values x)
    ∙ ap (λ o. option_map_or (λ items. list_all kind (list_of items)) o false) (sym seen)
