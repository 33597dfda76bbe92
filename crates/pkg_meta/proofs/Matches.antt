-- Lists that match item by item.
use Rattle.std.proofs.Common.{◌≡◌, ◌<◌, ◌+◌, ℕ, List, [], ◌∷◌, ◌++◌, length, take, get_or, Option, Some, None, option_map, IfNone, map, sym, ap, ◌∙◌, subst, add-one, IfSome, Result, Ok, Err, IfErr, IsErrAnd}
use Rattle.std.proofs.Math.Seq.{take-suc}
use Rattle.std.proofs.lemmas.List.{get_or-map}
use Rattle.std.proofs.lemmas.List.{length-map}
use Rattle.serde_json.specs.Data.{Data, null}
use Rattle.pkg_meta.specs.Publisher.{Match}
use Rattle.pkg_meta.specs.Refusals.{IsFirstRefused}
use Rattle.pkg_meta.specs.declared.error.MetaErr.{MetaErr}

pub Match-append : {X Y : Type 0} (R : X → Y → Type 0) (xs : List X) (ys : List Y) (x : X) (y : Y) → Match R xs ys → R x y → Match R (xs ++ x ∷ []) (ys ++ y ∷ [])
Match-append R [] [] x y matched one = (one, tt)
Match-append R [] (z ∷ ys) x y matched one = absurd matched
Match-append R (w ∷ xs) [] x y matched one = absurd matched
Match-append R (w ∷ xs) (z ∷ ys) x y matched one = (matched.0, Match-append R xs ys x y matched.1 one)

-- the item at a place of mapped values
pub mapped_at : {V X : Type 0} (f : V → X) (vs : List V) (k : ℕ) (v : V) (d : X) → k < length vs → v ≡ get_or vs k v → get_or (map f vs) k d ≡ f v
mapped_at f vs k v d within is = get_or-map f vs k v d within ∙ ap f (sym is)

-- one more value is read, as at a step of a loop
pub Match-more : {V X Y : Type 0} (R : X → Y → Type 0) (f : V → X) (vs : List V) (k : ℕ) (v : V) (ys new : List Y) (y : Y)
    → k < length vs → k < length (map f vs) → v ≡ get_or vs k v → Match R (take k (map f vs)) ys → R (f v) y → new ≡ ys ++ y ∷ [] → Match R (take (k + 1) (map f vs)) new
Match-more R f vs k v ys new y within inside is matched one pushed =
    let more : take (k + 1) (map f vs) ≡ take k (map f vs) ++ (f v ∷ []) =
    ap (λ (n : ℕ). take n (map f vs)) (add-one k) ∙ take-suc (map f vs) k (f v) inside ∙ ap (λ (x : _). take k (map f vs) ++ (x ∷ [])) (mapped_at f vs k v (f v) within is) in
    subst (λ (l : List _). Match R l new) (sym more) (subst (λ (l : List _). Match R (take k (map f vs) ++ (f v ∷ [])) l) (sym pushed) (Match-append R (take k (map f vs)) ys (f v) y matched one))

pub seen_some : {A B : Type 0} (f : A → B) (o : Option A) (x : A) (r : Option B) → o ≡ Some x → option_map f o ≡ r → r ≡ Some (f x)
seen_some f o x r is same = sym same ∙ ap (option_map f) is

pub seen_none : {A B : Type 0} (f : A → B) (o : Option A) (r : Option B) → o ≡ None → option_map f o ≡ r → r ≡ None
seen_none f o r is same = sym same ∙ ap (option_map f) is

pub some_holds : {A : Type 0} (P : A → Type 0) (o : Option A) (x : A) → o ≡ Some x → IfSome o P → P x
some_holds P o x is holds = let Q : Option _ → Type 0 = λ o. IfSome o P in subst Q is holds

pub none_holds : {A : Type 0} (P : Type 0) (o : Option A) → o ≡ None → IfNone o P → P
none_holds P o is holds = let Q : Option _ → Type 0 = λ o. IfNone o P in subst Q is holds

pub if_none : {A : Type 0} (o : Option A) (P : Type 0) → P → IfNone o P
if_none None P h = h
if_none (Some x) P h = tt

-- what holds of the error that is passed on
pub passed_on : {T E : Type 0} (r : Result T E) (x : E) (P : E → Type 0) → IsErrAnd r (λ e. e ≡ x) → P x → IfErr r P
passed_on (Ok v) x P is holds = tt
passed_on (Err e) x P is holds = subst P (sym is) holds

-- the value at a place is refused, and those before it are read
pub refused_here : {V Y : Type 0} (Reads : Data → Y → Type 0) (Refuses : ℕ → Data → MetaErr → Type 0) (f : V → Data) (vs : List V) (k : ℕ) (v : V) (ys : List Y) (e : MetaErr)
    → k < length vs → v ≡ get_or vs k v → Match Reads (take k (map f vs)) ys → Refuses k (f v) e → IsFirstRefused Reads Refuses (map f vs) e
refused_here Reads Refuses f vs k v ys e within is matched refused = record {
  at = k;
  within = rw length-map within;
  before = ys;
  read = matched;
  refused = subst (λ (d : Data). Refuses k d e) (sym (mapped_at f vs k v null within is)) refused;
}
