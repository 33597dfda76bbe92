-- Where keys stand, with a key more, and what stands there.
use Rattle.std.proofs.Common.{◌≡◌, ℕ, suc, List, [], ◌∷◌, ◌++◌, length, map, get_or, set, Bool, true, false, cond, ◌||◌}
use Rattle.std.proofs.Common.{Option, Some, None, option_map, refl, sym, ap, ◌∙◌, subst}
use Rattle.std.proofs.lemmas.Map.Keys.{IsDistinct-head, IsDistinct-push, IsDistinct-tail}
use Rattle.std.proofs.lemmas.Slice.Eq.{bytes_eq-Decides}
use Rattle.std.specs.Cmp.{IsEquivalence, decided}
use Rattle.std.specs.List.{AllByRecursion, IsDistinct}
use Rattle.std.specs.Option.{is_some, option_or}
use Rattle.std.specs.Str.{bytes_eq}
use Rattle.job_round.specs.Ids.{has_key, key_place, with_key}

-- a key stands somewhere where it is one of them
pub place_is : (key : List ℕ) (keys : List (List ℕ)) → is_some (key_place key keys) ≡ has_key key keys
place_is key [] = refl
place_is key (k ∷ keys) =
    elim (bytes_eq key k) as (λ (b : Bool). is_some (cond b (Some 0) (option_map suc (key_place key keys))) ≡ (b || has_key key keys)) [
      | true ↦ refl
      | false ↦ shifted (key_place key keys) ∙ place_is key keys
    ]
  where
    shifted : (o : Option ℕ) → is_some (option_map suc o) ≡ is_some o
    shifted None = refl
    shifted (Some n) = refl

pushed : (first same : Bool) (n : ℕ) (o : Option ℕ)
    → cond first (Some 0) (option_map suc (option_or o (cond same (Some n) None)))
    ≡ option_or (cond first (Some 0) (option_map suc o)) (cond same (Some (suc n)) None)
pushed true same n o = refl
pushed false true n None = refl
pushed false false n None = refl
pushed false same n (Some p) = refl

-- with a key behind them
pub place_pushed : (asked key : List ℕ) (keys : List (List ℕ))
    → key_place asked (keys ++ key ∷ []) ≡ option_or (key_place asked keys) (cond (bytes_eq asked key) (Some (length keys)) None)
place_pushed asked key [] = refl
place_pushed asked key (k ∷ keys) =
    ap (λ (o : Option ℕ). cond (bytes_eq asked k) (Some 0) (option_map suc o)) (place_pushed asked key keys)
    ∙ pushed (bytes_eq asked k) (bytes_eq asked key) (length keys) (key_place asked keys)

-- no key comes twice
abbrev pub AreApart : List (List ℕ) → Type 0
AreApart keys = IsDistinct bytes_eq keys

pub none_apart : AreApart []
unfolding IsDistinct
none_apart = tt

equivalence : IsEquivalence bytes_eq
equivalence = decided bytes_eq bytes_eq-Decides

pub with_apart : (keys : List (List ℕ)) (key : List ℕ) → AreApart keys → AreApart (with_key keys key)
with_apart keys key apart =
    elim (has_key key keys) as (λ (b : Bool). has_key key keys ≡ b → AreApart (cond b keys (keys ++ key ∷ []))) [
      | true ↦ λ has. apart
      | false ↦ λ has. IsDistinct-push equivalence keys key apart has
    ] refl

earlier : (o : Option ℕ) (place : ℕ) → option_map suc o ≡ Some place → (n : ℕ) × (o ≡ Some n) × (suc n ≡ place)
earlier None place is = cc
earlier (Some n) place is = (n, refl, cc)

-- what holds of a key's place, by whether the first key is that
by_place : (P : ℕ → Type 0) (key k : List ℕ) (keys : List (List ℕ)) (place : ℕ) → key_place key (k ∷ keys) ≡ Some place
    → (key ≡ k → P 0) → ((n : ℕ) → bytes_eq key k ≡ false → key_place key keys ≡ Some n → P (suc n)) → P place
by_place P key k keys place is here later =
    elim (bytes_eq key k) as (λ (b : Bool). bytes_eq key k ≡ b → cond b (Some 0) (option_map suc (key_place key keys)) ≡ Some place → P place) [
      | true ↦ λ same at. let first : 0 ≡ place = cc in subst P first (here ((bytes_eq-Decides key k).0 same))
      | false ↦ λ same at. let (n, there, next) = earlier (key_place key keys) place at in subst P next (later n same there)
    ] refl is

-- what stands at a key's place
pub at_place : {X : Type 0} (f : List ℕ → X) (key : List ℕ) (keys : List (List ℕ)) (place : ℕ) (d : X)
    → key_place key keys ≡ Some place → get_or (map f keys) place d ≡ f key
at_place {X} f key [] place d is = cc
at_place {X} f key (k ∷ keys) place d is =
    by_place (λ (n : ℕ). get_or (f k ∷ map f keys) n d ≡ f key) key k keys place is
    (λ own. ap f (sym own)) (λ n other there. at_place f key keys n d there)

module _ {X : Type 0} (f g : List ℕ → X) (key : List ℕ) (others : (k : List ℕ) → bytes_eq key k ≡ false → f k ≡ g k) where
  behind : (k : List ℕ) (keys : List (List ℕ)) → key ≡ k → AllByRecursion (λ y. bytes_eq k y ≡ false) keys → map f keys ≡ map g keys
  behind k [] is apart = refl
  behind k (x ∷ keys) is apart =
      ap (λ (y : X). y ∷ map f keys) (others x (ap (λ (l : List ℕ). bytes_eq l x) is ∙ apart.0))
      ∙ ap (λ (l : List X). g x ∷ l) (behind k keys is apart.1)

  -- what stands at the others stays
  pub place_set : (keys : List (List ℕ)) (place : ℕ) → AreApart keys → key_place key keys ≡ Some place
      → set (map f keys) place (g key) ≡ map g keys
  place_set [] place apart is = cc
  place_set (k ∷ keys) place apart is =
      by_place (λ (n : ℕ). set (f k ∷ map f keys) n (g key) ≡ g k ∷ map g keys) key k keys place is
      (λ own. ap (λ (l : List ℕ). g l ∷ map f keys) own ∙ ap (λ (l : List X). g k ∷ l) (behind k keys own (IsDistinct-head bytes_eq k keys apart)))
      (λ n other there. ap (λ (y : X). y ∷ set (map f keys) n (g key)) (others k other)
      ∙ ap (λ (l : List X). g k ∷ l) (place_set keys n (IsDistinct-tail bytes_eq k keys apart) there))
