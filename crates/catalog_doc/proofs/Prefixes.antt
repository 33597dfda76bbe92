-- Each prefix of a catalog is one.
use Rattle.std.proofs.Common.{◌≡◌, ◌≤◌, ℕ, zero, suc, List, [], ◌∷◌, ◌++◌, length, take, All, refl, ap, subst, arith, length-append}
use Rattle.std.proofs.lemmas.Grind.{flat_map-append}
use Rattle.std.proofs.lemmas.List.{get_or_append_left}
use Rattle.pkg_meta.specs.Catalog.{Catalog}
use Rattle.pkg_meta.specs.declared.commit.Stored.{Stored}
use Rattle.pkg_meta.specs.Lawful.{MayFollow, all_placed, placed_of}
use Rattle.catalog_doc.specs.Catalogs.{IsCatalog, TellPackages, all_items, id_room, live_count}

follows_in : (before cs rest : Catalog) → MayFollow before (cs ++ rest) → MayFollow before cs
follows_in before [] rest follows = tt
follows_in before (c ∷ cs) rest follows = (follows.0, follows_in (before ++ c ∷ []) cs rest follows.1)

fewer_items : (cs rest : Catalog) → length (all_placed (cs ++ rest)) ≤ 200_000 → length (all_placed cs) ≤ 200_000
fewer_items cs rest few =
    let split : length (all_placed (cs ++ rest)) ≡ length (all_placed cs ++ all_placed rest) = ap length (flat_map-append placed_of cs rest) in
    let both = length-append (all_placed cs) (all_placed rest) in
    omega (arith, few, split, both)

all_in : {A : Type 0} (P : A → Type 0) (xs ys : List A) → All P (xs ++ ys) → All P xs
all_in P xs ys holds k d within =
    let more = length-append xs ys in
    subst P (get_or_append_left xs ys d k within) (holds k d (omega (arith, within, more)))

-- the first so many commits of a prefix are a prefix of the whole
shorter : (k : ℕ) (cs rest : Catalog) → (j : ℕ) × (take j (cs ++ rest) ≡ take k cs)
shorter zero cs rest = (0, refl)
shorter (suc k) [] rest = (0, refl)
shorter (suc k) (c ∷ cs) rest =
    let less = shorter k cs rest in
    (suc less.0, ap (λ (ds : Catalog). c ∷ ds) less.1)

pub prefix_is_catalog : (cs rest : Catalog) → IsCatalog (cs ++ rest) → IsCatalog cs
prefix_is_catalog cs rest whole = record {
  lawful = record { commits = follows_in [] cs rest whole.lawful.commits; items = fewer_items cs rest whole.lawful.items };
  packages = all_in (λ (c : Stored). TellPackages c.commit.items c.staged) cs rest whole.packages;
  ids = λ k id. (let less = shorter k cs rest in
      subst (λ (ds : Catalog). live_count id (all_items ds) ≤ id_room) less.1 (whole.ids less.0 id));
}
