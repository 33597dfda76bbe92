-- The bodies of the documents of a catalog: each publish that a document is of stands in the catalog.
use Rattle.std.proofs.Common.{◌≡◌, ◌+◌, ℕ, zero, suc, List, [], ◌∷◌, ◌++◌, length, Bool, true, false, Option, Some, None, IsSome, refl, ◌∙◌, ap, length-append, arith}
use Rattle.std.proofs.lemmas.Option.{get_or_from_slice_get, slice_get_within}
use Rattle.std.specs.List.{AllByRecursion, Contains, slice_get}
use Rattle.std.specs.Option.{option_and_then, option_map}
use Rattle.pkg_meta.specs.Catalog.{Catalog}
use Rattle.pkg_meta.specs.declared.commit.Staged.{Staged}
use Rattle.pkg_meta.specs.declared.commit.Stored.{Stored}
use Rattle.pkg_meta.specs.Lawful.{MayFollow, Placed}
use Rattle.pkg_meta.specs.declared.item.Item.{Item}
use Rattle.pkg_meta.specs.declared.item.Item.TheVariants as the
use Rattle.fold_core.specs.Docs.{brought_at, brought_in, body_bytes, part}
use Rattle.fold_core.specs.declared.doc.Body.TheVariants.{Staged as FromPublish}

-- the catalog has a publish at this number and place
abbrev IsThere : Catalog → ℕ → ℕ → Type 0
IsThere cs number place = IsSome (brought_at cs number place)

-- it has the item's publish
abbrev HasOrigin : Catalog → Item → Type 0
HasOrigin cs (the.Details d) = IsThere cs d.origin_number d.origin_place
HasOrigin cs (the.Gone i v) = Unit {0}

abbrev HaveOrigins : Catalog → List Placed → Type 0
HaveOrigins cs xs = AllByRecursion (λ (x : Placed). HasOrigin cs x.what) xs

-- the publish that a body is of
pub record IsBrought (cs : Catalog) (number place : ℕ) (nuspec : Bool) : Type 0 where
  pub commit : Stored
  pub brought : Staged
  pub within : Contains cs commit
  pub number_is : commit.commit.number ≡ number
  pub stands : slice_get commit.staged place ≡ Some (Some brought)
  pub bytes : body_bytes cs (FromPublish number place nuspec) ≡ Some (part nuspec brought)

-- the number of the commit at a place of a catalog
number_from : (before cs : Catalog) (c : Stored) (k : ℕ) → MayFollow before cs → slice_get cs k ≡ Some c → c.commit.number ≡ length before + suc k
number_from before [] c k follows is = absurd (let no : ⊥ = cc in no)
number_from before (d ∷ cs) c zero follows is = let same : d ≡ c = cc in omega (arith, follows.0.number, ap (λ (x : Stored). x.commit.number) same)
number_from before (d ∷ cs) c (suc k) follows is =
    let rest = number_from (before ++ d ∷ []) cs c k follows.1 is in
    let longer = length-append before (d ∷ []) in
    omega (arith, rest, longer)

none_some : (P : Type 0) → false ≡ true → P
none_some P some = absurd (let no : ⊥ = cc in no)

in_commit : (cs : Catalog) (n place : ℕ) (nuspec : Bool) (c : Stored) (o : Option (Option Staged)) → MayFollow [] cs → slice_get cs n ≡ Some c → slice_get c.staged place ≡ o
    → IsSome (option_map (part nuspec) (option_and_then (λ (s : Option Staged). s) o)) → IsBrought cs (suc n) place nuspec
in_commit cs n place nuspec c None follows at is some = none_some (IsBrought cs (suc n) place nuspec) some
in_commit cs n place nuspec c (Some None) follows at is some = none_some (IsBrought cs (suc n) place nuspec) some
in_commit cs n place nuspec c (Some (Some brought)) follows at is some = record {
  commit = c;
  brought = brought;
  within = (n, slice_get_within cs n c at, get_or_from_slice_get cs n c c at);
  number_is = omega (arith, number_from [] cs c n follows at);
  stands = is;
  bytes = ap (λ (o : Option Stored). option_map (part nuspec) (option_and_then (brought_in place) o)) at ∙ ap (λ (o : Option (Option Staged)). option_map (part nuspec) (option_and_then (λ (s : Option Staged). s) o)) is;
}

in_catalog : (cs : Catalog) (n place : ℕ) (nuspec : Bool) (o : Option Stored) → MayFollow [] cs → slice_get cs n ≡ o → IsSome (option_map (part nuspec) (option_and_then (brought_in place) o))
    → IsBrought cs (suc n) place nuspec
in_catalog cs n place nuspec None follows at some = none_some (IsBrought cs (suc n) place nuspec) some
in_catalog cs n place nuspec (Some c) follows at some = in_commit cs n place nuspec c (slice_get c.staged place) follows at refl some

-- a publish's bytes, where the catalog has them
pub brought_of : (cs : Catalog) (number place : ℕ) (nuspec : Bool) → MayFollow [] cs → IsSome (body_bytes cs (FromPublish number place nuspec)) → IsBrought cs number place nuspec
brought_of cs zero place nuspec follows some = none_some (IsBrought cs zero place nuspec) some
brought_of cs (suc n) place nuspec follows some = in_catalog cs n place nuspec (slice_get cs n) follows refl some
