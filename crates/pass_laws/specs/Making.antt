-- The calls of a pass as a store is given them, with the bytes that a catalog has.
use Rattle.std.specs.Prelude.{◌≡◌, ℕ, List, [], ◌∷◌, Some, IsSome, ⊤}
use Rattle.std.specs.List.{AllByRecursion}
use Rattle.blob_store.specs.declared.call.Call.{Call as StoreCall}
use Rattle.blob_store.specs.declared.call.Call.TheVariants as store
use Rattle.pkg_meta.specs.Catalog.{Catalog}
use Rattle.fold_core.specs.Docs.{body_bytes}
use Rattle.id_pass.specs.declared.call.Call.{Call}
use Rattle.id_pass.specs.declared.call.Call.TheVariants.{Put, Remove}

-- a call is made with the bytes that the catalog has of its body
abbrev pub IsMadeBy : Catalog → Call → StoreCall → Type 0
IsMadeBy cs (Put name body) made = (bytes : List ℕ) → body_bytes cs body ≡ Some bytes → made ≡ store.Put name bytes
IsMadeBy cs (Remove name) made = made ≡ store.Remove name

-- each of the calls, in order
abbrev pub AreMadeBy : Catalog → List Call → List StoreCall → Type 0
AreMadeBy cs [] [] = ⊤
AreMadeBy cs [] (c ∷ made) = ⊥
AreMadeBy cs (call ∷ calls) [] = ⊥
AreMadeBy cs (call ∷ calls) (c ∷ made) = IsMadeBy cs call c × AreMadeBy cs calls made

-- the catalog has the bytes of what a call puts
abbrev pub HasCallBytes : Catalog → Call → Type 0
HasCallBytes cs (Put name body) = IsSome (body_bytes cs body)
HasCallBytes cs (Remove name) = ⊤

-- of what each call puts
abbrev pub HaveCallBytes : Catalog → List Call → Type 0
HaveCallBytes cs calls = AllByRecursion (HasCallBytes cs) calls

-- some of the calls, from the first
abbrev pub AreSomeMadeBy : Catalog → List Call → List StoreCall → Type 0
AreSomeMadeBy cs calls [] = ⊤
AreSomeMadeBy cs [] (c ∷ made) = ⊥
AreSomeMadeBy cs (call ∷ calls) (c ∷ made) = IsMadeBy cs call c × AreSomeMadeBy cs calls made
