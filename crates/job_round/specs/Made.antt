-- The calls of a pass as they are made, with the bytes that the catalog's area gave.
use Rattle.std.specs.Prelude.{◌≡◌, ℕ, List, [], ◌∷◌, map, Some, Result, ⊤}
use Rattle.std.specs.declared.result.Result.TheVariants.{Ok, Err}
use Rattle.blob_store.specs.Events.{Change}
use Rattle.blob_store.specs.Plans.{Makes}
use Rattle.blob_store.specs.Seen.{Seen}
use Rattle.blob_store.specs.declared.call.Call.{Call as StoreCall}
use Rattle.blob_store.specs.declared.call.Call.TheVariants as store
use Rattle.pkg_meta.specs.Catalog.{Catalog}
use Rattle.fold_core.specs.Docs.{body_bytes}
use Rattle.fold_core.specs.declared.doc.Body.{Body}
use Rattle.fold_core.specs.declared.doc.Body.TheVariants.{Made, Staged as FromPublish}
use Rattle.id_pass.specs.declared.call.Call.{Call}
use Rattle.id_pass.specs.declared.call.Call.TheVariants.{Put, Remove}
use Rattle.job_round.specs.Stops.{JobHaltsAt}
use Rattle.job_round.specs.declared.stop.Stop.{Stop}

-- the bytes are the body's in each catalog that may be meant and has it
abbrev pub IsBody : (Catalog → Type 0) → Body → List ℕ → Type 0
IsBody Q body bytes = (cs : Catalog) → Q cs → (own : List ℕ) → body_bytes cs body ≡ Some own → bytes ≡ own

-- a call as it is made
abbrev pub IsMadeCall : (Catalog → Type 0) → Call → StoreCall → Type 0
IsMadeCall Q (Put name (Made bytes)) made = made ≡ store.Put name bytes
IsMadeCall Q (Put name (FromPublish number place nuspec)) made = (bytes : List ℕ) × (made ≡ store.Put name bytes)
    × IsBody Q (FromPublish number place nuspec) bytes
IsMadeCall Q (Remove name) made = made ≡ store.Remove name

-- each of the calls, in order
abbrev pub AreMade : (Catalog → Type 0) → List Call → List StoreCall → Type 0
AreMade Q [] [] = ⊤
AreMade Q [] (c ∷ made) = ⊥
AreMade Q (call ∷ calls) [] = ⊥
AreMade Q (call ∷ calls) (c ∷ made) = IsMadeCall Q call c × AreMade Q calls made

-- some of the calls, from the first
abbrev pub AreSomeMade : (Catalog → Type 0) → List Call → List StoreCall → Type 0
AreSomeMade Q calls [] = ⊤
AreSomeMade Q [] (c ∷ made) = ⊥
AreSomeMade Q (call ∷ calls) (c ∷ made) = IsMadeCall Q call c × AreSomeMade Q calls made

-- The calls were made as the result tells.
abbrev pub RunsCalls : {A : Type 0} → (Catalog → Type 0) → List Call → Seen → Seen → Result A Stop → Type 0
RunsCalls Q calls old new (Ok a) = (made : List StoreCall) × AreMade Q calls made × Makes (map Change made) old new
RunsCalls Q calls old new (Err stop) = (made : List StoreCall) × AreSomeMade Q calls made × JobHaltsAt (map Change made) stop old new
