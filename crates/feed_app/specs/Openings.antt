-- What is answered where a command opens no catalog.
use Rattle.std.specs.Prelude.{◌≡◌, ◌≢◌, ◌⊎◌, ℕ, List, Option, None, Some, ⊤}
use Rattle.std.specs.FinMap.{get}
use Rattle.blob_store.specs.Area.{Area}
use Rattle.blob_store.specs.Seen.{Seen}
use Rattle.catalog_doc.specs.Names.{index_name}
use Rattle.catalog_opening.specs.Openings.{IsAllowedBase, IsDamagedOf, IsToldBase}
use Rattle.catalog_opening.specs.declared.error.OpenErr.TheVariants.{BaseDiffers}
use Rattle.admin_wire.specs.declared.area.AreaName.TheVariants as area
use Rattle.admin_wire.specs.declared.line.Line.TheVariants as line
use Rattle.admin_wire.specs.declared.line.Refusal.TheVariants as refusal
use Rattle.feed_app.specs.Calls.{StopsAsTold}
use Rattle.feed_app.specs.Spelled.{ForSpelled}
use Rattle.feed_app.specs.declared.answer.Answer.{Answer}
use Rattle.feed_app.specs.declared.answer.Answer.TheVariants.{Reply}

-- by the catalog's area, where it is told, and the base address that is given, if any
abbrev pub OpensNone : Option (List ℕ) → Answer → Seen → Type 0
OpensNone given (Reply (line.Refused refusal.Uninitialised)) s = (m : Area) → s.held ≡ Some m → get m index_name ≡ None
OpensNone given (Reply (line.Refused (refusal.Base stored other))) s = (m : Area) → s.held ≡ Some m → IsToldBase given m (BaseDiffers stored other)
OpensNone given (Reply (line.Fault area.Catalog)) s = ⊤
OpensNone given (Reply (line.Damaged area.Catalog name)) s = (m : Area) → s.held ≡ Some m → IsDamagedOf m name
OpensNone given (Reply line.Memory) s = ⊤
OpensNone given _ s = ⊥

-- the catalog's store failed, or memory ran out
abbrev pub IsOfStore : Answer → Type 0
IsOfStore (Reply (line.Fault area.Catalog)) = ⊤
IsOfStore (Reply line.Memory) = ⊤
IsOfStore _ = ⊥

-- another base address than this one is given, and the answer tells both
abbrev pub TellsOtherBase : Option (List ℕ) → List ℕ → Answer → Type 0
TellsOtherBase given base answer = (other : List ℕ) × (given ≡ Some other) × (other ≢ base)
    × (answer ≡ Reply (line.Refused (refusal.Base base other)))

-- the base address that is given, if any, is that of each catalog that the area spells
abbrev pub MayOpen : Option (List ℕ) → Seen → Type 0
MayOpen given s = ForSpelled s (λ base cs. IsAllowedBase given base)

-- A catalog that the area spells is opened, unless the store fails, or memory runs out, or another base address than its own
-- is given; then the area is as it was.
pub record NotOpened (given : Option (List ℕ)) (answer : Answer) (old new : Seen) : Type 0 where
  pub told : OpensNone given answer old
  pub calls : StopsAsTold answer old new
  pub why : ForSpelled old (λ base cs. IsOfStore answer ⊎ (TellsOtherBase given base answer × (new.held ≡ old.held)))
