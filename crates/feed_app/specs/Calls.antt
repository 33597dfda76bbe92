-- The store calls of a command: on the catalog's area, of each catalog that it spells, and those behind an opening that did well.
use Rattle.std.specs.Prelude.{◌≡◌, ◌⊎◌, ◌++◌, ℕ, List, Some}
use Rattle.blob_store.specs.Area.{Area}
use Rattle.blob_store.specs.Events.{Act, Event}
use Rattle.blob_store.specs.Plans.{EndsEarly, Makes, all_done}
use Rattle.blob_store.specs.Seen.{Seen}
use Rattle.blob_store.specs.Tracked.{Tracked}
use Rattle.blob_store.specs.declared.error.BlobErr.TheVariants as blob
use Rattle.admin_wire.specs.declared.line.Line.TheVariants as line
use Rattle.pkg_meta.specs.Catalog.{Catalog}
use Rattle.catalog_doc.specs.Catalogs.{IsCatalog}
use Rattle.catalog_doc.specs.Spelled.{SpellsCatalog}
use Rattle.catalog_core.specs.Openings.{StopsOpening}
use Rattle.catalog_opening.specs.Openings.{IsOpeningPlan}
use Rattle.catalog_opening.specs.declared.error.OpenErr.{OpenErr}
use Rattle.feed_app.specs.Causes.{open_answer}
use Rattle.feed_app.specs.declared.answer.Answer.{Answer}
use Rattle.feed_app.specs.declared.answer.Answer.TheVariants.{Reply}

-- P of the calls of an opening of each catalog that the store's area spells: the index and the pages are got, each once
abbrev pub ForOpenings : Seen → (List ℕ → Catalog → List Act → Type 0) → Type 0
ForOpenings s P = (m : Area) (base : List ℕ) (cs : Catalog) (plan : List Act) → IsCatalog cs → s.held ≡ Some m → SpellsCatalog m base cs
    → IsOpeningPlan m base cs plan → P base cs plan

-- these calls were made up to where the opening stopped, as the answer tells, and no others: of a fault, the last one failed
abbrev pub StopsAsTold : Answer → Seen → Seen → Type 0
StopsAsTold answer old new = (error : OpenErr) × (answer ≡ open_answer error) × ForOpenings old (λ base cs plan. StopsOpening plan error old new)

-- some first ones of these calls were done
abbrev pub IsDoneFront : List Act → List Event → Type 0
IsDoneFront plan events = (first : List Act) × (unmade : List Act) × (plan ≡ first ++ unmade) × (events ≡ all_done first)

-- How far these calls went, by the answer: to their end; where a fault is told, up to the one that failed; where damage or want of
-- memory is told, up to some place.
abbrev pub GoesAsTold : List Act → Answer → List Event → Type 0
GoesAsTold plan (Reply (line.Fault name)) events = EndsEarly plan blob.Failed events
GoesAsTold plan (Reply (line.Damaged name lost)) events = IsDoneFront plan events
GoesAsTold plan (Reply line.Memory) events = EndsEarly plan blob.Memory events ⊎ IsDoneFront plan events
GoesAsTold plan _ events = events ≡ all_done plan

-- the first calls were all done, and behind them the planned ones as the answer tells, and no others
pub record RunsBehind (first plan : List Act) (answer : Answer) (old new : Seen) : Type 0 where
  pub events : List Event
  pub told : GoesAsTold plan answer events
  pub made : Tracked (all_done first ++ events) old new

-- an opening that did well made its calls, and no others were made
abbrev pub OpensAlone : Seen → Seen → Type 0
OpensAlone old new = ForOpenings old (λ base cs plan. Makes plan old new)

-- an opening that did well made its calls, and behind them these of the catalog were made as the answer tells
abbrev pub OpensWith : (List ℕ → Catalog → List Act) → Answer → Seen → Seen → Type 0
OpensWith behind answer old new = ForOpenings old (λ base cs plan. RunsBehind plan (behind base cs) answer old new)
