-- The command `init`.
use Rattle.std.specs.Prelude.{◌≡◌, ◌⊎◌, ℕ, List, [], Option, Some, None, IfSome, IsSome, Result}
use Rattle.std.specs.declared.result.Result.TheVariants.{Ok, Err}
use Rattle.std.specs.FinMap.{get}
use Rattle.blob_store.specs.Area.{Area, with_blob}
use Rattle.blob_store.specs.Seen.{Seen}
use Rattle.catalog_doc.specs.Documents.{index_text}
use Rattle.catalog_doc.specs.Names.{index_name}
use Rattle.catalog_core.specs.Openings.{RunsInit}
use Rattle.catalog_core.specs.declared.error.InitErr.{InitErr}
use Rattle.admin_wire.specs.declared.area.AreaName.TheVariants as area
use Rattle.admin_wire.specs.declared.line.Line.TheVariants as line
use Rattle.admin_wire.specs.declared.line.Refusal.TheVariants as refusal
use Rattle.feed_app.specs.Causes.{init_answer}
use Rattle.feed_app.specs.Frame.{Meaning, Changes, nothing}
use Rattle.feed_app.specs.Outside.{Members, Shows, held}
use Rattle.feed_app.specs.declared.answer.Answer.{Answer}
use Rattle.feed_app.specs.declared.answer.Answer.TheVariants.{Reply}

-- the area that held no index has that of no commits, at this base address
abbrev pub IsInitialised : List ℕ → Area → Option Area → Type 0
IsInitialised base m new = (get m index_name ≡ None) × (new ≡ Some (with_blob index_name (index_text base []) m))

-- it is as it was, or has it
abbrev pub IsLeft : List ℕ → Option Area → Option Area → Type 0
IsLeft base old new = IfSome old (λ m. (new ≡ Some m) ⊎ IsInitialised base m new)

-- what `init` answers, and what it leaves in the catalog's area
abbrev pub Inits : List ℕ → Option Area → Answer → Option Area → Type 0
Inits base old (Reply line.Initialised) new = IfSome old (λ m. IsInitialised base m new)
Inits base old (Reply (line.Refused refusal.Initialised)) new = IfSome old (λ m. IsSome (get m index_name) × (new ≡ Some m))
Inits base old (Reply (line.Fault area.Catalog)) new = IsLeft base old new
Inits base old (Reply line.Memory) new = IsLeft base old new
Inits base old _ new = ⊥

-- what is answered of the making of a catalog
abbrev pub init_reply : {A : Type 0} → Result A InitErr → Answer
init_reply (Ok made) = Reply line.Initialised
init_reply (Err error) = init_answer error

-- its calls: the index is got, and put where there is none, up to where it stopped, and no others: of a fault, the last one failed
abbrev pub InitCalls : List ℕ → Answer → Seen → Seen → Type 0
InitCalls base answer old new = (result : Result (Unit {0}) InitErr) × (answer ≡ init_reply result)
    × ((m : Area) → old.held ≡ Some m → RunsInit base (get m index_name) old new result)

-- it changes the catalog's area alone, and is done where that holds no index
abbrev pub init_meaning : {B : Type 0} → Members B → List ℕ → Meaning B
init_meaning m base = record {
  reach = record nothing { catalog = Changes };
  ready = λ before. Shows (held m before.stores.catalog) (λ blobs. get blobs index_name ≡ None);
  acts = λ before answer after. Inits base (held m before.stores.catalog) answer (held m after.stores.catalog)
      × InitCalls base answer (m.seen before.stores.catalog) (m.seen after.stores.catalog);
}
