-- Where there is no memory to read the words, nothing was touched, as each command may answer.
use Rattle.std.proofs.Common.{ℕ, List, [], Err, Option, None, Some, inl, inr, refl}
use Rattle.std.specs.FinMap.{get}
use Rattle.blob_store.proofs.Moments.{started}
use Rattle.blob_store.proofs.OneCall.{none}
use Rattle.blob_store.specs.Area.{Area}
use Rattle.blob_store.specs.Seen.{IsSure, Seen}
use Rattle.catalog_doc.specs.Names.{index_name}
use Rattle.catalog_doc.specs.Spelled.{SpellsCatalog}
use Rattle.catalog_core.specs.Openings.{init_plan}
use Rattle.catalog_core.specs.declared.error.InitErr.TheVariants as init
use Rattle.catalog_opening.specs.declared.error.OpenErr.TheVariants.{Memory}
use Rattle.admin_wire.specs.declared.line.Line.TheVariants as line
use Rattle.feed_app.specs.Commands.{Command, Init, Get, Publish, Names, Job, Cursor}
use Rattle.feed_app.specs.Does.{Does, meaning}
use Rattle.feed_app.specs.Frame.{KeepsArea, KeepsAreas, KeepsValue, Touch, Nothing, Asks, Opens, Changes, Reach}
use Rattle.feed_app.specs.Inits.{IsLeft}
use Rattle.feed_app.specs.Openings.{NotOpened}
use Rattle.feed_app.specs.Outside.{Members, Sight}
use Rattle.feed_app.specs.Spelled.{StaysSpelled}
use Rattle.feed_app.specs.declared.answer.Answer.TheVariants.{Reply}

same_spelled : (s : Seen) → IsSure s → StaysSpelled s s
same_spelled s sure = record {
  mended = inl refl;
  spelled = λ base cs has. (has, started s has.store.0 (λ left. SpellsCatalog left base cs) sure has.store.1 has.store.2);
}

same_left : (base : List ℕ) (old : Option Area) → IsLeft base old old
same_left base None = tt
same_left base (Some m) = inl refl

-- a value that isn't touched is kept, whatever may become of it
pub same_value : {A : Type 0} (touch : Touch) (x : A) → KeepsValue touch x x
same_value Nothing x = refl
same_value Asks x = tt
same_value Opens x = tt
same_value Changes x = tt

closed : (given : Option (List ℕ)) (s : Seen) → IsSure s → NotOpened given (Reply line.Memory) s s
closed given s sure = record {
  told = tt;
  calls = (Memory, refl, λ m base cs plan lawful there spells is. inr ([], plan, refl, none s sure));
  why = λ base cs has. inl tt;
}

module _ {B : Type 0} (m : Members B) (sure : (store : B) → IsSure (m.seen store)) where
  same_area : (touch : Touch) (store : B) → KeepsArea m touch store store
  same_area Nothing store = refl
  same_area Asks store = refl
  same_area Opens store = same_spelled (m.seen store) (sure store)
  same_area Changes store = tt

  module _ (before : Sight B) where
    same_areas : (reach : Reach) → KeepsAreas m reach before.stores before.stores
    same_areas reach = record {
      catalog = same_area reach.catalog before.stores.catalog;
      plain = same_area reach.plain before.stores.plain;
      semver2 = same_area reach.semver2 before.stores.semver2;
      content = same_area reach.content before.stores.content;
      auto = same_area reach.auto before.stores.auto;
    }

    acts : (command : Command) → (meaning m command).acts before (Reply line.Memory) before
    acts (Init base) = (
      same_left base _,
      (Err init.Memory, refl, λ area there. inr ([], init_plan base (get area index_name), refl, none _ (sure before.stores.catalog))),
    )
    acts Publish = inl (tt, refl, refl)
    acts (Names kind pairs) = inl (tt, refl, refl)
    acts (Job hive) = inl (closed before.given (m.seen before.stores.catalog) (sure before.stores.catalog), refl)
    acts (Cursor hive) = inl (closed before.given (m.seen before.stores.catalog) (sure before.stores.catalog), refl)
    acts (Get path) = inl (closed before.given (m.seen before.stores.catalog) (sure before.stores.catalog), λ hive. refl)

    pub no_memory : (asked : Option Command) → Does m asked before (Reply line.Memory) before
    no_memory None = (inr refl, refl)
    no_memory (Some command) = record { keeps = same_areas (meaning m command).reach; explains = tt; acts = acts command }
