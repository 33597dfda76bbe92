-- The commands `unlist`, `list` and `delete`. The conditions of an answer hold those of the steps before it: pairs, opening,
-- clock, commit.
use Rattle.std.specs.Prelude.{◌≡◌, ◌⊎◌, ◌++◌, ℕ, List, [], ◌∷◌, length, ⊤}
use Rattle.admin_wire.specs.Bodies.{IsAsked, IsRefusedPair}
use Rattle.admin_wire.specs.declared.error.BodyErr.TheVariants as body
use Rattle.admin_wire.specs.declared.line.Line.TheVariants as line
use Rattle.admin_wire.specs.declared.line.Refusal.TheVariants as refusal
use Rattle.admin_wire.specs.declared.names.NameKind.{NameKind}
use Rattle.blob_store.specs.Area.{Area}
use Rattle.pkg_meta.specs.Catalog.{Catalog}
use Rattle.catalog_doc.specs.Catalogs.{IsCatalog}
use Rattle.catalog_doc.specs.Spelled.{SpellsCatalog}
use Rattle.catalog_doc.specs.declared.change.Change.{Change}
use Rattle.catalog_core.specs.Committing.{MayBeCommitted}
use Rattle.feed_app.specs.Commands.{Pair}
use Rattle.feed_app.specs.Frame.{Meaning, Changes, nothing}
use Rattle.feed_app.specs.Openings.{MayOpen}
use Rattle.feed_app.specs.Outside.{Members, Sight, Shows, held}
use Rattle.feed_app.specs.Publishes.{Ends}
use Rattle.feed_app.specs.Spelled.{HoldsCatalog}
use Rattle.feed_app.specs.declared.answer.Answer.{Answer}
use Rattle.feed_app.specs.declared.answer.Answer.TheVariants.{Reply}

-- these changes are asked for these pairs, one for each in their order
abbrev pub AreAsked : NameKind → List Pair → List Change → Type 0
AreAsked kind [] changes = changes ≡ []
AreAsked kind (pair ∷ pairs) [] = ⊥
AreAsked kind (pair ∷ pairs) (c ∷ changes) = IsAsked kind pair.0 pair.1 c × AreAsked kind pairs changes

-- why a pair at this place asks for nothing
abbrev pub NotAsked : Answer → ℕ → List ℕ → List ℕ → Type 0
NotAsked (Reply (line.Refused (refusal.Id at))) place id version = IsRefusedPair place id version (body.Id at)
NotAsked (Reply (line.Refused (refusal.Version at))) place id version = IsRefusedPair place id version (body.Version at)
NotAsked (Reply line.Memory) place id version = ⊤
NotAsked _ place id version = ⊥

-- the first pair that asks for nothing stands behind pairs that ask for changes
pub record IsFirstNotAsked (answer : Answer) (kind : NameKind) (pairs : List Pair) : Type 0 where
  pub front : List Pair
  pub pair : Pair
  pub back : List Pair
  pub split : pairs ≡ front ++ pair ∷ back
  pub before : List Change
  pub asked : AreAsked kind front before
  pub refused : NotAsked answer (length front) pair.0 pair.1

-- the pairs were not read: why
abbrev pub NotRead : Answer → NameKind → List Pair → Type 0
NotRead (Reply line.Memory) kind pairs = ⊤
NotRead answer kind pairs = IsFirstNotAsked answer kind pairs

-- What the command answers, and what it leaves: the pairs were not read, and neither the catalog's area nor the clock was
-- asked; or they ask for changes, and what became of these.
abbrev pub CommitsNames : {B : Type 0} → Members B → NameKind → List Pair → Sight B → Answer → Sight B → Type 0
CommitsNames m kind pairs before answer after =
    (NotRead answer kind pairs × (after.stores.catalog ≡ before.stores.catalog) × (after.clock ≡ before.clock))
    ⊎ ((changes : List Change) × AreAsked kind pairs changes
    × Ends before.given answer changes (m.seen before.stores.catalog) (m.seen after.stores.catalog) before.clock after.clock)

-- the area spells a catalog, the pairs ask for changes, and these may follow each such catalog at every moment
abbrev pub CanTakeNames : Area → NameKind → List Pair → Type 0
CanTakeNames area kind pairs = HoldsCatalog area × ((changes : List Change) × AreAsked kind pairs changes)
    × ((base : List ℕ) (cs : Catalog) (changes : List Change) (now : ℕ) → IsCatalog cs → SpellsCatalog area base cs
    → AreAsked kind pairs changes → MayBeCommitted cs changes now)

-- it asks the clock and changes the catalog's area
abbrev pub names_meaning : {B : Type 0} → Members B → NameKind → List Pair → Meaning B
names_meaning m kind pairs = record {
  reach = record nothing { catalog = Changes; clock = Changes };
  ready = λ before. MayOpen before.given (m.seen before.stores.catalog) × Shows (held m before.stores.catalog) (λ area. CanTakeNames area kind pairs);
  acts = CommitsNames m kind pairs;
}
