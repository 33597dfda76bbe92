-- The command `get`. The conditions of an answer hold those of the steps before it: the opening of the catalog, and what
-- the path names.
use Rattle.std.specs.Prelude.{◌≡◌, ◌⊎◌, ℕ, List, [], ◌∷◌, Option, Some, None, IfSome, if◌then◌else◌, nat_eq, ⊤}
use Rattle.std.specs.FinMap.{get}
use Rattle.std.specs.List.{starts_with}
use Rattle.std.specs.Option.{is_some}
use Rattle.blob_store.specs.Area.{Area}
use Rattle.blob_store.specs.Events.{Get}
use Rattle.blob_store.specs.Seen.{Seen}
use Rattle.pkg_meta.specs.Catalog.{Catalog}
use Rattle.catalog_doc.specs.CatDocs.{doc_at}
use Rattle.catalog_doc.specs.Catalogs.{IsCatalog}
use Rattle.catalog_doc.specs.Spelled.{SpellsCatalog}
use Rattle.catalog_core.specs.Framing.{doc_gets}
use Rattle.feed_app.specs.Calls.{OpensAlone, OpensWith, RunsBehind}
use Rattle.feed_app.specs.Causes.{IfCatalogDamaged}
use Rattle.feed_app.specs.Hives.{served_under}
use Rattle.feed_routes.specs.Cuts.{target_path}
use Rattle.feed_routes.specs.Index.{service_index_text}
use Rattle.feed_routes.specs.Table.{IsUnknown}
use Rattle.feed_app.specs.declared.hives.ServedHive.{ServedHive}
use Rattle.feed_app.specs.declared.hives.ServedHive.TheVariants.{Plain, SemVer2, Content}
use Rattle.admin_wire.specs.declared.area.AreaName.TheVariants as area
use Rattle.admin_wire.specs.declared.line.Line.TheVariants as line
use Rattle.admin_wire.specs.declared.line.Refusal.TheVariants as refusal
use Rattle.feed_app.specs.Frame.{Meaning, Reach, Touch, Asks, Nothing, Opens, nothing}
use Rattle.feed_app.specs.Hives.{KeepsAll, KeepsOthers, hive_area, hive_stores}
use Rattle.feed_app.specs.Openings.{MayOpen, NotOpened}
use Rattle.feed_app.specs.Outside.{Members, Sight, Stream, Shows, held}
use Rattle.feed_app.specs.Spelled.{ForEach, HasCatalog, HoldsCatalog, Of}
use Rattle.feed_app.specs.Targets.{IsCatalogPath, IsHivePath, IsIndexPath, IsServerPath}
use Rattle.feed_app.specs.Writes.{HasMore}
use Rattle.feed_app.specs.declared.answer.Answer.{Answer}
use Rattle.feed_app.specs.declared.answer.Answer.TheVariants.{Reply, Document}

-- what is answered of a document that a catalog has, or hasn't
abbrev pub OfDocument : Answer → Option (List ℕ) → Type 0
OfDocument (Document bytes) document = document ≡ Some bytes
OfDocument (Reply (line.Refused refusal.Missing)) document = document ≡ None
OfDocument (Reply (line.Fault area.Catalog)) document = ⊤
OfDocument (Reply line.Memory) document = ⊤
OfDocument _ document = ⊥

-- what may be answered of a catalog's area, whatever it holds
abbrev pub IsOfCatalog : Answer → Type 0
IsOfCatalog (Document bytes) = ⊤
IsOfCatalog (Reply (line.Refused refusal.Missing)) = ⊤
IsOfCatalog (Reply (line.Fault area.Catalog)) = ⊤
IsOfCatalog (Reply (line.Damaged area.Catalog name)) = ⊤
IsOfCatalog (Reply line.Memory) = ⊤
IsOfCatalog _ = ⊥

-- what is answered of the catalog's document of a name: that of each catalog of this kind
pub record OfCatalog (answer : Answer) (name : List ℕ) (Is : Of) : Type 0 where
  pub kind : IsOfCatalog answer
  pub document : ForEach Is (λ base cs. OfDocument answer (doc_at base cs name))

-- what is answered of a hive's document of a name
abbrev pub OfHive : ServedHive → Answer → List ℕ → Option Area → Type 0
OfHive hive (Document bytes) name told = IfSome told (λ m. get m name ≡ Some bytes)
OfHive hive (Reply (line.Refused refusal.Missing)) name told = IfSome told (λ m. get m name ≡ None)
OfHive hive (Reply (line.Fault failed)) name told = failed ≡ hive_area hive
OfHive hive (Reply line.Memory) name told = ⊤
OfHive hive _ name told = ⊥

-- the answer is the service index of the base address of each catalog of this kind
abbrev pub OfIndex : Answer → Of → Type 0
OfIndex answer Is = (bytes : List ℕ) × (answer ≡ Document bytes) × ForEach Is (λ base cs. service_index_text base ≡ bytes)

-- what is answered by what the path asks for, where only a document of a hive asks a hive's area, its own
abbrev pub AnswersPath : {B : Type 0} → Members B → Answer → List ℕ → Of → (ServedHive → B) → (ServedHive → B) → Type 0
AnswersPath m answer path Is old new =
    ((hive : ServedHive) × (name : List ℕ) × IsHivePath hive path name × OfHive hive answer name (held m (old hive)) × KeepsOthers hive old new)
    ⊎ (KeepsAll old new
    × (((name : List ℕ) × IsCatalogPath path name × OfCatalog answer name Is)
    ⊎ ((IsIndexPath path × OfIndex answer Is)
    ⊎ ((IsServerPath path × (answer ≡ Reply (line.Refused refusal.Served)))
    ⊎ ((IsUnknown path × (answer ≡ Reply (line.Refused refusal.Missing)))
    ⊎ (answer ≡ Reply line.Memory))))))

-- the calls of a `get` that opened a catalog, by what its path asks for, and what it found of the catalog's area
pub record GetCalls {B : Type 0} (m : Members B) (answer : Answer) (path : List ℕ) (catalog later : Seen) (old new : ServedHive → B) : Type 0 where
  -- a document of the catalog: behind the opening's it is got once, where the catalog has it
  pub document : (name : List ℕ) → IsCatalogPath path name
      → OpensWith (λ base cs. doc_gets (is_some (doc_at base cs name)) name) answer catalog later
  -- anything else: those of the opening alone on the catalog's area
  pub alone : ((name : List ℕ) → IsCatalogPath path name → ⊥) → OpensAlone catalog later
  -- a document of a hive: one get of that name on the hive's area
  pub hive : (hive : ServedHive) (name : List ℕ) → IsHivePath hive path name
      → RunsBehind [] (Get name ∷ []) answer (m.seen (old hive)) (m.seen (new hive))
  -- a blob of the catalog that is told as damaged isn't held
  pub absent : (before after : Area) → catalog.held ≡ Some before → later.held ≡ Some after
      → IfCatalogDamaged answer (λ blob. get after blob ≡ None)

-- what a `get` answers: of an area that opens no catalog, or of one that is open
abbrev pub Gets : {B : Type 0} → Members B → Option (List ℕ) → Answer → List ℕ → (catalog later : Seen) → (ServedHive → B)
    → (ServedHive → B) → Type 0
Gets m given answer path catalog later old new = (NotOpened given answer catalog later × KeepsAll old new)
    ⊎ (MayOpen given catalog × AnswersPath m answer path (HasCatalog catalog) old new × GetCalls m answer path catalog later old new)

-- the area spells a catalog that has this document
abbrev pub HoldsDocument : Area → List ℕ → List ℕ → Type 0
HoldsDocument m name bytes = (base : List ℕ) × (cs : Catalog) × IsCatalog cs × SpellsCatalog m base cs × (doc_at base cs name ≡ Some bytes)

-- the area spells a catalog below a base address that has this service index
abbrev pub HoldsServiceIndex : Area → List ℕ → Type 0
HoldsServiceIndex m bytes = (base : List ℕ) × (cs : Catalog) × IsCatalog cs × SpellsCatalog m base cs × (service_index_text base ≡ bytes)

-- the path names a document of the catalog that the catalog's area spells
abbrev pub HasCatalogDocument : List ℕ → List ℕ → Option Area → Type 0
HasCatalogDocument path bytes catalog = (name : List ℕ) × IsCatalogPath path name × Shows catalog (λ m. HoldsDocument m name bytes)

-- the path asks for the service index of the base address of the catalog that the catalog's area spells
abbrev pub HasIndex : List ℕ → List ℕ → Option Area → Type 0
HasIndex path bytes catalog = IsIndexPath path × Shows catalog (λ m. HoldsServiceIndex m bytes)

-- the path names a document of this hive, whose area holds it so beside a catalog
abbrev pub HasHiveDocument : ServedHive → List ℕ → List ℕ → Option Area → Option Area → Type 0
HasHiveDocument hive path bytes catalog area = (name : List ℕ) × IsHivePath hive path name
    × Shows catalog HoldsCatalog × Shows area (λ m. get m name ≡ Some bytes)

-- the path asks for a document that is held with these bytes, or for the service index, which has them
abbrev pub IsHeld : {B : Type 0} → Members B → List ℕ → List ℕ → Sight B → Type 0
IsHeld m path bytes before = HasCatalogDocument path bytes (held m before.stores.catalog)
    ⊎ (HasIndex path bytes (held m before.stores.catalog)
    ⊎ ((hive : ServedHive) × HasHiveDocument hive path bytes (held m before.stores.catalog) (held m (hive_stores before.stores hive))))

-- these bytes went out, with status 0, or memory ran out
abbrev pub IsServed : List ℕ → ℕ → Stream → Stream → Type 0
IsServed bytes status old new = ((status ≡ 0) × HasMore bytes old new) ⊎ (status ≡ 8)

-- a path asks the area of a hive where it begins as the paths of the hive's documents do
abbrev pub asked_under : List ℕ → ServedHive → Touch
asked_under path hive = if starts_with nat_eq path (served_under hive) then Asks else Nothing

-- it opens the catalog, and asks the areas of hives by the path
abbrev pub get_reach : List ℕ → Reach
get_reach path = record nothing { catalog = Opens; plain = asked_under path Plain; semver2 = asked_under path SemVer2; content = asked_under path Content }

-- it is done where the path names a document that is held
abbrev pub get_meaning : {B : Type 0} → Members B → List ℕ → Meaning B
get_meaning m path = record {
  reach = get_reach (target_path path);
  ready = λ before. MayOpen before.given (m.seen before.stores.catalog) × (bytes : List ℕ) × IsHeld m path bytes before;
  acts = λ before answer after.
      Gets m before.given answer path (m.seen before.stores.catalog) (m.seen after.stores.catalog) (hive_stores before.stores) (hive_stores after.stores);
}
