-- What may happen to a feed, one store call or one move of a round at a time.
use Rattle.std.specs.Prelude.{ℕ, List, Bool, true, false}
use Rattle.blob_store.specs.Events.{Fate, Done, FailedOld, FailedNew, NoMemory}
use Rattle.pkg_meta.specs.declared.commit.Stored.{Stored}
use Rattle.pkg_meta.specs.declared.state.StateDoc.{StateDoc}

-- on the catalog's area: a staged blob or a leaf is put, a page with a further commit, or the index
pub data OnCatalog : Type 0 where
  PutObject : (name bytes : List ℕ) → Fate → OnCatalog
  PutPage : Stored → (name bytes : List ℕ) → Fate → OnCatalog
  PutIndex : (name bytes : List ℕ) → Fate → OnCatalog

-- on a hive: a round begins, whose job was told so many commits; ids go from list to list; and its store is called
pub data OnHive : Type 0 where
  Begin : (told : ℕ) → OnHive
  Claim : OnHive
  Finish : (key : List ℕ) → OnHive
  Rest : (key : List ℕ) → OnHive
  Wake : OnHive
  PutState : (key : List ℕ) → StateDoc → Fate → OnHive
  PutDoc : (key name bytes : List ℕ) → Fate → OnHive
  DeleteDoc : (key name : List ℕ) → Fate → OnHive
  PutCursor : Fate → OnHive

-- what is read: a blob of the catalog's area, or a hive's document, state or cursor
pub data Place : Type 0 where
  InCatalog : (name : List ℕ) → Place
  DocumentOf : (hive : ℕ) → (name : List ℕ) → Place
  StateOf : (hive : ℕ) → (key : List ℕ) → Place
  CursorOf : (hive : ℕ) → Place

-- what happens; hives are numbered from 0
pub data Happening : Type 0 where
  Catalogs : OnCatalog → Happening
  Hives : (hive : ℕ) → OnHive → Happening
  Reads : Place → Fate → Happening
  Crash : Happening
  Restart : Happening

-- whether a store call of that fate took effect
abbrev pub took : Fate → Bool
took Done = true
took FailedOld = false
took FailedNew = true
took NoMemory = false
