-- How what happens is replied to.
use Rattle.std.specs.Prelude.{ℕ, List, [], ◌∷◌, Option}
use Rattle.std.specs.FinMap.{get}
use Rattle.std.specs.List.{slice_get}
use Rattle.std.specs.Option.{option_and_then, option_map_or}
use Rattle.blob_store.specs.Events.{Fate, Done, FailedOld, FailedNew, NoMemory}
use Rattle.pkg_meta.specs.declared.state.StateDoc.{StateDoc}
use Rattle.feed_laws.specs.Claims.{hive_at}
use Rattle.feed_laws.specs.Happenings.{PutObject, PutPage, PutIndex, OnHive, Begin, Claim, Finish, Rest, Wake, PutState, PutDoc, DeleteDoc, PutCursor, Place, InCatalog, DocumentOf, StateOf, CursorOf, Happening, Catalogs, Hives, Reads, Crash, Restart}
use Rattle.feed_laws.specs.Steps.{happens}
use Rattle.feed_laws.specs.Worlds.{HiveNow, Round, World}

-- a reply: done, or failed, or out of memory; with what was read; with the id that was claimed, if one waited
pub data Reply : Type 0 where
  Fine : Reply
  Fault : Reply
  Memory : Reply
  Found : Option (List ℕ) → Reply
  FoundState : Option StateDoc → Reply
  FoundCursor : ℕ → Reply
  Claimed : Option (List ℕ) → Reply

-- the reply to a store call of this fate, where that of one that is done is given
abbrev pub told_of : Reply → Fate → Reply
told_of usual Done = usual
told_of usual FailedOld = Fault
told_of usual FailedNew = Fault
told_of usual NoMemory = Memory

-- what a read finds
abbrev pub found_at : Place → World → Reply
found_at (InCatalog name) w = Found (get w.area name)
found_at (DocumentOf k name) w = Found (option_and_then (λ (h : HiveNow). h.held name) (hive_at k w.hives))
found_at (StateOf k key) w = FoundState (option_and_then (λ (h : HiveNow). h.states key) (hive_at k w.hives))
found_at (CursorOf k) w = FoundCursor (option_map_or (λ (h : HiveNow). h.cursor) (hive_at k w.hives) 0)

-- the reply to what happens to a hive: a claim's is the first waiting id
abbrev pub hive_reply : OnHive → Option HiveNow → Reply
hive_reply Claim h = Claimed (option_and_then (λ (r : Round). slice_get r.waiting 0) (option_and_then (λ (x : HiveNow). x.round) h))
hive_reply (PutState key s fate) h = told_of Fine fate
hive_reply (PutDoc key name bytes fate) h = told_of Fine fate
hive_reply (DeleteDoc key name fate) h = told_of Fine fate
hive_reply (PutCursor fate) h = told_of Fine fate
hive_reply (Begin told) h = Fine
hive_reply (Finish key) h = Fine
hive_reply (Rest key) h = Fine
hive_reply Wake h = Fine

-- the reply to what happens
abbrev pub reply_of : Happening → World → Reply
reply_of (Catalogs (PutObject name bytes fate)) w = told_of Fine fate
reply_of (Catalogs (PutPage c name bytes fate)) w = told_of Fine fate
reply_of (Catalogs (PutIndex name bytes fate)) w = told_of Fine fate
reply_of (Hives k on) w = hive_reply on (hive_at k w.hives)
reply_of (Reads place fate) w = told_of (found_at place w) fate
reply_of Crash w = Fine
reply_of Restart w = Fine

-- the replies to steps in order
abbrev pub replies_of : List Happening → World → List Reply
replies_of [] w = []
replies_of (e ∷ es) w = reply_of e w ∷ replies_of es (happens e w)
