-- The calls of an opening and of a settling, in order.
use Rattle.std.specs.Prelude.{◌⊎◌, ℕ, zero, suc, List, [], ◌∷◌, Result}
use Rattle.std.specs.declared.result.Result.TheVariants.{Ok, Err}
use Rattle.blob_store.specs.Events.{Act, Get, Change}
use Rattle.blob_store.specs.Plans.{Makes, MakesSome, StopsAt}
use Rattle.blob_store.specs.Seen.{Seen}
use Rattle.blob_store.specs.declared.call.Call.TheVariants.{Put}
use Rattle.blob_store.specs.declared.error.BlobErr.TheVariants as blob
use Rattle.catalog_doc.specs.Documents.{index_text}
use Rattle.catalog_doc.specs.Names.{index_name, page_name}
use Rattle.catalog_doc.specs.declared.head.PageHead.{PageHead}
use Rattle.catalog_opening.specs.declared.error.ReadErr.{ReadErr}
use Rattle.catalog_opening.specs.declared.error.ReadErr.TheVariants.{Damaged, Fault, Memory}

-- so many pages are got, from k on
abbrev pub page_gets : ℕ → ℕ → List Act
page_gets k zero = []
page_gets k (suc n) = Get (page_name k) ∷ page_gets (suc k) n

-- the last of so many pages is got, and the page behind it
abbrev pub last_gets : ℕ → List Act
last_gets zero = page_gets 0 1
last_gets (suc k) = page_gets k 2

-- the index of pages with these heads is put
abbrev pub index_change : List ℕ → List PageHead → Act
index_change base heads = Change (Put index_name (index_text base heads))

-- what a read that told an error made of the plan
abbrev pub HaltsAt : List Act → ReadErr → Seen → Seen → Type 0
HaltsAt plan (Damaged name) old new = MakesSome plan old new
HaltsAt plan Fault old new = StopsAt plan blob.Failed old new
HaltsAt plan Memory old new = StopsAt plan blob.Memory old new ⊎ MakesSome plan old new

-- The plan was made as the result of a read tells: whole, or up to a call that failed, or up to what is damaged.
abbrev pub RunsReading : {A : Type 0} → List Act → Seen → Seen → Result A ReadErr → Type 0
RunsReading plan old new (Ok a) = Makes plan old new
RunsReading plan old new (Err error) = HaltsAt plan error old new
