-- The steps of a commit and of a pass, all done.
use Rattle.std.specs.Prelude.{ℕ, List, [], ◌∷◌, ◌++◌, map}
use Rattle.blob_store.specs.Events.{Done}
use Rattle.blob_store.specs.Runs.{after_calls}
use Rattle.blob_store.specs.declared.call.Call.{Call}
use Rattle.blob_store.specs.declared.call.Call.TheVariants.{Put, Remove}
use Rattle.pkg_meta.specs.Catalog.{Catalog}
use Rattle.pkg_meta.specs.declared.commit.Stored.{Stored}
use Rattle.catalog_doc.specs.CatDocs.{all_rows, heads_of, last_page, pages_of}
use Rattle.catalog_doc.specs.Commits.{commit_puts, place_puts}
use Rattle.catalog_doc.specs.Documents.{index_text, page_text}
use Rattle.catalog_doc.specs.Events.{next_page}
use Rattle.catalog_doc.specs.Names.{index_name, page_name}
use Rattle.hive_laws.specs.Plans.{PassPlan, pass_steps}
use Rattle.hive_laws.specs.Steps as pass
use Rattle.feed_laws.specs.Happenings.{Happening, Catalogs, Hives, OnHive, PutObject, PutPage, PutIndex, PutState, PutDoc, DeleteDoc}
use Rattle.feed_laws.specs.Worlds.{World}

-- the puts of leaves and staged blobs among these calls
abbrev pub object_puts : List Call → List Happening
object_puts [] = []
object_puts (Put name bytes ∷ calls) = Catalogs (PutObject name bytes Done) ∷ object_puts calls
object_puts (Remove name ∷ calls) = object_puts calls

-- the page with a further commit, and the index with it
abbrev pub document_puts : List ℕ → Catalog → Stored → List Happening
document_puts base cs c =
    Catalogs (PutPage c (page_name (next_page cs c)) (page_text base (next_page cs c) (all_rows (last_page (pages_of (cs ++ c ∷ []))))) Done)
    ∷ Catalogs (PutIndex index_name (index_text base (heads_of (cs ++ c ∷ []))) Done) ∷ []

-- the steps of a commit behind a catalog: its leaves and blobs place by place, the page, the index
abbrev pub commit_steps : List ℕ → Catalog → Stored → List Happening
commit_steps base cs c = object_puts (place_puts base c.commit.number c.commit.stamp 0 c.commit.items c.staged) ++ document_puts base cs c

-- the feed with a further commit
abbrev pub after_commit : World → Stored → World
after_commit w c = record w { commits = w.commits ++ c ∷ []; area = after_calls (commit_puts w.base w.commits c) w.area }

-- a step of a pass over an id, as it happens to a hive
abbrev pub hive_step : List ℕ → pass.Step → OnHive
hive_step key (pass.PutState s) = PutState key s Done
hive_step key (pass.PutDoc name bytes) = PutDoc key name bytes Done
hive_step key (pass.RemoveDoc name) = DeleteDoc key name Done

-- those of some steps, to the hive with this number
abbrev pub hive_steps : ℕ → List ℕ → List pass.Step → List Happening
hive_steps k key steps = map (λ (step : pass.Step). Hives k (hive_step key step)) steps

-- the steps of a pass over an id by its plan
abbrev pub pass_course : ℕ → List ℕ → PassPlan → List Happening
pass_course k key plan = hive_steps k key (pass_steps key plan)
