-- The puts of a lawful commit are steps of the feed, in order.
use Rattle.std.proofs.Common.{◌≡◌, ◌+◌, inl, inr, ℕ, suc, List, [], ◌∷◌, ◌++◌, length, true, Option, None, Some, refl, ap, arith, length-append}
use Rattle.blob_store.specs.Area.{Area}
use Rattle.blob_store.specs.Runs.{after_calls}
use Rattle.blob_store.specs.declared.call.Call.{Call}
use Rattle.blob_store.specs.declared.call.Call.TheVariants.{Put, Remove}
use Rattle.blob_store.proofs.Fronts.{after_calls-append}
use Rattle.pkg_meta.specs.Catalog.{Catalog}
use Rattle.pkg_meta.specs.declared.commit.Staged.{Staged}
use Rattle.pkg_meta.specs.declared.commit.Stored.{Stored}
use Rattle.pkg_meta.specs.declared.item.Item.{Item}
use Rattle.catalog_doc.specs.Catalogs.{IsCatalog}
use Rattle.catalog_doc.specs.Commits.{index_put, page_put, place_puts, staged_puts}
use Rattle.catalog_doc.specs.Documents.{leaf_text}
use Rattle.catalog_doc.specs.Events.{IsObjectPut}
use Rattle.catalog_doc.specs.Names.{leaf_name, nupkg_name, nuspec_name}
use Rattle.catalog_doc.specs.Spelled.{HoldsIndex}
use Rattle.catalog_doc.proofs.Numbered.{few_commits, last_is_next}
use Rattle.catalog_doc.proofs.Spelling.{mid_holds, mid_settled, page_is}
use Rattle.fold_core.specs.Folds.{Fold}
use Rattle.feed_laws.specs.Courses.{after_commit, commit_steps, document_puts, object_puts}
use Rattle.feed_laws.specs.Happenings.{Happening}
use Rattle.feed_laws.specs.Soundness.{Sound}
use Rattle.feed_laws.specs.Steps.{Run}
use Rattle.feed_laws.specs.Worlds.{World}

abbrev with_area : Area → World → World
with_area area w = record w { area = area }

-- each of the calls puts a leaf or a staged blob of the commit behind the last
abbrev pub AreObjects : Catalog → List Call → Type 0
AreObjects cs [] = Unit {0}
AreObjects cs (Put name bytes ∷ calls) = IsObjectPut cs name × AreObjects cs calls
AreObjects cs (Remove name ∷ calls) = ⊥

staged_objects : (cs : Catalog) (number place : ℕ) (s : Option Staged) (calls : List Call) → number ≡ length cs + 1 → AreObjects cs calls → AreObjects cs (staged_puts number place s ++ calls)
staged_objects cs number place None calls next all = all
staged_objects cs number place (Some s) calls next all = (
  (place, inr (inl (ap (λ (n : ℕ). nupkg_name n place) next))),
  ((place, inr (inr (ap (λ (n : ℕ). nuspec_name n place) next))), all),
)

pub places_objects : (cs : Catalog) (base : List ℕ) (number stamp from : ℕ) (items : List Item) (staged : List (Option Staged)) → number ≡ length cs + 1
    → AreObjects cs (place_puts base number stamp from items staged)
places_objects cs base number stamp from [] staged next = tt
places_objects cs base number stamp from (it ∷ items) [] next =
    ((from, inl (ap (λ (n : ℕ). leaf_name n from) next)), places_objects cs base number stamp (suc from) items [] next)
places_objects cs base number stamp from (it ∷ items) (s ∷ staged) next =
    staged_objects cs number from s (Put (leaf_name number from) (leaf_text base number from stamp it) ∷ place_puts base number stamp (suc from) items staged) next
    ((from, inl (ap (λ (n : ℕ). leaf_name n from) next)), places_objects cs base number stamp (suc from) items staged next)

module _ (fs : List Fold) (w : World) (up : w.up ≡ true) where
  objects_first : (calls : List Call) (area : Area) (es : List Happening) (last : World) → AreObjects w.commits calls
      → Run fs (with_area (after_calls calls area) w) es last → Run fs (with_area area w) (object_puts calls ++ es) last
  objects_first [] area es last all run = run
  objects_first (Put name bytes ∷ calls) area es last all run = ((up, all.0), objects_first calls _ es last all.1 run)
  objects_first (Remove name ∷ calls) area es last all run = absurd all

  module _ (c : Stored) (sound : Sound fs w) (settled : HoldsIndex w.area w.base w.commits) (whole : IsCatalog (w.commits ++ c ∷ [])) where
    abbrev places : List Call
    places = place_puts w.base c.commit.number c.commit.stamp 0 c.commit.items c.staged

    longer : length (w.commits ++ c ∷ []) ≡ length w.commits + 1
    longer = length-append w.commits (c ∷ [])

    documents : Run fs (with_area (after_calls places w.area) w) (document_puts w.base w.commits c) (after_commit w c)
    documents =
        let few = few_commits (w.commits ++ c ∷ []) whole.lawful in (
          (
            up,
            record {
              lawful = whole;
              objects = mid_holds w.area w.base w.commits c whole sound.spells settled;
              index = mid_settled w.area w.base w.commits c whole sound.spells settled;
              page = refl;
              text = page_is w.base (w.commits ++ c ∷ []) (omega (arith, longer)) (omega (arith, few));
            },
          ),
          (
            (up, (refl, refl)),
            ap (λ (area : Area). record { base = w.base; commits = w.commits ++ c ∷ []; area = area; hives = w.hives; up = w.up })
                (after_calls-append places (page_put w.base (w.commits ++ c ∷ []) ∷ index_put w.base (w.commits ++ c ∷ []) ∷ []) w.area),
          ),
        )

    pub commit_runs : Run fs w (commit_steps w.base w.commits c) (after_commit w c)
    commit_runs =
        objects_first places w.area (document_puts w.base w.commits c) (after_commit w c)
        (places_objects w.commits w.base c.commit.number c.commit.stamp 0 c.commit.items c.staged (last_is_next w.commits c whole.lawful.commits).number) documents
