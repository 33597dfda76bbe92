-- Calls on the catalog's area that meet their conditions: one list behind another, a front of a list, and those of a commit.
use Rattle.std.proofs.Common.{◌≡◌, ◌+◌, inl, inr, List, ℕ, [], ◌∷◌, ◌++◌, length, map, if◌then◌else◌, refl, sym, subst, arith, length-append}
use Rattle.std.proofs.lemmas.List.{map-append}
use Rattle.blob_store.specs.Area.{Area, with_blob}
use Rattle.blob_store.specs.Events.{Act, Change, Done, Event, Fate, after_event}
use Rattle.blob_store.specs.Plans.{MakesSome, Makes, StopsAt, all_done}
use Rattle.blob_store.specs.Runs.{after_calls}
use Rattle.blob_store.specs.Seen.{Seen}
use Rattle.blob_store.specs.Steps.{after_plan}
use Rattle.blob_store.specs.declared.call.Call.{Call}
use Rattle.blob_store.specs.declared.call.Call.TheVariants.{Put, Remove}
use Rattle.blob_store.specs.declared.error.BlobErr.{BlobErr}
use Rattle.blob_store.proofs.RunFronts.{after_done}
use Rattle.pkg_meta.specs.Catalog.{Catalog}
use Rattle.pkg_meta.specs.declared.commit.Stored.{Stored}
use Rattle.catalog_doc.specs.Catalogs.{IsCatalog}
use Rattle.catalog_doc.specs.Commits.{commit_puts, index_put, page_put, place_puts}
use Rattle.catalog_doc.specs.Spelled.{HoldsIndex, SpellsCatalog}
use Rattle.catalog_doc.proofs.Numbered.{few_commits, last_is_next}
use Rattle.catalog_doc.proofs.Spelling.{mid_holds, mid_settled, page_is}
use Rattle.feed_laws.specs.Calls.{CallsMeetOnCatalog, MeetAllOnCatalog}
use Rattle.feed_laws.specs.Happenings.{took}
use Rattle.feed_laws.proofs.Committed.{AreObjects, places_objects}

module _ (base : List ℕ) where
  -- one list behind another
  pub joined : (xs ys : List Act) (cs mid last : Catalog) (m : Area) → MeetAllOnCatalog base cs m (all_done xs) mid
      → MeetAllOnCatalog base mid (after_plan xs m) (all_done ys) last → MeetAllOnCatalog base cs m (all_done (xs ++ ys)) last
  joined [] ys cs mid last m meet more = subst (λ (ds : Catalog). MeetAllOnCatalog base ds m (all_done ys) last) meet more
  joined (x ∷ xs) ys cs mid last m meet more = (meet.0, meet.1, joined xs ys meet.0 mid last (after_event (record { act = x; fate = Done }) m) meet.2 more)

  -- the first calls alone, and with one behind them that has another fate
  pub front : (xs ys : List Act) (cs last : Catalog) (m : Area) → MeetAllOnCatalog base cs m (all_done (xs ++ ys)) last
      → (end : Catalog) × MeetAllOnCatalog base cs m (all_done xs) end
  front [] ys cs last m meet = (cs, refl)
  front (x ∷ xs) ys cs last m meet =
      let rest = front xs ys meet.0 last (after_event (record { act = x; fate = Done }) m) meet.2 in (rest.0, (meet.0, meet.1, rest.1))

  ended : (xs : List Act) (x : Act) (ys : List Act) (fate : Fate) (cs last : Catalog) (m : Area) → MeetAllOnCatalog base cs m (all_done (xs ++ x ∷ ys)) last
      → (end : Catalog) × MeetAllOnCatalog base cs m (all_done xs ++ (record { act = x; fate = fate }) ∷ []) end
  ended [] x ys fate cs last m meet = (if took fate then meet.0 else cs, (meet.0, meet.1, refl))
  ended (w ∷ xs) x ys fate cs last m meet =
      let rest = ended xs x ys fate meet.0 last (after_event (record { act = w; fate = Done }) m) meet.2 in (rest.0, (meet.0, meet.1, rest.1))

  module _ (plan : List Act) (cs last : Catalog) (m : Area) (meet : MeetAllOnCatalog base cs m (all_done plan) last) (old new : Seen) where
    pub plan_meets : Makes plan old new → CallsMeetOnCatalog base cs m old new last
    plan_meets made = (all_done plan, made, meet)

    pub some_meet : MakesSome plan old new → (end : Catalog) × CallsMeetOnCatalog base cs m old new end
    some_meet (first, unmade, planned, made) =
        let own = front first unmade cs last m (subst (λ (l : List Act). MeetAllOnCatalog base cs m (all_done l) last) planned meet) in
        (own.0, (all_done first, made, own.1))

    pub stop_meets : (error : BlobErr) → StopsAt plan error old new → (end : Catalog) × CallsMeetOnCatalog base cs m old new end
    stop_meets error (events, ends, tracked) =
        let own = ended ends.first ends.last ends.unmade ends.fate cs last m
        (subst (λ (l : List Act). MeetAllOnCatalog base cs m (all_done l) last) ends.planned meet) in
        (own.0, (events, tracked, subst (λ (l : List Event). MeetAllOnCatalog base cs m l own.0) (sym ends.made) own.1))

  -- the puts of leaves and staged blobs
  objects_meet : (calls : List Call) (cs : Catalog) (m : Area) → AreObjects cs calls → MeetAllOnCatalog base cs m (all_done (map Change calls)) cs
  objects_meet [] cs m all = refl
  objects_meet (Put name bytes ∷ calls) cs m all = (cs, inl (all.0, refl), objects_meet calls cs (with_blob name bytes m) all.1)
  objects_meet (Remove name ∷ calls) cs m all = absurd all

  -- those of a commit
  module _ (cs : Catalog) (c : Stored) (m : Area) (whole : IsCatalog (cs ++ c ∷ [])) (spells : SpellsCatalog m base cs) (settled : HoldsIndex m base cs) where
    abbrev more : Catalog
    more = cs ++ c ∷ []

    abbrev places : List Call
    places = place_puts base c.commit.number c.commit.stamp 0 c.commit.items c.staged

    abbrev mid : Area
    mid = after_calls places m

    longer : length more ≡ length cs + 1
    longer = length-append cs (c ∷ [])

    documents_meet : MeetAllOnCatalog base cs mid (all_done (Change (page_put base more) ∷ Change (index_put base more) ∷ [])) more
    documents_meet =
        let few = few_commits more whole.lawful in (
          more,
          inr (inr (
            c,
            record {
              lawful = whole;
              objects = mid_holds m base cs c whole spells settled;
              index = mid_settled m base cs c whole spells settled;
              page = refl;
              text = page_is base more (omega (arith, longer)) (omega (arith, few));
            },
            refl,
          )),
          (more, inr (inl ((refl, refl), refl)), refl),
        )

    pub commit_meets : MeetAllOnCatalog base cs m (all_done (map Change (commit_puts base cs c))) more
    commit_meets =
        subst (λ (l : List Act). MeetAllOnCatalog base cs m (all_done l) more)
        (sym (map-append Change places (page_put base more ∷ index_put base more ∷ [])))
        (joined (map Change places) (Change (page_put base more) ∷ Change (index_put base more) ∷ []) cs cs more m
        (objects_meet places cs m (places_objects cs base c.commit.number c.commit.stamp 0 c.commit.items c.staged (last_is_next cs c whole.lawful.commits).number))
        (subst (λ (a : Area). MeetAllOnCatalog base cs a (all_done (Change (page_put base more) ∷ Change (index_put base more) ∷ [])) more)
        (sym (after_done places m)) documents_meet))
