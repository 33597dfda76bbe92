-- Calls on the catalog's area that meet their conditions are steps of the feed.
use Rattle.std.proofs.Common.{◌≡◌, inl, inr, ⊎_elim, ℕ, List, [], ◌∷◌, ◌++◌, true, if◌then◌else◌, refl, sym, ap, subst}
use Rattle.blob_store.specs.Events.{Act, Get, Change, Event, Fate, Done, FailedOld, FailedNew, NoMemory, after_event, after_events}
use Rattle.blob_store.specs.declared.call.Call.TheVariants.{Put, Remove}
use Rattle.pkg_meta.specs.Catalog.{Catalog}
use Rattle.pkg_meta.specs.declared.commit.Stored.{Stored}
use Rattle.fold_core.specs.Folds.{Fold}
use Rattle.feed_laws.specs.Calls.{AreStepsOf, IsStepOf, MeetAllOnCatalog, MeetsOnCatalog, with_catalog}
use Rattle.feed_laws.specs.Happenings.{Catalogs, Happening, InCatalog, PutIndex, PutObject, PutPage, Reads, took}
use Rattle.feed_laws.specs.Steps.{May, Run, happens}
use Rattle.feed_laws.specs.Worlds.{World}

module _ (fs : List Fold) where
  -- one call
  record Stepped (w : World) (event : Event) (next : Catalog) : Type 0 where
    step : Happening
    is : IsStepOf event step
    may : May fs w step
    leads : happens step w ≡ with_catalog (if took event.fate then next else w.commits) (after_event event w.area) w

  gets : (w : World) (name : List ℕ) (fate : Fate) (next : Catalog) → w.up ≡ true → next ≡ w.commits → Stepped w (record { act = Get name; fate = fate }) next
  gets w name Done next up is = record { step = Reads (InCatalog name) Done; is = refl; may = up; leads = ap (λ (cs : Catalog). with_catalog cs w.area w) (sym is) }
  gets w name FailedOld next up is = record { step = Reads (InCatalog name) FailedOld; is = refl; may = up; leads = refl }
  gets w name FailedNew next up is = record { step = Reads (InCatalog name) FailedNew; is = refl; may = up; leads = ap (λ (cs : Catalog). with_catalog cs w.area w) (sym is) }
  gets w name NoMemory next up is = record { step = Reads (InCatalog name) NoMemory; is = refl; may = up; leads = refl }

  objects : (w : World) (name bytes : List ℕ) (fate : Fate) (next : Catalog) → May fs w (Catalogs (PutObject name bytes fate)) → next ≡ w.commits
      → Stepped w (record { act = Change (Put name bytes); fate = fate }) next
  objects w name bytes Done next may is = record { step = Catalogs (PutObject name bytes Done); is = inl refl; may = may; leads = ap (λ (cs : Catalog). with_catalog cs (after_event (record { act = Change (Put name bytes); fate = Done }) w.area) w) (sym is) }
  objects w name bytes FailedOld next may is = record { step = Catalogs (PutObject name bytes FailedOld); is = inl refl; may = may; leads = refl }
  objects w name bytes FailedNew next may is = record { step = Catalogs (PutObject name bytes FailedNew); is = inl refl; may = may; leads = ap (λ (cs : Catalog). with_catalog cs (after_event (record { act = Change (Put name bytes); fate = FailedNew }) w.area) w) (sym is) }
  objects w name bytes NoMemory next may is = record { step = Catalogs (PutObject name bytes NoMemory); is = inl refl; may = may; leads = refl }

  indexes : (w : World) (name bytes : List ℕ) (fate : Fate) (next : Catalog) → May fs w (Catalogs (PutIndex name bytes fate)) → next ≡ w.commits
      → Stepped w (record { act = Change (Put name bytes); fate = fate }) next
  indexes w name bytes Done next may is = record { step = Catalogs (PutIndex name bytes Done); is = inr (inl refl); may = may; leads = ap (λ (cs : Catalog). with_catalog cs (after_event (record { act = Change (Put name bytes); fate = Done }) w.area) w) (sym is) }
  indexes w name bytes FailedOld next may is = record { step = Catalogs (PutIndex name bytes FailedOld); is = inr (inl refl); may = may; leads = refl }
  indexes w name bytes FailedNew next may is = record { step = Catalogs (PutIndex name bytes FailedNew); is = inr (inl refl); may = may; leads = ap (λ (cs : Catalog). with_catalog cs (after_event (record { act = Change (Put name bytes); fate = FailedNew }) w.area) w) (sym is) }
  indexes w name bytes NoMemory next may is = record { step = Catalogs (PutIndex name bytes NoMemory); is = inr (inl refl); may = may; leads = refl }

  pages : (w : World) (c : Stored) (name bytes : List ℕ) (fate : Fate) (next : Catalog) → May fs w (Catalogs (PutPage c name bytes fate)) → next ≡ w.commits ++ c ∷ []
      → Stepped w (record { act = Change (Put name bytes); fate = fate }) next
  pages w c name bytes Done next may is = record { step = Catalogs (PutPage c name bytes Done); is = inr (inr (c, refl)); may = may; leads = ap (λ (cs : Catalog). with_catalog cs (after_event (record { act = Change (Put name bytes); fate = Done }) w.area) w) (sym is) }
  pages w c name bytes FailedOld next may is = record { step = Catalogs (PutPage c name bytes FailedOld); is = inr (inr (c, refl)); may = may; leads = refl }
  pages w c name bytes FailedNew next may is = record { step = Catalogs (PutPage c name bytes FailedNew); is = inr (inr (c, refl)); may = may; leads = ap (λ (cs : Catalog). with_catalog cs (after_event (record { act = Change (Put name bytes); fate = FailedNew }) w.area) w) (sym is) }
  pages w c name bytes NoMemory next may is = record { step = Catalogs (PutPage c name bytes NoMemory); is = inr (inr (c, refl)); may = may; leads = refl }

  stepped : (w : World) (act : Act) (fate : Fate) (next : Catalog) → w.up ≡ true → MeetsOnCatalog w.base w.commits w.area act next → Stepped w (record { act = act; fate = fate }) next
  stepped w (Get name) fate next up meets = gets w name fate next up meets
  stepped w (Change (Put name bytes)) fate next up meets = ⊎_elim
      (λ object. objects w name bytes fate next (up, object.0) object.1)
      (λ more. ⊎_elim (λ index. indexes w name bytes fate next (up, index.0) index.1) (λ page. pages w page.0 name bytes fate next (up, page.1) page.2) more) meets
  stepped w (Change (Remove name)) fate next up meets = absurd meets

  -- calls in order
  pub all_stepped : (events : List Event) (w : World) (last : Catalog) → w.up ≡ true → MeetAllOnCatalog w.base w.commits w.area events last
      → (es : List Happening) × AreStepsOf events es × Run fs w es (with_catalog last (after_events events w.area) w)
  all_stepped [] w last up meet = ([], tt, ap (λ (cs : Catalog). with_catalog cs w.area w) meet)
  all_stepped (event ∷ events) w last up meet =
      let one = stepped w event.act event.fate meet.0 up meet.1 in
      let mid : World = with_catalog (if took event.fate then meet.0 else w.commits) (after_event event w.area) w in
      let rest = all_stepped events mid last up meet.2 in (
        one.step ∷ rest.0,
        (one.is, rest.1),
        (one.may, subst (λ (v : World). Run fs v rest.0 (with_catalog last (after_events events (after_event event w.area)) w)) (sym one.leads) rest.2),
      )
