-- The calls of an opening and of a settling.
use Rattle.std.proofs.Common.{◌≡◌, ⊎_elim, ℕ, List, [], ◌∷◌, ◌++◌, ◌+◌, length, Some, Ok, Err, Result, refl, sym, ◌∙◌, ap, subst}
use Rattle.blob_store.specs.Area.{Area}
use Rattle.blob_store.specs.Events.{Act, Get, Change}
use Rattle.blob_store.specs.Seen.{Seen}
use Rattle.blob_store.specs.Steps.{after_plan}
use Rattle.blob_store.specs.declared.error.BlobErr.TheVariants as blob
use Rattle.blob_store.proofs.Areas.{get_put_same}
use Rattle.blob_store.proofs.Stepping.{after_plan-append}
use Rattle.pkg_meta.specs.Catalog.{Catalog}
use Rattle.catalog_doc.specs.CatDocs.{heads_of}
use Rattle.catalog_doc.specs.Commits.{index_put}
use Rattle.catalog_doc.specs.Documents.{index_text}
use Rattle.catalog_doc.specs.Names.{index_name}
use Rattle.catalog_doc.specs.Spelled.{HoldsIndex, SpellsCatalog}
use Rattle.catalog_opening.specs.Openings.{IsOpeningPlan, opening_gets}
use Rattle.catalog_opening.specs.Plans.{last_gets}
use Rattle.catalog_opening.specs.declared.error.OpenErr.{OpenErr}
use Rattle.catalog_opening.specs.declared.error.OpenErr.TheVariants as opening
use Rattle.catalog_opening.specs.declared.error.ReadErr.{ReadErr}
use Rattle.catalog_opening.specs.declared.error.ReadErr.TheVariants as reading
use Rattle.catalog_core.specs.Framing.{IsSettlingPlan}
use Rattle.catalog_core.specs.Opened.{IsOpenFor, Opened}
use Rattle.catalog_core.proofs.Frames.{known_store, ready_of, ready_store}
use Rattle.commit_calls.specs.Called.{Opening, Settling}
use Rattle.commit_calls.proofs.Still.{AreStill, gets_leave, index_still, last_gets_are, last_gets_still, made_still, page_gets_still, some_still, stop_still}
use Rattle.feed_laws.specs.Calls.{CallsMeetOnCatalog}
use Rattle.feed_laws.proofs.CatalogKept.{index_kept}

opening_still : (m : Area) (base : List ℕ) (cs : Catalog) (plan : List Act) → IsOpeningPlan m base cs plan → AreStill base cs plan
opening_still m base cs plan planned = ⊎_elim
    (λ whole. subst (AreStill base cs) (sym whole.1) (tt, page_gets_still base cs 0 (length (heads_of cs) + 1)))
    (λ lags. subst (AreStill base cs) (sym lags.4) (index_still base cs (opening_gets (length (heads_of lags.0))) (tt, page_gets_still base cs 0 (length (heads_of lags.0) + 1))))
    planned

pub opening_meets : {A : Type 0} (base : List ℕ) (cs : Catalog) (plan : List Act) (m : Area) (before after : Seen) (result : Result A OpenErr)
    → Opening base cs plan m before after result → CallsMeetOnCatalog base cs m before after cs
opening_meets base cs plan m before after (Ok a) is = made_still base cs plan m (opening_still m base cs plan is.planned) before after is.runs
opening_meets base cs plan m before after (Err opening.Fault) is = stop_still base cs plan m (opening_still m base cs plan is.planned) before after blob.Failed is.runs
opening_meets base cs plan m before after (Err opening.Missing) is = absurd is.runs
opening_meets base cs plan m before after (Err (opening.Damaged name)) is = absurd is.runs
opening_meets base cs plan m before after (Err (opening.BaseDiffers stored given)) is = made_still base cs (Get index_name ∷ []) m (tt, tt) before after is.runs
opening_meets base cs plan m before after (Err opening.Memory) is = ⊎_elim
    (stop_still base cs plan m (opening_still m base cs plan is.planned) before after blob.Memory)
    (some_still base cs plan m (opening_still m base cs plan is.planned) before after) is.runs

module _ {B : Type 0} (o : Opened B) (cs : Catalog) (m : Area) (before : Seen) (open_for : IsOpenFor o before cs) (held : before.held ≡ Some m) where
  -- calls that settle leave the catalog as it is, and an index that doesn't lag
  pub record Settled (first : List Act) : Type 0 where
    pub still : AreStill o.base cs first
    pub spells : SpellsCatalog (after_plan first m) o.base cs
    pub index : HoldsIndex (after_plan first m) o.base cs

  same_area : (a : Area) → before.held ≡ Some a → a ≡ m
  same_area a is = let e : Some a ≡ Some m = sym is ∙ held in cc

  spelled : SpellsCatalog m o.base cs
  spelled = let store = known_store o before cs open_for in subst (λ (a : Area). SpellsCatalog a o.base cs) (same_area store.0 store.1) store.2

  by_index : Settled (Change (index_put o.base cs) ∷ [])
  by_index = record {
    still = ((refl, refl), tt);
    spells = index_kept m o.base cs open_for.lawful spelled;
    index = get_put_same m index_name (index_text o.base (heads_of cs));
  }

  pub settled : (first : List Act) → IsSettlingPlan o cs first → Settled first
  settled first is = ⊎_elim
      (λ was.
      let store = ready_store o before cs (ready_of o before cs was.0 open_for) in
      let same : store.0 ≡ m = same_area store.0 store.1 in
      subst Settled (sym was.1) (record {
        still = tt;
        spells = spelled;
        index = subst (λ (a : Area). HoldsIndex a o.base cs) same store.3;
      }))
      (λ wasnt.
      let gets : List Act = last_gets (length (heads_of wasnt.1)) in
      let index : List Act = Change (index_put o.base cs) ∷ [] in
      let planned : first ≡ gets ++ index = wasnt.5 ∙ ap (λ (ds : Catalog). gets ++ Change (index_put o.base ds) ∷ []) wasnt.3 in
      let left : after_plan (gets ++ index) m ≡ after_plan index m = after_plan-append gets index m ∙ ap (after_plan index) (gets_leave gets m (last_gets_are (length (heads_of wasnt.1)))) in
      subst Settled (sym planned) (record {
        still = index_still o.base cs gets (last_gets_still o.base cs (length (heads_of wasnt.1)));
        spells = subst (λ (a : Area). SpellsCatalog a o.base cs) (sym left) by_index.spells;
        index = subst (λ (a : Area). HoldsIndex a o.base cs) (sym left) by_index.index;
      }))
      is

pub settling_meets : {A B : Type 0} (o : Opened B) (cs : Catalog) (m : Area) (before after : Seen) (result : Result A ReadErr)
    → Settling o cs m before after result → CallsMeetOnCatalog o.base cs m before after cs
settling_meets o cs m before after (Ok a) is = let own = is.runs in
    made_still o.base cs own.0 m (settled o cs m before is.open_for is.held own.0 own.1).still before after own.2
settling_meets o cs m before after (Err reading.Fault) is = let own = is.runs in
    stop_still o.base cs own.0 m (settled o cs m before is.open_for is.held own.0 own.1).still before after blob.Failed own.2
settling_meets o cs m before after (Err (reading.Damaged name)) is = let own = is.runs in
    some_still o.base cs own.0 m (settled o cs m before is.open_for is.held own.0 own.1).still before after own.2
settling_meets o cs m before after (Err reading.Memory) is = let own = is.runs in
    let still = (settled o cs m before is.open_for is.held own.0 own.1).still in
    ⊎_elim (stop_still o.base cs own.0 m still before after blob.Memory) (some_still o.base cs own.0 m still before after) own.2
