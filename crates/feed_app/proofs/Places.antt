-- The stores of the hives, and which of them a command touches.
use Rattle.std.proofs.Common.{◌≡◌, ◌⊎◌, ◌++◌, ℕ, List, Bool, true, false, if◌then◌else◌, inl, inr, refl, ap, sym, ◌∙◌, subst, nat_eq}
use Rattle.std.specs.List.{starts_with}
use Rattle.catalog_core.specs.declared.stores.Stores.{Stores}
use Rattle.feed_app.specs.Hives.{served_under}
use Rattle.feed_routes.specs.Cuts.{target_path}
use Rattle.feed_app.specs.declared.hives.ServedHive.{ServedHive}
use Rattle.feed_app.specs.declared.hives.ServedHive.TheVariants.{Plain, SemVer2, Content}
use Rattle.admin_wire.specs.declared.area.AreaName.TheVariants as area
use Rattle.admin_wire.specs.declared.line.Line.TheVariants as line
use Rattle.feed_app.specs.declared.answer.Answer.{Answer}
use Rattle.feed_app.specs.declared.answer.Answer.TheVariants.{Reply, Document}
use Rattle.feed_app.specs.Frame.{Asks, KeepsArea, Nothing, Touch, Touches, touch_of}
use Rattle.feed_app.specs.Gets.{asked_under, get_reach}
use Rattle.feed_app.specs.Hives.{KeepsOthers, by_hive, hive_area, hive_stores}
use Rattle.feed_app.specs.Outside.{AreaRose, Members, area_of, held}
use Rattle.feed_app.specs.Targets.{IsHivePath}

module _ {B : Type 0} (m : Members B) (before after : Stores B) where
  -- a hive's store is that of its area
  pub by_area : (hive : ServedHive) → AreaRose m (hive_stores before hive) (hive_stores after hive)
      → AreaRose m (area_of before (hive_area hive)) (area_of after (hive_area hive))
  by_area Plain rose = rose
  by_area SemVer2 rose = rose
  by_area Content rose = rose

  pub of_area : (hive : ServedHive) → AreaRose m (area_of before (hive_area hive)) (area_of after (hive_area hive))
      → AreaRose m (hive_stores before hive) (hive_stores after hive)
  of_area Plain rose = rose
  of_area SemVer2 rose = rose
  of_area Content rose = rose

-- the catalog's area is no hive's
pub no_hive_area : (hive : ServedHive) → area.Catalog ≡ hive_area hive → ⊥
no_hive_area hive is = cc is

-- a service index, or want of memory, is no fault
pub index_no_fault : (answer : Answer) (bytes : List ℕ) → (answer ≡ Document bytes) ⊎ (answer ≡ Reply line.Memory) → answer ≡ Reply (line.Fault area.Catalog)
    → ⊥
index_no_fault answer bytes (inl is) failed = cc (is, failed)
index_no_fault answer bytes (inr is) failed = cc (is, failed)

-- a path that begins so begins so
begins : (hive : ServedHive) (rest : List ℕ) → starts_with nat_eq (served_under hive ++ rest) (served_under hive) ≡ true
begins Plain rest = refl
begins SemVer2 rest = refl
begins Content rest = refl

asked_at : (hive : ServedHive) (path rest : List ℕ) → path ≡ served_under hive ++ rest → asked_under path hive ≡ Asks
asked_at hive path rest spelled =
    ap (λ (b : Bool). if b then Asks else Nothing) (ap (λ (p : List ℕ). starts_with nat_eq p (served_under hive)) spelled ∙ begins hive rest)

asked : (hive : ServedHive) (path name : List ℕ) → IsHivePath hive path name → asked_under (target_path path) hive ≡ Asks
asked Plain path name names = asked_at Plain (target_path path) names.0 names.2
asked SemVer2 path name names = asked_at SemVer2 (target_path path) names.0 names.2
asked Content path name names = asked_at Content (target_path path) names.0 names.2

-- a `get` of a hive's document touches its area
pub get_touches : (hive : ServedHive) (path rest : List ℕ) → IsHivePath hive path rest → Touches (touch_of (get_reach (target_path path)) (hive_area hive))
get_touches Plain path rest names = subst Touches (sym (asked Plain path rest names)) tt
get_touches SemVer2 path rest names = subst Touches (sym (asked SemVer2 path rest names)) tt
get_touches Content path rest names = subst Touches (sym (asked Content path rest names)) tt

module _ {B : Type 0} (m : Members B) where
  same_kept : (test : Bool) (store : B) → KeepsArea m (if test then Asks else Nothing) store store
  same_kept true store = refl
  same_kept false store = refl

  -- a store that is the same value is kept, whatever the path
  pub kept : (path : List ℕ) (hive : ServedHive) (store : B) → KeepsArea m (asked_under path hive) store store
  kept path hive store = same_kept (starts_with nat_eq path (served_under hive)) store

  -- so is one that holds the same, where the path names a document of its hive
  kept_asked : (hive : ServedHive) (path rest : List ℕ) (old new : B) → IsHivePath hive path rest → held m new ≡ held m old
      → KeepsArea m (asked_under (target_path path) hive) old new
  kept_asked hive path rest old new names same = subst (λ (t : Touch). KeepsArea m t old new) (sym (asked hive path rest names)) same

  kept_as : (path : List ℕ) (hive : ServedHive) (old new : B) → new ≡ old → KeepsArea m (asked_under (target_path path) hive) old new
  kept_as path hive old new e =
      subst (λ (s : B). KeepsArea m (asked_under (target_path path) hive) old s) (sym e) (kept (target_path path) hive old)

  -- what a `get` does to the stores of the hives where the path names a document of one, which alone was asked
  pub hive_kept : (hive : ServedHive) (path name : List ℕ) (old new : ServedHive → B) → IsHivePath hive path name → held m (new hive) ≡ held m (old hive)
      → KeepsOthers hive old new → (h : ServedHive) → KeepsArea m (asked_under (target_path path) h) (old h) (new h)
  hive_kept Plain path name old new names same others Plain = kept_asked Plain path name (old Plain) (new Plain) names same
  hive_kept SemVer2 path name old new names same others SemVer2 = kept_asked SemVer2 path name (old SemVer2) (new SemVer2) names same
  hive_kept Content path name old new names same others Content = kept_asked Content path name (old Content) (new Content) names same
  hive_kept Plain path name old new names same others SemVer2 = kept_as path SemVer2 (old SemVer2) (new SemVer2) (others SemVer2 (λ e. cc e))
  hive_kept Plain path name old new names same others Content = kept_as path Content (old Content) (new Content) (others Content (λ e. cc e))
  hive_kept SemVer2 path name old new names same others Plain = kept_as path Plain (old Plain) (new Plain) (others Plain (λ e. cc e))
  hive_kept SemVer2 path name old new names same others Content = kept_as path Content (old Content) (new Content) (others Content (λ e. cc e))
  hive_kept Content path name old new names same others Plain = kept_as path Plain (old Plain) (new Plain) (others Plain (λ e. cc e))
  hive_kept Content path name old new names same others SemVer2 = kept_as path SemVer2 (old SemVer2) (new SemVer2) (others SemVer2 (λ e. cc e))

-- with another store in the place of one hive's, those of the others are the same
module _ {B : Type 0} (plain semver2 content other : B) where
  pub but_plain : KeepsOthers Plain (by_hive plain semver2 content) (by_hive other semver2 content)
  but_plain Plain not = absurd (not refl)
  but_plain SemVer2 not = refl
  but_plain Content not = refl

  pub but_semver2 : KeepsOthers SemVer2 (by_hive plain semver2 content) (by_hive plain other content)
  but_semver2 Plain not = refl
  but_semver2 SemVer2 not = absurd (not refl)
  but_semver2 Content not = refl

  pub but_content : KeepsOthers Content (by_hive plain semver2 content) (by_hive plain semver2 other)
  but_content Plain not = refl
  but_content SemVer2 not = refl
  but_content Content not = absurd (not refl)
