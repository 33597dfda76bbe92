-- The calls of a pass are steps of the feed, in order, and the id may then be finished.
use Rattle.std.proofs.Common.{◌≡◌, ◌<◌, ℕ, zero, suc, List, [], ◌∷◌, true, Option, Some, refl, sym, ◌∙◌, ap, subst}
use Rattle.pkg_meta.specs.Catalog.{Catalog}
use Rattle.pkg_meta.specs.Lawful.{IsLawful}
use Rattle.pkg_meta.specs.declared.state.StateDoc.{StateDoc}
use Rattle.fold_core.specs.Folds.{Clean, Fold, touched_by}
use Rattle.hive_laws.specs.FoldLaws.{FoldLaws}
use Rattle.hive_laws.specs.Plans.{IsPassPlan, PassPlan, pass_steps}
use Rattle.hive_laws.specs.Steps as pass
use Rattle.hive_laws.proofs.OnePass.{pass_allowed, pass_cleans}
use Rattle.feed_laws.specs.Claims.{fold_at, hive_at}
use Rattle.feed_laws.specs.Courses.{hive_step, hive_steps, pass_course}
use Rattle.feed_laws.specs.Happenings.{Hives, OnHive, Finish}
use Rattle.feed_laws.specs.Soundness.{AreSound, HaveLaws, IsSoundNow}
use Rattle.feed_laws.specs.Steps.{IsClaimed, May, MayAt, MayOnHive, Run, hive_after, hives_after}
use Rattle.feed_laws.specs.Worlds.{HiveNow, Round, World}
use Rattle.feed_laws.proofs.HiveKept.{round_of, with_look_here}
use Rattle.feed_laws.proofs.Moves.{claimed_item}

-- what a hive has of an id
abbrev kept_of : List ℕ → HiveNow → pass.KeptOfId
kept_of key h = record { stored = h.states key; held = h.held }

abbrev with_hives : List HiveNow → World → World
with_hives hs w = record { base = w.base; commits = w.commits; area = w.area; hives = hs; up = w.up }

may_at : (cs : Catalog) (k : ℕ) (on : OnHive) (fs : List Fold) (hs : List HiveNow) (f : Fold) (h : HiveNow) → fold_at k fs ≡ Some f → hive_at k hs ≡ Some h
    → MayOnHive f cs h on → MayAt cs k on fs hs
may_at cs k on [] hs f h rule there may = absurd cc
may_at cs k on (g ∷ fs) [] f h rule there may = absurd cc
may_at cs zero on (g ∷ fs) (x ∷ hs) f h rule there may =
    let same : f ≡ g = cc in let is : h ≡ x = cc in
    subst (λ (r : Fold). MayOnHive r cs x on) same (subst (λ (y : HiveNow). MayOnHive f cs y on) is may)
may_at cs (suc k) on (g ∷ fs) (x ∷ hs) f h rule there may = may_at cs k on fs hs f h rule there may

at_after : (cs : Catalog) (k : ℕ) (on : OnHive) (hs : List HiveNow) (h : HiveNow) → hive_at k hs ≡ Some h → hive_at k (hives_after cs k on hs) ≡ Some (hive_after cs on h)
at_after cs k on [] h there = absurd cc
at_after cs zero on (x ∷ hs) h there = let is : x ≡ h = cc in ap (λ (y : HiveNow). Some (hive_after cs on y)) is
at_after cs (suc k) on (x ∷ hs) h there = at_after cs k on hs h there

-- the hive with a number is sound
pub sound_at : (cs : Catalog) (k : ℕ) (fs : List Fold) (hs : List HiveNow) (f : Fold) (h : HiveNow) → AreSound cs fs hs → fold_at k fs ≡ Some f → hive_at k hs ≡ Some h → IsSoundNow f cs h
sound_at cs k [] hs f h sound rule there = absurd cc
sound_at cs k (g ∷ fs) [] f h sound rule there = absurd cc
sound_at cs zero (g ∷ fs) (x ∷ hs) f h sound rule there =
    let same : g ≡ f = cc in let is : x ≡ h = cc in
    subst (λ (r : Fold). IsSoundNow r cs h) same (subst (λ (y : HiveNow). IsSoundNow g cs y) is sound.0)
sound_at cs (suc k) (g ∷ fs) (x ∷ hs) f h sound rule there = sound_at cs k fs hs f h sound.1 rule there

-- the laws of the hive with a number
pub law_at : (cs : Catalog) → IsLawful cs → (k : ℕ) (fs : List Fold) (f : Fold) → HaveLaws fs → fold_at k fs ≡ Some f → FoldLaws f cs
law_at cs lawful k [] f laws rule = absurd cc
law_at cs lawful zero (g ∷ fs) f laws rule = let same : g ≡ f = cc in subst (λ (r : Fold). FoldLaws r cs) same (laws.0 cs lawful)
law_at cs lawful (suc k) (g ∷ fs) f laws rule = law_at cs lawful k fs f laws.1 rule

module _ (fs : List Fold) (w : World) (up : w.up ≡ true) (k : ℕ) (f : Fold) (rule : fold_at k fs ≡ Some f) (key : List ℕ) (r : Round) where
  may_step : (h : HiveNow) (step : pass.Step) → IsClaimed h key r → pass.IsAllowed f w.commits key r.target step (kept_of key h) → MayOnHive f w.commits h (hive_step key step)
  may_step h (pass.PutState s) claimed allowed = (r, claimed, allowed.0, allowed.1)
  may_step h (pass.PutDoc name bytes) claimed allowed = (r, allowed.0, claimed, allowed.2, allowed.1, allowed.3)
  may_step h (pass.RemoveDoc name) claimed allowed = (r, allowed.0, claimed, allowed.2, allowed.1, allowed.3)

  still_claimed : (h : HiveNow) (step : pass.Step) → IsClaimed h key r → IsClaimed (hive_after w.commits (hive_step key step) h) key r
  still_claimed h (pass.PutState s) claimed = record { stands = claimed.stands; claimed = claimed.claimed }
  still_claimed h (pass.PutDoc name bytes) claimed = record { stands = claimed.stands; claimed = claimed.claimed }
  still_claimed h (pass.RemoveDoc name) claimed = record { stands = claimed.stands; claimed = claimed.claimed }

  kept_after : (h : HiveNow) (step : pass.Step) → pass.after_step step (kept_of key h) ≡ kept_of key (hive_after w.commits (hive_step key step) h)
  kept_after h (pass.PutState s) = ap (λ (o : Option StateDoc). record { stored = o; held = h.held }) (sym (with_look_here h.states key (Some s)))
  kept_after h (pass.PutDoc name bytes) = refl
  kept_after h (pass.RemoveDoc name) = refl

  -- the hives after some steps, of which one has taken them
  record Taken (steps : List pass.Step) (hs : List HiveNow) (h : HiveNow) : Type 0 where
    hives : List HiveNow
    hive : HiveNow
    runs : Run fs (with_hives hs w) (hive_steps k key steps) (with_hives hives w)
    there : hive_at k hives ≡ Some hive
    claimed : IsClaimed hive key r
    kept : kept_of key hive ≡ pass.after_steps steps (kept_of key h)

  steps_run : (steps : List pass.Step) (hs : List HiveNow) (h : HiveNow) → hive_at k hs ≡ Some h → IsClaimed h key r
      → pass.AreAllowed f w.commits key r.target steps (kept_of key h) → Taken steps hs h
  steps_run [] hs h there claimed allowed = record { hives = hs; hive = h; runs = refl; there = there; claimed = claimed; kept = refl }
  steps_run (step ∷ steps) hs h there claimed allowed =
      let on : OnHive = hive_step key step in
      let next : HiveNow = hive_after w.commits on h in
      let behind = steps_run steps (hives_after w.commits k on hs) next (at_after w.commits k on hs h there) (still_claimed h step claimed)
      (subst (pass.AreAllowed f w.commits key r.target steps) (kept_after h step) allowed.1) in
      record {
        hives = behind.hives;
        hive = behind.hive;
        runs = ((up, may_at w.commits k on fs hs f h rule there (may_step h step claimed allowed.0)), behind.runs);
        there = behind.there;
        claimed = behind.claimed;
        kept = behind.kept ∙ ap (pass.after_steps steps) (sym (kept_after h step));
      }

  module _ (h : HiveNow) (there : hive_at k w.hives ≡ Some h) (laws : FoldLaws f w.commits) (sound : IsSoundNow f w.commits h) (claimed : IsClaimed h key r)
      (plan : PassPlan) (is_plan : IsPassPlan f w.commits key r.target (h.states key) h.held plan) where
    item : h.cursor < touched_by w.commits key r.target
    item = claimed_item f w.commits h.cursor key (h.states key) h.held r ((round_of f w.commits laws h r sound claimed.stands).ids key) claimed.claimed

    whole : Taken (pass_steps key plan) w.hives h
    whole = steps_run (pass_steps key plan) w.hives h there claimed
        (pass_allowed f w.commits laws h.cursor r.target key (kept_of key h) plan (sound.hive.ids key) item is_plan)

    clean : Clean f w.commits key r.target (whole.hive.states key) whole.hive.held
    clean = subst (λ (x : pass.KeptOfId). Clean f w.commits key r.target x.stored x.held) (sym whole.kept)
        (pass_cleans f w.commits laws h.cursor r.target key (kept_of key h) plan (sound.hive.ids key) item is_plan)

    pub pass_runs : (last : World) × Run fs w (pass_course k key plan) last × May fs last (Hives k (Finish key))
    pass_runs = (with_hives whole.hives w, whole.runs, (up, may_at w.commits k (Finish key) fs whole.hives f whole.hive rule whole.there (r, whole.claimed, clean)))
