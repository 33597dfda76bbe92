-- Where a text stops beginning a version text.
use Rattle.std.proofs.Common.{◌≡◌, ◌<◌, ◌≤◌, ◌+◌, ◌-◌, ℕ, suc, List, [], ◌∷◌, ◌++◌, length, take, drop, get_or, Bool, true, false, Option, Some, None, refl, sym, ◌∙◌, ap, subst, arith, append_assoc, take-append-drop, append-nil}
use Rattle.std.proofs.Math.Seq.{take-add}
use Rattle.std.proofs.lemmas.List.{drop_more, take_all, take_more}
use Rattle.nuget_version.specs.Grammar.{Begins, IsLongestFront, IsMadeOf, IsVersionText, Pieces}
use Rattle.nuget_version.specs.Walk.{found_of, next_of, note_of, nothing_found, place}
use Rattle.nuget_version.specs.declared.walk.Found.{Found}
use Rattle.nuget_version.specs.declared.walk.Place.{Place}
use Rattle.nuget_version.specs.declared.walk.Stage.{Stage}
use Rattle.nuget_version.specs.declared.walk.Stage.TheVariants.{Major, Minor, Patch, Revision, Labels, Meta}
use Rattle.nuget_version.proofs.Accepted.{accepted}
use Rattle.nuget_version.proofs.Found.{found_in}
use Rattle.nuget_version.proofs.Spelled.{accepts_is, ends_begun, walk_from}

-- the walk over a whole text
abbrev pub walked : List ℕ → Option (Place × Found)
walked text = walk_from text 0 Major false nothing_found

-- the state after a prefix
abbrev pub Reaches : List ℕ → ℕ → Place → Found → Type 0
Reaches front at p f = (rest : List ℕ) → walked (front ++ rest) ≡ walk_from rest at p.stage p.begun f

pub from_start : Reaches [] 0 (place Major false) nothing_found
from_start rest = refl

pub version_walks : (text : List ℕ) → IsVersionText text → ends_begun (walked text) ≡ true
version_walks text v =
    let w = found_in v.0 v.1.are in
    ap (λ (l : List ℕ). ends_begun (walked l)) v.1.spelled ∙ ap ends_begun w.1

pub walks_version : (text : List ℕ) → ends_begun (walked text) ≡ true → IsVersionText text
walks_version text h = accepted text (accepts_is text 0 Major false nothing_found ∙ h)

-- a digit ends each prefix well
zero_ends : (at : ℕ) (s : Stage) (g : Bool) (f : Found) → ends_begun (walk_from (48 ∷ []) at s g f) ≡ true
unfolding next_of
zero_ends at Major g f = refl
zero_ends at Minor g f = refl
zero_ends at Patch g f = refl
zero_ends at Revision g f = refl
zero_ends at Labels g f = refl
zero_ends at Meta g f = refl

reached_begins : (front : List ℕ) (at : ℕ) (p : Place) (f : Found) → Reaches front at p f → Begins front
reached_begins front at p f so_far =
    (48 ∷ [], walks_version (front ++ 48 ∷ []) (ap ends_begun (so_far (48 ∷ [])) ∙ zero_ends at p.stage p.begun f))

differ : (b : Bool) → b ≡ false → b ≡ true → ⊥
differ b is_no is_yes = cc

-- a step
pub step_on : (at b : ℕ) (bs : List ℕ) (p q : Place) (f : Found) → next_of p.stage p.begun b ≡ Some q
    → walk_from (b ∷ bs) at p.stage p.begun f ≡ walk_from bs (at + 1) q.stage q.begun (note_of p.stage p.begun at b f)
step_on at b bs p q f next = rw next refl

step_off : (at b : ℕ) (bs : List ℕ) (p : Place) (f : Found) → next_of p.stage p.begun b ≡ None → walk_from (b ∷ bs) at p.stage p.begun f ≡ None
step_off at b bs p f next = rw next refl

module _ (text : List ℕ) (i : ℕ) (p : Place) (f : Found) (b : ℕ) (lt : i < length text) (is : b ≡ get_or text i 0) (so_far : Reaches (take i text) i p f) where
  rest_is : drop i text ≡ b ∷ drop (i + 1) text
  rest_is = drop_more text i 0 lt ∙ ap (λ (x : ℕ). x ∷ drop (i + 1) text) (sym is)

  -- one byte more
  pub reaches_more : (q : Place) → next_of p.stage p.begun b ≡ Some q → Reaches (take (i + 1) text) (i + 1) q (note_of p.stage p.begun i b f)
  reaches_more q next rest =
      let front : take (i + 1) text ≡ take i text ++ (b ∷ []) = take_more text i 0 lt ∙ ap (λ (x : ℕ). take i text ++ (x ∷ [])) (sym is) in
      ap (λ (l : List ℕ). walked (l ++ rest)) front ∙ ap walked (append_assoc (take i text) (b ∷ []) rest) ∙ so_far (b ∷ rest) ∙ step_on i b rest p q f next

  module _ (next : next_of p.stage p.begun b ≡ None) where
    refused : (bs : List ℕ) → walked (take i text ++ b ∷ bs) ≡ None
    refused bs = so_far (b ∷ bs) ∙ step_off i b bs p f next

    pub not_version : IsVersionText text → ⊥
    not_version v =
        differ (ends_begun (walked text))
        (ap ends_begun (ap walked (sym (take-append-drop i text) ∙ ap (λ (l : List ℕ). take i text ++ l) rest_is) ∙ refused (drop (i + 1) text)))
        (version_walks text v)

    longer : (n : ℕ) → i < n → (m : ℕ) → n ≡ i + suc m → take n text ≡ take i text ++ b ∷ take m (drop (i + 1) text)
    longer n above m same = ap (λ (k : ℕ). take k text) same ∙ take-add i (suc m) text ∙ ap (λ (l : List ℕ). take i text ++ take (suc m) l) rest_is

    pub bad_place : IsLongestFront text i
    bad_place = record {
      within = omega arith;
      begins = reached_begins (take i text) i p f so_far;
      longest = λ n above le begins.
          let front = longer n above (n - i - 1) (omega arith) in
          differ (ends_begun (walked (take n text ++ begins.0)))
          (ap ends_begun (ap (λ (l : List ℕ). walked (l ++ begins.0)) front ∙ ap walked (append_assoc (take i text) (b ∷ take (n - i - 1) (drop (i + 1) text)) begins.0) ∙ refused (take (n - i - 1) (drop (i + 1) text) ++ begins.0)))
          (version_walks (take n text ++ begins.0) begins.1);
    }

found_by : Option (Place × Found) → Found → Found
found_by None f = f
found_by (Some w) f = w.1

pub same_found : (a b : Place) (x y : Found) → ◌≡◌ {A = Option (Place × Found)} (Some (a, x)) (Some (b, y)) → x ≡ y
unfolding found_by
same_found a b x y e = ap (λ (w : Option (Place × Found)). found_by w x) e

-- at the end
module _ (text : List ℕ) (i : ℕ) (p : Place) (f : Found) (le : length text ≤ i) (so_far : Reaches (take i text) i p f) where
  pub end_walked : walked text ≡ Some (p, f)
  end_walked = ap walked (sym (take_all i text le) ∙ sym (append-nil (take i text))) ∙ so_far []

  pub end_found : p.begun ≡ true → (q : Pieces) × IsMadeOf text q × (f ≡ found_of q)
  end_found begun =
      let v = walks_version text (ap ends_begun end_walked ∙ begun) in
      let w = found_in v.0 v.1.are in
      (v.0, v.1, same_found p (place w.0 true) f (found_of v.0) (sym end_walked ∙ ap walked v.1.spelled ∙ w.1))

  pub end_not_version : p.begun ≡ false → IsVersionText text → ⊥
  end_not_version open_ v = differ (ends_begun (walked text)) (ap ends_begun end_walked ∙ open_) (version_walks text v)

  pub end_place : IsLongestFront text (length text)
  end_place = record {
    within = omega arith;
    begins = subst Begins (take_all i text le ∙ sym (take_all (length text) text (omega arith))) (reached_begins (take i text) i p f so_far);
    longest = λ n above le' begins. absurd (omega arith);
  }
