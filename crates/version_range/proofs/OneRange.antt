-- A text has one range.
use Rattle.std.proofs.Common.{◌≡◌, List, ℕ, Bool, true, false, not, ◌||◌, ◌&&◌, is_some, Option, Some, None, sym, ◌∙◌, ap, subst}
use Rattle.std.proofs.Props.{props}
use Rattle.nuget_version.specs.declared.version.Version.{Version}
use Rattle.nuget_version.proofs.OneValue.{one_value}
use Rattle.version_range.specs.Form.{Form, starred, blank, bare, broken, single, double, form}
use Rattle.version_range.specs.Grammar.{HasEnds, SpellsRange}
use Rattle.version_range.specs.Order.{are_ordered}
use Rattle.version_range.specs.Steps.{IsReadAs}
use Rattle.version_range.specs.declared.range.VersionRange.{VersionRange}
use Rattle.version_range.proofs.Complete.{complete, one_end}

-- what a range's fields keep to
abbrev Kept : Option Version → Bool → Option Version → Bool → Type 0
Kept low low_in high high_in = (not low_in || is_some low ≡ true) × (not high_in || is_some high ≡ true) × (are_ordered low low_in high high_in ≡ true)

range_of : (low : Option Version) (low_in : Bool) (high : Option Version) (high_in : Bool) → Kept low low_in high high_in → VersionRange
range_of low low_in high high_in k = record {
  low = low;
  low_in = low_in;
  high = high;
  high_in = high_in;
  low_there = k.0;
  high_there = k.1;
  ordered = k.2;
}

kept_once : (low : Option Version) (low_in : Bool) (high : Option Version) (high_in : Bool) (k l : Kept low low_in high high_in) → k ≡ l
kept_once low low_in high high_in = hlevel props

abbrev Is : VersionRange → Option Version → Bool → Option Version → Bool → Type 0
Is r low low_in high high_in = (k : Kept low low_in high high_in) → range_of low low_in high high_in k ≡ r

is_own : (r : VersionRange) → Is r r.low r.low_in r.high r.high_in
unfolding range_of
is_own r k = ap (range_of r.low r.low_in r.high r.high_in) (kept_once r.low r.low_in r.high r.high_in k (r.low_there, r.high_there, r.ordered))

pub same_range : (r s : VersionRange) → s.low ≡ r.low → s.low_in ≡ r.low_in → s.high ≡ r.high → s.high_in ≡ r.high_in → r ≡ s
unfolding range_of
same_range r s a b c d =
    let one = subst (λ x. Is s x s.low_in s.high s.high_in) a (is_own s) in
    let two = subst (λ x. Is s r.low x s.high s.high_in) b one in
    let three = subst (λ x. Is s r.low r.low_in x s.high_in) c two in
    let four = subst (λ x. Is s r.low r.low_in r.high x) d three in
    four (r.low_there, r.high_there, r.ordered)

same_ends : (r s : VersionRange) (low : Option Version) (low_in : Bool) (high : Option Version) (high_in : Bool) → HasEnds r low low_in high high_in → HasEnds s low low_in high high_in → r ≡ s
same_ends r s low low_in high high_in h k =
    same_range r s (k.low_is ∙ sym h.low_is) (k.low_in_is ∙ sym h.low_in_is) (k.high_is ∙ sym h.high_is) (k.high_in_is ∙ sym h.high_in_is)

same_version : (r : VersionRange) (u v : Version) (low_in high_in : Bool) (high : Option Version → Option Version) → u ≡ v → HasEnds r (Some u) low_in (high (Some u)) high_in → HasEnds r (Some v) low_in (high (Some v)) high_in
same_version r u v low_in high_in high same = subst (λ (w : Version). HasEnds r (Some w) low_in (high (Some w)) high_in) same

read_once : (f : Form) (r s : VersionRange) → IsReadAs f r → IsReadAs f s → r ≡ s
read_once (starred at) r s one other = absurd one
read_once blank r s one other = same_ends r s None false None false one other
read_once (bare p) r s (u, spells, ends) (v, spells', ends') =
    same_ends r s (Some u) true None false ends (same_version s v u true false (λ (o : Option Version). None) (one_value p.text v u spells' spells) ends')
read_once (broken at) r s one other = absurd one
read_once (single p) r s (u, spells, ends) (v, spells', ends') =
    same_ends r s (Some u) true (Some u) true ends (same_version s v u true true (λ (o : Option Version). o) (one_value p.text v u spells' spells) ends')
read_once (double low_in left right high_in) r s one other =
    let low = one_end left.text s.low r.low other.0 one.0 in
    let high = one_end right.text s.high r.high other.1 one.1 in
    same_range r s low (other.2 ∙ ap (λ (o : Option Version). low_in && is_some o) low ∙ sym one.2) high (other.3 ∙ ap (λ (o : Option Version). high_in && is_some o) high ∙ sym one.3)

pub one_range : (text : List ℕ) (r s : VersionRange) → SpellsRange text r → SpellsRange text s → r ≡ s
one_range text r s one other = read_once (form text) r s (complete text r one) (complete text s other)
