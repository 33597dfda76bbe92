-- Why a form is refused.
use Rattle.std.proofs.Common.{◌≡◌, ◌<◌, ◌+◌, ◌==◌, ℕ, List, length, Bool, false, Option, inl, inr, refl, ap, ap₂, ◌∙◌, subst, arith}
use Rattle.std.proofs.lemmas.Bool.Decides.{nat_tests}
use Rattle.nuget_version.specs.Grammar.{Spells}
use Rattle.nuget_version.specs.declared.version.Version.{Version}
use Rattle.nuget_version.specs.declared.errors.VersionErr.{VersionErr}
use Rattle.version_range.specs.Cuts.{trimmed, lead}
use Rattle.version_range.specs.Form.{Piece, piece_at, piece}
use Rattle.version_range.specs.Steps.{IsEnd, IsBadBound, IsBadEnd, AreBadEnds, bound_error_of}
use Rattle.version_range.specs.declared.error.RangeErr.{RangeErr}
use Rattle.version_range.specs.declared.error.RangeErr.TheVariants.{Floating, BadBound, BadByte, Inverted, Memory}

pub bad_bound : (core : List ℕ) (at : ℕ) (e : VersionErr) → ((v : Version) → Spells core v → e ≡ VersionErr.Memory) → IsBadBound (piece_at at core) (bound_error_of e at)
bad_bound core at VersionErr.Memory only = tt
bad_bound core at VersionErr.Empty only = (refl, λ v spelled. let impossible : VersionErr.Empty ≡ VersionErr.Memory = only v spelled in cc)
bad_bound core at (VersionErr.TooLong n) only = (refl, λ v spelled. let impossible : VersionErr.TooLong n ≡ VersionErr.Memory = only v spelled in cc)
bad_bound core at (VersionErr.BadByte n) only = (refl, λ v spelled. let impossible : VersionErr.BadByte n ≡ VersionErr.Memory = only v spelled in cc)
bad_bound core at (VersionErr.NumberTooBig n) only = (refl, λ v spelled. let impossible : VersionErr.NumberTooBig n ≡ VersionErr.Memory = only v spelled in cc)

pub bad_left : (low_in high_in : Bool) (left right : Piece) (e : RangeErr) → IsBadEnd left e → AreBadEnds low_in left right high_in e
bad_left low_in high_in left right Memory bad = tt
bad_left low_in high_in left right (BadBound at) bad = inl bad
bad_left low_in high_in left right (Floating at) bad = absurd bad
bad_left low_in high_in left right (BadByte at) bad = absurd bad
bad_left low_in high_in left right Inverted bad = absurd bad

pub bad_right : (low_in high_in : Bool) (left right : Piece) (low : Option Version) → IsEnd left.text low → (e : RangeErr) → IsBadEnd right e → AreBadEnds low_in left right high_in e
bad_right low_in high_in left right low is Memory bad = tt
bad_right low_in high_in left right low is (BadBound at) bad = inr (bad.0, (low, is), bad.1)
bad_right low_in high_in left right low is (Floating at) bad = absurd bad
bad_right low_in high_in left right low is (BadByte at) bad = absurd bad
bad_right low_in high_in left right low is Inverted bad = absurd bad

filled_from : (n : ℕ) → n == 0 ≡ false → 0 < n
filled_from n filled = grind (arith, nat_tests)

pub bad_end : (p : Piece) (e : RangeErr) → 0 < length p.text → IsBadBound p e → IsBadEnd p e
bad_end p Memory filled bad = tt
bad_end p (BadBound at) filled bad = (bad.0, (filled, bad.1))
bad_end p (Floating at) filled bad = absurd bad
bad_end p (BadByte at) filled bad = absurd bad
bad_end p Inverted filled bad = absurd bad

pub bad_end_of : (text core : List ℕ) (at lead_at place : ℕ) (e : RangeErr) → core ≡ trimmed text → place ≡ lead text → lead_at ≡ at + place → length core == 0 ≡ false
    → IsBadBound (piece_at lead_at core) e → IsBadEnd (piece at text) e
bad_end_of text core at lead_at place e core_is place_is at_is filled bad =
    let is : piece_at lead_at core ≡ piece at text = ap₂ piece_at (at_is ∙ ap (λ (n : ℕ). at + n) place_is) core_is in
    let some : 0 < length core = filled_from (length core) filled in
    subst (λ (p : Piece). IsBadEnd p e) is (bad_end (piece_at lead_at core) e some bad)
