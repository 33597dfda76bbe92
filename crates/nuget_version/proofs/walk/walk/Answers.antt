use Rattle.std.proofs.Common.{◌<◌, ◌+◌, ℕ, length, get_or, refl, sym, ◌∙◌, subst, arith}
use Rattle.std.specs.Prelude.{nat_lt}
use Rattle.std.proofs.lemmas.Bool.{le-ltb, lt-ltb}
use Rattle.nuget_version.specs.Grammar.{IsLongestFront}
use Rattle.nuget_version.specs.Walk.{place}
use Rattle.nuget_version.proofs.Fronts.{bad_place, end_found, end_not_version, end_place, not_version}
use Rattle.nuget_version.proofs.Pieces.{mark_step, piece_inside, piece_step, piece_stops}
use Rattle.nuget_version.proofs.walk.walk.Goals as goal

pub returns-then-begun-clause-found : goal.returns-then-begun-clause-found
returns-then-begun-clause-found c =
    let text = c.args.text.now in
    let at = c.loop-at.at in
    let s = c.loop-at.stage in
    let n = c.read_piece-len.result in
    let found = c.read_piece-len.new.self in
    let r = c.read_piece-len.ensures in
    let inside = piece_inside text at s c.loop-at.found found n c.loop-at.invariant.within r.within in
    let reaches = piece_step text at s c.loop-at.found found n c.loop-at.invariant.within r.within c.loop-at.invariant.reaches r.bytes r.found in
    end_found text (at + n) (place s (nat_lt 0 n)) found (omega arith) reaches (lt-ltb 0 n c.if-begun.true)

pub returns-else-begun-clause-not_version : goal.returns-else-begun-clause-not_version
returns-else-begun-clause-not_version c =
    let text = c.args.text.now in
    let at = c.loop-at.at in
    let s = c.loop-at.stage in
    let n = c.read_piece-len.result in
    let found = c.read_piece-len.new.self in
    let r = c.read_piece-len.ensures in
    let inside = piece_inside text at s c.loop-at.found found n c.loop-at.invariant.within r.within in
    let reaches = piece_step text at s c.loop-at.found found n c.loop-at.invariant.within r.within c.loop-at.invariant.reaches r.bytes r.found in
    end_not_version text (at + n) (place s (nat_lt 0 n)) found (omega arith) reaches (le-ltb 0 n c.if-begun.false)

pub returns-else-begun-clause-place : goal.returns-else-begun-clause-place
returns-else-begun-clause-place c =
    let text = c.args.text.now in
    let at = c.loop-at.at in
    let s = c.loop-at.stage in
    let n = c.read_piece-len.result in
    let found = c.read_piece-len.new.self in
    let r = c.read_piece-len.ensures in
    let inside = piece_inside text at s c.loop-at.found found n c.loop-at.invariant.within r.within in
    let reaches = piece_step text at s c.loop-at.found found n c.loop-at.invariant.within r.within c.loop-at.invariant.reaches r.bytes r.found in
    subst (λ (k : ℕ). IsLongestFront text k) (sym c.if-at-text.true) (end_place text (at + n) (place s (nat_lt 0 n)) found (omega arith) reaches)

pub returns-in_default-clause-not_version : goal.returns-in_default-clause-not_version
returns-in_default-clause-not_version c =
    let text = c.args.text.now in
    let at = c.loop-at.at in
    let s = c.loop-at.stage in
    let n = c.read_piece-len.result in
    let found = c.read_piece-len.new.self in
    let r = c.read_piece-len.ensures in
    let inside = piece_inside text at s c.loop-at.found found n c.loop-at.invariant.within r.within in
    let reaches = piece_step text at s c.loop-at.found found n c.loop-at.invariant.within r.within c.loop-at.invariant.reaches r.bytes r.found in
    let lt : at + n < length text = omega (arith, inside) in
    not_version text (at + n) (place s (nat_lt 0 n)) found (get_or text (at + n) 0) lt refl reaches (sym c.next.ensures ∙ c.in_default.is)

pub returns-in_default-clause-place : goal.returns-in_default-clause-place
returns-in_default-clause-place c =
    let text = c.args.text.now in
    let at = c.loop-at.at in
    let s = c.loop-at.stage in
    let n = c.read_piece-len.result in
    let found = c.read_piece-len.new.self in
    let r = c.read_piece-len.ensures in
    let inside = piece_inside text at s c.loop-at.found found n c.loop-at.invariant.within r.within in
    let reaches = piece_step text at s c.loop-at.found found n c.loop-at.invariant.within r.within c.loop-at.invariant.reaches r.bytes r.found in
    let lt : at + n < length text = omega (arith, inside) in
    bad_place text (at + n) (place s (nat_lt 0 n)) found (get_or text (at + n) 0) lt refl reaches (sym c.next.ensures ∙ c.in_default.is)

pub loop-at-preserved : goal.loop-at-preserved
loop-at-preserved c =
    let text = c.args.text.now in
    let at = c.loop-at.at in
    let s = c.loop-at.stage in
    let n = c.read_piece-len.result in
    let found = c.read_piece-len.new.self in
    let r = c.read_piece-len.ensures in
    let inside = piece_inside text at s c.loop-at.found found n c.loop-at.invariant.within r.within in
    let reaches = piece_step text at s c.loop-at.found found n c.loop-at.invariant.within r.within c.loop-at.invariant.reaches r.bytes r.found in
    let lt : at + n < length text = omega (arith, inside) in
    let stops = piece_stops text at s c.loop-at.found found n c.loop-at.invariant.within r.within r.stops lt in
    record {
      within = omega arith;
      reaches = rw c.note_mark.ensures (mark_step text (at + n) (place s (nat_lt 0 n)) found (get_or text (at + n) 0) lt refl reaches c.in-Some.next stops (sym c.next.ensures ∙ c.in-Some.is));
    }
