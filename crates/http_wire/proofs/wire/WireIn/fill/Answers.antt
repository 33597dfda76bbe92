use Rattle.std.proofs.Common.{◌≡◌, ◌≤◌, ◌+◌, List, ℕ, length, take, slice_range, sym, subst, ap, ◌∙◌, arith}
use Rattle.std.proofs.lemmas.List.{with_items_is}
use Rattle.std.proofs.lemmas.Slice.{between_from_start}
use Rattle.http_wire.specs.Reading.{Grows}
use Rattle.http_wire.proofs.BufferLemmas.{front_grows}
use Rattle.http_wire.proofs.wire.WireIn.fill.Goals as goal

-- the piece at the front, seen as a range
from_front : (was items new after : List ℕ) (start end n : ℕ) → slice_range items start end ≡ was → start ≡ 0 → after ≡ new → end + n ≤ length new → take end new ≡ take end items → Grows was (slice_range after start (end + n)) n
from_front was items new after start end n carried none is within same =
    let front : take end items ≡ was = sym (between_from_start items end) ∙ ap (λ (k : ℕ). slice_range items k end) (sym none) ∙ carried in
    let now : take (end + n) new ≡ slice_range after start (end + n) = sym (between_from_start new (end + n)) ∙ ap (λ (xs : List ℕ). slice_range xs 0 (end + n)) (sym is) ∙ ap (λ (k : ℕ). slice_range after k (end + n)) (sym none) in
    subst (λ (xs : List ℕ). Grows was xs n) now (subst (λ (xs : List ℕ). Grows xs (take (end + n) new) n) front (front_grows items new end n within same))

pub returns-clause-grown : goal.returns-clause-grown
returns-clause-grown g c =
    from_front _ c.deref_mut.result.now c.read_at.new.room _ c.make_room.new.self.start c.make_room.new.self.end c.in_ok-n.n
    (ap (λ (xs : List ℕ). slice_range xs c.make_room.new.self.start c.make_room.new.self.end) c.deref_mut.ensures.value ∙ c.in_ok-make_room.ensures.same)
    c.in_ok-make_room.ensures.start
    (with_items_is c.make_room.new.self.bytes c.read_at.new.room (omega (arith, c.read_at.ensures.length, c.deref_mut.ensures.len)))
    c.in_ok-n.ensures.reads.within
    c.in_ok-n.ensures.reads.front
