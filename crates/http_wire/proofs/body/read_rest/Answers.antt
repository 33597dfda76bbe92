use Rattle.std.proofs.Common.{◌≤◌, ◌+◌, ℕ, List, Option, length, take, sym, ap, subst, ◌∙◌, arith}
use Rattle.std.proofs.lemmas.List.{length-take-le}
use Rattle.http_wire.specs.Reading.{IsEndOf, unread}
use Rattle.http_wire.proofs.BodyLemmas.{ends_short}
use Rattle.http_wire.proofs.EndLemmas.{rest_end, rest_same}
use Rattle.http_wire.proofs.body.read_rest.Goals as goal

-- the front is no shorter than at the start
longer : (room first : List ℕ) (from at : ℕ) → from ≤ at → at ≤ length room → from ≤ length first → length (take from first) ≤ length (take at room)
longer room first from at low high within = omega (arith, length-take-le at room high, length-take-le from first within, low)

pub returns-in_err-make_room-clause-rest : goal.returns-in_err-make_room-clause-rest
returns-in_err-make_room-clause-rest g c =
    rest_end (take c.reads.at c.reads.room.items) (take c.args.from c.args.room.now.items) _ _ c.reads.invariant.told (longer c.reads.room.items c.args.room.now.items c.args.from c.reads.at c.reads.invariant.low c.reads.invariant.high c.requires.front)

pub returns-in_err-n-clause-rest : goal.returns-in_err-n-clause-rest
returns-in_err-n-clause-rest g c =
    let end = rest_end (take c.reads.at c.reads.room.items) (take c.args.from c.args.room.now.items) _ _ c.reads.invariant.told (longer c.reads.room.items c.args.room.now.items c.args.from c.reads.at c.reads.invariant.low c.reads.invariant.high c.requires.front) in
    subst (λ (o : Option (List ℕ)). IsEndOf (g.L.Link.left c.args.link.now) o) (sym c.in_err-n.ensures.reads.1) end

pub returns-then-n-eq0-clause-short : goal.returns-then-n-eq0-clause-short
returns-then-n-eq0-clause-short g c _ =
    ends_short (take c.reads.at c.reads.room.items) (take c.args.from c.args.room.now.items) _ _ c.args.from c.reads.at _ c.reads.invariant.told
    (c.in_ok-n.ensures.reads.ended c.if-n-eq0.true)
    (length-take-le c.reads.at c.reads.room.items c.reads.invariant.high)
    (length-take-le c.args.from c.args.room.now.items c.requires.front)
    (omega (arith, c.reads-test.true))

pub returns-clause-rest : goal.returns-clause-rest
returns-clause-rest g c =
    rest_end (take c.reads.at c.reads.room.items) (take c.args.from c.args.room.now.items) _ _ c.reads.invariant.told (longer c.reads.room.items c.args.room.now.items c.args.from c.reads.at c.reads.invariant.low c.reads.invariant.high c.requires.front)

pub returns-clause-idle : goal.returns-clause-idle
returns-clause-idle g c e =
    rest_same (take c.reads.at c.reads.room.items) (take c.args.from c.args.room.now.items) _ _ c.reads.invariant.told
    (omega (arith, e, c.reads.invariant.low, c.reads.invariant.high, c.reads.invariant.size, length-take-le c.reads.at c.reads.room.items c.reads.invariant.high, length-take-le c.args.from c.args.room.now.items c.requires.front))

pub returns-then-n-eq0-clause-rest : goal.returns-then-n-eq0-clause-rest
returns-then-n-eq0-clause-rest g c =
    let told =
    c.in_ok-n.ensures.reads.told
    ∙ ap (λ (xs : List ℕ). unread (take c.reads.at xs) (g.L.Link.left c.reads.link)) c.deref_mut.ensures.value
    ∙ ap (λ (xs : List ℕ). unread xs (g.L.Link.left c.reads.link)) c.in_ok-make_room.ensures.front
    ∙ c.reads.invariant.told in
    rest_end (take (c.reads.at + c.in_ok-n.n) c.read_at.new.room) (take c.args.from c.args.room.now.items) _ _ told
    (longer c.read_at.new.room c.args.room.now.items c.args.from (c.reads.at + c.in_ok-n.n) (omega (arith, c.reads.invariant.low)) c.in_ok-n.ensures.reads.within c.requires.front)
