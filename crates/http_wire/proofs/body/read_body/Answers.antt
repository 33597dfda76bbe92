use Rattle.std.proofs.Common.{◌≡◌, ◌≤◌, min, ℕ, List, length, ap, ◌∙◌, arith, rules}
use Rattle.http_wire.specs.Reading.{carried, unread}
use Rattle.http_wire.proofs.BodyLemmas.{whole_body}
use Rattle.http_wire.proofs.EndLemmas.{room_rest}
use Rattle.http_wire.proofs.body.read_body.Goals as goal

-- what finds room at first is what the body takes of the bytes at hand
count_is : (n room size at_hand : ℕ) → n ≡ min room at_hand → room ≡ min size 16384 → at_hand ≤ 16384 → n ≡ min size at_hand
count_is n room size at_hand count is most = omega (arith, count, is, most)

pub returns-in_err-read_rest-clause-rest : goal.returns-in_err-read_rest-clause-rest
returns-in_err-read_rest-clause-rest g c =
    let first = c.take_carried-first in
    let long : length c.in_ok-body.body.items ≡ min c.args.size 16384 = search (rules, c.in_ok-body.ensures.items, c.in_ok-body.ensures.len, c.min.ensures) in
    room_rest (carried c.args.wire.now) (carried first.new.wire) _ _ first.result c.args.size (count_is _ _ _ _ first.ensures.count long first.ensures.most) first.ensures.rest c.read_rest.ensures.rest c.read_rest.ensures.idle

pub returns-then-not-branch-clause-rest : goal.returns-then-not-branch-clause-rest
returns-then-not-branch-clause-rest g c =
    let first = c.take_carried-first in
    let long : length c.in_ok-body.body.items ≡ min c.args.size 16384 = search (rules, c.in_ok-body.ensures.items, c.in_ok-body.ensures.len, c.min.ensures) in
    room_rest (carried c.args.wire.now) (carried first.new.wire) _ _ first.result c.args.size (count_is _ _ _ _ first.ensures.count long first.ensures.most) first.ensures.rest c.read_rest.ensures.rest c.read_rest.ensures.idle

pub returns-clause-rest : goal.returns-clause-rest
returns-clause-rest g c =
    let first = c.take_carried-first in
    let long : length c.in_ok-body.body.items ≡ min c.args.size 16384 = search (rules, c.in_ok-body.ensures.items, c.in_ok-body.ensures.len, c.min.ensures) in
    room_rest (carried c.args.wire.now) (carried first.new.wire) _ _ first.result c.args.size (count_is _ _ _ _ first.ensures.count long first.ensures.most) first.ensures.rest c.read_rest.ensures.rest c.read_rest.ensures.idle

pub returns-clause-whole : goal.returns-clause-whole
returns-clause-whole g c =
    let first = c.take_carried-first in
    let long : length c.in_ok-body.body.items ≡ min c.args.size 16384 = search (rules, c.in_ok-body.ensures.items, c.in_ok-body.ensures.len, c.min.ensures) in
    let told = c.in_ok-read_rest.ensures.whole c.if-not-branch.false ∙ ap (λ (xs : List ℕ). unread xs (g.L.Link.left c.args.link.now)) first.ensures.front in
    ap (λ (xs : List ℕ). unread xs (unread (carried first.new.wire) (g.L.Link.left c.read_rest.new.link))) c.of.ensures
    ∙ whole_body (carried c.args.wire.now) c.read_rest.new.room.items (carried first.new.wire) _ _ first.result c.args.size (count_is _ _ _ _ first.ensures.count long first.ensures.most) (c.in_ok-read_rest.ensures.length c.if-not-branch.false) first.ensures.rest told
