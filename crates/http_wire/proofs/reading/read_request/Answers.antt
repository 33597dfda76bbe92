use Rattle.std.proofs.Common.{◌≤◌, List, ℕ, length, slice_range, subst, ap, ◌∙◌, arith, IfSome}
use Rattle.std.proofs.lemmas.Result.{err_from_is_err_and}
use Rattle.http_wire.specs.Reading.{IsEndOf}
use Rattle.http_wire.specs.Heads.{IsHeadOf, RefusesHead}
use Rattle.http_wire.specs.Reading.{IsBodyErr, carried, unread}
use Rattle.http_wire.proofs.AnswerLemmas.{body_says, head_says, request_first}
use Rattle.http_wire.proofs.EndLemmas.{end_behind}
use Rattle.http_wire.proofs.reading.read_request.Goals as goal

pub returns-in_err-head-clause-answers : goal.returns-in_err-head-clause-answers
returns-in_err-head-clause-answers g c =
    let p = err_from_is_err_and c.from_residual-in_err-head.result c.from_residual-in_err-head.ensures.1 in
    let now : List ℕ = carried c.find_head.new.wire in
    let within : length now ≤ 16384 = omega (arith, ap length c.carried.ensures.is, c.carried.ensures.most) in
    let refused = subst (λ (xs : List ℕ). RefusesHead (slice_range xs c.in_ok-start.start c.in_ok-start.end) c.in_err-head.field-0.0) c.carried.ensures.is c.in_err-head.ensures.refused in
    rw (p.1, p.2) (head_says now _ _ c.in_ok-start.start c.in_ok-start.end c.in_ok-start.ensures.told within c.in_ok-start.ensures.found c.in_err-head.field-0.0 refused)

pub returns-in_err-body-clause-answers : goal.returns-in_err-body-clause-answers
returns-in_err-body-clause-answers g c =
    let p = err_from_is_err_and c.from_residual-in_err-body.result c.from_residual-in_err-body.ensures.1 in
    let now : List ℕ = carried c.find_head.new.wire in
    let within : length now ≤ 16384 = omega (arith, ap length c.carried.ensures.is, c.carried.ensures.most) in
    let head = subst (λ (xs : List ℕ). IsHeadOf (slice_range xs c.in_ok-start.start c.in_ok-start.end) c.in_ok-head.head) c.carried.ensures.is c.in_ok-head.ensures.found in
    let refused = subst (λ (xs : List ℕ). IfSome (unread xs (g.L.Link.left c.find_head.new.link)) (λ bytes. IsBodyErr bytes c.in_ok-head.head.length c.in_err-body.field-0.0)) c.advance.ensures c.in_err-body.ensures.refused in
    rw (p.1, p.2) (body_says now _ _ c.in_ok-start.start c.in_ok-start.end c.in_ok-start.ensures.told within c.in_ok-start.ensures.found c.in_ok-head.head c.in_err-body.field-0.0 head refused)

pub returns-clause-answers : goal.returns-clause-answers
returns-clause-answers g c =
    let now : List ℕ = carried c.find_head.new.wire in
    let within : length now ≤ 16384 = omega (arith, ap length c.carried.ensures.is, c.carried.ensures.most) in
    let head = subst (λ (xs : List ℕ). IsHeadOf (slice_range xs c.in_ok-start.start c.in_ok-start.end) c.in_ok-head.head) c.carried.ensures.is c.in_ok-head.ensures.found in
    request_first now _ _ c.in_ok-start.start c.in_ok-start.end c.in_ok-start.ensures.told within c.in_ok-start.ensures.found
    c.in_ok-head.head c.in_ok-body.body _ head c.in_ok-body.ensures.size
    (c.in_ok-body.ensures.whole ∙ ap (λ (xs : List ℕ). unread xs (g.L.Link.left c.find_head.new.link)) c.advance.ensures)

pub returns-in_err-body-clause-rest : goal.returns-in_err-body-clause-rest
returns-in_err-body-clause-rest g c =
    let end = subst (λ (xs : List ℕ). IsEndOf (unread xs (g.L.Link.left c.find_head.new.link)) (unread (carried c.read_body.new.wire) (g.L.Link.left c.read_body.new.link))) c.advance.ensures c.in_err-body.ensures.rest in
    end_behind (carried c.find_head.new.wire) _ _ _ c.in_ok-start.end c.in_ok-start.ensures.told c.in_ok-start.ensures.found.high end

pub returns-clause-rest : goal.returns-clause-rest
returns-clause-rest g c =
    let end = subst (λ (xs : List ℕ). IsEndOf (unread xs (g.L.Link.left c.find_head.new.link)) (unread (carried c.read_body.new.wire) (g.L.Link.left c.read_body.new.link))) c.advance.ensures c.in_ok-body.ensures.rest in
    end_behind (carried c.find_head.new.wire) _ _ _ c.in_ok-start.end c.in_ok-start.ensures.told c.in_ok-start.ensures.found.high end
