use Rattle.std.proofs.Common.{◌≡◌, ◌∙◌, length, Some, sym}
use Rattle.admin_wire.proofs.Marks.{first_at, found_at, front_lacks, pieces_at}
use Rattle.admin_wire.proofs.cut.cut.Goals as goal

pub returns-in_err-at-clause-first : goal.returns-in_err-at-clause-first
returns-in_err-at-clause-first c = λ front back lacks e.
    let found : c.place_of.result ≡ Some (length front) = c.place_of.ensures ∙ first_at c.args.mark c.args.bytes.now front back lacks e in
    absurd (cc (found, c.in_err-at.was))

pub returns-clause-found : goal.returns-clause-found
returns-clause-found c = found_at c.args.mark c.in_ok-at.at c.args.bytes.now (sym c.place_of.ensures ∙ c.in_ok-at.was)

pub returns-clause-free : goal.returns-clause-free
returns-clause-free c = front_lacks c.args.mark c.in_ok-at.at c.args.bytes.now (sym c.place_of.ensures ∙ c.in_ok-at.was)

pub returns-clause-first : goal.returns-clause-first
returns-clause-first c = λ front back lacks e.
    let found : c.place_of.result ≡ Some (length front) = c.place_of.ensures ∙ first_at c.args.mark c.args.bytes.now front back lacks e in
    let at : c.in_ok-at.at ≡ length front = cc (found, c.in_ok-at.was) in
    pieces_at c.args.mark c.in_ok-at.at c.args.bytes.now front back e at
