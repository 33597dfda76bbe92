use Rattle.std.proofs.Common.{◌≡◌, List, ℕ, length, sym, subst, ap, ◌∙◌, arith}
use Rattle.http_wire.specs.Lines.{blank, head_span}
use Rattle.http_wire.specs.Reading.{carried}
use Rattle.http_wire.specs.Scanned.{IsScanned}
use Rattle.http_wire.specs.declared.request.WireErr.TheVariants.{Closed, Bad}
use Rattle.http_wire.proofs.AskLemmas.{says_closed, says_cut, says_end, says_full}
use Rattle.http_wire.proofs.ScanLemmas.{scanned_more}
use Rattle.http_wire.proofs.reading.find_head.Goals as goal

pub returns-then-at_hand-eq-MOST_HEAD-clause-refused : goal.returns-then-at_hand-eq-MOST_HEAD-clause-refused
returns-then-at_hand-eq-MOST_HEAD-clause-refused g c =
    says_full (carried c.reads.wire) _ _ c.reads.invariant.told
    (ap length (sym c.carried-at_hand.ensures.is) ∙ c.if-at_hand-eq-MOST_HEAD.true)
    (ap head_span (sym c.carried.ensures.is) ∙ c.in_default.ensures.none)

pub returns-then-scan-at_hand-clause-refused : goal.returns-then-scan-at_hand-clause-refused
returns-then-scan-at_hand-clause-refused g c =
    let long : length c.carried-at_hand.result.now ≡ length (carried c.reads.wire) = ap length c.carried-at_hand.ensures.is in
    says_end (carried c.reads.wire) _ _ Closed c.reads.invariant.told (c.in_ok-fill.ensures.ended c.if-branch-eq0.true)
    (says_closed (carried c.reads.wire) c.look.new.self.skipped
    (omega (arith, long, c.carried-at_hand.ensures.most, c.if-at_hand-eq-MOST_HEAD.false))
    (ap head_span (sym c.carried.ensures.is) ∙ c.in_default.ensures.none)
    (c.in_default.ensures.blank ∙ ap blank c.carried.ensures.is)
    (c.if-scan-at_hand.true ∙ long))

pub returns-then-branch-eq0-clause-refused : goal.returns-then-branch-eq0-clause-refused
returns-then-branch-eq0-clause-refused g c =
    let long : length c.carried-at_hand.result.now ≡ length (carried c.reads.wire) = ap length c.carried-at_hand.ensures.is in
    says_end (carried c.reads.wire) _ _ (Bad 400) c.reads.invariant.told (c.in_ok-fill.ensures.ended c.if-branch-eq0.true)
    (says_cut (carried c.reads.wire) c.look.new.self.skipped
    (omega (arith, long, c.carried-at_hand.ensures.most, c.if-at_hand-eq-MOST_HEAD.false))
    (ap head_span (sym c.carried.ensures.is) ∙ c.in_default.ensures.none)
    (c.in_default.ensures.blank ∙ ap blank c.carried.ensures.is)
    (λ e. c.if-scan-at_hand.false (e ∙ sym long)))

pub reads-preserved : goal.reads-preserved
reads-preserved g c =
    let grown = c.in_ok-fill.ensures.grown in
    let was = subst (λ (xs : List ℕ). IsScanned xs c.look.new.self.skipped c.look.new.self.looked) c.carried.ensures.is c.in_default.ensures.scanned in
    record {
      scanned = subst (λ (xs : List ℕ). IsScanned xs c.look.new.self.skipped c.look.new.self.looked) (sym grown.1) (scanned_more (carried c.reads.wire) grown.0 c.look.new.self.skipped c.look.new.self.looked was);
      told = c.in_ok-fill.ensures.told ∙ c.reads.invariant.told;
      faults = c.in_ok-fill.ensures.counted.kept (λ no. let none : ⊥ = cc in none) ∙ c.reads.invariant.faults;
      written = c.in_ok-fill.ensures.same_written ∙ c.reads.invariant.written;
      write_faults = c.in_ok-fill.ensures.same_write_faults ∙ c.reads.invariant.write_faults;
    }
