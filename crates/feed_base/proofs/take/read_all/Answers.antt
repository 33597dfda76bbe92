use Rattle.std.proofs.Common.{◌≡◌, ◌++◌, ◌+◌, take, List, ℕ, length, arith, sym, subst, ap, ◌∙◌, IfSome, length-append}
use Rattle.std.proofs.lemmas.List.{length-take-le}
use Rattle.std.proofs.lemmas.Grind.{common_steps}
use Rattle.feed_base.proofs.Taken.{taken_more, taken_all, taken_end}
use Rattle.feed_base.proofs.take.read_all.Goals as goal

pub returns-then-n-eq0-clause-all : goal.returns-then-n-eq0-clause-all
returns-then-n-eq0-clause-all g c =
    let all = taken_all _ _ _ _ c.in_ok-n.n c.pieces.taken.items c.read.new.buffer c.pieces.invariant.told c.in_ok-n.ensures.reads c.if-n-eq0.true in
    subst (λ (l : List ℕ). IfSome (g.S.Source.left c.args.source.now) (λ bytes. l ≡ bytes)) (sym c.of.ensures) all

pub returns-then-n-eq0-clause-ended : goal.returns-then-n-eq0-clause-ended
returns-then-n-eq0-clause-ended g c =
    taken_end _ _ _ _ c.in_ok-n.n c.pieces.taken.items c.read.new.buffer c.pieces.invariant.told c.in_ok-n.ensures.reads c.if-n-eq0.true

pub pieces-preserved : goal.pieces-preserved
pieces-preserved g c =
    let n : ℕ = c.in_ok-n.n in
    let before : List ℕ = c.pieces.taken.items in
    let grown : c.extend_from_slice.new.self.items ≡ before ++ take n c.read.new.buffer = grind (arith, common_steps) in
    let longer : length c.extend_from_slice.new.self.items ≡ length before + n =
    ap length grown ∙ length-append before (take n c.read.new.buffer) ∙ ap (λ (k : ℕ). length before + k) (length-take-le n c.read.new.buffer c.in_ok-n.ensures.within) in
    let told = taken_more _ _ _ _ n before c.read.new.buffer c.pieces.invariant.told c.in_ok-n.ensures.reads in
    record {
      told = rw (longer, grown) told;
      size = omega (arith, longer, c.pieces.invariant.size, c.if-n-limit.false, c.len-in-pieces.ensures);
      faults = c.in_ok-n.ensures.counted.kept (λ no. let none : ⊥ = cc in none) ∙ c.pieces.invariant.faults;
    }
