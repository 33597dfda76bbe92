use Rattle.std.proofs.Common.{◌≡◌, ◌≤◌, ◌++◌, List, ℕ, [], length, take, Bool, true, false, cond, sym, ap, ◌∙◌}
use Rattle.std.proofs.lemmas.List.{take_all, append-nil}
use Rattle.http_wire.proofs.wire_in.grow.Goals as goal

-- whether it grew or not, the bytes are at its front
kept : (done : Bool) (old new more : List ℕ) (n : ℕ) → length old ≤ n → new ≡ cond done (take n old ++ more) old → (x : List ℕ) × (new ≡ old ++ x)
kept true old new more n within is = (more, is ∙ ap (λ (xs : List ℕ). xs ++ more) (take_all n old within))
kept false old new more n within is = ([], is ∙ sym (append-nil old))

pub returns-clause-kept : goal.returns-clause-kept
returns-clause-kept c = kept _ c.args.bytes.now.items c.resize.new.self.items _ 16384 c.requires c.resize.ensures.items
