use Rattle.std.proofs.Common.{◌∷◌, ◌++◌, ℕ, List, arith}
use Rattle.std.specs.Fmt.{decimal}
use Rattle.admin_wire.specs.declared.header.Lengths.{Lengths}
use Rattle.admin_wire.proofs.Headers.{none_some, same_lengths}
use Rattle.admin_wire.proofs.Marks.{lacks_decimal}
use Rattle.admin_wire.proofs.header.three_numbers.Goals as goal

abbrev behind_first : Lengths → List ℕ
behind_first l = decimal l.nuspec ++ (32 ∷ decimal l.nupkg)

pub returns-in_err-first : goal.returns-in_err-first
returns-in_err-first c = λ l a b d e.
    absurd (c.in_err-first.ensures.first (decimal l.meta) (behind_first l) (lacks_decimal 32 l.meta (omega arith) (omega arith)) e)

pub returns-in_err-second : goal.returns-in_err-second
returns-in_err-second c = λ l a b d e.
    let h = c.in_ok-first.ensures.first (decimal l.meta) (behind_first l) (lacks_decimal 32 l.meta (omega arith) (omega arith)) e in
    absurd (c.in_err-second.ensures.first (decimal l.nuspec) (decimal l.nupkg) (lacks_decimal 32 l.nuspec (omega arith) (omega arith)) h.1)

pub returns-in_err-meta : goal.returns-in_err-meta
returns-in_err-meta c = λ l a b d e.
    let h = c.in_ok-first.ensures.first (decimal l.meta) (behind_first l) (lacks_decimal 32 l.meta (omega arith) (omega arith)) e in
    absurd (none_some l.meta (c.in_err-meta.ensures l.meta a h.0))

pub returns-in_err-nuspec : goal.returns-in_err-nuspec
returns-in_err-nuspec c = λ l a b d e.
    let h = c.in_ok-first.ensures.first (decimal l.meta) (behind_first l) (lacks_decimal 32 l.meta (omega arith) (omega arith)) e in
    let k = c.in_ok-second.ensures.first (decimal l.nuspec) (decimal l.nupkg) (lacks_decimal 32 l.nuspec (omega arith) (omega arith)) h.1 in
    absurd (none_some l.nuspec (c.in_err-nuspec.ensures l.nuspec b k.0))

pub returns-in_err-nupkg : goal.returns-in_err-nupkg
returns-in_err-nupkg c = λ l a b d e.
    let h = c.in_ok-first.ensures.first (decimal l.meta) (behind_first l) (lacks_decimal 32 l.meta (omega arith) (omega arith)) e in
    let k = c.in_ok-second.ensures.first (decimal l.nuspec) (decimal l.nupkg) (lacks_decimal 32 l.nuspec (omega arith) (omega arith)) h.1 in
    absurd (none_some l.nupkg (c.in_err-nupkg.ensures l.nupkg d k.1))

pub returns : goal.returns
returns c = λ l a b d e.
    let h = c.in_ok-first.ensures.first (decimal l.meta) (behind_first l) (lacks_decimal 32 l.meta (omega arith) (omega arith)) e in
    let k = c.in_ok-second.ensures.first (decimal l.nuspec) (decimal l.nupkg) (lacks_decimal 32 l.nuspec (omega arith) (omega arith)) h.1 in
    same_lengths c.in_ok-meta.meta c.in_ok-nuspec.nuspec c.in_ok-nupkg.nupkg l (c.in_ok-meta.ensures l.meta a h.0) (c.in_ok-nuspec.ensures l.nuspec b k.0)
    (c.in_ok-nupkg.ensures l.nupkg d k.1)
