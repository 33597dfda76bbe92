use Rattle.std.proofs.Common.{◌≡◌, List, ℕ, sym, ◌∙◌, arith}
use Rattle.nuget_version.specs.Grammar.{IsMadeOf, Pieces}
use Rattle.nuget_version.proofs.Fields.{fields_of, same_as, spelled_small}
use Rattle.nuget_version.proofs.parse.checked.Goals as goal

-- the same of an equal text
moved : (text bytes : List ℕ) (p : Pieces) → bytes ≡ text → IsMadeOf bytes p → IsMadeOf text p
moved text bytes p same made = record { are = made.are; spelled = sym same ∙ made.spelled }

pub returns-in-Some-clause-refused : goal.returns-in-Some-clause-refused
returns-in-Some-clause-refused c =
    let w = c.in-Ok.ensures.found in
    let made = moved c.args.text.now c.as_bytes.result.now w.0 c.as_bytes.ensures.value w.1 in
    let q = fields_of c.args.text.now c.in-Ok.found w.0 made w.2 in
    (w.0, made, omega arith, sym q.big ∙ sym c.too_big.ensures ∙ c.in-Some.is)

pub returns-in-Some-clause-none : goal.returns-in-Some-clause-none
returns-in-Some-clause-none c = λ v spelled.
    let w = c.in-Ok.ensures.found in
    let made = moved c.args.text.now c.as_bytes.result.now w.0 c.as_bytes.ensures.value w.1 in
    let none = spelled_small c.args.text.now c.in-Ok.found v (same_as c.args.text.now c.in-Ok.found w.0 made w.2 v spelled) in
    cc (none, c.too_big.ensures, c.in-Some.is)

pub returns-in-None-clause-found : goal.returns-in-None-clause-found
returns-in-None-clause-found c =
    let w = c.in-Ok.ensures.found in
    let made = moved c.args.text.now c.as_bytes.result.now w.0 c.as_bytes.ensures.value w.1 in
    let q = fields_of c.args.text.now c.in-Ok.found w.0 made w.2 in
    record {
      pieces = w.0;
      made = made;
      found = w.2;
      small = sym q.big ∙ sym c.too_big.ensures ∙ c.in-None.is;
      short = omega arith;
    }
