use Rattle.std.proofs.Common.{◌∷◌, ◌++◌, ℕ, List, Option, Some, None, IfNone, sym, ◌∙◌, subst}
use Rattle.std.specs.List.{Contains}
use Rattle.admin_wire.specs.Bodies.{BeginsNoLine}
use Rattle.admin_wire.proofs.Marks.{any_contains, none_lacks}
use Rattle.admin_wire.proofs.TwoWords.{line_found, split_line}
use Rattle.admin_wire.proofs.names.cut_line.Goals as goal

none_is : {A : Type 0} (o : Option A) (P : Type 0) → P → IfNone o P
none_is None P p = p
none_is (Some x) P p = tt

pub returns-in_err-line-clause-none : goal.returns-in_err-line-clause-none
returns-in_err-line-clause-none c = none_is c.from_residual.result (BeginsNoLine c.args.bytes.now) (λ front back id version e l.
    let s = split_line c.args.bytes.now front back id version e l in
    c.in_err-line.ensures.first (id ++ (32 ∷ version)) back s.lacks s.at)

pub returns-in_err-id-clause-none : goal.returns-in_err-id-clause-none
returns-in_err-id-clause-none c = none_is c.from_residual-in_err-id.result (BeginsNoLine c.args.bytes.now) (λ front back id version e l.
    let s = split_line c.args.bytes.now front back id version e l in
    let line = c.in_ok-line.ensures.first (id ++ (32 ∷ version)) back s.lacks s.at in
    c.in_err-id.ensures.first id version s.id_lacks line.0)

pub returns-then-contains-clause-none : goal.returns-then-contains-clause-none
returns-then-contains-clause-none c = λ front back id version e l.
    let s = split_line c.args.bytes.now front back id version e l in
    let line = c.in_ok-line.ensures.first (id ++ (32 ∷ version)) back s.lacks s.at in
    let words = c.in_ok-id.ensures.first id version s.id_lacks line.0 in
    let more : Contains c.in_ok-id.version.now 32 = any_contains 32 c.in_ok-id.version.now (sym c.contains.ensures.value ∙ c.if-contains.true) in
    s.version_lacks (subst (λ (t : List ℕ). Contains t 32) words.1 more)

pub returns-clause-found : goal.returns-clause-found
returns-clause-found c =
    line_found c.args.bytes.now c.in_ok-line.line.now c.in_ok-line.rest.now c.in_ok-id.id.now c.in_ok-id.version.now
    c.in_ok-line.ensures.found c.in_ok-id.ensures.found c.in_ok-line.ensures.free c.in_ok-id.ensures.free
    (none_lacks 32 c.in_ok-id.version.now (sym c.contains.ensures.value ∙ c.if-contains.false))
