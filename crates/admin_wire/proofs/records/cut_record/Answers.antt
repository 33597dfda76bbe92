use Rattle.std.proofs.Common.{◌≡◌, ◌<◌, ◌+◌, ◌++◌, ◌∙◌, List, ℕ, Option, Some, None, IfNone, length, sym}
use Rattle.feed_base.proofs.Options.{at_some, both_of}
use Rattle.admin_wire.specs.Bodies.{BeginsNoRecord, IsRecord}
use Rattle.admin_wire.specs.Cuts.{HaveLengths, IsHeader}
use Rattle.admin_wire.specs.declared.header.Lengths.{Lengths}
use Rattle.admin_wire.proofs.Headers.{header_of, is_header, lengths, none_some, parts_fit, record_found, record_lacks, record_line}
use Rattle.admin_wire.proofs.Marks.{some_same}
use Rattle.admin_wire.proofs.records.cut_record.Goals as goal

if_none : {A : Type 0} (o : Option A) (P Q : Type 0) → (P → Q) → IfNone o P → IfNone o Q
if_none None P Q to p = to p
if_none (Some x) P Q to p = tt

pub returns-in_default-clause-none : goal.returns-in_default-clause-none
returns-in_default-clause-none c = λ front back meta nuspec nupkg e r.
    c.in_default.ensures.first (header_of meta nuspec nupkg) (meta ++ (nuspec ++ (nupkg ++ back))) (record_lacks front meta nuspec nupkg r)
    (record_line c.args.bytes.now front back meta nuspec nupkg e r)

pub returns-in_default-2-clause-none : goal.returns-in_default-2-clause-none
returns-in_default-2-clause-none c = λ front back meta nuspec nupkg e r.
    let p = c.in-Some.ensures.first (header_of meta nuspec nupkg) (meta ++ (nuspec ++ (nupkg ++ back))) (record_lacks front meta nuspec nupkg r)
    (record_line c.args.bytes.now front back meta nuspec nupkg e r) in
    let lens = lengths (length meta) (length nuspec) (length nupkg) in
    none_some lens (sym c.in_default-2.is ∙ c.in_ok-lens.ensures.exact lens (is_header c.in-Some.line.now front meta nuspec nupkg r p.0))

pub returns-clause-found : goal.returns-clause-found
returns-clause-found c =
    let header = at_some c.in_ok-lens.field-0 (λ (l : Lengths). IsHeader c.in-Some.line.now l) c.in-Some-2.lens c.in-Some-2.is c.in_ok-lens.ensures.found in
    both_of c.cut_parts.result (λ p. c.in-Some.rest.now ≡ p.meta.now ++ (p.nuspec.now ++ (p.nupkg.now ++ p.rest.now)))
    (λ p. HaveLengths c.in-Some-2.lens p.meta.now p.nuspec.now p.nupkg.now)
    (λ p. (x : List ℕ) × (c.args.bytes.now ≡ x ++ p.rest.now) × IsRecord x p.meta.now p.nuspec.now p.nupkg.now)
    (λ p b l. record_found c.args.bytes.now c.in-Some.line.now c.in-Some.rest.now p.meta.now p.nuspec.now p.nupkg.now p.rest.now c.in-Some-2.lens
    c.in-Some.ensures.found header b l)
    c.cut_parts.ensures.found c.cut_parts.ensures.lengths

pub returns-clause-none : goal.returns-clause-none
returns-clause-none c = if_none c.cut_parts.result (length c.in-Some.rest.now < c.in-Some-2.lens.meta + (c.in-Some-2.lens.nuspec + c.in-Some-2.lens.nupkg))
    (BeginsNoRecord c.args.bytes.now)
    (λ short front back meta nuspec nupkg e r.
    let p = c.in-Some.ensures.first (header_of meta nuspec nupkg) (meta ++ (nuspec ++ (nupkg ++ back))) (record_lacks front meta nuspec nupkg r)
    (record_line c.args.bytes.now front back meta nuspec nupkg e r) in
    let lens = lengths (length meta) (length nuspec) (length nupkg) in
    let is = c.in_ok-lens.ensures.exact lens (is_header c.in-Some.line.now front meta nuspec nupkg r p.0) in
    parts_fit c.in-Some.rest.now meta nuspec nupkg back c.in-Some-2.lens (some_same lens c.in-Some-2.lens (sym is ∙ c.in-Some-2.is)) p.1 short)
    c.cut_parts.ensures.none
