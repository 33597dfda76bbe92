use Rattle.std.proofs.Common.{◌≡◌, ◌++◌, ◌+◌, ℕ, List, Option, true, false, codes, drop, get_or, map, sym, ap, ◌∙◌, rules}
use Rattle.std.specs.List.{list_all}
use Rattle.std.specs.Str.{bytes_eq}
use Rattle.httparse.specs.Spans.{header_bytes, span_bytes}
use Rattle.httparse.specs.declared.spans.Span.{Span}
use Rattle.http_wire.specs.Fields.{announced, values_of}
use Rattle.http_wire.specs.Found.{found_values}
use Rattle.http_wire.proofs.FieldLemmas.{announced_next, announced_refused, no_span, values_first, values_skip}
use Rattle.http_wire.proofs.fields.announced_length.Goals as goal
use Rattle.http_wire.proofs.fields.announced_length.Goals.{then-same_in_any_case+else-not-agrees, else-same_in_any_case}

abbrev name : List ℕ
name = codes "content-length"

pub loop-field-preserved : goal.loop-field-preserved
loop-field-preserved c = elim c.if-same_in_any_case.branch [
  | then-same_in_any_case+else-not-agrees w ↦
      let bytes : List ℕ = c.args.bytes.now in
      let i : ℕ = c.loop-field.field-index in
      let value : List ℕ = span_bytes bytes (get_or c.args.fields.now i no_span).value in
      let rest : List (List ℕ) = values_of name (map (header_bytes bytes) (drop (i + 1) c.args.fields.now)) in
      let first = values_first bytes name c.args.fields.now i no_span c.loop-field-test.true (search (rules, w.if-same_in_any_case.true, c.same_in_any_case.ensures, c.of.ensures)) in
      let agree : list_all (λ first. bytes_eq value first) (found_values bytes c.loop-field.found) ≡ true = search (rules, w.agrees.ensures, w.if-not-agrees.false, w.of-then-same_in_any_case.ensures) in
      record {
        told =
            ap (λ (o : Option Span). announced (found_values bytes o ++ rest)) w.found-is
            ∙ announced_next bytes value c.loop-field.found rest agree
            ∙ ap (λ (xs : List (List ℕ)). announced (found_values bytes c.loop-field.found ++ xs)) (sym first)
            ∙ c.loop-field.invariant.told;
        within = search rules;
      }
  | else-same_in_any_case w ↦
      let bytes : List ℕ = c.args.bytes.now in
      let i : ℕ = c.loop-field.field-index in
      let skip = values_skip bytes name c.args.fields.now i no_span c.loop-field-test.true (search (rules, w.if-same_in_any_case.false, c.same_in_any_case.ensures, c.of.ensures)) in
      record {
        told =
            ap (λ (o : Option Span). announced (found_values bytes o ++ values_of name (map (header_bytes bytes) (drop (i + 1) c.args.fields.now)))) w.found-is
            ∙ ap (λ (xs : List (List ℕ)). announced (found_values bytes c.loop-field.found ++ xs)) (sym skip)
            ∙ c.loop-field.invariant.told;
        within = search rules;
      }
]

pub returns-then-not-agrees : goal.returns-then-not-agrees
returns-then-not-agrees c =
    let bytes : List ℕ = c.args.bytes.now in
    let i : ℕ = c.loop-field.field-index in
    let value : List ℕ = span_bytes bytes (get_or c.args.fields.now i no_span).value in
    let rest : List (List ℕ) = values_of name (map (header_bytes bytes) (drop (i + 1) c.args.fields.now)) in
    let first = values_first bytes name c.args.fields.now i no_span c.loop-field-test.true (search (rules, c.if-same_in_any_case.true, c.same_in_any_case.ensures, c.of.ensures)) in
    let differs : list_all (λ first. bytes_eq value first) (found_values bytes c.loop-field.found) ≡ false = search (rules, c.agrees.ensures, c.if-not-agrees.true, c.of-then-same_in_any_case.ensures) in
    sym (sym c.loop-field.invariant.told
    ∙ ap (λ (xs : List (List ℕ)). announced (found_values bytes c.loop-field.found ++ xs)) first
    ∙ announced_refused bytes value c.loop-field.found rest differs)
