-- The values of the fields of a name, one field after the other.
use Rattle.std.proofs.Common.{◌≡◌, ◌<◌, ◌+◌, ◌&&◌, ℕ, Bool, true, false, cond, List, ◌∷◌, ◌++◌, length, get_or, drop, map, Option, Some, None, Result, Err, refl, sym, ap, ◌∙◌, arith}
use Rattle.std.specs.List.{list_all}
use Rattle.std.specs.Str.{bytes_eq, str_eq_ignore_ascii_case}
use Rattle.std.proofs.lemmas.Bool.{cond-true, cond-false}
use Rattle.std.proofs.lemmas.List.{drop_more}
use Rattle.std.proofs.lemmas.Slice.Eq.{bytes_eq-Decides}
use Rattle.httparse.specs.Spans.{header_bytes, span_bytes}
use Rattle.httparse.specs.declared.spans.Span.{Span}
use Rattle.httparse.specs.declared.spans.HeaderSpan.{HeaderSpan}
use Rattle.http_wire.specs.Fields.{announced, length_in, values_of}
use Rattle.http_wire.specs.Found.{found_values}

abbrev pub no_span : HeaderSpan
no_span = record { name = record { start = 0; end = 0 }; value = record { start = 0; end = 0 } }

module _ (bytes name : List ℕ) (fields : List HeaderSpan) (i : ℕ) (d : HeaderSpan) (inside : i < length fields) where
  pub values_first : str_eq_ignore_ascii_case (span_bytes bytes (get_or fields i d).name) name ≡ true → values_of name (map (header_bytes bytes) (drop i fields)) ≡ span_bytes bytes (get_or fields i d).value ∷ values_of name (map (header_bytes bytes) (drop (i + 1) fields))
  values_first same = ap (λ (fs : List HeaderSpan). values_of name (map (header_bytes bytes) fs)) (drop_more fields i d inside) ∙ cond-true _ _ _ same

  pub values_skip : str_eq_ignore_ascii_case (span_bytes bytes (get_or fields i d).name) name ≡ false → values_of name (map (header_bytes bytes) (drop i fields)) ≡ values_of name (map (header_bytes bytes) (drop (i + 1) fields))
  values_skip other = ap (λ (fs : List HeaderSpan). values_of name (map (header_bytes bytes) fs)) (drop_more fields i d inside) ∙ cond-false _ _ _ other

left_true : (p : Bool) → (p && true) ≡ true → p ≡ true
left_true true h = refl
left_true false h = grind (arith, h)

left_false : (p : Bool) → (p && true) ≡ false → p ≡ false
left_false true h = grind (arith, h)
left_false false h = refl

same_text : (p q : List ℕ) → bytes_eq p q ≡ true → p ≡ q
same_text p q h = grind (arith, bytes_eq-Decides p q, h)

and_true : (p q : Bool) → p ≡ true → (p && q) ≡ q
and_true true q h = refl
and_true false q h = grind (arith, h)

and_false : (p q : Bool) → p ≡ false → (p && q) ≡ false
and_false true q h = grind (arith, h)
and_false false q h = refl

abbrev others_by : Bool → List ℕ → Result ℕ ℕ
others_by p text = cond p (length_in text) (Err 400)

-- a value that agrees with the one before can stand for it
pub announced_next : (bytes value : List ℕ) (found : Option Span) (rest : List (List ℕ)) → list_all (λ first. bytes_eq value first) (found_values bytes found) ≡ true → announced (value ∷ rest) ≡ announced (found_values bytes found ++ value ∷ rest)
announced_next bytes value None rest agrees = refl
announced_next bytes value (Some span) rest agrees =
    let same : value ≡ span_bytes bytes span = same_text _ _ (left_true _ agrees) in
    let first : bytes_eq value (span_bytes bytes span) ≡ true = left_true _ agrees in
    ap (λ (text : List ℕ). others_by (list_all (λ other. bytes_eq other text) rest) text) same
    ∙ ap (λ (p : Bool). others_by p (span_bytes bytes span)) (sym (and_true _ (list_all (λ other. bytes_eq other (span_bytes bytes span)) rest) first))

pub announced_refused : (bytes value : List ℕ) (found : Option Span) (rest : List (List ℕ)) → list_all (λ first. bytes_eq value first) (found_values bytes found) ≡ false → announced (found_values bytes found ++ value ∷ rest) ≡ Err 400
announced_refused bytes value None rest differs = grind (arith, differs)
announced_refused bytes value (Some span) rest differs =
    ap (λ (p : Bool). others_by p (span_bytes bytes span)) (and_false _ (list_all (λ other. bytes_eq other (span_bytes bytes span)) rest) (left_false _ differs))
