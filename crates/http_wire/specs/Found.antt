-- What was found of the fields of a head so far.
use Rattle.std.specs.Prelude.{ℕ, List, [], ◌∷◌, Option, None, Some}
use Rattle.httparse.specs.Spans.{span_bytes}
use Rattle.httparse.specs.declared.spans.Span.{Span}

-- the value that was found, if one was
abbrev pub found_values : List ℕ → Option Span → List (List ℕ)
found_values bytes None = []
found_values bytes (Some span) = span_bytes bytes span ∷ []
