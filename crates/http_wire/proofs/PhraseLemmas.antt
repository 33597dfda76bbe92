-- A status that has a phrase is a number of three digits.
use Rattle.std.proofs.Common.{◌≡◌, ◌<◌, ◌≤◌, ◌==◌, ◌&&◌, nat_le, nat_lt, ℕ, Bool, false, cond, List, Option, Some, None, IsSome, IsTrue, inl, inr, refl, ◌∙◌, arith}
use Rattle.std.proofs.lemmas.Bool.{cond-false}
use Rattle.std.proofs.lemmas.Bool.Decides.{nat_tests}
use Rattle.http.specs.StatusCode.{IsStatusCode, reason_phrase}
use Rattle.http_wire.proofs.BodyLemmas.{all_or}

abbrev three_digits : ℕ → Bool
three_digits k = nat_le 100 k && nat_lt k 1000

-- a number that is none of three digits has no phrase
no_phrase : (n : ℕ) → ((k : ℕ) → IsTrue (three_digits k) → (n == k) ≡ false) → reason_phrase n ≡ None
no_phrase n other =
    s _ _ 100 refl ∙ s _ _ 101 refl ∙ s _ _ 102 refl ∙ s _ _ 103 refl ∙ s _ _ 200 refl ∙ s _ _ 201 refl ∙ s _ _ 202 refl ∙ s _ _ 203 refl
    ∙ s _ _ 204 refl ∙ s _ _ 205 refl ∙ s _ _ 206 refl ∙ s _ _ 207 refl ∙ s _ _ 208 refl ∙ s _ _ 226 refl ∙ s _ _ 300 refl ∙ s _ _ 301 refl
    ∙ s _ _ 302 refl ∙ s _ _ 303 refl ∙ s _ _ 304 refl ∙ s _ _ 305 refl ∙ s _ _ 307 refl ∙ s _ _ 308 refl ∙ s _ _ 400 refl ∙ s _ _ 401 refl
    ∙ s _ _ 402 refl ∙ s _ _ 403 refl ∙ s _ _ 404 refl ∙ s _ _ 405 refl ∙ s _ _ 406 refl ∙ s _ _ 407 refl ∙ s _ _ 408 refl ∙ s _ _ 409 refl
    ∙ s _ _ 410 refl ∙ s _ _ 411 refl ∙ s _ _ 412 refl ∙ s _ _ 413 refl ∙ s _ _ 414 refl ∙ s _ _ 415 refl ∙ s _ _ 416 refl ∙ s _ _ 417 refl
    ∙ s _ _ 418 refl ∙ s _ _ 421 refl ∙ s _ _ 422 refl ∙ s _ _ 423 refl ∙ s _ _ 424 refl ∙ s _ _ 425 refl ∙ s _ _ 426 refl ∙ s _ _ 428 refl
    ∙ s _ _ 429 refl ∙ s _ _ 431 refl ∙ s _ _ 451 refl ∙ s _ _ 500 refl ∙ s _ _ 501 refl ∙ s _ _ 502 refl ∙ s _ _ 503 refl ∙ s _ _ 504 refl
    ∙ s _ _ 505 refl ∙ s _ _ 506 refl ∙ s _ _ 507 refl ∙ s _ _ 508 refl ∙ s _ _ 510 refl ∙ s _ _ 511 refl
  where
    s : (x y : Option (List ℕ)) (k : ℕ) → IsTrue (three_digits k) → cond (n == k) x y ≡ y
    s x y k is = cond-false _ _ _ (other k is)

below : (n k : ℕ) → n < 100 → IsTrue (three_digits k) → (n == k) ≡ false
below n k low is = grind (arith, nat_tests, low, is)

above : (n k : ℕ) → 1000 ≤ n → IsTrue (three_digits k) → (n == k) ≡ false
above n k high is = grind (arith, nat_tests, high, is)

not_some : {A : Type 0} (o : Option (List ℕ)) → IsSome o → o ≡ None → A
not_some None h e = grind (arith, h)
not_some (Some x) h e = grind (arith, e)

none_known : {A : Type 0} (n : ℕ) → IsSome (reason_phrase n) → reason_phrase n ≡ None → A
none_known n some none = not_some _ some none

pub phrase_of_status : (n : ℕ) → IsSome (reason_phrase n) → (IsStatusCode n → ⊥) → ⊥
phrase_of_status n some other = elim (all_or 100 n) [
  | inr low ↦ none_known n some (no_phrase n (λ k is. below n k low is))
  | inl high ↦ elim (all_or 1000 n) [
    | inl over ↦ none_known n some (no_phrase n (λ k is. above n k over is))
    | inr under ↦ other (high, under)
  ]
]
