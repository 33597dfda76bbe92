-- Counts of faults over calls.
use Rattle.std.proofs.Common.{◌≡◌, ℕ, arith}
use Rattle.feed_base.specs.Counts.{CountsFault}

-- neither failed
pub none_failed : (before now : ℕ) (P Q : Type 0) → CountsFault before now P → (P → ⊥) → (Q → ⊥) → CountsFault before now Q
none_failed before now P Q h p q = record { later = h.later; risen = (λ x. absurd (q x)); kept = (λ x. h.kept p) }

-- each fails exactly where the other does
pub same_failed : (before now : ℕ) (P Q : Type 0) → CountsFault before now P → (P → Q) → (Q → P) → CountsFault before now Q
same_failed before now P Q h to from = record { later = h.later; risen = (λ x. h.risen (from x)); kept = (λ none. h.kept (λ x. none (to x))) }

-- the count stands, and nothing failed
pub none_counted : (before now : ℕ) (Q : Type 0) → now ≡ before → (Q → ⊥) → CountsFault before now Q
none_counted before now Q same q = record { later = grind (arith, same); risen = (λ x. absurd (q x)); kept = (λ x. same) }
