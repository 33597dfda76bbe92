-- A commit's id tells its number.
use Rattle.std.proofs.Common.{◌≡◌, ◌<◌, ◌^◌, ℕ, zero, suc, List, length, All, Some, Option, Result, Ok, Err, inl, refl, sym, ◌∙◌, ap, arith}
use Rattle.std.specs.Result.{OkIff, result_ok}
use Rattle.std.specs.Int.{byte_at, bytes_high_first, from_be_bytes, to_be_bytes, w128}
use Rattle.std.proofs.lemmas.List.Elements.{All-cons}
use Rattle.std.proofs.lemmas.Option.{same_Some}
use Rattle.uuid.specs.Text.{lower, parsed}
use Rattle.uuid.proofs.OrderLemmas.{from_be_bytes-to_be_bytes_16}
use Rattle.uuid.proofs.RoundTrips.{parses_hyphenated}
use Rattle.catalog_doc.specs.Documents.{commit_id}

small_byte : (k n : ℕ) → byte_at k n < 256
small_byte zero n = omega arith
small_byte (suc k) n = omega arith

small_bytes : (k n : ℕ) → All (λ (b : ℕ). b < 256) (bytes_high_first k n)
small_bytes zero n = λ i d lt. absurd (omega arith)
small_bytes (suc k) n = All-cons (λ (b : ℕ). b < 256) (byte_at k n) (bytes_high_first k n) (small_byte k n) (small_bytes k n)

long_bytes : (k n : ℕ) → length (bytes_high_first k n) ≡ k
long_bytes zero n = refl
long_bytes (suc k) n = ap suc (long_bytes k n)

pub id_bytes : (n : ℕ) (text : List ℕ) → text ≡ commit_id n → Some (to_be_bytes w128 n) ≡ parsed text
unfolding commit_id
id_bytes n text is = parses_hyphenated lower (to_be_bytes w128 n) (inl refl) (long_bytes 16 n) (small_bytes 16 n) ∙ sym (ap parsed is)

pub id_number : (n : ℕ) (bytes : List ℕ) → n < 2 ^ 32 → bytes ≡ to_be_bytes w128 n → from_be_bytes w128 bytes ≡ n
id_number n bytes fits is = ap (from_be_bytes w128) is ∙ from_be_bytes-to_be_bytes_16 n (omega arith)

-- a commit's id determines its number
pub same_number : (m n : ℕ) → m < 2 ^ 32 → n < 2 ^ 32 → commit_id m ≡ commit_id n → m ≡ n
same_number m n fits others e =
    let bytes : to_be_bytes w128 m ≡ to_be_bytes w128 n = same_Some (to_be_bytes w128 m) (to_be_bytes w128 n) (id_bytes m (commit_id m) refl ∙ sym (id_bytes n (commit_id m) e)) in
    sym (id_number m (to_be_bytes w128 m) fits refl) ∙ id_number n (to_be_bytes w128 m) others bytes

-- what a number that fits is narrowed to
pub narrowed : {E : Type 0} (r : Result ℕ E) (x : ℕ) (o : Option ℕ) → OkIff r (x < 2 ^ 32) x → o ≡ result_ok r → x < 2 ^ 32 → o ≡ Some x
narrowed (Ok y) x o gives is fits = is ∙ ap Some gives.1
narrowed (Err e) x o gives is fits = absurd (gives fits)
