-- Gets of pages, one behind the other.
use Rattle.std.proofs.Common.{◌≡◌, ◌<◌, ◌+◌, ◌-◌, ℕ, zero, suc, List, ◌∷◌, ◌++◌, sym, ◌∙◌, ap, subst, arith}
use Rattle.blob_store.specs.Events.{Act, Get}
use Rattle.blob_store.specs.Plans.{Makes}
use Rattle.blob_store.specs.Seen.{Seen}
use Rattle.blob_store.proofs.Following.{makes_then}
use Rattle.catalog_doc.specs.Names.{page_name}
use Rattle.catalog_opening.specs.Plans.{HaltsAt, page_gets}
use Rattle.catalog_opening.specs.declared.error.ReadErr.{ReadErr}
use Rattle.catalog_opening.specs.declared.error.ReadErr.TheVariants.{Memory}
use Rattle.catalog_opening.proofs.Halting.{halts_behind, halts_early, halts_made}

pub page_gets-split : (k i n : ℕ) → page_gets k (i + n) ≡ page_gets k i ++ page_gets (k + i) n
page_gets-split k zero n =
    ap (page_gets k) (let same : 0 + n ≡ n = omega arith in same) ∙ ap (λ (j : ℕ). page_gets j n) (let same : k ≡ k + 0 = omega arith in same)
page_gets-split k (suc i) n =
    ap (page_gets k) (let same : suc i + n ≡ suc (i + n) = omega arith in same)
    ∙ ap (λ (l : List Act). Get (page_name k) ∷ l) (page_gets-split (suc k) i n)
    ∙ ap (λ (j : ℕ). Get (page_name k) ∷ (page_gets (suc k) i ++ page_gets j n)) (let same : suc k + i ≡ k + suc i = omega arith in same)

pub from_start : (i n : ℕ) → page_gets 0 (i + n) ≡ page_gets 0 i ++ page_gets i n
from_start i n = page_gets-split 0 i n ∙ ap (λ (j : ℕ). page_gets 0 i ++ page_gets j n) (let same : 0 + i ≡ i = omega arith in same)

pub next_get_made : (i : ℕ) (a b c : Seen) → Makes (page_gets 0 i) a b → Makes (page_gets i 1) b c → Makes (page_gets 0 (i + 1)) a c
next_get_made i a b c first second =
    let at : page_gets 0 (i + 1) ≡ page_gets 0 i ++ page_gets i 1 = from_start i 1 in
    subst (λ (l : List Act). Makes l a c) (sym at) (makes_then (page_gets 0 i) (page_gets i 1) a b c first second)

-- so many of the gets were made, and the next one, or the memory behind it, stopped the plan
pub next_get_halts : (i most : ℕ) (error : ReadErr) (a b c : Seen) → i < most → Makes (page_gets 0 i) a b → HaltsAt (page_gets i 1) error b c → HaltsAt (page_gets 0 most) error a c
next_get_halts i most error a b c within first halts =
    let whole : i + suc (most - i - 1) ≡ most = omega arith in
    subst (λ (n : ℕ). HaltsAt (page_gets 0 n) error a c) whole
    (subst (λ (l : List Act). HaltsAt l error a c) (sym (from_start i (suc (most - i - 1))))
    (halts_behind (page_gets 0 i) (page_gets i (suc (most - i - 1))) a b c first error
    (halts_early (page_gets i 1) (page_gets (suc i) (most - i - 1)) b c error halts)))

pub next_get_cut : (i most : ℕ) (a b c : Seen) → i < most → Makes (page_gets 0 i) a b → Makes (page_gets i 1) b c → HaltsAt (page_gets 0 most) Memory a c
next_get_cut i most a b c within first second =
    next_get_halts i most Memory a b c within first (halts_made (page_gets i 1) Memory b c second (λ is. let no : ⊥ = cc in no))
