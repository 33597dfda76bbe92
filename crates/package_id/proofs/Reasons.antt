-- The reasons for which a text is refused exclude each other.
use Rattle.std.proofs.Common.{◌≡◌, ◌<◌, ℕ, List, [], length, refl, sym, ◌∙◌, ap, subst, arith}
use Rattle.package_id.specs.declared.error.IdErr.{IdErr}
use Rattle.package_id.specs.declared.error.IdErr.TheVariants.{Empty, TooLong, BadByte, Memory}
use Rattle.package_id.specs.Ids.{IsId, IsLongestIdFront}
use Rattle.package_id.specs.Refusals.{IsRefusedFor}

-- a text has one longest prefix
pub same_front : (text : List ℕ) (m n : ℕ) → IsLongestIdFront text m → IsLongestIdFront text n → m ≡ n
same_front text m n one other =
    let not_below : ¬ (m < n) = λ below. one.longest n below other.within other.begins in
    let not_above : ¬ (n < m) = λ above. other.longest m above one.within one.begins in
    omega arith

empty_no_id : (text : List ℕ) → text ≡ [] → ¬ IsId text
empty_no_id text empty id = let impossible : IsId [] = subst IsId empty id in cc

pub one_reason : (text : List ℕ) (one other : IdErr) → IsRefusedFor text one → IsRefusedFor text other → one ≡ other
one_reason text Empty Empty h k = refl
one_reason text (TooLong m) (TooLong n) h k = ap TooLong (h.1 ∙ sym k.1)
one_reason text (BadByte m) (BadByte n) h k = ap BadByte (same_front text m n h.3 k.3)
one_reason text Memory Memory h k = refl
one_reason text Empty (TooLong n) h k = let e = ap length h in absurd (omega arith)
one_reason text Empty (BadByte n) h k = let e = ap length h in absurd (omega arith)
one_reason text Empty Memory h k = absurd (empty_no_id text h k.0)
one_reason text (TooLong m) Empty h k = let e = ap length k in absurd (omega arith)
one_reason text (TooLong m) (BadByte n) h k = absurd (omega arith)
one_reason text (TooLong m) Memory h k = absurd (omega arith)
one_reason text (BadByte m) Empty h k = let e = ap length k in absurd (omega arith)
one_reason text (BadByte m) (TooLong n) h k = absurd (omega arith)
one_reason text (BadByte m) Memory h k = absurd (h.2 k.0)
one_reason text Memory Empty h k = absurd (empty_no_id text k h.0)
one_reason text Memory (TooLong n) h k = absurd (omega arith)
one_reason text Memory (BadByte n) h k = absurd (k.2 h.0)
