-- Pairs that are read, one behind the other.
use Rattle.std.proofs.Common.{◌≡◌, ◌<◌, ◌≤◌, ◌-◌, ℕ, List, [], ◌∷◌, ◌++◌, drop, get_or, length, take, String, refl, sym, ap, ◌∙◌, subst, arith, append-nil, append_assoc}
use Rattle.std.specs.Prelude.{string_bytes}
use Rattle.std.proofs.Math.Seq.{take_all}
use Rattle.std.specs.declared.alloc.Global.{Global}
use Rattle.admin_wire.specs.Bodies.{IsAsked}
use Rattle.admin_wire.specs.declared.names.NameKind.{NameKind}
use Rattle.catalog_doc.specs.declared.change.Change.{Change}
use Rattle.admin_wire.specs.declared.line.Line.TheVariants as line
use Rattle.feed_app.specs.Commands.{Pair, pairs_of}
use Rattle.feed_words.specs.Words.{texts}
use Rattle.feed_app.specs.Names.{AreAsked, IsFirstNotAsked, NotAsked, NotRead}
use Rattle.feed_app.specs.declared.answer.Answer.{Answer}
use Rattle.feed_app.specs.declared.answer.Answer.TheVariants.{Reply}

-- a pair more
asked_more : (kind : NameKind) (front : List Pair) (pair : Pair) (before : List Change) (c : Change) → AreAsked kind front before → IsAsked kind pair.0 pair.1 c
    → AreAsked kind (front ++ pair ∷ []) (before ++ c ∷ [])
asked_more kind [] pair [] c none is = (is, refl)
asked_more kind [] pair (d ∷ ds) c none is = cc none
asked_more kind (p ∷ ps) pair [] c none is = absurd none
asked_more kind (p ∷ ps) pair (d ∷ ds) c all is = (all.0, asked_more kind ps pair ds c all.1 is)

as_many : (kind : NameKind) (front : List Pair) (before : List Change) → AreAsked kind front before → length front ≡ length before
as_many kind [] before none = ap length (sym none)
as_many kind (p ∷ ps) [] none = absurd none
as_many kind (p ∷ ps) (d ∷ ds) all = let rest : length ps ≡ length ds = as_many kind ps ds all.1 in omega (arith, rest)

-- so many of the words are read
pub record AreReadTo (kind : NameKind) (words rest : List (String Global)) (before : List Change) : Type 0 where
  pub front : List Pair
  pub split : pairs_of (texts words) ≡ front ++ pairs_of (texts rest)
  pub asked : AreAsked kind front before

pub at_start : (kind : NameKind) (words : List (String Global)) → AreReadTo kind words words []
at_start kind words = record { front = []; split = refl; asked = refl }

pub read_on : (kind : NameKind) (words rest behind : List (String Global)) (pair : Pair) (before : List Change) (c : Change) → AreReadTo kind words rest before
    → pairs_of (texts rest) ≡ pair ∷ pairs_of (texts behind) → IsAsked kind pair.0 pair.1 c → AreReadTo kind words behind (before ++ c ∷ [])
read_on kind words rest behind pair before c r e is = record {
  front = r.front ++ pair ∷ [];
  split = r.split ∙ ap (λ (l : List Pair). r.front ++ l) e ∙ sym (append_assoc r.front (pair ∷ []) (pairs_of (texts behind)));
  asked = asked_more kind r.front pair before c r.asked is;
}

pub at_end : (kind : NameKind) (words rest : List (String Global)) (before : List Change) → AreReadTo kind words rest before → length rest < 2
    → AreAsked kind (pairs_of (texts words)) before
at_end kind words [] before r few = subst (λ (l : List Pair). AreAsked kind l before) (sym (r.split ∙ append-nil r.front)) r.asked
at_end kind words (word ∷ []) before r few = subst (λ (l : List Pair). AreAsked kind l before) (sym (r.split ∙ append-nil r.front)) r.asked
at_end kind words (word ∷ other ∷ rest) before r few = absurd (omega (arith, few))

-- the first two words that are left are a pair
pub first_pair : (rest : List (String Global)) (first second a b : String Global) (id version : List ℕ) → 2 ≤ length rest → first ≡ get_or rest 0 a
    → second ≡ get_or rest 1 b
    → id ≡ string_bytes first → version ≡ string_bytes second → pairs_of (texts rest) ≡ (id, version) ∷ pairs_of (texts (take (length rest - 2) (drop 2 rest)))
first_pair [] first second a b id version two is_first is_second is_id is_version = absurd (omega (arith, two))
first_pair (x ∷ []) first second a b id version two is_first is_second is_id is_version = absurd (omega (arith, two))
first_pair (x ∷ y ∷ more) first second a b id version two is_first is_second is_id is_version =
    let whole : take (length (x ∷ y ∷ more) - 2) more ≡ more = take_all (length (x ∷ y ∷ more) - 2) more (omega arith) in
    rw (is_id, is_version, is_first, is_second) (ap (λ (l : List (String Global)). (string_bytes x, string_bytes y) ∷ pairs_of (texts l)) (sym whole))

unread : (answer : Answer) (kind : NameKind) (pairs : List Pair) → IsFirstNotAsked answer kind pairs → NotRead answer kind pairs
unread (Reply line.Memory) kind pairs first = tt
unread _ kind pairs first = first

pub stops_at : (answer : Answer) (kind : NameKind) (words rest behind : List (String Global)) (pair : Pair) (before : List Change) (place : ℕ)
    → AreReadTo kind words rest before
    → pairs_of (texts rest) ≡ pair ∷ pairs_of (texts behind) → place ≡ length before → NotAsked answer place pair.0 pair.1
    → NotRead answer kind (pairs_of (texts words))
stops_at answer kind words rest behind pair before place r e at not = unread answer kind (pairs_of (texts words)) (record {
  front = r.front;
  pair = pair;
  back = pairs_of (texts behind);
  split = r.split ∙ ap (λ (l : List Pair). r.front ++ l) e;
  before = before;
  asked = r.asked;
  refused = subst (λ (n : ℕ). NotAsked answer n pair.0 pair.1) (at ∙ sym (as_many kind r.front before r.asked)) not;
})
