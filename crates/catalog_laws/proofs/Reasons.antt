-- What no reason to refuse changes tells.
use Rattle.std.proofs.Common.{◌≡◌, ◌<◌, ◌≤◌, ◌+◌, ℕ, List, [], ◌∷◌, length, Bool, true, false, Option, Some, None, refl, arith}
use Rattle.std.specs.Prelude.{if◌then◌else◌, nat_le}
use Rattle.std.specs.Option.{option_or}
use Rattle.std.specs.declared.result.Result.TheVariants.{Ok}
use Rattle.std.proofs.lemmas.Bool.Decides.{nat_tests}
use Rattle.pkg_meta.specs.Catalog.{Catalog}
use Rattle.pkg_meta.specs.Lawful.{newest}
use Rattle.pkg_meta.specs.declared.commit.Stored.{Stored}
use Rattle.catalog_doc.specs.Catalogs.{all_items}
use Rattle.catalog_doc.specs.Commits.{made}
use Rattle.catalog_doc.specs.Verdict.{already, answer_for, ended, first_reason, full, is_empty, refusal, too_many, twice, unfit, verdict}
use Rattle.catalog_doc.specs.declared.change.Change.{Change}
use Rattle.catalog_doc.specs.declared.error.CommitErr.{CommitErr}

pub both_none : (x y : Option CommitErr) → option_or x y ≡ None → (x ≡ None) × (y ≡ None)
both_none None y e = (refl, e)
both_none (Some w) y e = cc

-- a test that gives a reason where it holds, and one that gives it where it doesn't
pub test_off : (b : Bool) (w : CommitErr) → (if b then Some w else None) ≡ None → b ≡ false
test_off true w e = cc
test_off false w e = refl

test_on : (b : Bool) (w : CommitErr) → (if b then None else Some w) ≡ None → b ≡ true
test_on true w e = refl
test_on false w e = cc

pub more_than : (m n : ℕ) (w : CommitErr) → (if nat_le m n then Some w else None) ≡ None → n < m
more_than m n w e = let off : nat_le m n ≡ false = test_off (nat_le m n) w e in grind (arith, nat_tests)

at_most : (m n : ℕ) (w : CommitErr) → (if nat_le m n then None else Some w) ≡ None → m ≤ n
at_most m n w e = let on : nat_le m n ≡ true = test_on (nat_le m n) w e in grind (arith, nat_tests)

some_change : (changes : List Change) → is_empty changes ≡ None → 0 < length changes
some_change [] e = cc
some_change (change ∷ changes) e = omega arith

-- changes that there is no reason to refuse
pub record AreTaken (cs : Catalog) (changes : List Change) : Type 0 where
  pub some : 0 < length changes
  pub few : length changes ≤ 64
  pub distinct : first_reason twice [] 0 changes ≡ None
  pub fit : first_reason (unfit cs) [] 0 changes ≡ None
  pub room : length (all_items cs) + length changes ≤ 200_000
  pub time : newest cs + 1 ≤ 3_155_378_975_999_999_999

pub are_taken : (cs : Catalog) (changes : List Change) → refusal cs changes ≡ None → AreTaken cs changes
are_taken cs changes e =
    let listed = first_reason (already cs) [] 0 changes in
    let late = option_or (ended (newest cs)) listed in
    let crowded = option_or (full cs changes) late in
    let wrong = option_or (first_reason (unfit cs) [] 0 changes) crowded in
    let doubled = option_or (first_reason twice [] 0 changes) wrong in
    let a = both_none (is_empty changes) (option_or (too_many changes) doubled) e in
    let b = both_none (too_many changes) doubled a.1 in
    let c = both_none (first_reason twice [] 0 changes) wrong b.1 in
    let d = both_none (first_reason (unfit cs) [] 0 changes) crowded c.1 in
    let f = both_none (full cs changes) late d.1 in
    let g = both_none (ended (newest cs)) listed f.1 in
    record {
      some = some_change changes a.0;
      few = at_most (length changes) 64 _ b.0;
      distinct = c.0;
      fit = d.0;
      room = at_most (length (all_items cs) + length changes) 200_000 _ f.0;
      time = at_most (newest cs + 1) 3_155_378_975_999_999_999 _ g.0;
    }

taken_by : (c d : Stored) (found : Option CommitErr) → answer_for d found ≡ Ok c → (found ≡ None) × (c ≡ d)
taken_by c d None e = (refl, cc)
taken_by c d (Some w) e = cc

-- the verdict's commit is the one that the changes make
pub no_refusal : (cs : Catalog) (changes : List Change) (now : ℕ) (c : Stored) → verdict cs changes now ≡ Ok c
    → (refusal cs changes ≡ None) × (c ≡ made cs changes now)
no_refusal cs changes now c e = taken_by c (made cs changes now) (refusal cs changes) e

pub made_only : (cs : Catalog) (changes : List Change) (now : ℕ) (c : Stored) → verdict cs changes now ≡ Ok c → c ≡ made cs changes now
made_only cs changes now c e = (no_refusal cs changes now c e).1
