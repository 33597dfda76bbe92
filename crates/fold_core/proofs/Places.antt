-- Where a version stands among entries.
use Rattle.std.proofs.Common.{◌≡◌, ◌<◌, ◌≤◌, ◌+◌, ℕ, zero, suc, List, [], ◌∷◌, length, Bool, true, false, cond, Option, Some, None, refl, sym, ap, ◌∙◌, arith}
use Rattle.std.specs.List.{cons_option, insert, position, position_or_len, remove, slice_get, slice_set}
use Rattle.std.specs.Option.{unwrap_or}
use Rattle.std.specs.Prelude.{nat_lt, not}
use Rattle.std.proofs.lemmas.Bool.Decides.{nat_tests}
use Rattle.std.specs.Ordering.{is_le, match_ordering}
use Rattle.std.specs.declared.cmp.Ordering.{Ordering}
use Rattle.std.specs.declared.cmp.Ordering.TheVariants.{Less, Equal, Greater}
use Rattle.nuget_version.specs.Precedence.{precedence}
use Rattle.nuget_version.specs.declared.version.Version.{Version}
use Rattle.pkg_meta.specs.Entries.{version_in}
use Rattle.fold_core.specs.Places.{is_tied, is_up_to, place_in, replaced}
use Rattle.pkg_meta.specs.declared.entry.Entry.{Entry}

-- the entries with this one, or none, put in at a place
abbrev put_at : ℕ → Option Entry → List Entry → List Entry
put_at i None es = es
put_at i (Some e) es = insert es i e

-- the entries without the one of the version
abbrev pub rest_of : Version → List Entry → List Entry
rest_of v es = cond (is_tied v (slice_get es (place_in v es))) (remove es (place_in v es)) es

behind_first : (e : Entry) (n : ℕ) (new : Option Entry) (es : List Entry) → put_at (suc n) new (e ∷ es) ≡ e ∷ put_at n new es
behind_first e n None es = refl
behind_first e n (Some x) es = refl

first_kept : (b : Bool) (e : Entry) (n : ℕ) (es : List Entry) → cond b (remove (e ∷ es) (suc n)) (e ∷ es) ≡ e ∷ cond b (remove es n) es
first_kept true e n es = refl
first_kept false e n es = refl

at_start : (new : Option Entry) (es : List Entry) → put_at 0 new es ≡ cons_option new es
at_start None es = refl
at_start (Some x) es = refl

pub replaced_at : (v : Version) (new : Option Entry) (es : List Entry) → put_at (place_in v es) new (rest_of v es) ≡ replaced v new es
replaced_at v new [] = at_start new []
replaced_at v new (e ∷ es) =
    elim (precedence v (version_in e)) as (λ (r : Ordering). precedence v (version_in e) ≡ r → put_at (place_in v (e ∷ es)) new (rest_of v (e ∷ es)) ≡ replaced v new (e ∷ es)) [
      | Less ↦ λ is. rw is (rw is (at_start new (e ∷ es)))
      | Equal ↦ λ is. rw is (rw is (at_start new es))
      | Greater ↦ λ is. rw is (ap (put_at (suc (place_in v es)) new) (first_kept (is_tied v (slice_get es (place_in v es))) e (place_in v es) es)
          ∙ behind_first e (place_in v es) new (rest_of v es) ∙ ap (λ (l : List Entry). e ∷ l) (replaced_at v new es))
    ] refl

pub place_within : (v : Version) (es : List Entry) → place_in v es ≤ length (rest_of v es)
place_within v [] = omega arith
place_within v (e ∷ es) =
    elim (precedence v (version_in e)) as (λ (r : Ordering). precedence v (version_in e) ≡ r → place_in v (e ∷ es) ≤ length (rest_of v (e ∷ es))) [
      | Less ↦ λ is. rw is (omega arith)
      | Equal ↦ λ is. rw is (omega arith)
      | Greater ↦ λ is. rw is (let shown : length (cond (is_tied v (slice_get es (place_in v es))) (remove (e ∷ es) (suc (place_in v es))) (e ∷ es)) ≡ suc (length (rest_of v es)) = ap length (first_kept (is_tied v (slice_get es (place_in v es))) e (place_in v es) es) in omega (arith, shown, place_within v es))
    ] refl

pub tied_within : (v : Version) (es : List Entry) (n : ℕ) → is_tied v (slice_get es n) ≡ true → n < length es
tied_within v [] n tied = cc
tied_within v (e ∷ es) zero tied = omega arith
tied_within v (e ∷ es) (suc n) tied = omega (arith, tied_within v es n tied)

up_to_place : (v : Version) (es : List Entry) → position_or_len (is_up_to v) es ≡ place_in v es
up_to_place v [] = refl
up_to_place v (e ∷ es) =
    elim (precedence v (version_in e)) as (λ (r : Ordering). cond (not (is_le r)) (1 + position_or_len (is_up_to v) es) 0 ≡ match_ordering r 0 0 (suc (place_in v es))) [
      | Less ↦ refl
      | Equal ↦ refl
      | Greater ↦ omega (arith, up_to_place v es)
    ]

within_all : (v : Version) (es : List Entry) → place_in v es ≤ length es
within_all v [] = omega arith
within_all v (e ∷ es) =
    elim (precedence v (version_in e)) as (λ (r : Ordering). match_ordering r 0 0 (suc (place_in v es)) ≤ suc (length es)) [
      | Less ↦ omega arith
      | Equal ↦ omega arith
      | Greater ↦ omega (arith, within_all v es)
    ]

or_end : (n m : ℕ) → n ≤ m → unwrap_or (cond (nat_lt n m) (Some n) None) m ≡ n
or_end n m le = grind (arith, nat_tests)

-- the first that passes, or else the end
pub position_or_end : (v : Version) (es : List Entry) → unwrap_or (position (is_up_to v) es) (length es) ≡ place_in v es
position_or_end v es =
    ap (λ (n : ℕ). unwrap_or (cond (nat_lt n (length es)) (Some n) None) (length es)) (up_to_place v es)
    ∙ or_end (place_in v es) (length es) (within_all v es)

-- where one of the version stands, it goes
pub without_tied : (v : Version) (new : Option Entry) (es : List Entry) (n : ℕ) → n ≡ place_in v es → is_tied v (slice_get es n) ≡ true
    → put_at n new (remove es n) ≡ replaced v new es
without_tied v new es n at tied =
    let here : is_tied v (slice_get es (place_in v es)) ≡ true = rw at at tied in
    rw at (ap (λ (b : Bool). put_at (place_in v es) new (cond b (remove es (place_in v es)) es)) (sym here) ∙ replaced_at v new es)

-- where none stands, all stay
pub with_none : (v : Version) (new : Option Entry) (es : List Entry) (n : ℕ) → n ≡ place_in v es → is_tied v (slice_get es n) ≡ false
    → put_at n new es ≡ replaced v new es
with_none v new es n at free =
    let here : is_tied v (slice_get es (place_in v es)) ≡ false = rw at at free in
    rw at (ap (λ (b : Bool). put_at (place_in v es) new (cond b (remove es (place_in v es)) es)) (sym here) ∙ replaced_at v new es)

pub at_within : (v : Version) (es : List Entry) (n : ℕ) → n ≡ place_in v es → n ≤ length es
at_within v es n at = rw at (within_all v es)

set_is : (es : List Entry) (n : ℕ) (x : Entry) → n < length es → slice_set es n x ≡ insert (remove es n) n x
set_is [] n x lt = absurd (omega arith)
set_is (e ∷ es) zero x lt = refl
set_is (e ∷ es) (suc n) x lt = ap (λ (l : List Entry). e ∷ l) (set_is es n x (omega arith))

-- where one of the version stands, another takes its place
pub set_tied : (v : Version) (x : Entry) (es : List Entry) (n : ℕ) → n ≡ place_in v es → is_tied v (slice_get es n) ≡ true
    → slice_set es n x ≡ replaced v (Some x) es
set_tied v x es n at tied = set_is es n x (tied_within v es n tied) ∙ without_tied v (Some x) es n at tied
