-- Events one behind the other.
use Rattle.std.proofs.Common.{◌≡◌, ◌<◌, ◌≤◌, ◌+◌, ◌-◌, ℕ, zero, suc, List, [], ◌∷◌, ◌++◌, length, Option, Some, None, option_map, refl, sym, ◌∙◌, ap, subst, arith, Bool, true, false, nat_lt, length-append, append_assoc}
use Rattle.std.proofs.lemmas.Bool.Decides.{nat_tests}
use Rattle.feed_base.specs.Counts.{most}
use Rattle.blob_store.specs.Seen.{Seen}
use Rattle.blob_store.specs.Area.{Area}
use Rattle.blob_store.specs.Events.{Event, after_event, after_events, faults_after_one, faults_after_all, told_name, names_asked, MayLeave}
use Rattle.blob_store.specs.Tracked.{Tracked}

composed : (o : Option Area) (f g h : Area → Area) → ((m : Area) → h m ≡ g (f m)) → option_map g (option_map f o) ≡ option_map h o
composed None f g h same = refl
composed (Some m) f g h same = ap Some (sym (same m))

pub after_events-append : (xs ys : List Event) (m : Area) → after_events (xs ++ ys) m ≡ after_events ys (after_events xs m)
after_events-append [] ys m = refl
after_events-append (x ∷ xs) ys m = after_events-append xs ys (after_event x m)

pub faults_after_all-append : (xs ys : List Event) (faults : ℕ) → faults_after_all (xs ++ ys) faults ≡ faults_after_all ys (faults_after_all xs faults)
faults_after_all-append [] ys faults = refl
faults_after_all-append (x ∷ xs) ys faults = faults_after_all-append xs ys (faults_after_one x.fate faults)

pub names_asked-append : (xs ys : List Event) → names_asked (xs ++ ys) ≡ names_asked xs ++ names_asked ys
names_asked-append [] ys = refl
names_asked-append (x ∷ xs) ys = ap (λ (l : List (List ℕ)). told_name x.act x.fate ++ l) (names_asked-append xs ys) ∙ sym (append_assoc (told_name x.act x.fate) (names_asked xs) (names_asked ys))

asked_then : (xs ys : List Event) (o : Option (List (List ℕ))) → option_map (λ (l : List (List ℕ)). l ++ names_asked ys) (option_map (λ (l : List (List ℕ)). l ++ names_asked xs) o) ≡ option_map (λ (l : List (List ℕ)). l ++ names_asked (xs ++ ys)) o
asked_then xs ys None = refl
asked_then xs ys (Some l) = ap Some (append_assoc l (names_asked xs) (names_asked ys) ∙ ap (λ (k : List (List ℕ)). l ++ k) (sym (names_asked-append xs ys)))

pub leave_first : (xs ys : List Event) (m : Area) (k : ℕ) (crashed : Area) → k < length xs → MayLeave xs m k crashed → MayLeave (xs ++ ys) m k crashed
leave_first [] ys m k crashed few here = absurd (omega arith)
leave_first (x ∷ xs) ys m zero crashed few here = here
leave_first (x ∷ xs) ys m (suc k) crashed few here = leave_first xs ys (after_event x m) k crashed (omega (arith, few)) here

pub leave_then : (xs ys : List Event) (m : Area) (k n : ℕ) (crashed : Area) → n ≡ length xs + k → MayLeave ys (after_events xs m) k crashed → MayLeave (xs ++ ys) m n crashed
leave_then [] ys m k n crashed is here = subst (λ (x : ℕ). MayLeave ys m x crashed) (let same : k ≡ n = omega (arith, is) in same) here
leave_then (x ∷ xs) ys m k zero crashed is here = absurd (omega (arith, is))
leave_then (x ∷ xs) ys m k (suc n) crashed is here = leave_then xs ys (after_event x m) k n crashed (omega (arith, is)) here

pub leave_end : (xs : List Event) (m : Area) (n : ℕ) → n ≡ length xs → MayLeave xs m n (after_events xs m)
leave_end [] m n is = refl
leave_end (x ∷ xs) m zero is = absurd (omega (arith, is))
leave_end (x ∷ xs) m (suc n) is = leave_end xs (after_event x m) n (omega (arith, is))

pub compose : (xs ys : List Event) (a b c : Seen) → Tracked xs a b → Tracked ys b c → Tracked (xs ++ ys) a c
compose xs ys a b c first second = record {
  later = omega (arith, first.later, second.later);
  counted = omega (arith, first.counted, second.counted, length-append xs ys);
  faults_grow = omega (arith, first.faults_grow, second.faults_grow);
  faults = second.faults ∙ ap (faults_after_all ys) first.faults ∙ sym (faults_after_all-append xs ys a.faults);
  area = second.area ∙ ap (option_map (after_events ys)) first.area ∙ composed a.held _ _ _ (λ m. after_events-append xs ys m);
  names = second.names ∙ ap (option_map (λ (l : List (List ℕ)). l ++ names_asked ys)) first.names ∙ asked_then xs ys a.asked;
  moments = λ m is few k crashed within at. by_time m is few k crashed within at (nat_lt k (length xs)) refl;
  before = λ few t crashed low at. first.before (omega (arith, few, second.later)) t crashed low (second.before few t crashed (omega (arith, low, first.later)) at);
}
  where
    by_time : (m : Area) → a.held ≡ Some m → c.calls < most → (k : ℕ) (crashed : Area) → k ≤ length (xs ++ ys) → c.left (a.calls + k) crashed
        → (b : Bool) → nat_lt k (length xs) ≡ b → MayLeave (xs ++ ys) m k crashed
    by_time m is few k crashed within at true e =
        let early : k < length xs = grind (arith, nat_tests) in
        let mid : b.calls ≡ a.calls + length xs = omega (arith, few, second.later, first.counted) in
        leave_first xs ys m k crashed early (first.moments m is (omega (arith, few, second.later)) k crashed (omega (arith, early)) (second.before few (a.calls + k) crashed (omega (arith, early, mid)) at))
    by_time m is few k crashed within at false e =
        let late : length xs ≤ k = grind (arith, nat_tests) in
        let mid : b.calls ≡ a.calls + length xs = omega (arith, few, second.later, first.counted) in
        let same : a.calls + k ≡ b.calls + (k - length xs) = omega (arith, late, mid) in
        leave_then xs ys m (k - length xs) k crashed (omega (arith, late))
        (second.moments (after_events xs m) (first.area ∙ ap (option_map (after_events xs)) is) few (k - length xs) crashed
        (omega (arith, within, late, length-append xs ys)) (subst (λ (t : ℕ). c.left t crashed) same at))
