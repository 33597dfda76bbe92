use Rattle.std.proofs.Common.{◌≡◌, ◌<◌, ◌+◌, ℕ, Bool, true, false, cond, Option, Some, Result, Ok, Err, OnOk, OnErr, List, String, length}
use Rattle.std.proofs.Common.{ap, ap₂, ◌∙◌, sym, arith}
use Rattle.std.proofs.lemmas.List.{length_push}
use Rattle.std.proofs.lemmas.Map.Text.{btree_map_updates_text}
use Rattle.std.specs.BTreeMap.{BTreeMap, get_by_text, is_at, IsUnchanged, UpdatesBy}
use Rattle.std.specs.Cmp.Lexicographic.{slice_cmp}
use Rattle.std.specs.Map.{lookup}
use Rattle.std.specs.Ordering.{nat_cmp}
use Rattle.std.specs.Str.{bytes_eq}
use Rattle.std.specs.String.{string_bytes, string_cmp}
use Rattle.job_round.proofs.ids.Ids.add.Goals as goal

within_more : (same : Bool) (old : Option ℕ) (n m place : ℕ) → cond same (Some n) old ≡ Some place → (old ≡ Some place → place < n)
    → m ≡ n + 1 → place < m
within_more true old n m place is within more = let here : n ≡ place = cc in omega (arith, here, more)
within_more false old n m place is within more = omega (arith, within is, more)

-- whether the map took the key or not, it has no place beyond the states
kept_within : {Y T E : Type 0} (r : Result T E) (bs : List ℕ) (old new : BTreeMap (String Y) ℕ) (n m : ℕ)
    → OnOk r (UpdatesBy string_cmp (λ k. slice_cmp nat_cmp bs (string_bytes k)) old new (Some n)) → OnErr r (IsUnchanged old new)
    → ((key : List ℕ) (place : ℕ) → get_by_text old key ≡ Some place → place < n) → m ≡ n + 1
    → (key : List ℕ) (place : ℕ) → get_by_text new key ≡ Some place → place < m
kept_within (Ok t) bs old new n m ok err within more = λ key place is.
    within_more (bytes_eq bs key) (get_by_text old key) n m place (sym (btree_map_updates_text bs old new (Some n) ok key) ∙ is) (within key place) more
kept_within (Err e) bs old new n m ok err within more = λ key place is.
    let was : get_by_text old key ≡ Some place = sym (ap (λ (es : List _). lookup (is_at (λ k. slice_cmp nat_cmp key (string_bytes k))) es) err) ∙ is in
    omega (arith, within key place was, more)

pub invariant_of-self-2 : goal.invariant_of-self-2
invariant_of-self-2 c = record {
  within = kept_within c.insert.result (string_bytes c.in_ok-name.name) c.args.self.now.places c.insert.new.self c.len-place.result
      (length c.push.new.self.items) c.insert.ensures.updates c.insert.ensures.err
      (λ key place is. omega (arith, c.args.self.now.within key place is, c.len-place.ensures))
      (omega (arith, ap (λ (l : List _). length l) c.in_ok-push.ensures.items, length_push c.args.self.now.list.items c.in_ok-id.id));
}

pub returns-clause-places : goal.returns-clause-places
returns-clause-places c = λ asked.
    btree_map_updates_text (string_bytes c.in_ok-name.name) c.args.self.now.places c.insert.new.self _ c.in_ok-insert.ensures.updates asked
    ∙ ap₂ (λ (t : List ℕ) (n : ℕ). cond (bytes_eq t asked) (Some n) (get_by_text c.args.self.now.places asked))
    (c.in_ok-name.ensures.ok ∙ c.as_str.ensures) (c.len-place.ensures ∙ c.args.self.now.list.ok.0)
