use Rattle.std.proofs.Common.{All, IsUtf8, ℕ, List, [], ◌∷◌, ◌++◌, refl, sym, ap, subst, ◌∙◌, ◌⊎◌}
use Rattle.std.specs.Prelude.{◌↔◌}
use Rattle.std.specs.FinMap.{keys}
use Rattle.std.specs.List.{Contains}
use Rattle.id_pass.specs.Named.{bodies_of}
use Rattle.id_pass.specs.Passes.{doc_puts, removals}
use Rattle.id_pass.specs.Told.{AreStatesOf}
use Rattle.id_pass.proofs.Gathered.{same_names}
use Rattle.id_pass.proofs.Sets.{in_ok}
use Rattle.id_pass.proofs.pass.plan_of.Goals as goal

states : (c : goal.After-drop-clean-3) → AreStatesOf c.args.taken c.args.target c.args.old.now (keys (bodies_of c.args.docs)) c.dirty_state-dirty.result c.clean_state-clean.result
states c = record {
  dirty_of = record {
    at = c.dirty_state-dirty.ensures.at;
    touched = c.dirty_state-dirty.ensures.touched.0;
    stamp = c.dirty_state-dirty.ensures.touched.1;
    entries = c.dirty_state-dirty.ensures.entries;
  };
  marked = c.dirty_state-dirty.ensures.dirty;
  all_names = λ name.
      subst (λ (ns : List (List ℕ)). Contains ns name ↔ (Contains c.args.old.now name ⊎ Contains (keys (bodies_of c.args.docs)) name)) (sym c.dirty_state-dirty.ensures.names)
      (same_names name c.in_ok-all.all refl (c.as_slice.ensures ∙ c.in_ok-new.ensures.names) (c.in_ok-all.ensures.members name));
  clean_of = record {
    at = c.clean_state-clean.ensures.at ∙ c.dirty_state-dirty.ensures.at;
    touched = c.clean_state-clean.ensures.touched.0 ∙ c.dirty_state-dirty.ensures.touched.0;
    stamp = c.clean_state-clean.ensures.touched.1 ∙ c.dirty_state-dirty.ensures.touched.1;
    entries = c.clean_state-clean.ensures.entries ∙ c.dirty_state-dirty.ensures.entries;
  };
  unmarked = c.clean_state-clean.ensures.dirty;
  new_names = c.clean_state-clean.ensures.names ∙ c.in_ok-new.ensures.names;
  texts = subst (All IsUtf8) (sym c.clean_state-clean.ensures.names) c.in_ok-new.ensures.texts;
}

pub returns : goal.returns
returns c =
    let puts = c.in_ok-puts.ensures ∙ ap (λ (index : List ℕ). doc_puts index (bodies_of c.args.given.now) (bodies_of c.args.docs)) c.in_ok-index.ensures in
    let rest = c.in_ok-removals.ensures ∙ ap (λ (index : List ℕ). removals index (bodies_of c.args.docs) c.args.old.now) (c.as_str.ensures ∙ c.in_ok-index.ensures) in
    in_ok _ _
    (λ plan is. (
      c.dirty_state-dirty.result,
      c.clean_state-clean.result,
      states c,
      is ∙ (λ i. c.in_ok-first.ensures i ∷ (puts i ++ (rest i ++ c.in_ok-last.ensures i ∷ []))),
    ))
    c.join.result c.join.ensures
