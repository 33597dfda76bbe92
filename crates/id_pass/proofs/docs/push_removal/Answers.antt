use Rattle.std.proofs.Common.{◌≡◌, ◌++◌, ◌∷◌, [], ℕ, List, Bool, cond, map, sym, ap, subst, ◌∙◌, append-nil}
use Rattle.std.specs.Prelude.{OnOk}
use Rattle.id_pass.specs.Named.{bodies_of}
use Rattle.id_pass.specs.Passes.{is_left_over}
use Rattle.id_pass.specs.declared.call.Call.{Call}
use Rattle.id_pass.specs.declared.call.Call.TheVariants.{Remove}
use Rattle.id_pass.proofs.docs.push_removal.Goals as goal

pub returns-then-is_left_over : goal.returns-then-is_left_over
returns-then-is_left_over c =
    subst (λ (l : List Call). OnOk c.push.result (c.push.new.self ≡ c.args.calls.now ++ l))
    (ap (λ (n : List ℕ). Remove n ∷ []) c.in_ok-name.ensures
    ∙ ap (λ (b : Bool). map {A = List ℕ} {B = Call} (λ (n : List ℕ). Remove n) (cond b (c.args.name.now ∷ []) []))
    (sym c.if-is_left_over.true ∙ c.is_left_over.ensures ∙ ap (is_left_over c.args.index.now (bodies_of c.args.docs.now)) c.as_str.ensures))
    c.push.ensures.ok

pub returns : goal.returns
returns c =
    sym (append-nil c.args.calls.now)
    ∙ ap (λ (b : Bool). c.args.calls.now ++ map {A = List ℕ} {B = Call} (λ (n : List ℕ). Remove n) (cond b (c.args.name.now ∷ []) []))
    (sym c.if-is_left_over.false ∙ c.is_left_over.ensures ∙ ap (is_left_over c.args.index.now (bodies_of c.args.docs.now)) c.as_str.ensures)
