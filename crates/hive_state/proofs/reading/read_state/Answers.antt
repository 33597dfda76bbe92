use Rattle.std.proofs.Common.{◌≡◌, ◌∙◌, ap, sym}
use Rattle.std.proofs.lemmas.Option.{none-some, same_Some}
use Rattle.serde_json.specs.View.{view}
use Rattle.catalog_reading.proofs.Readable.{differs, is_read, not_read}
use Rattle.hive_state.specs.State.{state_data, state_text}
use Rattle.hive_state.proofs.Trees.{is_compact, readable}
use Rattle.hive_state.proofs.reading.read_state.Goals as goal

pub returns-in_default-clause-damaged : goal.returns-in_default-clause-damaged
returns-in_default-clause-damaged c = λ told s v is.
    not_read view _ (state_data s) c.in_default.is (c.in_ok-value.ensures.compact (state_data s) (readable s v) (is_compact c.args.bytes.now s is))

pub returns-in_default-2-clause-damaged : goal.returns-in_default-2-clause-damaged
returns-in_default-2-clause-damaged c = λ told s v is.
    let seen = is_read view _ _ (state_data s) c.in-Some.is (c.in_ok-value.ensures.compact (state_data s) (readable s v) (is_compact c.args.bytes.now s is)) in
    none-some s (sym c.in_default-2.is ∙ c.in_ok-state.ensures s v seen)

pub returns-then-branch-clause-ok : goal.returns-then-branch-clause-ok
returns-then-branch-clause-ok c = c.in_ok-is_state.ensures.0 c.if-branch.true

pub returns-then-branch-clause-exact : goal.returns-then-branch-clause-exact
returns-then-branch-clause-exact c = λ s v is.
    let seen = is_read view _ _ (state_data s) c.in-Some.is (c.in_ok-value.ensures.compact (state_data s) (readable s v) (is_compact c.args.bytes.now s is)) in
    same_Some c.in-Some-2.state s (sym c.in-Some-2.is ∙ c.in_ok-state.ensures s v seen)

pub returns-clause-damaged : goal.returns-clause-damaged
returns-clause-damaged c = λ told s v is.
    let seen = is_read view _ _ (state_data s) c.in-Some.is (c.in_ok-value.ensures.compact (state_data s) (readable s v) (is_compact c.args.bytes.now s is)) in
    let same : c.in-Some-2.state ≡ s = same_Some c.in-Some-2.state s (sym c.in-Some-2.is ∙ c.in_ok-state.ensures s v seen) in
    differs c.if-branch.false (c.in_ok-is_state.ensures.1 (is ∙ ap state_text (sym same)))
