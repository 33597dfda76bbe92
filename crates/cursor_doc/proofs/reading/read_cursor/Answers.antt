use Rattle.std.proofs.Common.{◌≡◌, ◌∙◌, ap, sym}
use Rattle.std.proofs.lemmas.Option.{none-some, same_Some}
use Rattle.serde_json.specs.View.{view}
use Rattle.catalog_reading.proofs.Readable.{differs, is_read, not_read}
use Rattle.cursor_doc.specs.Cursor.{cursor_data, cursor_text}
use Rattle.cursor_doc.specs.declared.mark.Mark.{Mark}
use Rattle.cursor_doc.proofs.Cursors.{is_compact, readable}
use Rattle.cursor_doc.proofs.reading.read_cursor.Goals as goal

pub returns-in_default-clause-damaged : goal.returns-in_default-clause-damaged
returns-in_default-clause-damaged c = λ told mark fits is.
    let d = cursor_data mark.number mark.stamp in
    not_read view _ d c.in_default.is (c.in_ok-value.ensures.compact d (readable mark.number mark.stamp) (is_compact c.args.bytes.now mark.number mark.stamp is))

pub returns-in_default-mark_in-clause-damaged : goal.returns-in_default-mark_in-clause-damaged
returns-in_default-mark_in-clause-damaged c = λ told mark fits is.
    let d = cursor_data mark.number mark.stamp in
    let seen = is_read view _ _ d c.in-Some.is (c.in_ok-value.ensures.compact d (readable mark.number mark.stamp) (is_compact c.args.bytes.now mark.number mark.stamp is)) in
    none-some mark (c.in_default-mark_in.ensures mark fits seen)

pub returns-then-branch-clause-ok : goal.returns-then-branch-clause-ok
returns-then-branch-clause-ok c = c.in_ok-is_cursor.ensures.0 c.if-branch.true

pub returns-then-branch-clause-exact : goal.returns-then-branch-clause-exact
returns-then-branch-clause-exact c = λ mark fits is.
    let d = cursor_data mark.number mark.stamp in
    let seen = is_read view _ _ d c.in-Some.is (c.in_ok-value.ensures.compact d (readable mark.number mark.stamp) (is_compact c.args.bytes.now mark.number mark.stamp is)) in
    same_Some c.in-Some-mark_in.mark mark (c.in-Some-mark_in.ensures mark fits seen)

pub returns-clause-damaged : goal.returns-clause-damaged
returns-clause-damaged c = λ told mark fits is.
    let d = cursor_data mark.number mark.stamp in
    let seen = is_read view _ _ d c.in-Some.is (c.in_ok-value.ensures.compact d (readable mark.number mark.stamp) (is_compact c.args.bytes.now mark.number mark.stamp is)) in
    let same : c.in-Some-mark_in.mark ≡ mark = same_Some c.in-Some-mark_in.mark mark (c.in-Some-mark_in.ensures mark fits seen) in
    differs c.if-branch.false (c.in_ok-is_cursor.ensures.1 (is ∙ ap (λ (m : Mark). cursor_text m.number m.stamp) (sym same)))
