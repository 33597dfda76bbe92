use Rattle.std.proofs.Common.{◌≡◌, ◌<◌, ◌^◌, ◌∙◌, length, sym, subst, List}
use Rattle.std.proofs.lemmas.Option.{none-some, same_Some}
use Rattle.json.specs.Value.{value_view}
use Rattle.serde_json.specs.Written.{outline}
use Rattle.catalog_doc.specs.Documents.{index_data, index_text}
use Rattle.catalog_doc.specs.declared.head.PageHead.{PageHead}
use Rattle.catalog_reading.proofs.Readable.{differs, is_compact, is_read, not_read}
use Rattle.catalog_reading.proofs.Texts.{index_readable}
use Rattle.catalog_reading.proofs.reading.read_index.Goals as goal

pub returns-in_default-clause-damaged : goal.returns-in_default-clause-damaged
returns-in_default-clause-damaged c = λ told base heads text are few is.
    not_read value_view _ (outline (index_data base heads)) c.in_default.is (c.in_ok-value.ensures (index_data base heads) (index_readable base heads text are few) (is_compact c.args.bytes.now base heads is))

pub returns-in_default-base_in-clause-damaged : goal.returns-in_default-base_in-clause-damaged
returns-in_default-base_in-clause-damaged c = λ told base heads text are few is.
    let seen = is_read value_view _ _ (outline (index_data base heads)) c.in-Some.is (c.in_ok-value.ensures (index_data base heads) (index_readable base heads text are few) (is_compact c.args.bytes.now base heads is)) in
    not_read _ _ base c.in_default-base_in.is (c.base_in.ensures base heads text seen)

pub returns-in_default-2-clause-damaged : goal.returns-in_default-2-clause-damaged
returns-in_default-2-clause-damaged c = λ told base heads text are few is.
    let seen = is_read value_view _ _ (outline (index_data base heads)) c.in-Some.is (c.in_ok-value.ensures (index_data base heads) (index_readable base heads text are few) (is_compact c.args.bytes.now base heads is)) in
    none-some heads (sym c.in_default-2.is ∙ c.in_ok-heads.ensures base heads are seen)

pub returns-then-branch-clause-exact : goal.returns-then-branch-clause-exact
returns-then-branch-clause-exact c = λ base heads text are few is.
    let seen = is_read value_view _ _ (outline (index_data base heads)) c.in-Some.is (c.in_ok-value.ensures (index_data base heads) (index_readable base heads text are few) (is_compact c.args.bytes.now base heads is)) in (
      c.in_ok-base.ensures ∙ is_read _ _ _ base c.in-Some-base_in.is (c.base_in.ensures base heads text seen),
      same_Some c.in-Some-2.heads heads (sym c.in-Some-2.is ∙ c.in_ok-heads.ensures base heads are seen),
    )

pub returns-clause-damaged : goal.returns-clause-damaged
returns-clause-damaged c = λ told base heads text are few is.
    let seen = is_read value_view _ _ (outline (index_data base heads)) c.in-Some.is (c.in_ok-value.ensures (index_data base heads) (index_readable base heads text are few) (is_compact c.args.bytes.now base heads is)) in
    let bases : c.in-Some-base_in.base.now ≡ base = is_read _ _ _ base c.in-Some-base_in.is (c.base_in.ensures base heads text seen) in
    let same : c.as_slice.result.now ≡ heads = c.as_slice.ensures ∙ same_Some c.in-Some-2.heads heads (sym c.in-Some-2.is ∙ c.in_ok-heads.ensures base heads are seen) in
    differs c.if-branch.false (c.in_ok-is_index.ensures.1 (subst (λ (l : List PageHead). length l < 2 ^ 32) (sym same) few, is ∙ λ i. index_text ((sym bases) i) ((sym same) i)))
