use Rattle.std.proofs.Common.{◌≡◌, ◌∙◌, ◌+◌, ◌++◌, ℕ, List, [], ◌∷◌, Err, Ok, Some, ap, inl, inr, length, map, option_map, subst, sym}
use Rattle.std.specs.Prelude.{IsErrOf}
use Rattle.std.proofs.lemmas.Result.{err_from_is_err_and}
use Rattle.std.specs.FinMap.{get}
use Rattle.blob_store.specs.Events.{Get}
use Rattle.blob_store.specs.Plans.{Makes}
use Rattle.blob_store.proofs.Following.{makes_then}
use Rattle.catalog_doc.specs.Documents.{head_of, index_text}
use Rattle.catalog_doc.specs.Names.{index_name}
use Rattle.catalog_doc.specs.declared.head.PageHead.{PageHead}
use Rattle.catalog_doc.proofs.OnePage.{none_some}
use Rattle.catalog_opening.specs.Errors.{open_err_of}
use Rattle.catalog_opening.specs.Openings.{IsAllowedBase, IsDamagedOf, IsKnownAs, IsToldBase}
use Rattle.catalog_opening.specs.Pages.{IsDamagedIn, rows_on}
use Rattle.catalog_opening.specs.Plans.{HaltsAt, page_gets}
use Rattle.catalog_opening.specs.Reads.{IsNoIndex}
use Rattle.catalog_opening.specs.declared.error.OpenErr.TheVariants as opening
use Rattle.catalog_opening.specs.declared.error.ReadErr.TheVariants.{Fault}
use Rattle.catalog_opening.specs.declared.opening.Known.{Known}
use Rattle.catalog_opening.proofs.Fitting.{not_damaged}
use Rattle.catalog_opening.proofs.Halting.{gets_keep, halts_behind, halts_early}
use Rattle.catalog_opening.proofs.Mended.{mends_as, mends_behind, mends_gets, mends_reading}
use Rattle.catalog_opening.proofs.OpenSteps.{at_error, damage_none, held_as, mends_open, mends_same, never_missing, no_index_is, none_told, opening_damaged, opens_halted, opens_refused, read_index_is, refused_quietly, refused_whole, told_base, told_is}
use Rattle.catalog_opening.proofs.opening.open.Goals as goal

pub returns-in_err-index-clause-opens : goal.returns-in_err-index-clause-opens
returns-in_err-index-clause-opens g c = λ m base heads pages acts is openable.
    let p = err_from_is_err_and c.from_residual.result c.from_residual.ensures.1 in
    opens_halted (option_map (λ t. t.now) c.args.given) base heads pages acts (g.B.Blobs.seen c.args.area.now) (g.B.Blobs.seen c.get_index.new.area) c.from_residual.result c.in_err-index.field-0.0 (p.1 ∙ ap Err p.2)
    (halts_early (Get index_name ∷ []) (page_gets 0 (length heads + 1) ++ acts) (g.B.Blobs.seen c.args.area.now) (g.B.Blobs.seen c.get_index.new.area) c.in_err-index.field-0.0 c.in_err-index.ensures.runs)
    (damage_none (λ (name : List ℕ). (name ≡ index_name) × IsNoIndex (get m index_name)) c.in_err-index.field-0.0 (λ name told. told.1.1 base heads openable.index) (c.in_err-index.ensures.damaged m is))

pub returns-in_err-index-clause-mends : goal.returns-in_err-index-clause-mends
returns-in_err-index-clause-mends g c =
    let p = err_from_is_err_and c.from_residual.result c.from_residual.ensures.1 in
    mends_open (g.B.Blobs.seen c.args.area.now) (g.B.Blobs.seen c.get_index.new.area) c.from_residual.result c.in_err-index.field-0.0 (p.1 ∙ ap Err p.2)
    (mends_reading (Get index_name ∷ []) c.in_err-index.field-0.0 (g.B.Blobs.seen c.args.area.now) (g.B.Blobs.seen c.get_index.new.area) tt c.in_err-index.ensures.runs)

pub returns-in_err-index-clause-missing : goal.returns-in_err-index-clause-missing
returns-in_err-index-clause-missing g c = λ told.
    let p = err_from_is_err_and c.from_residual.result c.from_residual.ensures.1 in
    absurd (never_missing c.from_residual.result c.in_err-index.field-0.0 (p.1 ∙ ap Err p.2) told)

pub returns-in_err-index-clause-damaged : goal.returns-in_err-index-clause-damaged
returns-in_err-index-clause-damaged g c = λ m is.
    let p = err_from_is_err_and c.from_residual.result c.from_residual.ensures.1 in
    opening_damaged (λ (name : List ℕ). (name ≡ index_name) × IsNoIndex (get m index_name)) (IsDamagedOf m) c.from_residual.result c.in_err-index.field-0.0 (p.1 ∙ ap Err p.2) (λ name told. inl told) (c.in_err-index.ensures.damaged m is)

pub returns-in_default-clause-opens : goal.returns-in_default-clause-opens
returns-in_default-clause-opens g c = λ m base heads pages acts is openable.
    let none = no_index_is (get m index_name) c.in_ok-index.field-0 c.in_default.is (c.in_ok-index.ensures.ok m is) in
    absurd (none_some (index_text base heads) (sym none ∙ openable.index.text))

pub returns-in_default-clause-mends : goal.returns-in_default-clause-mends
returns-in_default-clause-mends g c =
    mends_gets (Get index_name ∷ []) (g.B.Blobs.seen c.args.area.now) (g.B.Blobs.seen c.get_index.new.area) (IsErrOf {T = Known} (Err opening.Missing) opening.Fault) (λ is. let no : ⊥ = cc in no) tt c.in_ok-index.ensures.runs

pub returns-in_default-clause-missing : goal.returns-in_default-clause-missing
returns-in_default-clause-missing g c = λ told m is. no_index_is (get m index_name) c.in_ok-index.field-0 c.in_default.is (c.in_ok-index.ensures.ok m is)

pub returns-in_err-check_base-clause-opens : goal.returns-in_err-check_base-clause-opens
returns-in_err-check_base-clause-opens g c = λ m base heads pages acts is openable.
    let p = err_from_is_err_and c.from_residual-in_err-check_base.result c.from_residual-in_err-check_base.ensures.1 in
    let read = read_index_is (get m index_name) c.in_ok-index.field-0 c.in-Some.index c.in-Some.is (c.in_ok-index.ensures.ok m is) in
    opens_refused (option_map (λ t. t.now) c.args.given) base heads pages acts (g.B.Blobs.seen c.args.area.now) (g.B.Blobs.seen c.get_index.new.area) c.from_residual-in_err-check_base.result
    c.as_str.result.now c.in_err-check_base.ensures.0 c.in_err-check_base.field-0.0 (c.as_str.ensures ∙ (read.only base heads openable.index).0) (p.1 ∙ ap Err p.2)
    c.in_err-check_base.ensures.1 c.in_err-check_base.ensures.2 c.in_err-check_base.ensures.3 c.in_ok-index.ensures.runs

pub returns-in_err-check_base-clause-mends : goal.returns-in_err-check_base-clause-mends
returns-in_err-check_base-clause-mends g c =
    let p = err_from_is_err_and c.from_residual-in_err-check_base.result c.from_residual-in_err-check_base.ensures.1 in
    let quiet = refused_quietly c.as_str.result.now c.in_err-check_base.ensures.0 c.in_err-check_base.field-0.0 c.in_err-check_base.ensures.3 in
    mends_gets (Get index_name ∷ []) (g.B.Blobs.seen c.args.area.now) (g.B.Blobs.seen c.get_index.new.area) (IsErrOf c.from_residual-in_err-check_base.result opening.Fault)
    (λ told. quiet.0 (told_is c.from_residual-in_err-check_base.result c.in_err-check_base.field-0.0 opening.Fault (p.1 ∙ ap Err p.2) told)) tt c.in_ok-index.ensures.runs

pub returns-in_err-check_base-clause-missing : goal.returns-in_err-check_base-clause-missing
returns-in_err-check_base-clause-missing g c = λ told.
    let p = err_from_is_err_and c.from_residual-in_err-check_base.result c.from_residual-in_err-check_base.ensures.1 in
    let quiet = refused_quietly c.as_str.result.now c.in_err-check_base.ensures.0 c.in_err-check_base.field-0.0 c.in_err-check_base.ensures.3 in
    absurd (quiet.1 (told_is c.from_residual-in_err-check_base.result c.in_err-check_base.field-0.0 opening.Missing (p.1 ∙ ap Err p.2) told))

pub returns-in_err-check_base-clause-damaged : goal.returns-in_err-check_base-clause-damaged
returns-in_err-check_base-clause-damaged g c = λ m is.
    let p = err_from_is_err_and c.from_residual-in_err-check_base.result c.from_residual-in_err-check_base.ensures.1 in
    refused_whole c.as_str.result.now c.in_err-check_base.ensures.0 c.in_err-check_base.field-0.0 c.from_residual-in_err-check_base.result (IsDamagedOf m) (p.1 ∙ ap Err p.2) c.in_err-check_base.ensures.3

pub returns-in_err-known-clause-opens : goal.returns-in_err-known-clause-opens
returns-in_err-known-clause-opens g c = λ m base heads pages acts is openable.
    let p = err_from_is_err_and c.from_residual-in_err-known.result c.from_residual-in_err-known.ensures.1 in
    let read = read_index_is (get m index_name) c.in_ok-index.field-0 c.in-Some.index c.in-Some.is (c.in_ok-index.ensures.ok m is) in
    let kept = gets_keep (Get index_name ∷ []) (g.B.Blobs.seen c.args.area.now) (g.B.Blobs.seen c.get_index.new.area) tt c.in_ok-index.ensures.runs ∙ is in
    let own = read.only base heads openable.index in
    let held = held_as m base c.in-Some.index.base heads c.in-Some.index.heads pages own.0 own.1 openable.pages_held in
    opens_halted (option_map (λ t. t.now) c.args.given) base heads pages acts (g.B.Blobs.seen c.args.area.now) (g.B.Blobs.seen c.open_pages.new.area) c.from_residual-in_err-known.result c.in_err-known.field-0.0 (p.1 ∙ ap Err p.2)
    (halts_behind (Get index_name ∷ []) (page_gets 0 (length heads + 1) ++ acts) (g.B.Blobs.seen c.args.area.now) (g.B.Blobs.seen c.get_index.new.area) (g.B.Blobs.seen c.open_pages.new.area) c.in_ok-index.ensures.runs c.in_err-known.field-0.0
    (subst (λ (l : List PageHead). HaltsAt (page_gets 0 (length l + 1) ++ acts) c.in_err-known.field-0.0 (g.B.Blobs.seen c.get_index.new.area) (g.B.Blobs.seen c.open_pages.new.area)) own.1
    (c.in_err-known.ensures.runs m pages acts kept held (mends_same base c.in-Some.index.base heads c.in-Some.index.heads (map head_of pages) acts own.0 own.1 openable.mends))))
    (damage_none (IsDamagedIn m c.in-Some.index.base c.in-Some.index.heads) c.in_err-known.field-0.0 (λ name told. not_damaged m c.in-Some.index.base c.in-Some.index.heads pages name held told) (c.in_err-known.ensures.damaged m kept))

pub returns-in_err-known-clause-mends : goal.returns-in_err-known-clause-mends
returns-in_err-known-clause-mends g c =
    let p = err_from_is_err_and c.from_residual-in_err-known.result c.from_residual-in_err-known.ensures.1 in
    mends_behind (Get index_name ∷ []) (g.B.Blobs.seen c.args.area.now) (g.B.Blobs.seen c.get_index.new.area) (g.B.Blobs.seen c.open_pages.new.area) (IsErrOf c.from_residual-in_err-known.result opening.Fault) tt c.in_ok-index.ensures.runs
    (mends_open (g.B.Blobs.seen c.get_index.new.area) (g.B.Blobs.seen c.open_pages.new.area) c.from_residual-in_err-known.result c.in_err-known.field-0.0 (p.1 ∙ ap Err p.2)
    (mends_as (g.B.Blobs.seen c.get_index.new.area) (g.B.Blobs.seen c.open_pages.new.area) (IsErrOf {T = Known} (Err c.in_err-known.field-0.0) Fault) (c.in_err-known.field-0.0 ≡ Fault) (λ is. let same : c.in_err-known.field-0.0 ≡ Fault = cc in same) (ap Err) c.in_err-known.ensures.mends))

pub returns-in_err-known-clause-missing : goal.returns-in_err-known-clause-missing
returns-in_err-known-clause-missing g c = λ told.
    let p = err_from_is_err_and c.from_residual-in_err-known.result c.from_residual-in_err-known.ensures.1 in
    absurd (never_missing c.from_residual-in_err-known.result c.in_err-known.field-0.0 (p.1 ∙ ap Err p.2) told)

pub returns-in_err-known-clause-damaged : goal.returns-in_err-known-clause-damaged
returns-in_err-known-clause-damaged g c = λ m is.
    let p = err_from_is_err_and c.from_residual-in_err-known.result c.from_residual-in_err-known.ensures.1 in
    let read = read_index_is (get m index_name) c.in_ok-index.field-0 c.in-Some.index c.in-Some.is (c.in_ok-index.ensures.ok m is) in
    let kept = gets_keep (Get index_name ∷ []) (g.B.Blobs.seen c.args.area.now) (g.B.Blobs.seen c.get_index.new.area) tt c.in_ok-index.ensures.runs ∙ is in
    opening_damaged (IsDamagedIn m c.in-Some.index.base c.in-Some.index.heads) (IsDamagedOf m) c.from_residual-in_err-known.result c.in_err-known.field-0.0 (p.1 ∙ ap Err p.2)
    (λ name told. inr (c.in-Some.index.base, c.in-Some.index.heads, read.text, told)) (c.in_err-known.ensures.damaged m kept)

pub returns-clause-opens : goal.returns-clause-opens
returns-clause-opens g c = λ m base heads pages acts is openable.
    let read = read_index_is (get m index_name) c.in_ok-index.field-0 c.in-Some.index c.in-Some.is (c.in_ok-index.ensures.ok m is) in
    let kept = gets_keep (Get index_name ∷ []) (g.B.Blobs.seen c.args.area.now) (g.B.Blobs.seen c.get_index.new.area) tt c.in_ok-index.ensures.runs ∙ is in
    let own = read.only base heads openable.index in
    let held = held_as m base c.in-Some.index.base heads c.in-Some.index.heads pages own.0 own.1 openable.pages_held in
    record {
      answers = (
        subst (IsAllowedBase (option_map (λ t. t.now) c.args.given)) (c.as_str.ensures ∙ own.0) c.in_ok-check_base.ensures,
        subst (λ (b : List ℕ). IsKnownAs b (rows_on pages) (map head_of pages) c.in_ok-known.known) own.0 (c.in_ok-known.ensures.known m pages kept held),
      );
      runs = makes_then (Get index_name ∷ []) (page_gets 0 (length heads + 1) ++ acts) (g.B.Blobs.seen c.args.area.now) (g.B.Blobs.seen c.get_index.new.area) (g.B.Blobs.seen c.open_pages.new.area) c.in_ok-index.ensures.runs
          (subst (λ (l : List PageHead). Makes (page_gets 0 (length l + 1) ++ acts) (g.B.Blobs.seen c.get_index.new.area) (g.B.Blobs.seen c.open_pages.new.area)) own.1
          (c.in_ok-known.ensures.runs m pages acts kept held (mends_same base c.in-Some.index.base heads c.in-Some.index.heads (map head_of pages) acts own.0 own.1 openable.mends)));
    }

pub returns-clause-mends : goal.returns-clause-mends
returns-clause-mends g c =
    mends_behind (Get index_name ∷ []) (g.B.Blobs.seen c.args.area.now) (g.B.Blobs.seen c.get_index.new.area) (g.B.Blobs.seen c.open_pages.new.area) (IsErrOf {T = Known} (Ok c.in_ok-known.known) opening.Fault) tt c.in_ok-index.ensures.runs
    (mends_as (g.B.Blobs.seen c.get_index.new.area) (g.B.Blobs.seen c.open_pages.new.area) (IsErrOf {T = Known} (Ok c.in_ok-known.known) Fault) (IsErrOf {T = Known} (Ok c.in_ok-known.known) opening.Fault) (λ is. let no : ⊥ = cc in absurd no) (λ is. let no : ⊥ = cc in absurd no) c.in_ok-known.ensures.mends)

pub returns-in_err-index-clause-other_base : goal.returns-in_err-index-clause-other_base
returns-in_err-index-clause-other_base g c = λ m is.
    let p = err_from_is_err_and c.from_residual.result c.from_residual.ensures.1 in
    at_error (IsToldBase (option_map (λ t. t.now) c.args.given) m) c.from_residual.result (open_err_of c.in_err-index.field-0.0) (p.1 ∙ ap Err p.2)
    (none_told (option_map (λ t. t.now) c.args.given) m c.in_err-index.field-0.0)

pub returns-in_err-check_base-clause-other_base : goal.returns-in_err-check_base-clause-other_base
returns-in_err-check_base-clause-other_base g c = λ m is.
    let p = err_from_is_err_and c.from_residual-in_err-check_base.result c.from_residual-in_err-check_base.ensures.1 in
    let read = read_index_is (get m index_name) c.in_ok-index.field-0 c.in-Some.index c.in-Some.is (c.in_ok-index.ensures.ok m is) in
    at_error (IsToldBase (option_map (λ t. t.now) c.args.given) m) c.from_residual-in_err-check_base.result c.in_err-check_base.field-0.0 (p.1 ∙ ap Err p.2)
    (told_base (option_map (λ t. t.now) c.args.given) m c.as_str.result.now c.in_err-check_base.ensures.0 c.in-Some.index.heads c.in_err-check_base.field-0.0
    (read.text ∙ ap (λ (b : List ℕ). Some (index_text b c.in-Some.index.heads)) (sym c.as_str.ensures))
    c.in_err-check_base.ensures.1 c.in_err-check_base.ensures.2 c.in_err-check_base.ensures.3)

pub returns-in_err-known-clause-other_base : goal.returns-in_err-known-clause-other_base
returns-in_err-known-clause-other_base g c = λ m is.
    let p = err_from_is_err_and c.from_residual-in_err-known.result c.from_residual-in_err-known.ensures.1 in
    at_error (IsToldBase (option_map (λ t. t.now) c.args.given) m) c.from_residual-in_err-known.result (open_err_of c.in_err-known.field-0.0) (p.1 ∙ ap Err p.2)
    (none_told (option_map (λ t. t.now) c.args.given) m c.in_err-known.field-0.0)
