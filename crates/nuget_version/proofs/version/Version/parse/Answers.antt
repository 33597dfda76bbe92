use Rattle.std.proofs.Common.{◌≡◌, ℕ, length, ap, ◌∙◌, arith, inr}
use Rattle.nuget_version.specs.Parts.{is_dotted}
use Rattle.nuget_version.specs.Walk.{behind_of}
use Rattle.nuget_version.proofs.Fields.{exact, found_fields, labels_read, meta_read, read_full_is, same_as, spelled_full_is}
use Rattle.nuget_version.proofs.version.Version.parse.Goals as goal

pub returns-in_err-found-clause-accepts : goal.returns-in_err-found-clause-accepts
returns-in_err-found-clause-accepts c = λ v spelled. absurd (c.in_err-found.ensures.none v spelled)

pub behind-labels-requires-clause-ascii : goal.behind-labels-requires-clause-ascii
behind-labels-requires-clause-ascii c = (found_fields c.args.text.now c.in_ok-found.found c.in_ok-found.ensures.found).ascii

pub behind-labels-requires-clause-before : goal.behind-labels-requires-clause-before
behind-labels-requires-clause-before c = λ x e.
    omega (arith, c.unwrap_or.ensures, (found_fields c.args.text.now c.in_ok-found.found c.in_ok-found.ensures.found).labels_fit x e)

pub behind-labels-requires-clause-within : goal.behind-labels-requires-clause-within
behind-labels-requires-clause-within c =
    omega (arith, c.unwrap_or.ensures, (found_fields c.args.text.now c.in_ok-found.found c.in_ok-found.ensures.found).end_fits)

pub behind-meta-requires-clause-ascii : goal.behind-meta-requires-clause-ascii
behind-meta-requires-clause-ascii c = (found_fields c.args.text.now c.in_ok-found.found c.in_ok-found.ensures.found).ascii

pub behind-meta-requires-clause-before : goal.behind-meta-requires-clause-before
behind-meta-requires-clause-before c = (found_fields c.args.text.now c.in_ok-found.found c.in_ok-found.ensures.found).meta_fits

pub returns-in-Some-clause-refused : goal.returns-in-Some-clause-refused
returns-in-Some-clause-refused c =
    let text = c.args.text.now in
    let f = c.in_ok-found.found in
    let h = c.in_ok-found.ensures.found in
    let l = labels_read text f h c.unwrap_or.result c.behind-labels.result.now c.unwrap_or.ensures c.behind-labels.ensures.value in
    let m = meta_read text f h c.behind-meta.result.now c.behind-meta.ensures.value in
    inr (h.pieces, h.made, h.short, h.small, c.in-Some.ensures.some.0 ∙ ap length (read_full_is text f h c.behind-labels.result.now c.behind-meta.result.now l m), c.in-Some.ensures.some.1)

pub returns-in-Some-clause-accepts : goal.returns-in-Some-clause-accepts
returns-in-Some-clause-accepts c = λ v spelled.
    let text = c.args.text.now in
    let f = c.in_ok-found.found in
    let h = c.in_ok-found.ensures.found in
    let s = same_as text f h.pieces h.made h.found v spelled in
    let l : c.behind-labels.result.now ≡ v.labels = c.behind-labels.ensures.value ∙ ap (λ (k : ℕ). behind_of text f.dash k) c.unwrap_or.ensures ∙ s.labels in
    let m : c.behind-meta.result.now ≡ v.meta = c.behind-meta.ensures.value ∙ s.meta in
    let fits = spelled_full_is text f v s c.behind-labels.result.now c.behind-meta.result.now l m in
    absurd (omega (arith, c.in-Some.ensures.some.0, c.in-Some.ensures.some.1, fits))

pub invariant_of-result-clause-major_fits : goal.invariant_of-result-clause-major_fits
invariant_of-result-clause-major_fits c = (exact c.args.text.now c.in_ok-found.found c.in_ok-found.ensures.found).small.major

pub invariant_of-result-clause-minor_fits : goal.invariant_of-result-clause-minor_fits
invariant_of-result-clause-minor_fits c = (exact c.args.text.now c.in_ok-found.found c.in_ok-found.ensures.found).small.minor

pub invariant_of-result-clause-patch_fits : goal.invariant_of-result-clause-patch_fits
invariant_of-result-clause-patch_fits c = (exact c.args.text.now c.in_ok-found.found c.in_ok-found.ensures.found).small.patch

pub invariant_of-result-clause-revision_fits : goal.invariant_of-result-clause-revision_fits
invariant_of-result-clause-revision_fits c = (exact c.args.text.now c.in_ok-found.found c.in_ok-found.ensures.found).small.revision

pub invariant_of-result-clause-labels_dotted : goal.invariant_of-result-clause-labels_dotted
invariant_of-result-clause-labels_dotted c =
    let h = c.in_ok-found.ensures.found in
    let l = labels_read c.args.text.now c.in_ok-found.found h c.unwrap_or.result c.behind-labels.result.now c.unwrap_or.ensures c.behind-labels.ensures.value in
    ap is_dotted (c.in_ok-labels.ensures ∙ l) ∙ h.made.are.labels

pub invariant_of-result-clause-meta_dotted : goal.invariant_of-result-clause-meta_dotted
invariant_of-result-clause-meta_dotted c =
    let h = c.in_ok-found.ensures.found in
    let m = meta_read c.args.text.now c.in_ok-found.found h c.behind-meta.result.now c.behind-meta.ensures.value in
    ap is_dotted (c.in_ok-meta.ensures ∙ m) ∙ h.made.are.meta

pub invariant_of-result-clause-short : goal.invariant_of-result-clause-short
invariant_of-result-clause-short c = rw (c.in_ok-labels.ensures, c.in_ok-meta.ensures) c.in_default.ensures.none

pub returns-clause-ok : goal.returns-clause-ok
returns-clause-ok c =
    let text = c.args.text.now in
    let f = c.in_ok-found.found in
    let h = c.in_ok-found.ensures.found in
    let e = exact text f h in
    record {
      short = h.short;
      pieces = h.pieces;
      made = h.made;
      major = e.major;
      minor = e.minor;
      patch = e.patch;
      revision = e.revision;
      labels = c.in_ok-labels.ensures ∙ labels_read text f h c.unwrap_or.result c.behind-labels.result.now c.unwrap_or.ensures c.behind-labels.ensures.value;
      meta = c.in_ok-meta.ensures ∙ meta_read text f h c.behind-meta.result.now c.behind-meta.ensures.value;
    }
