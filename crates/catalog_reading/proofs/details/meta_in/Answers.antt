use Rattle.std.proofs.Common.{◌≡◌, ◌∙◌, Some, ap, sym}
use Rattle.std.proofs.lemmas.Option.{none-some, same_Some}
use Rattle.serde_json.specs.View.{view}
use Rattle.pkg_meta.specs.Made.{identity_of, meta_of}
use Rattle.catalog_reading.proofs.Shows.{shows_texts}
use Rattle.catalog_reading.proofs.details.meta_in.Goals as goal

pub returns-in_default : goal.returns-in_default
returns-in_default c = λ d shows. absurd (none-some _ (sym c.in_default.is ∙ c.in_ok-groups.ensures d shows))

pub returns-in_default-2 : goal.returns-in_default-2
returns-in_default-2 c = λ d shows. absurd (none-some _ (sym c.in_default-2.is ∙ c.in_ok-identity.ensures d shows))

pub returns : goal.returns
returns c = λ d shows.
    let texts = c.in_ok-texts.ensures ∙ shows_texts d (view c.args.value.now) shows in
    let tags : c.in_ok-tags.tags ≡ d.meta.tags = c.in_ok-tags.ensures d shows in
    let groups : c.in-Some.groups ≡ d.meta.groups = same_Some _ _ (sym c.in-Some.is ∙ c.in_ok-groups.ensures d shows) in
    let identity : c.in-Some-2.identity ≡ identity_of d.meta = same_Some _ _ (sym c.in-Some-2.is ∙ c.in_ok-identity.ensures d shows) in
    let license = c.require_license_in-require_license.ensures d shows in
    ap Some c.made_of.ensures ∙ (λ i. Some (meta_of (identity i) (texts i) (license i) (tags i) (groups i)))
