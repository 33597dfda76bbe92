use Rattle.std.proofs.Common.{◌∙◌, ap, sym}
use Rattle.nuget_version.specs.Printed.{full_text}
use Rattle.package_id.specs.declared.id.PackageId.{PackageId}
use Rattle.pkg_meta.specs.Items.{id_of, version_of}
use Rattle.catalog_doc.proofs.RowData.{same_id, same_version}
use Rattle.catalog_items.proofs.leaf.tells_of.Goals as goal

pub returns : goal.returns
returns c =
    let ids = same_id (id_of c.args.item.now) c.args.row.now.id (ap (λ (i : PackageId). i.text) (sym c.id.ensures) ∙ c.is_same.ensures.0 c.if-not-is_same.false) in (
      λ same. record {
        id = ids;
        version = same_version (version_of c.args.item.now) c.args.row.now.version
            (sym (ap full_text c.version.ensures) ∙ sym c.in_ok-other.ensures ∙ c.is_same-2.ensures.0 same ∙ c.in_ok-version.ensures);
        kind = sym c.is_gone.ensures ∙ c.is_same_kind.ensures.0 c.if-not-is_same_kind.false;
      },
      λ own. c.is_same-2.ensures.1 (c.in_ok-other.ensures ∙ ap full_text (c.version.ensures ∙ own.version) ∙ sym c.in_ok-version.ensures),
    )
