use Rattle.std.proofs.Common.{All, IfSome, List, ℕ, subst}
use Rattle.std.specs.Prelude.{IsUtf8}
use Rattle.pkg_meta.specs.declared.dependency.DepGroup.{DepGroup}
use Rattle.catalog_core.proofs.values.see_meta.Goals as goal

pub returns : goal.returns
returns c = record {
  verbatim = c.as_bytes-verbatim.ensures.utf8;
  authors = c.see_text.ensures;
  description = c.see_text-2.ensures;
  icon_url = c.see_text-3.ensures;
  license_url = c.see_text-4.ensures;
  min_client = c.see_text-5.ensures;
  project_url = c.see_text-6.ensures;
  release_notes = c.see_text-7.ensures;
  summary = c.see_text-8.ensures;
  title = c.see_text-9.ensures;
  tags = subst (λ (l : List (List ℕ)). All IsUtf8 l) c.as_slice.ensures c.see_texts.ensures;
  frameworks = subst (λ (l : List DepGroup). All (λ (g : DepGroup). IfSome g.framework IsUtf8) l) c.as_slice-2.ensures c.see_frameworks.ensures;
}
