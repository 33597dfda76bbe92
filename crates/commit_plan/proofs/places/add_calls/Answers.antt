use Rattle.std.proofs.Common.{◌∙◌, ◌++◌, ◌∷◌, [], List, ap, append_assoc}
use Rattle.blob_store.specs.declared.call.Call.{Call}
use Rattle.blob_store.specs.declared.call.Call.TheVariants.{Put}
use Rattle.catalog_doc.specs.Commits.{staged_of, staged_puts}
use Rattle.catalog_doc.specs.Documents.{leaf_text}
use Rattle.catalog_doc.specs.Names.{leaf_name}
use Rattle.commit_plan.proofs.places.add_calls.Goals as goal

pub returns : goal.returns
returns c =
    let leaf : Call = Put (leaf_name c.args.number c.args.place) (leaf_text c.args.base.now c.args.number c.args.place c.args.stamp c.args.item.now) in
    c.in_ok-add_leaf.ensures
    ∙ ap (λ (l : List Call). l ++ leaf ∷ []) c.in_ok-add_brought.ensures
    ∙ append_assoc c.args.calls.now (staged_puts c.args.number c.args.place (staged_of c.args.change.now)) (leaf ∷ [])
