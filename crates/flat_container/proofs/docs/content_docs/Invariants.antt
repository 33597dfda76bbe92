use Rattle.std.proofs.Common.{◌≡◌, ◌∷◌, take}
use Rattle.std.specs.Prelude.{flat_map}
use Rattle.flat_container.specs.Documents.{file_docs, index_doc}
use Rattle.flat_container.proofs.docs.content_docs.Given as goal

abbrev pub invariant-loop-entry : goal.invariant-loop-entry
invariant-loop-entry l = l.docs ≡ index_doc l.key l.entries ∷ flat_map (file_docs l.key) (take l.entry-index l.entries)
