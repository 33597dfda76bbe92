use Rattle.std.proofs.Common.{◌≡◌, ◌++◌, map}
use Rattle.std.specs.Slice.Iter.{chunks_rest, chunks_size}
use Rattle.reg_docs.specs.Documents.{registration_page_doc}
use Rattle.reg_docs.specs.Pages.{cut}
use Rattle.reg_docs.proofs.docs.push_pages.Given as goal

-- the pages so far, and those of the entries that are left
abbrev pub invariant-loop-run : goal.invariant-loop-run
invariant-loop-run l = record {
  next : goal.iterator-loop-run.can_next l.run-iterator;
  finite : goal.iterator-loop-run.is_finite l.run-iterator;
  size : chunks_size l.run-iterator ≡ 64;
  done : l.docs ++ map (registration_page_doc l.base l.root l.key) (cut (chunks_rest l.run-iterator)) ≡ l.fn.docs ++ map (registration_page_doc l.base l.root l.key) (cut l.entries);
}
