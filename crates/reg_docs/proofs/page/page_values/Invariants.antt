use Rattle.std.proofs.Common.{◌≡◌, ◌++◌, map}
use Rattle.std.specs.Slice.Iter.{chunks_rest, chunks_size}
use Rattle.serde_json.specs.View.{view}
use Rattle.reg_docs.specs.Documents.{in_index}
use Rattle.reg_docs.specs.Pages.{cut}
use Rattle.reg_docs.proofs.page.page_values.Given as goal

-- the pages so far, and those of the entries that are left
abbrev pub invariant-loop-run : goal.invariant-loop-run
invariant-loop-run l = record {
  next : goal.iterator-loop-run.can_next l.run-iterator;
  finite : goal.iterator-loop-run.is_finite l.run-iterator;
  size : chunks_size l.run-iterator ≡ 64;
  done : map view l.values.items ++ map (in_index l.inlined l.base l.root l.key) (cut (chunks_rest l.run-iterator)) ≡ map (in_index l.inlined l.base l.root l.key) (cut l.entries);
}
