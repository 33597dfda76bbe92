use Rattle.std.proofs.Common.{◌++◌, [], Bool, if◌then◌else◌, ap, ◌∙◌, map, rules}
use Rattle.std.specs.Slice.Iter.{chunks_rest}
use Rattle.reg_docs.specs.Documents.{registration_page_doc}
use Rattle.reg_docs.specs.Pages.{cut}
use Rattle.reg_docs.proofs.Cuts.{all_runs, run_turn}
use Rattle.reg_docs.proofs.docs.push_pages.Goals as goal

pub loop-run-preserved : goal.loop-run-preserved
loop-run-preserved c =
    let steps = c.in-Some.ensures.steps in
    let so_far = c.loop-run.invariant in
    let size = so_far.size in
    record {
      next = search rules;
      finite = tt;
      size = steps.0 ∙ size;
      done = run_turn (registration_page_doc c.args.base.now c.args.root.now c.args.key.now) c.loop-run.docs c.push.new.self
          c.in_ok-registration_page_doc.field-0 (chunks_rest c.loop-run.run-iterator) c.in-Some.run'.now (chunks_rest c.next.new.self)
          (c.args.docs.now ++ map (registration_page_doc c.args.base.now c.args.root.now c.args.key.now) (cut c.args.entries.now)) steps.1.0 (rw size at steps.1.1) steps.1.2
          c.in_ok-registration_page_doc.ensures c.in_ok-push.ensures.ok so_far.done;
    }

pub returns : goal.returns
returns c =
    let f = registration_page_doc c.args.base.now c.args.root.now c.args.key.now in
    all_runs f c.loop-run.docs (c.args.docs.now ++ map f (cut c.args.entries.now)) (chunks_rest c.loop-run.run-iterator) c.in-None.ensures.steps.1.0 c.loop-run.invariant.done
    ∙ ap (λ (inlined : Bool). c.args.docs.now ++ (if inlined then [] else map f (cut c.args.entries.now))) c.if-is_inlined.ensures
