use Rattle.std.proofs.Common.{List, ◌∷◌, [], Bool, ap, ◌∙◌, map, rules}
use Rattle.std.proofs.lemmas.List.{map-append}
use Rattle.std.specs.Slice.Iter.{chunks_rest}
use Rattle.serde_json.specs.Data.{Data}
use Rattle.serde_json.specs.View.{view}
use Rattle.pkg_meta.specs.declared.entry.Entry.{Entry}
use Rattle.reg_docs.specs.Documents.{in_index}
use Rattle.reg_docs.specs.Pages.{cut}
use Rattle.reg_docs.proofs.Cuts.{all_runs, run_turn}
use Rattle.reg_docs.proofs.page.page_values.Goals as goal

pub loop-run-preserved : goal.loop-run-preserved
loop-run-preserved c =
    let steps = c.in-Some.ensures.steps in
    let so_far = c.loop-run.invariant in
    let size = so_far.size in
    record {
      next = search rules;
      finite = tt;
      size = steps.0 ∙ size;
      done = run_turn (in_index c.is_inlined-inlined.result c.args.base.now c.args.root.now c.args.key.now) (map view c.loop-run.values.items) (map view c.push.new.list.items)
          (view c.in_ok-value.value) (chunks_rest c.loop-run.run-iterator) c.in-Some.run'.now (chunks_rest c.next.new.self)
          (map (in_index c.is_inlined-inlined.result c.args.base.now c.args.root.now c.args.key.now) (cut c.args.entries.now)) steps.1.0 (rw size at steps.1.1) steps.1.2
          c.in_ok-value.ensures (ap (map view) c.in_ok-push.ensures.ok ∙ map-append view c.loop-run.values.items (c.in_ok-value.value ∷ [])) so_far.done;
    }

pub returns : goal.returns
returns c =
    let f : Bool → List Entry → Data = λ (b : Bool). in_index b c.args.base.now c.args.root.now c.args.key.now in
    all_runs (f c.is_inlined-inlined.result) (map view c.loop-run.values.items) (map (f c.is_inlined-inlined.result) (cut c.args.entries.now)) (chunks_rest c.loop-run.run-iterator) c.in-None.ensures.steps.1.0 c.loop-run.invariant.done
    ∙ ap (λ (b : Bool). map (f b) (cut c.args.entries.now)) c.is_inlined-inlined.ensures
