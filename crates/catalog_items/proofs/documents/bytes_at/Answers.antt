use Rattle.std.proofs.Common.{◌≡◌, ◌∙◌, ℕ, List, [], ◌∷◌, None, sym}
use Rattle.std.specs.FinMap.{get}
use Rattle.feed_base.proofs.Options.{at_some}
use Rattle.blob_store.specs.Area.{Area}
use Rattle.blob_store.specs.Events.{Get}
use Rattle.catalog_opening.proofs.Halting.{halts_made, never_fault}
use Rattle.catalog_items.specs.Reads.{IsAbsent}
use Rattle.catalog_items.proofs.Absent.{read_tells}
use Rattle.catalog_items.proofs.documents.bytes_at.Goals as goal

pub returns-in-None-clause-runs : goal.returns-in-None-clause-runs
returns-in-None-clause-runs g c =
    halts_made (Get c.args.name.now ∷ []) c.damaged.result (g.B.Blobs.seen c.args.area.now) (g.B.Blobs.seen c.get_one.new.area) c.in_ok-found.ensures.runs
    (never_fault (λ (n : List ℕ). n ≡ c.args.name.now) c.damaged.result c.damaged.ensures)

pub returns-in-None-clause-damaged : goal.returns-in-None-clause-damaged
returns-in-None-clause-damaged g c = λ m is.
    let gone : get m c.args.name.now ≡ None =
    sym (at_some (g.B.Blobs.seen c.args.area.now).held (λ (m : Area). c.in_ok-found.found ≡ get m c.args.name.now) m is c.in_ok-found.ensures.found) ∙ c.in-None.is in
    read_tells (List ℕ) (λ (n : List ℕ). n ≡ c.args.name.now) (IsAbsent c.args.name.now m) c.damaged.result (λ n told. (told, gone)) c.damaged.ensures

pub returns-in-Some-clause-found : goal.returns-in-Some-clause-found
returns-in-Some-clause-found g c = λ m is.
    sym (at_some (g.B.Blobs.seen c.args.area.now).held (λ (m : Area). c.in_ok-found.found ≡ get m c.args.name.now) m is c.in_ok-found.ensures.found) ∙ c.in-Some.is
