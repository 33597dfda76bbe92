use Rattle.std.proofs.Common.{◌≡◌, List, Option, Result, Ok, Err, OnOk, OnErr, sym, ap, ◌∙◌, subst}
use Rattle.nuget_version.specs.declared.version.Version.{Version}
use Rattle.pkg_meta.specs.Entries.{AreRising}
use Rattle.pkg_meta.specs.Items.{version_of}
use Rattle.pkg_meta.specs.declared.entry.Entry.{Entry}
use Rattle.fold_core.specs.Entries.{entry_at}
use Rattle.fold_core.specs.Places.{replaced}
use Rattle.fold_core.proofs.Changes.{item_rises}
use Rattle.fold_core.proofs.entries.apply.Goals as goal

either_way : {X E : Type 0} (r : Result X E) (new changed old : List Entry) → OnOk r (new ≡ changed) → OnErr r (new ≡ old)
    → AreRising changed → AreRising old → AreRising new
either_way (Ok x) new changed old ok err rises was = subst AreRising (sym ok) rises
either_way (Err e) new changed old ok err rises was = subst AreRising (sym err) was

pub returns-clause-rising : goal.returns-clause-rising
returns-clause-rising g c = λ rising.
    let list : List Entry = c.into_vec-list.result.items in
    let own : Version = version_of c.args.item.now in
    let new : Option Entry = entry_at g.H.Hive.keeps c.args.number c.args.place c.args.item.now in
    let before : list ≡ c.args.entries.now = c.into_vec-list.ensures ∙ c.replace.ensures.value in
    let changed : replaced c.version.result.now c.in_ok-new.new list ≡ replaced own new c.args.entries.now =
    ap (λ (v : Version). replaced v c.in_ok-new.new list) c.version.ensures
    ∙ ap (λ (o : Option Entry). replaced own o list) c.in_ok-new.ensures
    ∙ ap (replaced own new) before in
    subst AreRising (sym c.of.ensures)
    (either_way c.put_version-done.result c.put_version-done.new.entries.items (replaced c.version.result.now c.in_ok-new.new list) list
    c.put_version-done.ensures.ok c.put_version-done.ensures.err
    (subst AreRising (sym changed) (item_rises g.H.Hive.keeps c.args.number c.args.place c.args.item.now c.args.entries.now rising))
    (subst AreRising (sym before) rising))
