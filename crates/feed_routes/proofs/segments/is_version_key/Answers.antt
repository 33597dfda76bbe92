use Rattle.std.proofs.Common.{◌≡◌, ◌↔◌, Bool, List, ℕ, IsTrue}
use Rattle.std.proofs.lemmas.Result.{IfOk-weaker}
use Rattle.nuget_version.specs.Grammar.{Spells}
use Rattle.nuget_version.specs.Printed.{key_text}
use Rattle.nuget_version.specs.declared.version.Version.{Version}
use Rattle.feed_routes.specs.Segments.{IsVersionKey}
use Rattle.feed_routes.proofs.Keys.{key_of}
use Rattle.feed_base.proofs.Options.{at_none, at_some}
use Rattle.feed_routes.proofs.segments.is_version_key.Goals as goal

tested : (text : List ℕ) (v : Version) (is : Bool) → Spells text v → IsTrue is ↔ (key_text v ≡ text) → IsTrue is ↔ IsVersionKey text
tested text v is spelled h = (λ t. (v, spelled, h.0 t), λ key. h.1 (key_of text v spelled key))

pub returns-in-Some : goal.returns-in-Some
returns-in-Some c =
    let read = at_some c.in_ok-version.field-0 (λ (v : Version). Spells c.args.text.now v) c.in-Some.version c.in-Some.is c.in_ok-version.ensures.found in
    IfOk-weaker c.is_key_of.result _ _ (λ is h. tested c.args.text.now c.in-Some.version is read h) c.is_key_of.ensures

pub returns-in-None : goal.returns-in-None
returns-in-None c =
    let none = at_none c.in_ok-version.field-0 ((v : Version) → Spells c.args.text.now v → ⊥) c.in-None.is c.in_ok-version.ensures.none in
    (λ t. absurd (cc t), λ key. absurd (none key.0 key.1))
