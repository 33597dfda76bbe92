-- Laws of bodies.
use Rattle.std.specs.Prelude.{◌≡◌, ℕ, List}
use Rattle.catalog_doc.specs.declared.change.Change.{Change}
use Rattle.admin_wire.specs.Bodies.{AreNames, ArePublishes, IsRefusedNames, IsRefusedPublish}
use Rattle.admin_wire.specs.declared.error.BodyErr.{BodyErr}
use Rattle.admin_wire.specs.declared.names.NameKind.{NameKind}

-- bytes have one reason at most to be refused as a body of publishes, and none where they are one
pub record PublishesHaveOneAnswer : Type 0 where
  pub one : (bytes : List ℕ) (d e : BodyErr) → IsRefusedPublish bytes d → IsRefusedPublish bytes e → d ≡ e
  pub none : (bytes : List ℕ) (changes : List Change) (e : BodyErr) → ArePublishes bytes changes → IsRefusedPublish bytes e → ⊥

-- likewise as a body of names
pub record NamesHaveOneAnswer : Type 0 where
  pub one : (kind : NameKind) (bytes : List ℕ) (d e : BodyErr) → IsRefusedNames kind bytes d → IsRefusedNames kind bytes e → d ≡ e
  pub none : (kind : NameKind) (bytes : List ℕ) (changes : List Change) (e : BodyErr) → AreNames kind bytes changes → IsRefusedNames kind bytes e → ⊥
