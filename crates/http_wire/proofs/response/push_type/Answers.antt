use Rattle.std.proofs.Common.{◌≡◌, ◌≤◌, ◌++◌, ℕ, List, [], ◌∷◌, OnOk, codes, length, refl, subst, arith, string_bytes}
use Rattle.http_wire.specs.Response.{media_type, type_line}
use Rattle.http_wire.specs.declared.response.Kind.{Kind}
use Rattle.http_wire.proofs.response.push_type.Goals as goal

type_some : (kind : Kind) (body : List ℕ) → 1 ≤ length body → codes "Content-Type: " ++ media_type kind ++ codes "\r\n" ≡ type_line kind body
type_some kind [] h = absurd (omega (arith, h))
type_some kind (b ∷ body) h = refl

pub returns-in-len1-up : goal.returns-in-len1-up
returns-in-len1-up c =
    subst (λ (line : List ℕ). OnOk c.write.result (string_bytes c.write.new.self ≡ string_bytes c.args.out.now ++ line)) (type_some c.args.kind c.args.body.now c.in-len1-up.len_at_least) (subst (λ (m : List ℕ). OnOk c.write.result (string_bytes c.write.new.self ≡ string_bytes c.args.out.now ++ (codes "Content-Type: " ++ m ++ codes "\r\n"))) c.media_type.ensures c.write.ensures.bytes)
