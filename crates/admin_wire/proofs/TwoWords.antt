-- The first line of bytes, and its two words.
use Rattle.std.proofs.Common.{◌≡◌, ℕ, List, [], ◌∷◌, ◌++◌, refl, ap, ◌∙◌, append_assoc, arith, subst}
use Rattle.std.proofs.lemmas.List.Elements.{Contains-append_left, Contains-append_right}
use Rattle.admin_wire.specs.Bodies.{IsLine}
use Rattle.admin_wire.proofs.Marks.{Lacks, lacks_both, lacks_more}

-- a line's words with the space between them, and what stands behind its line feed
pub record IsSplit (bytes back id version : List ℕ) : Type 0 where
  pub lacks : Lacks (id ++ (32 ∷ version)) 10
  pub at : bytes ≡ (id ++ (32 ∷ version)) ++ (10 ∷ back)
  pub id_lacks : Lacks id 32
  pub version_lacks : Lacks version 32

pub split_line : (bytes front back id version : List ℕ) → bytes ≡ front ++ back → IsLine front id version → IsSplit bytes back id version
split_line bytes front back id version e l = record {
  lacks = lacks_both 10 id (32 ∷ version) l.id_word.1 (lacks_more 10 32 version (omega arith) l.version_word.1);
  at = e ∙ ap (λ (f : List ℕ). f ++ back) l.text ∙ simp append_assoc;
  id_lacks = l.id_word.0;
  version_lacks = l.version_word.0;
}

-- the words and the space between them have no line feed, so neither word has
pub line_found : (bytes line back id version : List ℕ) → bytes ≡ line ++ (10 ∷ back) → line ≡ id ++ (32 ∷ version) → Lacks line 10 → Lacks id 32
    → Lacks version 32 → (front : List ℕ) × (bytes ≡ front ++ back) × IsLine front id version
line_found bytes line back id version e f lacks first second =
    let free : Lacks (id ++ (32 ∷ version)) 10 = subst (λ (l : List ℕ). Lacks l 10) f lacks in (
      id ++ (32 ∷ (version ++ (10 ∷ []))),
      rw (e, f) (simp append_assoc),
      record {
        text = refl;
        id_word = (first, λ h. free (Contains-append_left id (32 ∷ version) 10 h));
        version_word = (second, λ h. free (Contains-append_right id (32 ∷ version) 10 (Contains-append_right (32 ∷ []) version 10 h)));
      },
    )
