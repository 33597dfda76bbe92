-- Bytes begin with one line at most, and are refused for one reason.
use Rattle.std.proofs.Common.{◌≡◌, ◌≢◌, ℕ, List, [], ◌∷◌, ◌++◌, length, refl, sym, ap, ◌∙◌, subst, arith, length-append}
use Rattle.catalog_doc.specs.declared.change.Change.{Change}
use Rattle.package_id.specs.Ids.{IsShortId}
use Rattle.admin_wire.specs.Bodies.{IsAsked, IsLine, IsLineOf, IsRefusedLine, IsRefusedPair}
use Rattle.admin_wire.specs.Bodies.IsRefusedLine.{shape, pair}
use Rattle.admin_wire.specs.Bodies.IsRefusedPair.{bad_id, bad_version}
use Rattle.admin_wire.specs.declared.error.BodyErr.{BodyErr}
use Rattle.admin_wire.specs.declared.names.NameKind.{NameKind}
use Rattle.admin_wire.proofs.Marks.{one_seam}
use Rattle.admin_wire.proofs.OneStop.{IsDetermined}
use Rattle.admin_wire.proofs.TwoWords.{split_line}

line_filled : (p id version : List ℕ) → IsLine p id version → p ≢ []
line_filled p id version l e = absurd (omega (arith, ap length (sym l.text ∙ e), length-append id (32 ∷ (version ++ (10 ∷ [])))))

-- the same bytes begin with the same words
pub record AreSameWords (p t q u id version name text : List ℕ) : Type 0 where
  pub ids : id ≡ name
  pub versions : version ≡ text
  pub lines : p ≡ q
  pub rests : t ≡ u

same_line : (p t q u id version name text : List ℕ) → IsLine p id version → IsLine q name text → p ++ t ≡ q ++ u → AreSameWords p t q u id version name text
same_line p t q u id version name text l k e =
    let s = split_line (p ++ t) p t id version refl l in
    let r = split_line (p ++ t) q u name text e k in
    let lines = one_seam 10 (p ++ t) (id ++ (32 ∷ version)) t (name ++ (32 ∷ text)) u s.lacks r.lacks s.at r.at in
    let words = one_seam 32 (id ++ (32 ∷ version)) id version name text s.id_lacks r.id_lacks refl lines.0 in
    record {
      ids = words.0;
      versions = words.1;
      lines = l.text ∙ ap (λ (i : List ℕ). i ++ (32 ∷ (version ++ (10 ∷ [])))) words.0 ∙ ap (λ (v : List ℕ). name ++ (32 ∷ (v ++ (10 ∷ [])))) words.1
          ∙ sym k.text;
      rests = lines.1;
    }

pub asked_unrefused : (kind : NameKind) (place : ℕ) (id version : List ℕ) (c : Change) (e : BodyErr) → IsAsked kind id version c
    → IsRefusedPair place id version e → ⊥
asked_unrefused kind place id version c e a (bad_id is none) = none (subst IsShortId a.id_text (a.the_id.spelled, a.the_id.short))
asked_unrefused kind place id version c e a (bad_version is short none) = none a.the_version a.spelled

one_pair : (place : ℕ) (id version : List ℕ) (d e : BodyErr) → IsRefusedPair place id version d → IsRefusedPair place id version e → d ≡ e
one_pair place id version d e (bad_id is none) (bad_id too other) = is ∙ sym too
one_pair place id version d e (bad_id is none) (bad_version too short other) = absurd (none short)
one_pair place id version d e (bad_version is short none) (bad_id too other) = absurd (other short)
one_pair place id version d e (bad_version is short none) (bad_version too also other) = is ∙ sym too

line_clash : (kind : NameKind) (at place : ℕ) (p t bytes : List ℕ) (c : Change) (e : BodyErr) → bytes ≡ p ++ t → IsLineOf kind p c
    → IsRefusedLine at place bytes e → ⊥
line_clash kind at place p t bytes c e s l (shape is none) = none p t l.id l.version s l.whole
line_clash kind at place p t bytes c e s l (pair front back id version split line refused) =
    let w = same_line p t front back l.id l.version id version l.whole line (sym s ∙ split) in
    asked_unrefused kind place id version c e
    (subst (λ (i : List ℕ). IsAsked kind i version c) w.ids (subst (λ (v : List ℕ). IsAsked kind l.id v c) w.versions l.asks)) refused

one_line : (at place : ℕ) (bytes : List ℕ) (d e : BodyErr) → IsRefusedLine at place bytes d → IsRefusedLine at place bytes e → d ≡ e
one_line at place bytes d e (shape is none) (shape too other) = is ∙ sym too
one_line at place bytes d e (shape is none) (pair front back id version split line refused) = absurd (none front back id version split line)
one_line at place bytes d e (pair front back id version split line refused) (shape is none) = absurd (none front back id version split line)
one_line at place bytes d e (pair front back id version split line refused) (pair other rest name text cut same also) =
    let w = same_line front back other rest id version name text line same (sym split ∙ cut) in
    one_pair place name text d e
    (subst (λ (i : List ℕ). IsRefusedPair place i text d) w.ids (subst (λ (v : List ℕ). IsRefusedPair place id v d) w.versions refused)) also

pub lines_determined : (kind : NameKind) → IsDetermined (IsLineOf kind) IsRefusedLine
lines_determined kind = record {
  filled = λ p c l. line_filled p l.id l.version l.whole;
  step = λ p t q u c d l k e. let w = same_line p t q u l.id l.version k.id k.version l.whole k.whole e in (w.lines, w.rests);
  clash = line_clash kind;
  one = one_line;
}
