use Rattle.std.proofs.Common.{◌≡◌, ◌++◌, ◌∙◌, ℕ, List, ap, append_assoc, arith, codes, decimal, subst, sym, IsUtf8}
use Rattle.std.proofs.lemmas.List.{append_cancel_left, append_cancel_right}
use Rattle.catalog_doc.specs.Names.{catalog_url, leaf_name, place_name}
use Rattle.catalog_reading.proofs.LeafTexts.{place_name_is_text}
use Rattle.catalog_reading.proofs.fields.origin_behind.Goals as goal

-- the name of a leaf, in the parts that are read
parts_of : (n p : ℕ) → codes "v3/catalog/" ++ leaf_name n p ≡ codes "v3/catalog/data/" ++ (place_name n p ++ codes ".json")
parts_of n p = ap (λ (l : List ℕ). codes "v3/catalog/data/" ++ l) (sym (append_assoc (decimal n) (codes "/" ++ decimal p) (codes ".json")))

-- what stands behind the base, behind the area, and before the ending
module _ (url base : List ℕ) (n p : ℕ) (is : url ≡ catalog_url base (leaf_name n p)) where
  name_is : (name : List ℕ) → url ≡ base ++ name → name ≡ codes "v3/catalog/data/" ++ (place_name n p ++ codes ".json")
  name_is name found = append_cancel_left base name (codes "v3/catalog/" ++ leaf_name n p) (sym found ∙ is) ∙ parts_of n p

  rest_is : (name rest : List ℕ) → url ≡ base ++ name → name ≡ codes "v3/catalog/data/" ++ rest → rest ≡ place_name n p ++ codes ".json"
  rest_is name rest found next = append_cancel_left (codes "v3/catalog/data/") rest (place_name n p ++ codes ".json") (sym next ∙ name_is name found)

  origin_is : (name rest origin : List ℕ) → url ≡ base ++ name → name ≡ codes "v3/catalog/data/" ++ rest → rest ≡ origin ++ codes ".json" → origin ≡ place_name n p
  origin_is name rest origin found next last = append_cancel_right origin (place_name n p) (codes ".json") (sym last ∙ rest_is name rest found next)

pub returns-in_err-name : goal.returns-in_err-name
returns-in_err-name c = λ n p fits other is. absurd (c.in_err-name.ensures (codes "v3/catalog/" ++ leaf_name n p) is)

pub returns-in_err-rest : goal.returns-in_err-rest
returns-in_err-rest c = λ n p fits other is.
    absurd (c.in_err-rest.ensures (place_name n p ++ codes ".json") (name_is c.args.url.now c.args.base.now n p is c.in_ok-name.name.now c.in_ok-name.ensures))

pub returns-in_err-origin : goal.returns-in_err-origin
returns-in_err-origin c = λ n p fits other is.
    absurd (c.in_err-origin.ensures (place_name n p) (rest_is c.args.url.now c.args.base.now n p is c.in_ok-name.name.now c.in_ok-rest.rest.now c.in_ok-name.ensures c.in_ok-rest.ensures))

pub returns-in_err-text : goal.returns-in_err-text
returns-in_err-text c = λ n p fits other is.
    let same = origin_is c.args.url.now c.args.base.now n p is c.in_ok-name.name.now c.in_ok-rest.rest.now c.in_ok-origin.origin.now c.in_ok-name.ensures c.in_ok-rest.ensures c.in_ok-origin.ensures in
    absurd (c.in_err-text.ensures.none (subst IsUtf8 (sym same) (place_name_is_text n p (omega arith) (omega arith))))

pub returns : goal.returns
returns c = λ n p fits other is.
    c.origin_of.ensures n p fits other
    (c.in_ok-text.ensures.found ∙ origin_is c.args.url.now c.args.base.now n p is c.in_ok-name.name.now c.in_ok-rest.rest.now c.in_ok-origin.origin.now c.in_ok-name.ensures c.in_ok-rest.ensures c.in_ok-origin.ensures)
