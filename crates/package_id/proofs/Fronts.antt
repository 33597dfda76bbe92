-- Where a text stops being the beginning of an id.
use Rattle.std.proofs.Common.{◌≡◌, ◌<◌, ◌≤◌, ◌+◌, ◌-◌, ℕ, suc, List, [], ◌∷◌, ◌++◌, length, take, drop, get_or, Bool, true, false, ◌&&◌, sym, ◌∙◌, ap, subst, arith, append_assoc, take-append-drop, append-nil}
use Rattle.std.proofs.Math.Seq.{take-add}
use Rattle.std.proofs.lemmas.List.{drop_more, take_all}
use Rattle.package_id.specs.Ids.{is_word_byte, is_joint, is_id, IsId, BeginsId, IsLongestIdFront}
use Rattle.package_id.proofs.Walk.{goes_on, is_id-goes_on}

-- what is left of an id behind this prefix
abbrev pub LeadsTo : List ℕ → Bool → Type 0
LeadsTo front within = (rest : List ℕ) → goes_on false (front ++ rest) ≡ goes_on within rest

pub differ : (b : Bool) → b ≡ false → b ≡ true → ⊥
differ b is_no is_yes = cc

-- a letter completes whatever was begun
leads_begins : (front : List ℕ) (within : Bool) → LeadsTo front within → BeginsId front
leads_begins front true so_far = (97 ∷ [], is_id-goes_on (front ++ 97 ∷ []) ∙ so_far (97 ∷ []))
leads_begins front false so_far = (97 ∷ [], is_id-goes_on (front ++ 97 ∷ []) ∙ so_far (97 ∷ []))

-- a byte that neither continues a part nor ends one
module _ (text : List ℕ) (at : ℕ) (within : Bool) (b : ℕ) (lt : at < length text) (is : b ≡ get_or text at 0) (so_far : LeadsTo (take at text) within) (word : is_word_byte b ≡ false) (joint : within && is_joint b ≡ false) where
  rest_is : drop at text ≡ b ∷ drop (at + 1) text
  rest_is = drop_more text at 0 lt ∙ ap (λ (x : ℕ). x ∷ drop (at + 1) text) (sym is)

  stuck : (bs : List ℕ) → goes_on within (b ∷ bs) ≡ false
  stuck bs = rw (word, joint)

  refused : (bs : List ℕ) → is_id (take at text ++ b ∷ bs) ≡ false
  refused bs = is_id-goes_on (take at text ++ b ∷ bs) ∙ so_far (b ∷ bs) ∙ stuck bs

  pub not_id : ¬ IsId text
  not_id held = differ (is_id text) (ap is_id (sym (take-append-drop at text) ∙ ap (λ (l : List ℕ). take at text ++ l) rest_is) ∙ refused (drop (at + 1) text)) held

  longer : (n : ℕ) (m : ℕ) → n ≡ at + suc m → take n text ≡ take at text ++ b ∷ take m (drop (at + 1) text)
  longer n m same = ap (λ (k : ℕ). take k text) same ∙ take-add at (suc m) text ∙ ap (λ (l : List ℕ). take at text ++ take (suc m) l) rest_is

  pub bad_place : IsLongestIdFront text at
  bad_place = record {
    within = omega arith;
    begins = leads_begins (take at text) within so_far;
    longest = λ n above le begins.
        let more = n - at - 1 in
        let front = longer n more (omega arith) in
        differ (is_id (take n text ++ begins.0))
        (ap (λ (l : List ℕ). is_id (l ++ begins.0)) front
        ∙ ap is_id (append_assoc (take at text) (b ∷ take more (drop (at + 1) text)) begins.0)
        ∙ refused (take more (drop (at + 1) text) ++ begins.0))
        begins.1;
  }

-- a text that was read to its end
pub end_place : (text : List ℕ) (at : ℕ) (within : Bool) → length text ≤ at → LeadsTo (take at text) within → IsLongestIdFront text (length text)
end_place text at within le so_far = record {
  within = omega arith;
  begins = subst BeginsId (take_all at text le ∙ sym (take_all (length text) text (omega arith))) (leads_begins (take at text) within so_far);
  longest = λ n above le' begins. absurd (omega arith);
}

pub end_value : (text : List ℕ) (at : ℕ) (within : Bool) → length text ≤ at → LeadsTo (take at text) within → is_id text ≡ within
end_value text at within le so_far =
    is_id-goes_on text ∙ ap (goes_on false) (sym (take_all at text le) ∙ sym (append-nil (take at text))) ∙ so_far []
