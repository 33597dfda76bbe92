-- How a text goes on behind a prefix that fits.
use Rattle.std.proofs.Common.{◌≡◌, ◌<◌, ◌≤◌, ℕ, List, [], ◌∷◌, length, drop, get_or, false, refl}
use Rattle.std.proofs.lemmas.List.{drop_more, drop_all}
use Rattle.ticks.specs.Scan.{fits, fitting_len}

fitting_len-nil : (form : List ℕ) → fitting_len form [] ≡ 0
fitting_len-nil [] = refl
fitting_len-nil (want ∷ form) = refl

pub fitting_len-end : (form text : List ℕ) (i : ℕ) → length text ≤ i → fitting_len (drop i form) (drop i text) ≡ 0
fitting_len-end form text i h = rw (drop_all i text h) (fitting_len-nil (drop i form))

pub fitting_len-stop : (form text : List ℕ) (i : ℕ) → i < length form → i < length text → fits (get_or form i 0) (get_or text i 0) ≡ false → fitting_len (drop i form) (drop i text) ≡ 0
fitting_len-stop form text i in_form in_text h = rw (drop_more form i 0 in_form, drop_more text i 0 in_text, h)
