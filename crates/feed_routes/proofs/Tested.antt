-- The test of a base address tells the base addresses.
use Rattle.std.proofs.Common.{◌≡◌, ◌≤◌, ◌⊎◌, ◌++◌, ◌∙◌, ℕ, List, Bool, true, false, IsTrue, codes, length, take, not, Option, Some, None, Ok, Err, inl, inr, refl, sym, subst}
use Rattle.std.specs.Prelude.{◌&&◌, ◌||◌, ◌-◌, nat_eq, is_some, Result, IfOk}
use Rattle.std.specs.List.{ends_with}
use Rattle.std.specs.Str.{bytes_eq}
use Rattle.std.proofs.lemmas.Bool.{and_from, and_parts, le-leb, leb-true}
use Rattle.std.proofs.lemmas.Bool.Decides.{Decides-eqb}
use Rattle.std.proofs.lemmas.Slice.Eq.{bytes_eq-Decides, ends_is}
use Rattle.url.specs.Parser.{Parsed, parse_url}
use Rattle.url.specs.Parts.{Parts, serialize}
use Rattle.feed_routes.specs.Bases.{IsBaseAddress, IsWebUrl, is_bare_url, is_base_address, is_read_bare}

-- a URL that is read from the text, and is bare
abbrev IsBare : List ℕ → Parsed Parts → Type 0
IsBare text read = (url : Parts) × (read ≡ Ok url) × (serialize url ≡ text) × ((url.scheme ≡ codes "http") ⊎ (url.scheme ≡ codes "https"))
    × (url.query ≡ None) × (url.fragment ≡ None)

none_true : (o : Option (List ℕ)) → o ≡ None → not (is_some o) ≡ true
none_true None e = refl
none_true (Some x) e = cc e

true_none : (o : Option (List ℕ)) → not (is_some o) ≡ true → o ≡ None
true_none None e = refl
true_none (Some x) e = cc e

or_parts : (a b : Bool) → (a || b) ≡ true → (a ≡ true) ⊎ (b ≡ true)
or_parts true b e = inl refl
or_parts false b e = inr e

or_from : (a b : Bool) → (a ≡ true) ⊎ (b ≡ true) → (a || b) ≡ true
or_from true b e = refl
or_from false b (inl e) = cc e
or_from false b (inr e) = e

web_of : (scheme : List ℕ) → (bytes_eq scheme (codes "http") ≡ true) ⊎ (bytes_eq scheme (codes "https") ≡ true)
    → (scheme ≡ codes "http") ⊎ (scheme ≡ codes "https")
web_of scheme (inl e) = inl ((bytes_eq-Decides scheme (codes "http")).0 e)
web_of scheme (inr e) = inr ((bytes_eq-Decides scheme (codes "https")).0 e)

of_web : (scheme : List ℕ) → (scheme ≡ codes "http") ⊎ (scheme ≡ codes "https")
    → (bytes_eq scheme (codes "http") ≡ true) ⊎ (bytes_eq scheme (codes "https") ≡ true)
of_web scheme (inl e) = inl ((bytes_eq-Decides scheme (codes "http")).1 e)
of_web scheme (inr e) = inr ((bytes_eq-Decides scheme (codes "https")).1 e)

true_bare : (text : List ℕ) (read : Parsed Parts) → is_read_bare text read ≡ true → IsBare text read
true_bare text (Ok url) e =
    let same = and_parts _ _ e in
    let scheme = and_parts _ _ same.1 in
    let marks = and_parts _ _ scheme.1 in (
      url,
      refl,
      (bytes_eq-Decides (serialize url) text).0 same.0,
      web_of url.scheme (or_parts _ _ scheme.0),
      true_none url.query marks.0,
      true_none url.fragment marks.1,
    )
true_bare text (Err error) e = cc e

bare_true : (text : List ℕ) (read : Parsed Parts) → IsBare text read → is_read_bare text read ≡ true
bare_true text read (url, reads, same, scheme, query, fragment) =
    subst (λ (r : Parsed Parts). is_read_bare text r ≡ true) (sym reads)
    (and_from _ _ ((bytes_eq-Decides (serialize url) text).1 same)
    (and_from _ _ (or_from _ _ (of_web url.scheme scheme)) (and_from _ _ (none_true url.query query) (none_true url.fragment fragment))))

pub true_address : (text : List ℕ) → is_base_address text ≡ true → IsBaseAddress text
unfolding is_base_address
true_address text e =
    let short = and_parts _ _ e in
    let slash = and_parts _ _ short.1 in
    let bare = true_bare text (parse_url None text) slash.1 in
    record {
      short = leb-true (length text) 200 short.0;
      url = (bare.0, record { reads = bare.1; same = bare.2; scheme = bare.3 }, bare.4, bare.5);
      ends = (take (length text - 1) text, (ends_is Decides-eqb text (codes "/") (ends_with nat_eq text (codes "/")) refl).0 slash.0);
    }

pub address_true : (text : List ℕ) → IsBaseAddress text → is_base_address text ≡ true
unfolding is_base_address
address_true text is =
    and_from _ _ (le-leb (length text) 200 is.short)
    (and_from _ _ ((ends_is Decides-eqb text (codes "/") (ends_with nat_eq text (codes "/")) refl).1 is.ends.0 is.ends.1)
    (bare_true text (parse_url None text) (is.url.0, is.url.1.reads, is.url.1.same, is.url.1.scheme, is.url.2, is.url.3)))

same_truth : (a b : Bool) → (a ≡ true → b ≡ true) → (b ≡ true → a ≡ true) → a ≡ b
same_truth true b to from = sym (to refl)
same_truth false true to from = from refl
same_truth false false to from = refl

-- an answer that tells the base addresses is that of the test
pub tested : (answer : Bool) (text : List ℕ) → (IsTrue answer → IsBaseAddress text) × (IsBaseAddress text → IsTrue answer) → answer ≡ is_base_address text
tested answer text tells = same_truth answer (is_base_address text) (λ yes. address_true text (tells.0 yes)) (λ yes. tells.1 (true_address text yes))

pub tested_in : {E : Type 0} (text : List ℕ) (r : Result Bool E) → IfOk r (λ is. (IsTrue is → IsBaseAddress text) × (IsBaseAddress text → IsTrue is))
    → IfOk r (λ is. is ≡ is_base_address text)
tested_in text (Ok is) tells = tested is text tells
tested_in text (Err e) tells = tells
