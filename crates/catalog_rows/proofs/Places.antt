-- Reasons place by place.
use Rattle.std.proofs.Common.{◌≡◌, ◌<◌, ◌≤◌, ◌+◌, ℕ, List, [], ◌∷◌, ◌++◌, length, take, drop, get_or, Bool, true, false, ◌&&◌, ◌||◌, Option, Some, None, refl, sym, ◌∙◌, ap, ap₂, arith, add-one}
use Rattle.std.specs.Prelude.{if◌then◌else◌, nat_le}
use Rattle.std.specs.List.{list_any}
use Rattle.std.specs.Option.{option_or}
use Rattle.std.proofs.lemmas.Bool.Decides.{nat_tests}
use Rattle.std.proofs.lemmas.List.{drop_more, take_more}
use Rattle.std.proofs.lemmas.Bool.Decides.{same_from_decides}
use Rattle.std.proofs.lemmas.List.{drop_all}
use Rattle.std.proofs.lemmas.Slice.Eq.{bytes_eq-Decides}
use Rattle.std.specs.Ordering.{is_eq}
use Rattle.std.specs.Str.{bytes_eq}
use Rattle.std.specs.declared.cmp.Ordering.{Ordering}
use Rattle.std.specs.declared.cmp.Ordering.TheVariants.{Less, Equal, Greater}
use Rattle.nuget_version.specs.Precedence.{precedence}
use Rattle.nuget_version.specs.Printed.{key_text}
use Rattle.nuget_version.specs.declared.version.Version.{Version}
use Rattle.nuget_version.proofs.Order.{keys_tie, tie_keys}
use Rattle.package_id.specs.declared.id.PackageId.{PackageId}
use Rattle.blob_store.proofs.Areas.{bytes_eq-other}
use Rattle.pkg_meta.specs.Catalog.{Catalog}
use Rattle.catalog_doc.specs.Commits.{changed_id, changed_version}
use Rattle.pkg_meta.specs.Lawful.{newest}
use Rattle.catalog_doc.specs.Verdict.{already, ended, first_reason, full, has_change, is_empty, refusal, too_many, twice, unfit}
use Rattle.catalog_doc.specs.declared.change.Change.{Change}
use Rattle.catalog_doc.specs.declared.error.CommitErr.{CommitErr}
use Rattle.catalog_doc.specs.declared.error.CommitErr.TheVariants as the
use Rattle.catalog_rows.specs.Reasons.{is_of_same, misshapen, unready}

abbrev Why : Type 0
Why = ℕ → List Change → Change → Option CommitErr

-- the reason of the place at which a look through the changes stands, or one of those behind it
pub reason_here : (why : Why) (changes : List Change) (at : ℕ) (change : Change) → at < length changes → change ≡ get_or changes at change
    → first_reason why (take at changes) at (drop at changes)
    ≡ option_or (why at (take at changes) change) (first_reason why (take (at + 1) changes) (at + 1) (drop (at + 1) changes))
reason_here why changes at change within is =
    let there : drop at changes ≡ change ∷ drop (at + 1) changes = drop_more changes at change within ∙ ap (λ (x : Change). x ∷ drop (at + 1) changes) (sym is) in
    let done : take at changes ++ change ∷ [] ≡ take (at + 1) changes = ap (λ (x : Change). take at changes ++ x ∷ []) is ∙ sym (take_more changes at change within) in
    ap (first_reason why (take at changes) at) there
    ∙ (λ i. option_or (why at (take at changes) change) (first_reason why (done i) (sym (add-one at) i) (drop (at + 1) changes)))

-- whether a change is among others
pub has_change-any : (change : Change) (changes : List Change) → has_change change changes ≡ list_any (is_of_same change) changes
has_change-any change [] = refl
has_change-any change (other ∷ changes) = ap (λ (later : Bool). is_of_same change other || later) (has_change-any change changes)

pub or_first : (x y : Option CommitErr) (reason : CommitErr) → x ≡ Some reason → option_or x y ≡ Some reason
or_first x y reason e = ap (λ (found : Option CommitErr). option_or found y) e

pub or_second : (x y : Option CommitErr) → x ≡ None → option_or x y ≡ y
or_second x y e = ap (λ (found : Option CommitErr). option_or found y) e

pub both_none : (x y : Option CommitErr) → option_or x y ≡ None → (x ≡ None) × (y ≡ None)
both_none None y e = (refl, e)
both_none (Some w) y e = cc

not_twice : (there : Bool) (place : ℕ) → (if there then Some (the.Twice place) else None) ≡ None → there ≡ false
not_twice false place e = refl
not_twice true place e = cc

-- where no change is of an earlier one's version, nor is this one
pub is_new : (place : ℕ) (earlier : List Change) (change : Change) → twice place earlier change ≡ None → has_change change earlier ≡ false
is_new place earlier change e = not_twice (has_change change earlier) place e

or_assoc : (x y z : Option CommitErr) → option_or (option_or x y) z ≡ option_or x (option_or y z)
or_assoc None y z = refl
or_assoc (Some w) y z = refl

-- a refusal by its parts
pub parts : (cs : Catalog) (changes : List Change) → refusal cs changes ≡ option_or (misshapen changes) (option_or (unready cs changes) (first_reason (already cs) [] 0 changes))
parts cs changes =
    let empty = is_empty changes in
    let many = too_many changes in
    let two = first_reason twice [] 0 changes in
    let place = first_reason (unfit cs) [] 0 changes in
    let room = full cs changes in
    let time = ended (newest cs) in
    let listing = first_reason (already cs) [] 0 changes in
    let ready : option_or place (option_or room (option_or time listing)) ≡ option_or (unready cs changes) listing =
    ap (option_or place) (sym (or_assoc room time listing)) ∙ sym (or_assoc place (option_or room time) listing) in
    let shape : option_or empty (option_or many (option_or two (option_or (unready cs changes) listing))) ≡ option_or (misshapen changes) (option_or (unready cs changes) listing) =
    ap (option_or empty) (sym (or_assoc many two (option_or (unready cs changes) listing))) ∙ sym (or_assoc empty (option_or many two) (option_or (unready cs changes) listing)) in
    ap (λ (found : Option CommitErr). option_or empty (option_or many (option_or two found))) ready ∙ shape

le_by : (n limit : ℕ) (e : CommitErr) (fits : Bool) → nat_le n limit ≡ fits → (if fits then None else Some e) ≡ None → n ≤ limit
le_by n limit e true is none = grind (arith, nat_tests)
le_by n limit e false is none = cc

some_change : (changes : List Change) → is_empty changes ≡ None → 0 < length changes
some_change [] e = cc
some_change (change ∷ changes) e = omega arith

-- what the right shape tells of changes
pub record IsShaped (changes : List Change) : Type 0 where
  pub some : 0 < length changes
  pub few : length changes ≤ 64
  pub distinct : first_reason twice [] 0 changes ≡ None

pub shaped : (changes : List Change) → misshapen changes ≡ None → IsShaped changes
shaped changes none =
    let first = both_none (is_empty changes) (option_or (too_many changes) (first_reason twice [] 0 changes)) none in
    let rest = both_none (too_many changes) (first_reason twice [] 0 changes) first.1 in
    record {
      some = some_change changes first.0;
      few = le_by (length changes) 64 (the.TooMany (length changes)) (nat_le (length changes) 64) refl rest.0;
      distinct = rest.1;
    }

-- a look through the changes that stands at a place, where what is to be found is what is to be found from there on
abbrev pub Seeks : Why → List Change → ℕ → Option CommitErr → Type 0
Seeks why changes at whole = first_reason why (take at changes) at (drop at changes) ≡ whole

pub found_here : (why : Why) (changes : List Change) (at : ℕ) (change : Change) (reason : CommitErr) (whole : Option CommitErr) → at < length changes
    → change ≡ get_or changes at change → Seeks why changes at whole → why at (take at changes) change ≡ Some reason → Some reason ≡ whole
found_here why changes at change reason whole within is seeks here =
    sym (or_first (why at (take at changes) change) _ reason here) ∙ sym (reason_here why changes at change within is) ∙ seeks

pub found_later : (why : Why) (changes : List Change) (at : ℕ) (change : Change) (whole : Option CommitErr) → at < length changes
    → change ≡ get_or changes at change → Seeks why changes at whole → why at (take at changes) change ≡ None → Seeks why changes (at + 1) whole
found_later why changes at change whole within is seeks here =
    sym (or_second (why at (take at changes) change) (first_reason why (take (at + 1) changes) (at + 1) (drop (at + 1) changes)) here)
    ∙ sym (reason_here why changes at change within is) ∙ seeks

pub found_never : (why : Why) (changes : List Change) (at : ℕ) (whole : Option CommitErr) → length changes ≤ at → Seeks why changes at whole → None ≡ whole
found_never why changes at whole past seeks = sym (ap (first_reason why (take at changes) at) (drop_all at changes past)) ∙ seeks

twice_here : (place : ℕ) (earlier : List Change) (change : Change) (there : Bool) → there ≡ list_any (is_of_same change) earlier
    → twice place earlier change ≡ (if there then Some (the.Twice place) else None)
twice_here place earlier change there is = ap (λ (b : Bool). if b then Some (the.Twice place) else None) (has_change-any change earlier ∙ sym is)

pub twice_found : (place : ℕ) (earlier : List Change) (change : Change) (there : Bool) → there ≡ list_any (is_of_same change) earlier → there ≡ true
    → twice place earlier change ≡ Some (the.Twice place)
twice_found place earlier change there is holds = twice_here place earlier change there is ∙ ap (λ (b : Bool). if b then Some (the.Twice place) else None) holds

pub twice_missed : (place : ℕ) (earlier : List Change) (change : Change) (there : Bool) → there ≡ list_any (is_of_same change) earlier → there ≡ false
    → twice place earlier change ≡ None
twice_missed place earlier change there is fails = twice_here place earlier change there is ∙ ap (λ (b : Bool). if b then Some (the.Twice place) else None) fails

equal_only : (o : Ordering) → is_eq o ≡ true → o ≡ Equal
equal_only Less e = cc
equal_only Equal e = refl
equal_only Greater e = cc

same_keys : (u v : Version) → is_eq (precedence u v) ≡ bytes_eq (key_text u) (key_text v)
same_keys u v = same_from_decides (is_eq (precedence u v)) (bytes_eq (key_text u) (key_text v))
    ((λ e. tie_keys u v (equal_only (precedence u v) e)), (λ e. ap is_eq (keys_tie u v e))) (bytes_eq-Decides (key_text u) (key_text v))

-- two changes of one id are of one version where the versions tie
pub same_by_version : (change other : Change) (i j : PackageId) (u v : Version) → i ≡ changed_id change → j ≡ changed_id other → u ≡ changed_version change → v ≡ changed_version other
    → i.key ≡ j.key → is_eq (precedence u v) ≡ is_of_same change other
same_by_version change other i j u v i_is j_is u_is v_is keys =
    let same : bytes_eq (changed_id change).key (changed_id other).key ≡ true = (bytes_eq-Decides (changed_id change).key (changed_id other).key).1
    (ap (λ (k : PackageId). k.key) (sym i_is) ∙ keys ∙ ap (λ (k : PackageId). k.key) j_is) in
    ap₂ (λ (x y : Version). is_eq (precedence x y)) u_is v_is ∙ same_keys (changed_version change) (changed_version other)
    ∙ ap (λ (b : Bool). b && bytes_eq (key_text (changed_version change)) (key_text (changed_version other))) (sym same)

-- where the ids differ they aren't
pub other_by_id : (change other : Change) (i j : PackageId) → i ≡ changed_id change → j ≡ changed_id other → (i.key ≡ j.key → ⊥) → false ≡ is_of_same change other
other_by_id change other i j i_is j_is differ =
    let apart : bytes_eq (changed_id change).key (changed_id other).key ≡ false = bytes_eq-other (changed_id change).key (changed_id other).key
    (λ e. differ (ap (λ (k : PackageId). k.key) i_is ∙ e ∙ ap (λ (k : PackageId). k.key) (sym j_is))) in
    ap (λ (b : Bool). b && bytes_eq (key_text (changed_version change)) (key_text (changed_version other))) (sym apart)
