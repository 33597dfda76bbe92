-- The items of a catalog are of the code's types, and its packages have sizes of 64 bits.
use Rattle.std.proofs.Common.{◌≡◌, ◌<◌, ◌≤◌, ◌+◌, ◌^◌, ℕ, zero, suc, List, [], ◌∷◌, ◌++◌, length, All, Bool, true, false, Option, Some, None, IsUtf8, sym, ◌∙◌, ap, subst, arith, append-nil, length-append, slice_get, get_or}
use Rattle.std.specs.Prelude.{if◌then◌else◌}
use Rattle.std.proofs.lemmas.Grind.{flat_map-append}
use Rattle.std.proofs.lemmas.Str.{IsUtf8-from_ascii}
use Rattle.base64.specs.Engines.{standard}
use Rattle.base64.proofs.EngineFacts.{IsAscii-encode_of}
use Rattle.sha2.specs.Sha512.{sha512}
use Rattle.nuget_version.specs.Printed.{key_text}
use Rattle.pkg_meta.specs.Catalog.{Catalog}
use Rattle.pkg_meta.specs.Lawful.{all_placed, AreLawfulItems, has_pair, IsLawfulItem, IsNext, IsOfDetails, last_like, last_of, MayFollow, or_earlier, Placed, placed_from, placed_of, relisted}
use Rattle.pkg_meta.specs.declared.commit.Staged.{Staged}
use Rattle.pkg_meta.specs.declared.commit.Stored.{Stored}
use Rattle.pkg_meta.specs.declared.item.Details.{Details}
use Rattle.pkg_meta.specs.declared.item.Item.{Item}
use Rattle.pkg_meta.specs.declared.item.Item.TheVariants as the
use Rattle.catalog_doc.specs.Catalogs.{IsCatalog, TellPackages, TellsPackage}
use Rattle.catalog_doc.specs.Hash.{hash_text}
use Rattle.catalog_doc.specs.Reading.{IsDetailsValue, IsItemValue}
use Rattle.catalog_doc.proofs.Numbered.{few_commits}
use Rattle.catalog_laws.specs.Values.{HaveItemValues, HavePackageSizes}

-- a package's hash is a text
hash_is_text : (nupkg : List ℕ) → IsUtf8 (hash_text nupkg)
unfolding hash_text
hash_is_text nupkg = IsUtf8-from_ascii _ (IsAscii-encode_of standard (sha512 nupkg))

-- placed items of the code's types
abbrev AreValues : List Placed → Type 0
AreValues [] = Unit {0}
AreValues (x ∷ xs) = IsItemValue x.what × AreValues xs

values_append : (xs ys : List Placed) → AreValues xs → AreValues ys → AreValues (xs ++ ys)
values_append [] ys p q = q
values_append (x ∷ xs) ys p q = (p.0, values_append xs ys p.1 q)

values_front : (xs ys : List Placed) → AreValues (xs ++ ys) → AreValues xs × AreValues ys
values_front [] ys p = (tt, p)
values_front (x ∷ xs) ys p = let rest = values_front xs ys p.1 in ((p.0, rest.0), rest.1)

abbrev IsValueIf : Option Placed → Type 0
IsValueIf None = Unit {0}
IsValueIf (Some x) = IsItemValue x.what

either_value : (found : Option Placed) (x : Placed) (b : Bool) → IsValueIf found → IsItemValue x.what
    → IsValueIf (or_earlier found (if b then Some x else None))
either_value (Some y) x b p q = p
either_value None x true p q = q
either_value None x false p q = tt

last_value : (id version : List ℕ) (xs : List Placed) → AreValues xs → IsValueIf (last_of id version xs)
last_value id version [] values = tt
last_value id version (x ∷ xs) values =
    either_value (last_of id version xs) x (has_pair id version x.what) (last_value id version xs values.1) values.0

old_value : (found : Option Placed) (old : Details) → IsValueIf found → IsOfDetails found old → IsDetailsValue old
old_value None old value of = absurd of
old_value (Some x) old value of = subst IsItemValue of value

relisted_value : (old : Details) → IsDetailsValue old → IsDetailsValue (relisted old)
relisted_value old value = record {
  created = value.created;
  origin_number = value.origin_number;
  origin_place = value.origin_place;
  size = value.size;
  hash = value.hash;
  texts = value.texts;
}

item_value : (before : List Placed) (number stamp place : ℕ) (it : Item) (s : Option Staged) → AreValues before → number < 2 ^ 32
    → stamp ≤ 3_155_378_975_999_999_999 → place < 2 ^ 32
    → IsLawfulItem before number stamp place it s → TellsPackage it s → IsItemValue it
item_value before number stamp place (the.Details d) (Some brought) values fits moment within lawful tells = record {
  created = subst (λ (e : Details). e.created ≤ 3_155_378_975_999_999_999) (sym lawful.itself) moment;
  origin_number = subst (λ (e : Details). e.origin_number < 2 ^ 32) (sym lawful.itself) fits;
  origin_place = subst (λ (e : Details). e.origin_place < 2 ^ 32) (sym lawful.itself) within;
  size = subst (λ (e : Details). e.size < 2 ^ 64) (sym lawful.itself) tells.size;
  hash = subst IsUtf8 (sym tells.hash) (hash_is_text brought.nupkg);
  texts = tells.texts;
}
item_value before number stamp place (the.Details d) None values fits moment within (old, is, of) tells =
    subst IsDetailsValue (sym is)
    (relisted_value old (old_value (last_like (the.Details d) before) old (last_value d.meta.id.key (key_text d.meta.version) before values) of))
item_value before number stamp place (the.Gone i v) s values fits moment within lawful tells = tt

items_values : (before : List Placed) (number stamp place : ℕ) (items : List Item) (staged : List (Option Staged)) → AreValues before → number < 2 ^ 32
    → stamp ≤ 3_155_378_975_999_999_999
    → place + length items ≤ 64 → AreLawfulItems before number stamp place items staged → TellPackages items staged
    → AreValues (placed_from number stamp place items)
items_values before number stamp place [] staged values fits moment few lawful tells = tt
items_values before number stamp place (it ∷ items) [] values fits moment few lawful tells = absurd lawful
items_values before number stamp place (it ∷ items) (s ∷ staged) values fits moment few lawful tells = (
  item_value before number stamp place it s values fits moment (omega (arith, few)) lawful.0 tells.0,
  items_values before number stamp (suc place) items staged values fits moment (omega (arith, few)) lawful.1 tells.1,
)

-- each commit tells of its packages
abbrev AllTell : Catalog → Type 0
AllTell cs = All (λ (c : Stored). TellPackages c.commit.items c.staged) cs

values_from : (before cs : Catalog) → MayFollow before cs → AllTell cs → length before + length cs < 2 ^ 32 → AreValues (all_placed before)
    → AreValues (all_placed cs)
values_from before [] follows tell few values = tt
values_from before (c ∷ cs) follows tell few values =
    let next = follows.0 in
    let longer = length-append before (c ∷ []) in
    let own : AreValues (placed_of c) =
    items_values (all_placed before) c.commit.number c.commit.stamp 0 c.commit.items c.staged values (omega (arith, next.number, few)) next.moment
    (omega (arith, next.few)) next.items (tell 0 c (omega arith)) in
    let more : AreValues (all_placed (before ++ c ∷ [])) = subst AreValues
    (sym (flat_map-append placed_of before (c ∷ []) ∙ ap (λ (l : List Placed). all_placed before ++ l) (append-nil (placed_of c))))
    (values_append (all_placed before) (placed_of c) values own) in
    values_append (placed_of c) (all_placed cs) own
    (values_from (before ++ c ∷ []) cs follows.1 (λ k d within. tell (suc k) d (omega (arith, within))) (omega (arith, few, longer)) more)

-- those of one commit, and of one place
values_in : (cs : Catalog) (c : Stored) → AreValues (all_placed cs) → (k : ℕ) → k < length cs → get_or cs k c ≡ c → AreValues (placed_of c)
values_in [] c values k within is = absurd (omega (arith, within))
values_in (x ∷ cs) c values zero within is = subst (λ (d : Stored). AreValues (placed_of d)) is (values_front (placed_of x) (all_placed cs) values).0
values_in (x ∷ cs) c values (suc k) within is = values_in cs c (values_front (placed_of x) (all_placed cs) values).1 k (omega (arith, within)) is

value_at : (number stamp place : ℕ) (items : List Item) → AreValues (placed_from number stamp place items) → (k : ℕ) (it : Item)
    → slice_get items k ≡ Some it → IsItemValue it
value_at number stamp place [] values k it is = cc
value_at number stamp place (x ∷ items) values zero it is = let same : x ≡ it = cc in subst IsItemValue same values.0
value_at number stamp place (x ∷ items) values (suc k) it is = value_at number stamp (suc place) items values.1 k it is

pub item_values : (cs : Catalog) → IsCatalog cs → HaveItemValues cs
item_values cs whole c place it there is =
    let few = few_commits cs whole.lawful in
    let all = values_from [] cs whole.lawful.commits whole.packages (omega (arith, few)) tt in
    value_at c.commit.number c.commit.stamp 0 c.commit.items (values_in cs c all there.0 there.1 there.2) place it is

-- a commit of a catalog follows those before it
next_in : (before cs : Catalog) (c : Stored) → MayFollow before cs → (k : ℕ) → k < length cs → get_or cs k c ≡ c → (earlier : Catalog) × IsNext earlier c
next_in before [] c follows k within is = absurd (omega (arith, within))
next_in before (x ∷ cs) c follows zero within is = (before, subst (IsNext before) is follows.0)
next_in before (x ∷ cs) c follows (suc k) within is = next_in (before ++ x ∷ []) cs c follows.1 k (omega (arith, within)) is

size_of : (before : List Placed) (number stamp place : ℕ) (it : Item) (brought : Staged) → IsLawfulItem before number stamp place it (Some brought)
    → TellsPackage it (Some brought) → length brought.nupkg < 2 ^ 64
size_of before number stamp place (the.Details d) brought lawful tells = tells.size
size_of before number stamp place (the.Gone i v) brought lawful tells = absurd lawful

size_at : (before : List Placed) (number stamp place : ℕ) (items : List Item) (staged : List (Option Staged))
    → AreLawfulItems before number stamp place items staged
    → TellPackages items staged → (k : ℕ) (brought : Staged) → slice_get staged k ≡ Some (Some brought) → length brought.nupkg < 2 ^ 64
size_at before number stamp place [] [] lawful tells k brought is = cc
size_at before number stamp place [] (s ∷ staged) lawful tells k brought is = absurd lawful
size_at before number stamp place (it ∷ items) [] lawful tells k brought is = absurd lawful
size_at before number stamp place (it ∷ items) (s ∷ staged) lawful tells zero brought is =
    let same : s ≡ Some brought = cc in
    size_of before number stamp place it brought (subst (IsLawfulItem before number stamp place it) same lawful.0) (subst (TellsPackage it) same tells.0)
size_at before number stamp place (it ∷ items) (s ∷ staged) lawful tells (suc k) brought is =
    size_at before number stamp (suc place) items staged lawful.1 tells.1 k brought is

pub package_sizes : (cs : Catalog) → IsCatalog cs → HavePackageSizes cs
package_sizes cs whole c place brought there is =
    let own = next_in [] cs c whole.lawful.commits there.0 there.1 there.2 in
    let tell = subst (λ (d : Stored). TellPackages d.commit.items d.staged) there.2 (whole.packages there.0 c there.1) in
    size_at (all_placed own.0) c.commit.number c.commit.stamp 0 c.commit.items c.staged own.1.items tell place brought is
