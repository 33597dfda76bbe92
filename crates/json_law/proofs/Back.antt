-- The compact text of data reads back.
use Rattle.std.proofs.Common.{◌≡◌, ◌≤◌, ℕ, suc, max, List, [], false, Some, option_map, option_and_then, refl, sym, ap, ap₂, ◌∙◌, append-nil}
use Rattle.std.specs.Prelude.{⊤}
use Rattle.std.specs.Ordering.{nat_cmp, ordering_reverse}
use Rattle.std.specs.Cmp.Lexicographic.{slice_cmp}
use Rattle.std.specs.declared.cmp.Ordering.TheVariants.{Less, Greater}
use Rattle.std.proofs.lemmas.Cmp.{nat_list_cmp_total}
use Rattle.json.specs.Json as json
use Rattle.json.specs.Lex.{tokens}
use Rattle.json.specs.Tree as tree
use Rattle.json.proofs.Printed.Trees.{value-json_tokens, ArePrintable-json_tokens}
use Rattle.json.proofs.Printed.Tokens.{tokens-print}
use Rattle.json.proofs.Printed.Decimals.{IsNumber-decimal}
use Rattle.serde_json.specs.Data.{unsigned, negative, float, Data, null, boolean, number, string, array, object, Items, no_items, item, Members, no_members, member, put, depth, items_depth, members_depth}
use Rattle.serde_json.specs.Read.{of_json, of_items, of_members, read, max_depth}
use Rattle.serde_json.specs.Written.{outline, items_outline, members_outline, compact_text, has_float, items_have_float, members_have_float}
use Rattle.serde_json.proofs.Texts.{print-outline}
use Rattle.serde_json.proofs.Numbers.{number_of-decimal}
use Rattle.json_law.specs.Fits.{IsBeforeFirst, Fits, ItemsFit, MembersFit}

-- the first members, and then the others
joined : Members → Members → Members
joined no_members ms = ms
joined (member k d done) ms = member k d (joined done ms)

joined_none : (done : Members) → joined done no_members ≡ done
unfolding joined
joined_none no_members = refl
joined_none (member k d done) = ap (member k d) (joined_none done)

joined_one : (done : Members) (k : List ℕ) (d : Data) (ms : Members) → joined (joined done (member k d no_members)) ms ≡ joined done (member k d ms)
unfolding joined
joined_one no_members k d ms = refl
joined_one (member l e done) k d ms = ap (member l e) (joined_one done k d ms)

-- the key stands behind those of the members
IsBehind : List ℕ → Members → Type 0
IsBehind k no_members = ⊤
IsBehind k (member l d ms) = (slice_cmp nat_cmp l k ≡ Less) × IsBehind k ms

behind_later : (k l : List ℕ) (done : Members) → slice_cmp nat_cmp k l ≡ Less → IsBehind k done → IsBehind l done
unfolding IsBehind
behind_later k l no_members below behind = tt
behind_later k l (member j d done) below behind = (nat_list_cmp_total.trans j k l behind.0 below, behind_later k l done below behind.1)

behind_one : (k l : List ℕ) (d : Data) (done : Members) → slice_cmp nat_cmp k l ≡ Less → IsBehind l done → IsBehind l (joined done (member k d no_members))
unfolding joined IsBehind
behind_one k l d no_members below behind = (below, tt)
behind_one k l d (member j e done) below behind = (behind.0, behind_one k l d done below behind.1)

greater : (l k : List ℕ) → slice_cmp nat_cmp l k ≡ Less → slice_cmp nat_cmp k l ≡ Greater
greater l k below = nat_list_cmp_total.antisymm k l ∙ ap ordering_reverse below

-- a key behind all others is put at the end
put_behind : (k : List ℕ) (d : Data) (done : Members) → IsBehind k done → put k d done ≡ joined done (member k d no_members)
unfolding joined IsBehind
put_behind k d no_members behind = refl
put_behind k d (member l e done) behind = rw (greater l k behind.0) (ap (member l e) (put_behind k d done behind.1))

-- the first key of the members is behind those that were read
IsNext : Members → Members → Type 0
IsNext done no_members = ⊤
IsNext done (member k d ms) = IsBehind k done

next_member : (k : List ℕ) (d : Data) (ms done : Members) → IsBeforeFirst k ms → IsBehind k done → IsNext (joined done (member k d no_members)) ms
unfolding IsNext
next_member k d no_members done before behind = tt
next_member k d (member l e ms) done before behind = behind_one k l d done before (behind_later k l done before behind)

-- nothing was read
starts : (ms : Members) → IsNext no_members ms
unfolding IsNext IsBehind
starts no_members = tt
starts (member k d ms) = tt

mutual
  unfolding IsNext joined

  of_json-outline : (d : Data) → Fits d → of_json (outline d) ≡ Some d
  of_json-outline null fits = refl
  of_json-outline (boolean b) fits = refl
  of_json-outline (number (unsigned n)) fits = ap (option_map number) (number_of-decimal n fits)
  of_json-outline (number (negative z)) fits = absurd fits
  of_json-outline (number (float x)) fits = absurd fits
  of_json-outline (string s) fits = refl
  of_json-outline (array ds) fits = ap (option_map array) (of_items-outline ds fits)
  of_json-outline (object ms) fits = ap (option_map object) (of_members-outline ms no_members fits (starts ms))

  of_items-outline : (ds : Items) → ItemsFit ds → of_items (items_outline ds) ≡ Some ds
  of_items-outline no_items fits = refl
  of_items-outline (item d ds) fits =
      ap (option_and_then (λ d. option_map (item d) (of_items (items_outline ds)))) (of_json-outline d fits.0)
      ∙ ap (option_map (item d)) (of_items-outline ds fits.1)

  of_members-outline : (ms done : Members) → MembersFit ms → IsNext done ms → of_members (members_outline ms) done ≡ Some (joined done ms)
  of_members-outline no_members done fits next = ap Some (sym (joined_none done))
  of_members-outline (member k d ms) done fits next =
      ap (option_and_then (λ d. of_members (members_outline ms) (put k d done))) (of_json-outline d fits.1)
      ∙ ap (of_members (members_outline ms)) (put_behind k d done next)
      ∙ of_members-outline ms (joined done (member k d no_members)) fits.2 (next_member k d ms done fits.0 next)
      ∙ ap Some (joined_one done k d ms)

mutual
  pub depth-outline : (d : Data) → tree.depth (outline d) ≡ depth d
  depth-outline null = refl
  depth-outline (boolean b) = refl
  depth-outline (number n) = refl
  depth-outline (string s) = refl
  depth-outline (array ds) = ap suc (items_depth-outline ds)
  depth-outline (object ms) = ap suc (members_depth-outline ms)

  items_depth-outline : (ds : Items) → tree.items_depth (items_outline ds) ≡ items_depth ds
  items_depth-outline no_items = refl
  items_depth-outline (item d ds) = ap₂ max (depth-outline d) (items_depth-outline ds)

  members_depth-outline : (ms : Members) → tree.members_depth (members_outline ms) ≡ members_depth ms
  members_depth-outline no_members = refl
  members_depth-outline (member k d ms) = ap₂ max (depth-outline d) (members_depth-outline ms)

mutual
  pub numbers-outline : (d : Data) → Fits d → tree.HasNumbers (outline d)
  numbers-outline null fits = tt
  numbers-outline (boolean b) fits = tt
  numbers-outline (number (unsigned n)) fits = IsNumber-decimal n fits
  numbers-outline (number (negative z)) fits = absurd fits
  numbers-outline (number (float x)) fits = absurd fits
  numbers-outline (string s) fits = tt
  numbers-outline (array ds) fits = items_numbers-outline ds fits
  numbers-outline (object ms) fits = members_numbers-outline ms fits

  items_numbers-outline : (ds : Items) → ItemsFit ds → tree.ItemsHaveNumbers (items_outline ds)
  items_numbers-outline no_items fits = tt
  items_numbers-outline (item d ds) fits = (numbers-outline d fits.0, items_numbers-outline ds fits.1)

  members_numbers-outline : (ms : Members) → MembersFit ms → tree.MembersHaveNumbers (members_outline ms)
  members_numbers-outline no_members fits = tt
  members_numbers-outline (member k d ms) fits = (numbers-outline d fits.1, members_numbers-outline ms fits.2)

pub read-compact_text : (d : Data) → Fits d → depth d ≤ max_depth → read (compact_text d) ≡ Some d
read-compact_text d fits shallow =
    let written = tree.json_tokens (outline d) in
    let lexed : tokens (compact_text d) ≡ written =
    ap tokens (sym (print-outline d)) ∙ tokens-print written (ArePrintable-json_tokens (outline d) (numbers-outline d fits)) in
    let nests : tree.depth (outline d) ≤ max_depth = rw (depth-outline d) shallow in
    ap (λ us. option_and_then of_json (option_and_then (λ p. json.if_last p.0 p.1) (json.value max_depth us))) (lexed ∙ sym (append-nil written))
    ∙ ap (λ o. option_and_then of_json (option_and_then (λ p. json.if_last p.0 p.1) o)) (value-json_tokens (outline d) max_depth [] nests)
    ∙ of_json-outline d fits

same_some : (d e : Data) → Some d ≡ Some e → d ≡ e
same_some d e same = cc

pub compact_text-injective : (d e : Data) → Fits d → depth d ≤ max_depth → Fits e → depth e ≤ max_depth → compact_text d ≡ compact_text e → d ≡ e
compact_text-injective d e fits shallow fits' shallow' same =
    same_some d e (sym (read-compact_text d fits shallow) ∙ ap read same ∙ read-compact_text e fits' shallow')

mutual
  pub has_float-fits : (d : Data) → Fits d → has_float d ≡ false
  has_float-fits null fits = refl
  has_float-fits (boolean b) fits = refl
  has_float-fits (number (unsigned n)) fits = refl
  has_float-fits (number (negative z)) fits = absurd fits
  has_float-fits (number (float x)) fits = absurd fits
  has_float-fits (string s) fits = refl
  has_float-fits (array ds) fits = items_have_float-fits ds fits
  has_float-fits (object ms) fits = members_have_float-fits ms fits

  pub items_have_float-fits : (ds : Items) → ItemsFit ds → items_have_float ds ≡ false
  items_have_float-fits no_items fits = refl
  items_have_float-fits (item d ds) fits = rw (has_float-fits d fits.0) (items_have_float-fits ds fits.1)

  pub members_have_float-fits : (ms : Members) → MembersFit ms → members_have_float ms ≡ false
  members_have_float-fits no_members fits = refl
  members_have_float-fits (member k d ms) fits = rw (has_float-fits d fits.1) (members_have_float-fits ms fits.2)
