-- The plan that the calls of a pass are.
use Rattle.std.proofs.Common.{◌≡◌, ◌≢◌, ◌⊎◌, inl, inr, ℕ, List, [], length, map, Bool, true, false, cond, not, ◌&&◌, Option, Some, None, IsSome, refl, sym, ap, ◌∙◌, subst}
use Rattle.std.proofs.lemmas.Cmp.{nat_list_eq_equiv}
use Rattle.std.proofs.lemmas.Map.Views.{Contains-from_any, list_any-from_Contains}
use Rattle.std.specs.FinMap.{contains_key, entries, get, keys, remove}
use Rattle.std.specs.List.{Contains, filter, list_any}
use Rattle.std.specs.Option.{is_some}
use Rattle.std.specs.Str.{bytes_eq}
use Rattle.pkg_meta.specs.Catalog.{Catalog}
use Rattle.pkg_meta.specs.Lawful.{IsLawful, Placed}
use Rattle.pkg_meta.specs.declared.entry.Entry.{Entry}
use Rattle.pkg_meta.specs.declared.state.StateDoc.{StateDoc}
use Rattle.fold_core.specs.Docs.{MakesDocs, body_bytes, id_index_name}
use Rattle.fold_core.specs.Entries.{Keeps}
use Rattle.fold_core.specs.Events.{IsDirtyPut, names_in}
use Rattle.fold_core.specs.Folds.{Fold, Look, NamesAt, fold_of, made_at}
use Rattle.fold_core.specs.Laws.{AreOfEntries}
use Rattle.fold_core.specs.Sound.{HasState, IsScratch}
use Rattle.fold_core.specs.declared.doc.Body.{Body}
use Rattle.hive_laws.specs.FoldLaws.{FoldLaws}
use Rattle.hive_laws.specs.Plans.{IsPassPlan, NamedBytes, PassPlan, names_of_docs}
use Rattle.hive_laws.proofs.Looks.{no_some, some_by}
use Rattle.id_pass.specs.Named.{NamedBodies, has_document}
use Rattle.id_pass.specs.Passes.{HasStates, docs_by, docs_given, drops_index, is_left_over, is_missing, written}
use Rattle.pass_laws.proofs.Docs.{body_has, get_none, get_some, made_none, made_of, made_some}
use Rattle.pass_laws.proofs.Given.{given_held, has_is}
use Rattle.pass_laws.proofs.Maps.{entry_get, equal_bytes, get_entry, get_key, get_without, key_get, other_bytes, same_bytes}
use Rattle.pass_laws.proofs.Members.{kept, mapped, source, was}

-- the bytes, or none
abbrev pub bytes_or : Option (List ℕ) → List ℕ
bytes_or None = []
bytes_or (Some bytes) = bytes

pub or_same : (o : Option (List ℕ)) → IsSome o → o ≡ Some (bytes_or o)
or_same None some = absurd (no_some {A = List ℕ} None refl some)
or_same (Some bytes) some = refl

-- a document with its bytes
abbrev pub with_bytes : Catalog → List ℕ × Body → NamedBytes
with_bytes cs d = record { name = d.0; bytes = bytes_or (body_bytes cs d.1) }

-- the index's bytes where it is put
abbrev pub index_bytes : Catalog → List ℕ → NamedBodies → Option Body → Option (List ℕ)
index_bytes cs index given None = None
index_bytes cs index given (Some body) = cond (is_missing given (index, body)) (Some (bytes_or (body_bytes cs body))) None

abbrev pub plan_of : Catalog → (key : List ℕ) → (given docs : NamedBodies) → List (List ℕ) → (dirty clean : StateDoc) → PassPlan
plan_of cs key given docs names dirty clean = record {
  dirty = dirty;
  written = map (with_bytes cs) (written (id_index_name key) given docs);
  index = index_bytes cs (id_index_name key) given (get docs (id_index_name key));
  drops_index = drops_index (id_index_name key) docs names;
  removed = filter (is_left_over (id_index_name key) docs) names;
  clean = clean;
}

both_true : (a b : Bool) → (a && b) ≡ true → (a ≡ true) × (b ≡ true)
both_true true true is = (refl, refl)
both_true true false is = absurd (let no : ⊥ = cc in no)
both_true false b is = absurd (let no : ⊥ = cc in no)

true_both : (a b : Bool) → a ≡ true → b ≡ true → (a && b) ≡ true
true_both true true p q = refl
true_both true false p q = absurd (let no : ⊥ = cc in no)
true_both false b p q = absurd (let no : ⊥ = cc in no)

not_true : (a : Bool) → not a ≡ true → a ≡ false
not_true true is = absurd (let no : ⊥ = cc in no)
not_true false is = refl

true_not : (a : Bool) → a ≡ false → not a ≡ true
true_not true is = absurd (let no : ⊥ = cc in no)
true_not false is = refl

none_of : {X : Type 0} (o : Option X) → is_some o ≡ false → o ≡ None
none_of None is = refl
none_of (Some x) is = absurd (let no : ⊥ = cc in no)

some_of : {X : Type 0} (o : Option X) (x : X) (b : Bool) → cond b None o ≡ Some x → (b ≡ false) × (o ≡ Some x)
some_of o x true is = absurd (let no : ⊥ = cc in no)
some_of o x false is = (refl, is)

module _ (keeps : Keeps) (makes : MakesDocs) (base key : List ℕ) (staged : (number stamp : ℕ) (es : List Entry) → AreOfEntries es (makes base key number stamp es))
    (cs : Catalog) (lawful : IsLawful cs) (laws : FoldLaws (fold_of keeps makes base) cs) (c : ℕ) (held : Look (List ℕ))
    (old : Option StateDoc) (state : HasState (fold_of keeps makes base) cs c key old held) (items : List Placed)
    (dirty clean : StateDoc) (states : HasStates keeps makes base key old items (length cs) dirty clean)
    (dirty_scratch : IsScratch (fold_of keeps makes base) cs key dirty) (clean_scratch : IsScratch (fold_of keeps makes base) cs key clean) where
  abbrev f : Fold
  f = fold_of keeps makes base

  abbrev k : ℕ
  k = length cs

  abbrev index : List ℕ
  index = id_index_name key

  abbrev docs : NamedBodies
  docs = docs_by makes base key clean

  abbrev given : NamedBodies
  given = docs_given makes base key old

  abbrev pub plan : PassPlan
  plan = plan_of cs key given docs (names_in old) dirty clean

  at_end : (name : List ℕ) → made_at f cs key clean.at name ≡ made_at f cs key k name
  at_end name = ap (λ (n : ℕ). made_at f cs key n name) states.clean_taken.at

  at_dirty : (name : List ℕ) → made_at f cs key dirty.at name ≡ made_at f cs key k name
  at_dirty name = ap (λ (n : ℕ). made_at f cs key n name) states.dirty_taken.at

  made_is : (name : List ℕ) (body : Body) → get docs name ≡ Some body → made_at f cs key k name ≡ body_bytes cs body
  made_is name body is = sym (at_end name) ∙ made_of keeps makes base key staged cs lawful clean clean_scratch name body is

  pub has_bytes : (name : List ℕ) (body : Body) → get docs name ≡ Some body → IsSome (body_bytes cs body)
  has_bytes = body_has keeps makes base key staged cs lawful clean clean_scratch

  got : (name : List ℕ) → IsSome (made_at f cs key k name) → (body : Body) × (get docs name ≡ Some body)
  got name some = get_some keeps makes base key staged cs lawful clean clean_scratch name (subst IsSome (sym (at_end name)) some)

  none_got : (name : List ℕ) → made_at f cs key k name ≡ None → get docs name ≡ None
  none_got name none = get_none keeps makes base key staged cs lawful clean clean_scratch name (at_end name ∙ none)

  none_made : (name : List ℕ) → get docs name ≡ None → made_at f cs key k name ≡ None
  none_made name none = sym (at_end name) ∙ made_none keeps makes base key staged cs lawful clean clean_scratch name none

  made_key : (name : List ℕ) → IsSome (made_at f cs key k name) → Contains (keys docs) name
  made_key name some = let found = got name some in get_key docs name (some_by (get docs name) found.0 found.1)

  key_made : (name : List ℕ) → Contains (keys docs) name → IsSome (made_at f cs key k name)
  key_made name is = subst IsSome (at_end name) (made_some keeps makes base key staged cs lawful clean clean_scratch name (key_get docs name is))

  either : (name : List ℕ) → Contains (names_in old) name ⊎ Contains (keys docs) name → Contains (names_in old) name ⊎ IsSome (made_at f cs key dirty.at name)
  either name (inl was) = inl was
  either name (inr is) = inr (subst IsSome (sym (at_dirty name)) (key_made name is))

  dirty_put : IsDirtyPut f cs key old dirty
  dirty_put = record {
    scratch = dirty_scratch;
    dirty = states.marked;
    kept = λ name was. (states.all_names name).1 (inl was);
    made = λ name some. (states.all_names name).1 (inr (made_key name (subst IsSome (at_dirty name) some)));
    only = λ name is. either name ((states.all_names name).0 is);
  }

  new_names : NamesAt f cs key k clean.names
  new_names = record {
    made = λ name some. subst (λ (ns : List (List ℕ)). Contains ns name) (sym states.new_names) (made_key name some);
    only = λ name is. key_made name (subst (λ (ns : List (List ℕ)). Contains ns name) states.new_names is);
  }

  -- what is written
  pub is_written : (e : List ℕ × Body) → Contains (written index given docs) e → (e.0 ≢ index) × (get docs e.0 ≡ Some e.1)
  is_written e is =
      let there = was (is_missing given) (entries (remove docs index)) e is in
      let parts = some_of (get docs e.0) e.1 (bytes_eq e.0 index) (sym (get_without docs index e.0) ∙ get_entry (remove docs index) e there.0) in
      (λ same. absurd (let yes_ : bytes_eq e.0 index ≡ true = same_bytes e.0 index same in let no_ : bytes_eq e.0 index ≡ false = parts.0 in let no : ⊥ = cc in no), parts.1)

  made_with : (e : List ℕ × Body) → get docs e.0 ≡ Some e.1 → made_at f cs key k e.0 ≡ Some (bytes_or (body_bytes cs e.1))
  made_with e is = made_is e.0 e.1 is ∙ or_same (body_bytes cs e.1) (has_bytes e.0 e.1 is)

  all_written : (d : NamedBytes) → Contains plan.written d → (d.name ≢ index) × (made_at f cs key k d.name ≡ Some d.bytes)
  all_written d is =
      let from = source (with_bytes cs) (written index given docs) d is in
      let parts = is_written from.0 from.1 in
      subst (λ (x : NamedBytes). (x.name ≢ index) × (made_at f cs key k x.name ≡ Some x.bytes)) (sym from.2) (parts.0, made_with from.0 parts.1)

  -- what is held already
  held_as : (name : List ℕ) (body : Body) → get docs name ≡ Some body → has_document given name body ≡ true → held name ≡ made_at f cs key k name
  held_as name body is has =
      given_held keeps makes base key staged cs lawful c held old state name body (has_is given name body has)
      (laws.owned key k name (subst IsSome (sym (made_is name body is)) (has_bytes name body is)))
      ∙ sym (made_is name body is)

  put_name : (name : List ℕ) (body : Body) → name ≢ index → get docs name ≡ Some body → has_document given name body ≡ false → Contains (names_of_docs plan.written) name
  put_name name body other is missing =
      let there : Contains (entries (remove docs index)) (name, body) = entry_get (remove docs index) name body
      (get_without docs index name ∙ ap (λ (b : Bool). cond b None (get docs name)) (other_bytes name index other) ∙ is) in
      mapped (λ (d : NamedBytes). d.name) plan.written (with_bytes cs (name, body))
      (mapped (with_bytes cs) (written index given docs) (name, body)
      (kept (is_missing given) (entries (remove docs index)) (name, body) there (true_not (has_document given name body) missing)))

  left_held : (name : List ℕ) → name ≢ index → IsSome (made_at f cs key k name) → Contains (names_of_docs plan.written) name ⊎ (held name ≡ made_at f cs key k name)
  left_held name other some =
      let found = got name some in
      elim (has_document given name found.0) as (λ (b : Bool). has_document given name found.0 ≡ b
      → Contains (names_of_docs plan.written) name ⊎ (held name ≡ made_at f cs key k name)) [
        | true ↦ λ has. inr (held_as name found.0 found.1 has)
        | false ↦ λ missing. inl (put_name name found.0 other found.1 missing)
      ] refl

  -- the index
  index_made : (o : Option Body) → get docs index ≡ o → (bytes : List ℕ) → index_bytes cs index given o ≡ Some bytes → made_at f cs key k index ≡ Some bytes
  index_made None is bytes put = absurd (let no : ⊥ = cc in no)
  index_made (Some body) is bytes put =
      elim (is_missing given (index, body)) as (λ (b : Bool). cond b (Some (bytes_or (body_bytes cs body))) None ≡ Some bytes → made_at f cs key k index ≡ Some bytes) [
        | true ↦ λ here. made_with (index, body) is ∙ here
        | false ↦ λ none. absurd (let no : ⊥ = cc in no)
      ] put

  index_left : (o : Option Body) → get docs index ≡ o → IsSome (made_at f cs key k index) → IsSome (index_bytes cs index given o) ⊎ (held index ≡ made_at f cs key k index)
  index_left None is some = absurd (no_some (made_at f cs key k index) (none_made index is) some)
  index_left (Some body) is some =
      elim (has_document given index body) as (λ (b : Bool). has_document given index body ≡ b
      → IsSome (cond (not b) (Some (bytes_or (body_bytes cs body))) None) ⊎ (held index ≡ made_at f cs key k index)) [
        | true ↦ λ has. inr (held_as index body is has)
        | false ↦ λ missing. inl refl
      ] refl

  -- what is removed
  is_dropped : drops_index index docs (names_in old) ≡ true → Contains (names_in old) index × (made_at f cs key k index ≡ None)
  is_dropped is =
      let parts = both_true (list_any (bytes_eq index) (names_in old)) (not (contains_key docs index)) is in
      (Contains-from_any equal_bytes index (names_in old) parts.0, none_made index (none_of (get docs index) (not_true (contains_key docs index) parts.1)))

  must_drop : Contains (names_in old) index → made_at f cs key k index ≡ None → drops_index index docs (names_in old) ≡ true
  must_drop was none =
      true_both (list_any (bytes_eq index) (names_in old)) (not (contains_key docs index)) (list_any-from_Contains nat_list_eq_equiv index (names_in old) was)
      (true_not (contains_key docs index) (ap is_some (none_got index none)))

  is_removed : (name : List ℕ) → Contains plan.removed name → (name ≢ index) × Contains (names_in old) name × (made_at f cs key k name ≡ None)
  is_removed name is =
      let there = was (is_left_over index docs) (names_in old) name is in
      let parts = both_true (not (bytes_eq name index)) (not (contains_key docs name)) there.1 in (
        (λ same. absurd (let yes_ : bytes_eq name index ≡ true = same_bytes name index same in let no_ : bytes_eq name index ≡ false = not_true (bytes_eq name index) parts.0 in let no : ⊥ = cc in no)),
        there.0,
        none_made name (none_of (get docs name) (not_true (contains_key docs name) parts.1)),
      )

  must_remove : (name : List ℕ) → name ≢ index → Contains (names_in old) name → made_at f cs key k name ≡ None → Contains plan.removed name
  must_remove name other was_named none =
      kept (is_left_over index docs) (names_in old) name was_named
      (true_both (not (bytes_eq name index)) (not (contains_key docs name)) (true_not (bytes_eq name index) (other_bytes name index other))
      (true_not (contains_key docs name) (ap is_some (none_got name none))))

  pub is_plan : IsPassPlan f cs key k old held plan
  is_plan = record {
    dirty = dirty_put;
    dirty_at = states.dirty_taken.at;
    clean_at = states.clean_taken.at;
    clean = states.unmarked;
    scratch = clean_scratch;
    names = new_names;
    written = all_written;
    left = left_held;
    index = index_made (get docs index) refl;
    index_left = index_left (get docs index) refl;
    dropped = is_dropped;
    drops = must_drop;
    removed = is_removed;
    removes = must_remove;
  }
