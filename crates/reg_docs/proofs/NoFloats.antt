-- No registration document has a float.
use Rattle.std.proofs.Common.{◌≡◌, ℕ, List, [], ◌∷◌, Bool, true, false, ◌||◌, map, refl, ap, ◌∙◌}
use Rattle.serde_json.specs.Data.{Data, string}
use Rattle.serde_json.specs.View.{items_of}
use Rattle.serde_json.specs.Written.{has_float, items_have_float}
use Rattle.pkg_meta.specs.declared.dependency.DepGroup.{DepGroup}
use Rattle.pkg_meta.specs.declared.entry.Entry.{Entry}
use Rattle.catalog_doc.proofs.Slotted.{array_if_each, flag_if_each, table_plain, text_if_each}
use Rattle.reg_docs.specs.Documents.{in_index, registration_index_data, inlined_at, listed_data, registration_page_data}
use Rattle.reg_docs.specs.Entries.{entry_dep_data, reg_entry_data, entry_slots, entry_group_data, entry_group_slots}
use Rattle.reg_docs.specs.Pages.{cut, is_inlined}

-- no float
abbrev IsPlain : Data → Type 0
IsPlain d = has_float d ≡ false

mapped_plain : {A : Type 0} (f : A → Data) → ((a : A) → IsPlain (f a)) → (xs : List A) → items_have_float (items_of (map f xs)) ≡ false
mapped_plain f each [] = refl
mapped_plain f each (x ∷ xs) = ap (λ (b : Bool). b || items_have_float (items_of (map f xs))) (each x) ∙ mapped_plain f each xs

group_plain : (root : List ℕ) (g : DepGroup) → IsPlain (entry_group_data root g)
group_plain root g =
    table_plain (entry_group_slots root g)
    (array_if_each IsPlain (map (entry_dep_data root) g.deps) (mapped_plain (entry_dep_data root) (λ dep. refl) g.deps), (text_if_each IsPlain g.framework (λ s is. refl), tt))

entry_plain : (base root : List ℕ) (e : Entry) → IsPlain (reg_entry_data base root e)
entry_plain base root e =
    let m = e.details.meta in
    table_plain (entry_slots base root e) (
      refl,
      (
        text_if_each IsPlain m.authors (λ s is. refl),
        (
          array_if_each IsPlain (map (entry_group_data root) m.groups) (mapped_plain (entry_group_data root) (group_plain root) m.groups),
          (
            text_if_each IsPlain m.description (λ s is. refl),
            (
              text_if_each IsPlain m.icon_url (λ s is. refl),
              (
                refl,
                (
                  text_if_each IsPlain m.license_url (λ s is. refl),
                  (
                    refl,
                    (
                      text_if_each IsPlain m.min_client (λ s is. refl),
                      (
                        text_if_each IsPlain m.project_url (λ s is. refl),
                        (
                          refl,
                          (
                            flag_if_each IsPlain m.require_license (λ b. refl),
                            (
                              text_if_each IsPlain m.summary (λ s is. refl),
                              (array_if_each IsPlain (map string m.tags) (mapped_plain string (λ s. refl) m.tags), (text_if_each IsPlain m.title (λ s is. refl), (refl, tt))),
                            ),
                          ),
                        ),
                      ),
                    ),
                  ),
                ),
              ),
            ),
          ),
        ),
      ),
    )

listed_plain : (base root key : List ℕ) (e : Entry) → IsPlain (listed_data base root key e)
listed_plain base root key e = rw (entry_plain base root e) refl

pub page_plain : (url base root key : List ℕ) (run : List Entry) → has_float (registration_page_data url base root key run) ≡ false
page_plain url base root key run = rw (mapped_plain (listed_data base root key) (listed_plain base root key) run) refl

in_index_plain : (inlined : Bool) (base root key : List ℕ) (run : List Entry) → IsPlain (in_index inlined base root key run)
in_index_plain true base root key run = page_plain (inlined_at root key run) base root key run
in_index_plain false base root key run = refl

pub index_plain : (base root key : List ℕ) (number stamp : ℕ) (es : List Entry) → has_float (registration_index_data base root key number stamp es) ≡ false
index_plain base root key number stamp es =
    rw (mapped_plain (in_index (is_inlined es) base root key) (in_index_plain (is_inlined es) base root key) (cut es)) refl
