-- What a job tells as damaged, behind an opening.
use Rattle.std.proofs.Common.{◌≡◌, ◌≢◌, ◌⊎◌, ℕ, List, Bool, true, false, Option, Some, None, inl, inr, sym, ◌∙◌, ap, option_map, get_or, arith}
use Rattle.std.specs.FinMap.{get}
use Rattle.blob_store.specs.Area.{Area, with_blob}
use Rattle.blob_store.specs.Seen.{Seen}
use Rattle.pkg_meta.specs.Catalog.{Catalog}
use Rattle.blob_store.proofs.Areas.{get_put_other}
use Rattle.catalog_doc.specs.Documents.{index_text}
use Rattle.catalog_doc.specs.Names.{index_name, leaf_name, staged_name}
use Rattle.catalog_opening.specs.Openings.{IsMended}
use Rattle.catalog_core.specs.Framing.{StaysOpen}
use Rattle.catalog_core.specs.Opened.{IsOpenFor, Opened}
use Rattle.cursor_doc.specs.Cursor.{cursor_name}
use Rattle.job_round.specs.Answers.{IsLostInCatalog, IsLostInHive}
use Rattle.job_round.specs.Cursors.{IsDamagedCursor}
use Rattle.job_round.specs.Items.{IsNoLeafAmong, IsNoStaged}
use Rattle.feed_app.specs.Damages.{IsLostOfHive, IsUnread}
use Rattle.feed_app.specs.Spelled.{IsOpenOver, IsSpelled}

apart_first : (xs ys : List ℕ) → get_or xs 0 0 ≢ get_or ys 0 0 → xs ≢ ys
apart_first xs ys other e = other (ap (λ (l : List ℕ). get_or l 0 0) e)

staged_name-not_index : (number place : ℕ) (nuspec : Bool) → staged_name number place nuspec ≢ index_name
staged_name-not_index number place true is = apart_first (staged_name number place true) index_name (omega arith) is
staged_name-not_index number place false is = apart_first (staged_name number place false) index_name (omega arith) is

-- a publish's file that isn't held where an index was put wasn't held before
absent_before : (m : Area) (bytes name : List ℕ) → IsNoStaged (with_blob index_name bytes m) name → IsNoStaged m name
absent_before m bytes name (number, place, nuspec, is, none) = (
  number,
  place,
  nuspec,
  is,
  ap (get m) is ∙ sym (get_put_other m index_name bytes (staged_name number place nuspec) (staged_name-not_index number place nuspec))
      ∙ ap (get (with_blob index_name bytes m)) (sym is) ∙ none,
)

module _ {B F : Type 0} (o n : Opened B) (now after : Seen) (settled : o.settled ≡ true) (stays : StaysOpen o n now after F) (name : List ℕ)
    (lost : IsLostInCatalog o n now after name) where
  abbrev UnreadIn : Area → Type 0
  UnreadIn m = ((number place : ℕ) × (name ≡ leaf_name number place)) ⊎ IsNoStaged m name

  read : (m : Area) → IsNoLeafAmong m n.base n.kept.rows name ⊎ IsNoStaged m name → UnreadIn m
  read m (inl leaf) = inl (leaf.0, leaf.1, leaf.2)
  read m (inr absent) = inr absent

  -- a settled catalog puts no index
  of_settled : (m : Area) → now.held ≡ Some m → UnreadIn m
  of_settled m is = told lost
    where
      left : after.held ≡ Some m
      left = (stays.settled settled).1 ∙ is

      told : IsLostInCatalog o n now after name → UnreadIn m
      told (inl unsettled) = let why = unsettled m is in let no : ⊥ = cc in absurd no
      told (inr missing) = read m (missing m left)

  before_index : (m : Area) (bytes : List ℕ) → UnreadIn (with_blob index_name bytes m) → UnreadIn m
  before_index m bytes (inl leaf) = inl leaf
  before_index m bytes (inr absent) = inr (absent_before m bytes name absent)

  -- what is missing of a catalog that was opened, said of the area before the opening
  pub unread : (held : Option Area) → IsMended held now.held → IsUnread held name
  unread held (inl same) = λ m is. of_settled m (same ∙ is)
  unread held (inr (base, heads, put)) = λ m is.
      before_index m (index_text base heads)
      (of_settled (with_blob index_name (index_text base heads) m) (put ∙ ap (option_map (with_blob index_name (index_text base heads))) is))

-- so with what a hive's area lacks, of each catalog that the store's area spells
module _ {B : Type 0} (s : Seen) (o : Opened B) (now : Seen) (over : IsOpenOver s o now) where
  opened : (cs : Catalog) → IsSpelled s cs → IsOpenFor o now cs
  opened cs (base, has) = (over base cs has).1

  damaged : (found : Option (List ℕ)) → IsDamagedCursor (IsOpenFor o now) found → IsDamagedCursor (IsSpelled s) found
  damaged found (inl none) = inl none
  damaged found (inr (number, is, beyond)) = inr (number, is, λ cs spelled. beyond cs (opened cs spelled))

  pub gone : (held : Option Area) (name : List ℕ) → IsLostInHive o now held name → IsLostOfHive (IsSpelled s) held name
  gone None name lost = tt
  gone (Some m) name (inl (is, cursor)) = inl (is, damaged (get m cursor_name) cursor)
  gone (Some m) name (inr (key, target, reaches, is, none)) = inr (key, target, (λ cs spelled. reaches cs (opened cs spelled)), is, none)
