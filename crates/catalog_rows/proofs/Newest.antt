-- The last row of a lawful catalog tells its newest stamp and the number of its commits.
use Rattle.std.proofs.Common.{true≢false, ◌≡◌, ◌<◌, ◌≤◌, ◌+◌, ℕ, suc, List, [], ◌∷◌, ◌++◌, length, refl, sym, ◌∙◌, ap, arith, append-nil, length-append}
use Rattle.std.specs.Prelude.{Bool, true, false, Option, Some, None, IfNone, nat_le, ◌^◌, if◌then◌else◌}
use Rattle.std.specs.Option.{IsNone}
use Rattle.std.proofs.lemmas.Bool.Decides.{nat_tests}
use Rattle.std.proofs.lemmas.List.{length-map}
use Rattle.pkg_meta.specs.Catalog.{Catalog}
use Rattle.pkg_meta.specs.declared.commit.Stored.{Stored}
use Rattle.pkg_meta.specs.Lawful.{MayFollow, all_placed, newest}
use Rattle.pkg_meta.specs.declared.item.Item.{Item}
use Rattle.catalog_doc.specs.CatDocs.{all_rows, rows_from, rows_of}
use Rattle.catalog_doc.specs.Catalogs.{IsCatalog, all_items}
use Rattle.catalog_doc.specs.Verdict.{ended, full}
use Rattle.catalog_doc.specs.declared.change.Change.{Change}
use Rattle.catalog_doc.specs.declared.error.CommitErr.{CommitErr}
use Rattle.catalog_doc.specs.declared.error.CommitErr.TheVariants as the
use Rattle.catalog_doc.specs.Documents.{last_number, last_stamp}
use Rattle.catalog_doc.specs.declared.row.Row.{Row}
use Rattle.catalog_doc.proofs.OnePage.{length-rows_from}
use Rattle.catalog_doc.proofs.Numbered.{few_commits}
use Rattle.catalog_rows.specs.Last.{placed_row}
use Rattle.catalog_rows.proofs.OfItems.{AreOf, are_of-all, rows_placed}
use Rattle.catalog_rows.proofs.PageHeads.{last_number-behind, last_stamp-behind}

last_from : (number stamp place : ℕ) (items : List Item) → 0 < length items
    → (last_number (rows_from number stamp place items) ≡ number) × (last_stamp (rows_from number stamp place items) ≡ stamp)
last_from number stamp place [] some = absurd (omega arith)
last_from number stamp place (it ∷ []) some = (refl, refl)
last_from number stamp place (it ∷ next ∷ items) some = last_from number stamp (suc place) (next ∷ items) (omega arith)

last_behind : (rows more : List Row) → 0 < length more → (last_number (rows ++ more) ≡ last_number more) × (last_stamp (rows ++ more) ≡ last_stamp more)
last_behind rows [] some = absurd (omega arith)
last_behind rows (row ∷ more) some = (last_number-behind rows row more, last_stamp-behind rows row more)

has_rows : (before : Catalog) (c : Stored) (cs : Catalog) → MayFollow before (c ∷ cs) → 0 < length (all_rows (c ∷ cs))
has_rows before c cs follows =
    let own = length-rows_from c.commit.number c.commit.stamp 0 c.commit.items in
    let both = length-append (rows_of c) (all_rows cs) in
    omega (arith, own, both, follows.0.some)

-- the number and the stamp that the last row tells, of commits behind others
last_told : (before : Catalog) (c : Stored) (cs : Catalog) → MayFollow before (c ∷ cs)
    → (last_number (all_rows (c ∷ cs)) ≡ length before + length (c ∷ cs)) × (last_stamp (all_rows (c ∷ cs)) ≡ newest (c ∷ cs))
last_told before c [] follows =
    let alone = append-nil (rows_of c) in
    let told = last_from c.commit.number c.commit.stamp 0 c.commit.items follows.0.some in
    (ap last_number alone ∙ told.0 ∙ follows.0.number, ap last_stamp alone ∙ told.1)
last_told before c (next ∷ cs) follows =
    let behind = last_behind (rows_of c) (all_rows (next ∷ cs)) (has_rows (before ++ c ∷ []) next cs follows.1) in
    let rest = last_told (before ++ c ∷ []) next cs follows.1 in
    let longer = length-append before (c ∷ []) in
    (behind.0 ∙ rest.0 ∙ omega (arith, longer), behind.1 ∙ rest.1)

newest_within : (before : Catalog) (c : Stored) (cs : Catalog) → MayFollow before (c ∷ cs) → newest (c ∷ cs) ≤ 3_155_378_975_999_999_999
newest_within before c [] follows = follows.0.moment
newest_within before c (next ∷ cs) follows = newest_within (before ++ c ∷ []) next cs follows.1

last_moment : (cs : Catalog) → MayFollow [] cs → newest cs ≤ 3_155_378_975_999_999_999
last_moment [] follows = omega arith
last_moment (c ∷ cs) follows = newest_within [] c cs follows

last_tells : (cs : Catalog) → MayFollow [] cs → (last_number (all_rows cs) ≡ length cs) × (last_stamp (all_rows cs) ≡ newest cs)
last_tells [] follows = (refl, refl)
last_tells (c ∷ cs) follows = let told = last_told [] c cs follows in (told.0 ∙ omega arith, told.1)

-- what the last row of a catalog's rows tells
pub record TellsLast (rows : List Row) (cs : Catalog) : Type 0 where
  pub number : last_number rows ≡ length cs
  pub stamp : last_stamp rows ≡ newest cs
  pub moment : newest cs ≤ 3_155_378_975_999_999_999
  pub few : length cs ≤ 200_000

pub tells_last : (rows : List Row) (cs : Catalog) → IsCatalog cs → all_rows cs ≡ rows → TellsLast rows cs
tells_last rows cs is are =
    let told = last_tells cs is.lawful.commits in
    record {
      number = ap last_number (sym are) ∙ told.0;
      stamp = ap last_stamp (sym are) ∙ told.1;
      moment = last_moment cs is.lawful.commits;
      few = few_commits cs is.lawful;
    }

room : (n limit : ℕ) (e : CommitErr) (fits : Bool) → nat_le n limit ≡ fits → n ≤ limit → None ≡ (if fits then None else Some e)
room n limit e true is within = refl
room n limit e false is within = absurd (no_fit n limit is within)
  where
    no_fit : (m most : ℕ) → nat_le m most ≡ false → m ≤ most → ⊥
    no_fit m most is within = grind (arith, nat_tests)

no_room : (n limit : ℕ) (e : CommitErr) (fits : Bool) → nat_le n limit ≡ fits → limit < n → Some e ≡ (if fits then None else Some e)
no_room n limit e false is past = refl
no_room n limit e true is past = absurd (no_fit n limit is past)
  where
    no_fit : (m most : ℕ) → nat_le m most ≡ true → most < m → ⊥
    no_fit m most is past = grind (arith, nat_tests)

pub not_ended : (stamp : ℕ) → stamp + 1 ≤ 3_155_378_975_999_999_999 → None ≡ ended stamp
not_ended stamp within = room (stamp + 1) 3_155_378_975_999_999_999 the.ClockEnd _ refl within

pub is_ended : (stamp : ℕ) → 3_155_378_975_999_999_999 ≤ stamp → Some the.ClockEnd ≡ ended stamp
is_ended stamp past = no_room (stamp + 1) 3_155_378_975_999_999_999 the.ClockEnd _ refl (omega (arith, past))

are_as_many : (rows : List Row) (items : List Item) → AreOf rows items → length rows ≡ length items
are_as_many [] [] are = refl
are_as_many [] (it ∷ items) are = absurd are
are_as_many (row ∷ rows) [] are = absurd are
are_as_many (row ∷ rows) (it ∷ items) are = ap suc (are_as_many rows items are.1)

items_counted : (rows : List Row) (cs : Catalog) → all_rows cs ≡ rows → length rows ≡ length (all_items cs)
items_counted rows cs are = ap length (sym are) ∙ are_as_many (all_rows cs) (all_items cs) (are_of-all cs)

pub not_full : (rows : List Row) (cs : Catalog) (changes : List Change) → all_rows cs ≡ rows → length rows + length changes ≤ 200_000 → None ≡ full cs changes
not_full rows cs changes are within =
    let many = items_counted rows cs are in
    room (length (all_items cs) + length changes) 200_000 (the.Full (length (all_items cs))) _ refl (omega (arith, many, within))

few_rows : (rows : List Row) (cs : Catalog) → IsCatalog cs → all_rows cs ≡ rows → length rows ≤ 200_000
few_rows rows cs is are =
    let few : length (all_rows cs) ≡ length (all_placed cs) = ap length (rows_placed cs) ∙ length-map (all_placed cs) placed_row in
    omega (arith, few, is.lawful.items, ap length are)

pub is_full : (rows : List Row) (cs : Catalog) (changes : List Change) (items : ℕ) → IsCatalog cs → all_rows cs ≡ rows → 200_000 < length rows + length changes
    → (length rows < 2 ^ 32 → items ≡ length rows) → Some (the.Full items) ≡ full cs changes
is_full rows cs changes items is are past number =
    let many = items_counted rows cs are in
    let few = few_rows rows cs is are in
    let told : items ≡ length (all_items cs) = number (omega (arith, few)) ∙ many in
    ap (λ (n : ℕ). Some (the.Full n)) told
    ∙ no_room (length (all_items cs) + length changes) 200_000 (the.Full (length (all_items cs))) _ refl (omega (arith, many, past))

pub none_told : {A : Type 0} (found : Option A) (P : Type 0) → (IsNone found → P) → IfNone found P
none_told None P holds = holds refl
none_told (Some x) P holds = tt

pub no_end : (found : Option ℕ) (last : ℕ) (t : ℕ) → found ≡ Some t → (last ≡ 3_155_378_975_999_999_999 → IsNone found) → last ≡ 3_155_378_975_999_999_999 → ⊥
no_end None last t is none e = cc
no_end (Some x) last t is none e = true≢false (none e)

pub an_end : (found : Option ℕ) → found ≡ None → IsNone found
an_end None e = refl
an_end (Some x) e = cc
