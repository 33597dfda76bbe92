-- The table, by its rows.
use Rattle.std.proofs.Common.{◌≡◌, ◌++◌, ◌∙◌, ◌==◌, if◌then◌else◌, get_or, ℕ, List, [], Option, None, Some, MatchOption, codes, refl, sym, ap, subst}
use Rattle.std.proofs.lemmas.List.{append-nil, append_cancel_left}
use Rattle.fold_core.specs.declared.hive.HiveName.{HiveName}
use Rattle.fold_core.specs.declared.hive.HiveName.TheVariants.{Plain, SemVer2, Content, Auto}
use Rattle.feed_routes.proofs.Routes.{found, root_found}
use Rattle.feed_routes.specs.Roots.{AsksBehind, IsBehind, IsFound, root_text}
use Rattle.feed_routes.specs.Table.{AsksFor, hive_segment}
use Rattle.feed_routes.specs.declared.ask.Ask.{Ask}
use Rattle.feed_routes.specs.declared.ask.Ask.TheVariants as ask
use Rattle.feed_routes.specs.declared.ask.CommitWord.TheVariants.{Publish, Unlist, Relist, Delete}
use Rattle.feed_routes.specs.declared.roots.Root.{Root}
use Rattle.feed_routes.specs.declared.roots.Root.TheVariants as root

-- the root by which a path and a query ask for this
pub record Stands (path query : List ℕ) (asked : Ask) : Type 0 where
  pub place : Root
  pub rest : List ℕ
  pub spelled : path ≡ root_text place ++ rest
  pub behind : IsBehind place rest
  pub asks : AsksBehind place rest query asked

at_end : (path front : List ℕ) → path ≡ front → path ≡ front ++ []
at_end path front e = e ∙ sym (append-nil front)

pub stands : (path query : List ℕ) (asked : Ask) → AsksFor path query asked → Stands path query asked
stands path query ask.Index e = record { place = root.Index; rest = []; spelled = at_end path _ e; behind = refl; asks = refl }
stands path query (ask.CatalogDoc name) w = record { place = root.Catalog; rest = name; spelled = w.1; behind = w.0; asks = refl }
stands path query (ask.Registration Plain name) w =
    record { place = root.Plain; rest = w.0; spelled = w.2; behind = w.1; asks = ap (ask.Registration Plain) w.3 }
stands path query (ask.Registration SemVer2 name) w =
    record { place = root.SemVer2; rest = w.0; spelled = w.2; behind = w.1; asks = ap (ask.Registration SemVer2) w.3 }
stands path query (ask.Registration Content name) w = absurd w
stands path query (ask.Registration Auto name) w = absurd w
stands path query (ask.Flat name) w = record { place = root.Flat; rest = w.0; spelled = w.2; behind = w.1; asks = ap ask.Flat w.3 }
stands path query (ask.Autocomplete text) w =
    record { place = root.Autocomplete; rest = []; spelled = at_end path _ w.0; behind = refl; asks = ap ask.Autocomplete w.1 }
stands path query (ask.Commit Publish) e = record { place = root.Publish; rest = []; spelled = at_end path _ e; behind = refl; asks = refl }
stands path query (ask.Commit Unlist) e = record { place = root.Unlist; rest = []; spelled = at_end path _ e; behind = refl; asks = refl }
stands path query (ask.Commit Relist) e = record { place = root.Relist; rest = []; spelled = at_end path _ e; behind = refl; asks = refl }
stands path query (ask.Commit Delete) e = record { place = root.Delete; rest = []; spelled = at_end path _ e; behind = refl; asks = refl }
stands path query (ask.Job hive) e = record { place = root.Job; rest = hive_segment hive; spelled = e; behind = (hive, refl); asks = (hive, refl, refl) }
stands path query (ask.Cursor hive) e = record { place = root.Cursor; rest = hive_segment hive; spelled = e; behind = (hive, refl); asks = (hive, refl, refl) }
stands path query ask.Stop e = record { place = root.Stop; rest = []; spelled = at_end path _ e; behind = refl; asks = refl }

-- a whole path
whole : (path front rest : List ℕ) → path ≡ front ++ rest → rest ≡ [] → path ≡ front
whole path front rest e none = e ∙ ap (λ (l : List ℕ). front ++ l) none ∙ append-nil front

pub root_asks : (r : Root) (path rest query : List ℕ) (asked : Ask) → path ≡ root_text r ++ rest → IsBehind r rest → AsksBehind r rest query asked
    → AsksFor path query asked
root_asks root.Index path rest query asked e b a = subst (AsksFor path query) (sym a) (whole path _ rest e b)
root_asks root.Catalog path rest query asked e b a = subst (AsksFor path query) (sym a) (b, e)
root_asks root.Plain path rest query asked e b a = subst (AsksFor path query) (sym a) (rest, b, e, refl)
root_asks root.SemVer2 path rest query asked e b a = subst (AsksFor path query) (sym a) (rest, b, e, refl)
root_asks root.Flat path rest query asked e b a = subst (AsksFor path query) (sym a) (rest, b, e, refl)
root_asks root.Autocomplete path rest query asked e b a = subst (AsksFor path query) (sym a) (whole path _ rest e b, refl)
root_asks root.Publish path rest query asked e b a = subst (AsksFor path query) (sym a) (whole path _ rest e b)
root_asks root.Unlist path rest query asked e b a = subst (AsksFor path query) (sym a) (whole path _ rest e b)
root_asks root.Relist path rest query asked e b a = subst (AsksFor path query) (sym a) (whole path _ rest e b)
root_asks root.Delete path rest query asked e b a = subst (AsksFor path query) (sym a) (whole path _ rest e b)
root_asks root.Job path rest query asked e b a = subst (AsksFor path query) (sym a.2) (e ∙ ap (λ (l : List ℕ). codes "/admin/job/" ++ l) a.1)
root_asks root.Cursor path rest query asked e b a = subst (AsksFor path query) (sym a.2) (e ∙ ap (λ (l : List ℕ). codes "/admin/cursor/" ++ l) a.1)
root_asks root.Stop path rest query asked e b a = subst (AsksFor path query) (sym a) (whole path _ rest e b)

-- the hive whose segment begins with this byte
abbrev hive_at : ℕ → HiveName
hive_at b = if b == 112 then Plain else if b == 115 then SemVer2 else if b == 99 then Content else Auto

back : (h : HiveName) → hive_at (get_or (hive_segment h) 0 0) ≡ h
back Plain = refl
back SemVer2 = refl
back Content = refl
back Auto = refl

-- a segment stands for one hive
one_hive : (g h : HiveName) → hive_segment g ≡ hive_segment h → g ≡ h
one_hive g h e = sym (back g) ∙ ap (λ (l : List ℕ). hive_at (get_or l 0 0)) e ∙ back h

-- behind a root one thing is asked
one_behind : (r : Root) (rest query : List ℕ) (a b : Ask) → AsksBehind r rest query a → AsksBehind r rest query b → a ≡ b
one_behind root.Index rest query a b x y = x ∙ sym y
one_behind root.Catalog rest query a b x y = x ∙ sym y
one_behind root.Plain rest query a b x y = x ∙ sym y
one_behind root.SemVer2 rest query a b x y = x ∙ sym y
one_behind root.Flat rest query a b x y = x ∙ sym y
one_behind root.Autocomplete rest query a b x y = x ∙ sym y
one_behind root.Publish rest query a b x y = x ∙ sym y
one_behind root.Unlist rest query a b x y = x ∙ sym y
one_behind root.Relist rest query a b x y = x ∙ sym y
one_behind root.Delete rest query a b x y = x ∙ sym y
one_behind root.Job rest query a b x y = x.2 ∙ ap ask.Job (one_hive x.0 y.0 (sym x.1 ∙ y.1)) ∙ sym y.2
one_behind root.Cursor rest query a b x y = x.2 ∙ ap ask.Cursor (one_hive x.0 y.0 (sym x.1 ∙ y.1)) ∙ sym y.2
one_behind root.Stop rest query a b x y = x ∙ sym y

some_one : {A : Type 0} (x y : A) → Some x ≡ Some y → x ≡ y
some_one x y e = cc

-- the root of the path, where it has one
abbrev pub IsRootOf : List ℕ → Option Root → Type 0
IsRootOf path o = (r : Root) (rest : List ℕ) → path ≡ root_text r ++ rest → IsBehind r rest → o ≡ Some r

-- where a path asks for something, the root that it has and what stands behind it
pub stands_at : (path query : List ℕ) (asked : Ask) (r : Root) (rest : List ℕ) → Stands path query asked → IsRootOf path (Some r) → path ≡ root_text r ++ rest
    → IsBehind r rest × AsksBehind r rest query asked
stands_at path query asked r rest s at e =
    let place : s.place ≡ r = sym (some_one r s.place (at s.place s.rest s.spelled s.behind)) in
    let spelled : path ≡ root_text r ++ s.rest = s.spelled ∙ ap (λ (p : Root). root_text p ++ s.rest) place in
    let same : s.rest ≡ rest = append_cancel_left (root_text r) s.rest rest (sym spelled ∙ e) in (
      subst (IsBehind r) same (subst (λ (p : Root). IsBehind p s.rest) place s.behind),
      subst (λ (l : List ℕ). AsksBehind r l query asked) same (subst (λ (p : Root). AsksBehind p s.rest query asked) place s.asks),
    )

pub one_asked : (path query : List ℕ) (a b : Ask) → AsksFor path query a → AsksFor path query b → a ≡ b
one_asked path query a b x y =
    let s = stands path query a x in
    let at : IsRootOf path (Some s.place) = λ r rest e h. ap Some (sym (ap found s.spelled ∙ root_found s.place s.rest s.behind) ∙ ap found e ∙ root_found r rest h) in
    one_behind s.place s.rest query a b s.asks (stands_at path query b s.place s.rest (stands path query b y) at s.spelled).1

-- a path without a root asks for nothing
pub none_asked : (path query : List ℕ) (o : Option Root) → IsRootOf path o → o ≡ None → (asked : Ask) → AsksFor path query asked → ⊥
none_asked path query o at none asked x = let s = stands path query asked x in let e : o ≡ Some s.place = at s.place s.rest s.spelled s.behind in cc (e, none)

-- nor does one that doesn't begin with its root
pub root_asked : (path query : List ℕ) (r : Root) → IsRootOf path (Some r) → ((rest : List ℕ) → path ≡ root_text r ++ rest → ⊥)
    → (asked : Ask) → AsksFor path query asked → ⊥
root_asked path query r at none asked x =
    let s = stands path query asked x in
    let place : s.place ≡ r = sym (some_one r s.place (at s.place s.rest s.spelled s.behind)) in
    none s.rest (s.spelled ∙ ap (λ (p : Root). root_text p ++ s.rest) place)

-- what is found behind the root is what the path asks for
pub found_asks : (path query : List ℕ) (r : Root) (rest : List ℕ) (o : Option Ask) → IsRootOf path (Some r) → path ≡ root_text r ++ rest
    → IsFound r rest query o
    → MatchOption o ((asked : Ask) → AsksFor path query asked → ⊥) (AsksFor path query)
found_asks path query r rest None at e h = λ asked x. h (stands_at path query asked r rest (stands path query asked x) at e).0
found_asks path query r rest (Some a) at e h = root_asks r path rest query a e h.0 h.1
