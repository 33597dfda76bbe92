-- A path that begins with a root has that root's second segment.
use Rattle.std.proofs.Common.{◌≡◌, ◌==◌, if◌then◌else◌, get_or, ℕ, List, [], ◌++◌, Option, None, Some, MatchOption, refl, sym, ap, ◌∙◌}
use Rattle.feed_routes.specs.Cuts.{second_segment}
use Rattle.feed_routes.specs.Roots.{IsBehind, root_segment, root_text}
use Rattle.feed_routes.specs.declared.roots.Root.{Root}
use Rattle.feed_routes.specs.declared.roots.Root.TheVariants as root

-- by the first byte, where one root alone has it, or one more
abbrev pub root_at : List ℕ → Root
root_at s =
    if get_or s 0 0 == 105 then root.Index
    else if get_or s 0 0 == 99 then (if get_or s 1 0 == 97 then root.Catalog else root.Cursor)
    else if get_or s 0 0 == 114 then (if get_or s 12 0 == 45 then root.SemVer2 else root.Plain)
    else if get_or s 0 0 == 102 then root.Flat
    else if get_or s 0 0 == 97 then root.Autocomplete
    else if get_or s 0 0 == 112 then root.Publish
    else if get_or s 0 0 == 117 then root.Unlist
    else if get_or s 0 0 == 108 then root.Relist
    else if get_or s 0 0 == 100 then root.Delete
    else if get_or s 0 0 == 106 then root.Job
    else root.Stop

back : (r : Root) → root_at (root_segment r) ≡ r
back root.Index = refl
back root.Catalog = refl
back root.Plain = refl
back root.SemVer2 = refl
back root.Flat = refl
back root.Autocomplete = refl
back root.Publish = refl
back root.Unlist = refl
back root.Relist = refl
back root.Delete = refl
back root.Job = refl
back root.Cursor = refl
back root.Stop = refl

-- a segment is that of one root
one_root : (r s : Root) → root_segment r ≡ root_segment s → r ≡ s
one_root r s e = sym (back r) ∙ ap root_at e ∙ back s

-- the root that is whole has nothing behind it
at_none : (front : List ℕ) (r : Root) (rest : List ℕ) → rest ≡ [] → second_segment (front ++ []) ≡ root_segment r
    → second_segment (front ++ rest) ≡ root_segment r
at_none front r rest e h = ap (λ (l : List ℕ). second_segment (front ++ l)) e ∙ h

pub segment_is : (r : Root) (rest : List ℕ) → IsBehind r rest → second_segment (root_text r ++ rest) ≡ root_segment r
segment_is root.Index rest h = at_none (root_text root.Index) root.Index rest h refl
segment_is root.Catalog rest h = refl
segment_is root.Plain rest h = refl
segment_is root.SemVer2 rest h = refl
segment_is root.Flat rest h = refl
segment_is root.Autocomplete rest h = at_none (root_text root.Autocomplete) root.Autocomplete rest h refl
segment_is root.Publish rest h = at_none (root_text root.Publish) root.Publish rest h refl
segment_is root.Unlist rest h = at_none (root_text root.Unlist) root.Unlist rest h refl
segment_is root.Relist rest h = at_none (root_text root.Relist) root.Relist rest h refl
segment_is root.Delete rest h = at_none (root_text root.Delete) root.Delete rest h refl
segment_is root.Job rest h = refl
segment_is root.Cursor rest h = refl
segment_is root.Stop rest h = at_none (root_text root.Stop) root.Stop rest h refl

-- the root of a path
abbrev pub found : List ℕ → Root
found path = root_at (second_segment path)

pub root_found : (r : Root) (rest : List ℕ) → IsBehind r rest → found (root_text r ++ rest) ≡ r
root_found r rest h = ap root_at (segment_is r rest h) ∙ back r

-- what is told of a segment is its root
pub told : (segment : List ℕ) (o : Option Root) (r : Root)
    → MatchOption o ((s : Root) → segment ≡ root_segment s → ⊥) (λ (s : Root). segment ≡ root_segment s)
    → segment ≡ root_segment r → o ≡ Some r
told segment None r h e = absurd (h r e)
told segment (Some s) r h e = ap Some (one_root s r (sym h ∙ e))
