-- Each kept list of a forest stands on the line of its number.
use Rattle.std.proofs.Common.{◌≡◌, ℕ, zero, suc, ◌+◌, List, [], ◌∷◌, ◌++◌, length, get_or, sym, refl, ap, ◌∙◌, arith, length-append}
use Rattle.std.specs.List.{AllByRecursion}
use Rattle.std.proofs.lemmas.List.{get_or_append_left, get_or-append-add}
use Rattle.rules.specs.Keeping.{optionals}
use Rattle.rules.specs.Forests.{Route, none, leaf, nest}
use Rattle.rules.specs.Lines.{Line, no_line, line_of, lines_under, lines}
use Rattle.rules.specs.KeptLists.{KeptList, keeping, under, each_keeping, kept_over, childless, after_lines, kept, OnLine, KeptOnLines}
use Rattle.rules.proofs.LinesMore.{under_length, under_at}

abbrev On : List Line → List KeptList → Type 0
On ls ks = AllByRecursion (OnLine ls) ks

on_append : (ls : List Line) (ks js : List KeptList) → On ls ks → On ls js → On ls (ks ++ js)
on_append ls [] js a b = b
on_append ls (k ∷ ks) js a b = (a.0, on_append ls ks js a.1 b)

-- lines in front of others
on_more : (ls ms : List Line) (ks : List KeptList) → On ls ks → On (ls ++ ms) ks
on_more ls ms [] a = tt
on_more ls ms (k ∷ ks) a =
    (record { there = omega (arith, a.0.there, length-append ls ms); ids = a.0.ids ∙ ap (λ l. l.ids) (sym (get_or_append_left ls ms no_line k.line a.0.there)) }, on_more ls ms ks a.1)

on_after : (ls ms : List Line) (n : ℕ) (ks : List KeptList) → n ≡ length ls → On ms ks → On (ls ++ ms) (after_lines n ks)
on_after ls ms n [] e a = tt
on_after ls ms n (k ∷ ks) e a = (
  record {
    there = omega (arith, a.0.there, length-append ls ms, e);
    ids = a.0.ids ∙ ap (λ l. l.ids) (sym (ap (λ m. get_or (ls ++ ms) (m + k.line) no_line) e ∙ get_or-append-add ls ms k.line no_line));
  },
  on_after ls ms n ks e a.1,
)

-- below a route
on_under : (r : Route) (n : ℕ) (ls : List Line) (ks : List KeptList) → On ls ks → On (lines_under r ls) (under (keeping r n) ks)
on_under r n ls [] a = tt
on_under r n ls (k ∷ ks) a =
    (record { there = omega (arith, a.0.there, under_length r ls); ids = ap (λ x. r.id ∷ x) a.0.ids ∙ ap (λ l. l.ids) (sym (under_at r ls k.line a.0.there)) }, on_under r n ls ks a.1)

on_each : (r : Route) (n : ℕ) (ls : List Line) (ks : List KeptList) → On ls ks → On (lines_under r ls) (each_keeping r n ks)
on_each r zero ls ks a = on_under r zero ls ks a
on_each r (suc n) ls ks a = on_append (lines_under r ls) (under (keeping r (suc n)) ks) (each_keeping r n ks) (on_under r (suc n) ls ks a) (on_each r n ls ks a)

on_leaf : (r : Route) (n : ℕ) → On (line_of r ∷ []) (each_keeping r n childless)
on_leaf r zero = (record { there = omega arith; ids = refl }, tt)
on_leaf r (suc n) = (record { there = omega arith; ids = refl }, on_leaf r n)

pub kept_on_lines : KeptOnLines
kept_on_lines none = tt
kept_on_lines (leaf r f) =
    on_append (lines (leaf r f)) (kept_over r childless) (after_lines 1 (kept f))
    (on_more (line_of r ∷ []) (lines f) (kept_over r childless) (on_leaf r (optionals r.entries)))
    (on_after (line_of r ∷ []) (lines f) 1 (kept f) refl (kept_on_lines f))
kept_on_lines (nest r k f) =
    on_append (lines (nest r k f)) (kept_over r (kept k)) (after_lines (length (lines k)) (kept f))
    (on_more (lines_under r (lines k)) (lines f) (kept_over r (kept k)) (on_each r (optionals r.entries) (lines k) (kept k) (kept_on_lines k)))
    (on_after (lines_under r (lines k)) (lines f) (length (lines k)) (kept f) (sym (under_length r (lines k))) (kept_on_lines f))
