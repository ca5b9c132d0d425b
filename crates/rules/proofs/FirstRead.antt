-- The first kept list that reads a path, by how the kept lists are put together.
use Rattle.std.proofs.Common.{◌≡◌, ℕ, ◌+◌, List, [], ◌∷◌, ◌++◌, length, drop, Some, None, Option, sym, refl, ap, ◌∙◌}
use Rattle.rules.specs.declared.records.ParamRecord.{ParamRecord}
use Rattle.rules.specs.Forests.{Forest, none, leaf, nest, beside}
use Rattle.rules.specs.KeptLists.{KeptRoute, KeptList, under, childless, kept, after_lines, kept_over}
use Rattle.rules.specs.Lines.{lines}
use Rattle.rules.specs.Answers.{Answer}
use Rattle.rules.specs.Steps.{and_then, list_reads, add_level, kept_reads, first_read}
use Rattle.rules.specs.Choice.{or_else}

or_assoc : {A : Type 0} (a b c : Option A) → or_else (or_else a b) c ≡ or_else a (or_else b c)
or_assoc None b c = refl
or_assoc (Some a) b c = refl

pub first_append : (ls ms : List KeptList) (lv at : ℕ) (p : List ℕ) → first_read (ls ++ ms) lv at p ≡ or_else (first_read ls lv at p) (first_read ms lv at p)
first_append [] ms lv at p = refl
first_append (l ∷ ls) ms lv at p = ap (or_else (kept_reads l.routes lv at p)) (first_append ls ms lv at p) ∙ sym (or_assoc (kept_reads l.routes lv at p) (first_read ls lv at p) (first_read ms lv at p))

next_or : (k : KeptRoute) (at : ℕ) (u : ℕ × List ParamRecord) (a b : Option Answer) → or_else (add_level k at u a) (add_level k at u b) ≡ add_level k at u (or_else a b)
next_or k at u None b = refl
next_or k at u (Some a) b = refl

-- what a route over kept lists answers
abbrev pub after : KeptRoute → List KeptList → ℕ → ℕ → List ℕ → ℕ × List ParamRecord → Option Answer
after k ls lv at p u = add_level k at u (first_read ls (lv + 1) (at + u.0) (drop u.0 p))

pub first_under : (k : KeptRoute) (ls : List KeptList) (lv at : ℕ) (p : List ℕ) → first_read (under k ls) lv at p ≡ and_then (list_reads k.entries lv at p) (after k ls lv at p)
first_under k [] lv at p = go (list_reads k.entries lv at p)
  where
    go : (o : Option (ℕ × List ParamRecord)) → None ≡ and_then o (after k [] lv at p)
    go None = refl
    go (Some u) = refl
first_under k (l ∷ ls) lv at p = ap (or_else (kept_reads (k ∷ l.routes) lv at p)) (first_under k ls lv at p) ∙ go (list_reads k.entries lv at p)
  where
    go : (o : Option (ℕ × List ParamRecord)) → or_else (and_then o (λ u. add_level k at u (kept_reads l.routes (lv + 1) (at + u.0) (drop u.0 p)))) (and_then o (after k ls lv at p)) ≡ and_then o (after k (l ∷ ls) lv at p)
    go None = refl
    go (Some u) = next_or k at u (kept_reads l.routes (lv + 1) (at + u.0) (drop u.0 p)) (first_read ls (lv + 1) (at + u.0) (drop u.0 p))

-- behind other lines the same is read
pub first_after : (n : ℕ) (ls : List KeptList) (lv at : ℕ) (p : List ℕ) → first_read (after_lines n ls) lv at p ≡ first_read ls lv at p
first_after n [] lv at p = refl
first_after n (l ∷ ls) lv at p = ap (or_else (kept_reads l.routes lv at p)) (first_after n ls lv at p)

-- some lists before others
behind : (own : List KeptList) (n : ℕ) (ls both ms : List KeptList) (lv at : ℕ) (p : List ℕ) → first_read both lv at p ≡ or_else (first_read ls lv at p) (first_read ms lv at p) → first_read (own ++ after_lines n both) lv at p ≡ or_else (first_read (own ++ after_lines n ls) lv at p) (first_read ms lv at p)
behind own n ls both ms lv at p h =
    first_append own (after_lines n both) lv at p
    ∙ ap (or_else (first_read own lv at p)) (first_after n both lv at p ∙ h)
    ∙ sym (or_assoc (first_read own lv at p) (first_read ls lv at p) (first_read ms lv at p))
    ∙ ap (λ o. or_else o (first_read ms lv at p)) (sym (first_append own (after_lines n ls) lv at p ∙ ap (or_else (first_read own lv at p)) (first_after n ls lv at p)))

pub first_beside : (f g : Forest) (lv at : ℕ) (p : List ℕ) → first_read (kept (beside f g)) lv at p ≡ or_else (first_read (kept f) lv at p) (first_read (kept g) lv at p)
first_beside none g lv at p = refl
first_beside (leaf r f) g lv at p = behind (kept_over r childless) 1 (kept f) (kept (beside f g)) (kept g) lv at p (first_beside f g lv at p)
first_beside (nest r k f) g lv at p = behind (kept_over r (kept k)) (length (lines k)) (kept f) (kept (beside f g)) (kept g) lv at p (first_beside f g lv at p)
