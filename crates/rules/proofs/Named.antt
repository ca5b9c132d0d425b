-- The value records of a name: their numbers rise, so no two choices of values are the same.
use Rattle.std.proofs.Common.{◌≡◌, ℕ, zero, suc, ◌+◌, ◌<◌, ◌≤◌, Bool, true, false, cond, List, [], ◌∷◌, length, get_or, Some, None, sym, refl, ap, ◌∙◌, ⊎_elim, arith}
use Rattle.std.specs.Str.{bytes_eq}
use Rattle.std.proofs.lemmas.Bool.{cases_order, cond_both}
use Rattle.rules.specs.declared.values.ValueRecord.{ValueRecord}
use Rattle.rules.specs.Entries.{Entry, has_value}
use Rattle.rules.specs.Choices.{Apart}
use Rattle.rules.specs.TextParts.{bytes_in}
use Rattle.rules.specs.Values.{named_from, name_of_entry, somes, choices_for, path_choices, PathsApart}
use Rattle.rules.proofs.Chosen.{each_apart}

least : (text x : List ℕ) (i : ℕ) (rs : List ValueRecord) (n : ℕ) → n < length (named_from text x i rs) → i ≤ get_or (named_from text x i rs) n 0
least text x i [] n h = absurd (omega arith)
least text x i (r ∷ rs) n h = go (bytes_eq (bytes_in text r.name) x) n h (λ m g. least text x (i + 1) rs m g)
  where
    go : (b : Bool) (n : ℕ) → n < length (cond b (i ∷ named_from text x (i + 1) rs) (named_from text x (i + 1) rs)) → ((m : ℕ) → m < length (named_from text x (i + 1) rs) → i + 1 ≤ get_or (named_from text x (i + 1) rs) m 0) → i ≤ get_or (cond b (i ∷ named_from text x (i + 1) rs) (named_from text x (i + 1) rs)) n 0
    go true zero h ih = omega arith
    go true (suc n) h ih = omega (arith, ih n (omega arith))
    go false n h ih = omega (arith, ih n h)

rising : (text x : List ℕ) (i : ℕ) (rs : List ValueRecord) (m n : ℕ) → m < n → n < length (named_from text x i rs) → get_or (named_from text x i rs) m 0 < get_or (named_from text x i rs) n 0
rising text x i [] m n k h = absurd (omega arith)
rising text x i (r ∷ rs) m n k h = go (bytes_eq (bytes_in text r.name) x) m n k h (λ a b. rising text x (i + 1) rs a b)
  where
    ns : List ℕ
    ns = named_from text x (i + 1) rs

    go : (b : Bool) (m n : ℕ) → m < n → n < length (cond b (i ∷ ns) ns) → ((a b : ℕ) → a < b → b < length ns → get_or ns a 0 < get_or ns b 0) → get_or (cond b (i ∷ ns) ns) m 0 < get_or (cond b (i ∷ ns) ns) n 0
    go true m zero k h ih = absurd (omega arith)
    go true zero (suc n) k h ih = omega (arith, least text x (i + 1) rs n (omega arith))
    go true (suc m) (suc n) k h ih = ih m n (omega arith) (omega arith)
    go false m n k h ih = ih m n k h

pub somes_length : (ns : List ℕ) → length (somes ns) ≡ length ns
somes_length [] = refl
somes_length (n ∷ ns) = ap suc (somes_length ns)

pub somes_nth : (ns : List ℕ) (n : ℕ) → n < length ns → get_or (somes ns) n None ≡ Some (get_or ns n 0)
somes_nth [] n h = absurd (omega arith)
somes_nth (m ∷ ns) zero h = refl
somes_nth (m ∷ ns) (suc n) h = somes_nth ns n (omega arith)

named_apart : (text x : List ℕ) (rs : List ValueRecord) → Apart (somes (named_from text x 0 rs)) None
named_apart text x rs m n hm hn e =
    let ns = named_from text x 0 rs in
    let long = somes_length ns in
    let lm : m < length ns = omega (arith, long) in
    let ln : n < length ns = omega (arith, long) in
    let s : Some (get_or ns m 0) ≡ Some (get_or ns n 0) = sym (somes_nth ns m lm) ∙ e ∙ somes_nth ns n ln in
    let t : get_or ns m 0 ≡ get_or ns n 0 = cc in
    ⊎_elim (λ q. q) (⊎_elim (λ lt. absurd (omega (arith, rising text x 0 rs m n lt ln))) (λ lt. absurd (omega (arith, rising text x 0 rs n m lt lm)))) (cases_order m n)

one_apart : {A : Type 0} (x d : A) → Apart (x ∷ []) d
one_apart x d m n hm hn e = omega arith

for_apart : (text : List ℕ) (rs : List ValueRecord) (e : Entry) → Apart (choices_for text rs e) None
for_apart text rs e =
    cond_both (has_value e) (somes (named_from text (name_of_entry e) 0 rs)) (None ∷ []) (λ xs. Apart xs None) (λ _. named_apart text (name_of_entry e) rs) (λ _. one_apart None None)

pub paths_apart : PathsApart
paths_apart text rs [] = one_apart [] []
paths_apart text rs (e ∷ es) = each_apart None (choices_for text rs e) (path_choices text rs es) (for_apart text rs e) (paths_apart text rs es)
