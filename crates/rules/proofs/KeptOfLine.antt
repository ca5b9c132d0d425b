-- The kept lists of one line, by how a forest is put together.
use Rattle.std.proofs.Common.{◌≡◌, ℕ, zero, suc, ◌+◌, ◌-◌, ◌*◌, ◌/◌, ◌%◌, ◌<◌, ◌≤◌, Bool, true, false, cond, eqb, List, [], ◌∷◌, ◌++◌, length, get_or, Some, None, Option, sym, refl, ap, ◌∙◌, subst, ⊎_elim, mod-eq_of_lt, add-mul, one-mul, arith, length-append}
use native.Mathlib.Nat.{div-eq_of_lt, div-eq-sub-div, mod-eq-sub-mod}
use Rattle.std.specs.List.{AllByRecursion}
use Rattle.std.proofs.lemmas.List.{append_assoc, append-nil, get_or_append_left, get_or-append_right}
use Rattle.std.proofs.lemmas.Bool.{eq-eqb, ne_eqb, cond-false, cases_Bool, cases_lt, eqb-true, eqb-false}
use Rattle.rules.specs.Entries.{Entry, is_optional}
use Rattle.rules.specs.Keeping.{optionals, as_kept, still_kept, keep_or_drop, kept_from, plainly}
use Rattle.rules.specs.Forests.{Route, Forest, none, leaf, nest, beside}
use Rattle.rules.specs.Lines.{lines}
use Rattle.rules.specs.KeptLists.{KeptRoute, KeptList, keeping, put, under, each_keeping, kept_over, childless, after_lines, kept, of_line, no_list}
use Rattle.rules.specs.Steps.{kept_entries}
use Rattle.rules.proofs.LinesMore.{under_length}

pub of_append : (n : ℕ) (ls ms : List KeptList) → of_line n (ls ++ ms) ≡ of_line n ls ++ of_line n ms
of_append n [] ms = refl
of_append n (l ∷ ls) ms = go (eqb l.line n) (of_append n ls ms)
  where
    go : (b : Bool) → of_line n (ls ++ ms) ≡ of_line n ls ++ of_line n ms → cond b (l ∷ of_line n (ls ++ ms)) (of_line n (ls ++ ms)) ≡ cond b (l ∷ of_line n ls) (of_line n ls) ++ of_line n ms
    go true h = ap (λ x. l ∷ x) h
    go false h = h

of_under : (n : ℕ) (k : KeptRoute) (ls : List KeptList) → of_line n (under k ls) ≡ under k (of_line n ls)
of_under n k [] = refl
of_under n k (l ∷ ls) = go (eqb l.line n) (of_under n k ls)
  where
    go : (b : Bool) → of_line n (under k ls) ≡ under k (of_line n ls) → cond b (put k l ∷ of_line n (under k ls)) (of_line n (under k ls)) ≡ under k (cond b (l ∷ of_line n ls) (of_line n ls))
    go true h = ap (λ x. put k l ∷ x) h
    go false h = h

-- a route over some lists: those of a line are over those of the line
pub of_each : (n : ℕ) (r : Route) (m : ℕ) (ls : List KeptList) → of_line n (each_keeping r m ls) ≡ each_keeping r m (of_line n ls)
of_each n r zero ls = of_under n (keeping r zero) ls
of_each n r (suc m) ls = of_append n (under (keeping r (suc m)) ls) (each_keeping r m ls) ∙ ap (λ x. x ++ of_line n (each_keeping r m ls)) (of_under n (keeping r (suc m)) ls) ∙ ap (λ x. under (keeping r (suc m)) (of_line n ls) ++ x) (of_each n r m ls)

under_length_of : (k : KeptRoute) (ls : List KeptList) → length (under k ls) ≡ length ls
under_length_of k [] = refl
under_length_of k (l ∷ ls) = ap suc (under_length_of k ls)

pub each_length : (r : Route) (m : ℕ) (ls : List KeptList) → length (each_keeping r m ls) ≡ (m + 1) * length ls
each_length r zero ls = under_length_of (keeping r zero) ls ∙ sym (one-mul (length ls))
each_length r (suc m) ls =
    length-append (under (keeping r (suc m)) ls) (each_keeping r m ls)
    ∙ ap (λ n. n + length (each_keeping r m ls)) (under_length_of (keeping r (suc m)) ls)
    ∙ ap (λ n. length ls + n) (each_length r m ls)
    ∙ more (m + 1) (length ls)
    ∙ ap (λ n. n * length ls) (shape m)
  where
    more : (a b : ℕ) → b + a * b ≡ (1 + a) * b
    more a b = ap (λ n. n + a * b) (sym (one-mul b)) ∙ sym (add-mul 1 a b)

    shape : (m : ℕ) → 1 + (m + 1) ≡ suc m + 1
    shape m = omega arith

under_nth : (k : KeptRoute) (ls : List KeptList) (n : ℕ) → n < length ls → get_or (under k ls) n no_list ≡ put k (get_or ls n no_list)
under_nth k [] n h = absurd (omega arith)
under_nth k (l ∷ ls) zero h = refl
under_nth k (l ∷ ls) (suc n) h = under_nth k ls n (omega arith)

-- the kept list of a number: how many optionals the route keeps, and the number below it
pub each_nth : (r : Route) (m : ℕ) (ls : List KeptList) (n : ℕ) → 0 < length ls → n < length (each_keeping r m ls) → get_or (each_keeping r m ls) n no_list ≡ put (keeping r (m - n / length ls)) (get_or ls (n % length ls) no_list)
each_nth r zero ls n pos h =
    let lt : n < length ls = omega (arith, under_length_of (keeping r zero) ls) in
    under_nth (keeping r zero) ls n lt
    ∙ ap (λ x. put (keeping r zero) (get_or ls x no_list)) (sym (mod-eq_of_lt lt))
    ∙ ap (λ x. put (keeping r x) (get_or ls (n % length ls) no_list)) (none_left (n / length ls))
  where
    none_left : (q : ℕ) → 0 ≡ 0 - q
    none_left q = omega arith
each_nth r (suc m) ls n pos h = ⊎_elim first (rest (λ k. each_nth r m ls k pos)) (cases_lt n (length ls))
  where
    block : length (under (keeping r (suc m)) ls) ≡ length ls
    block = under_length_of (keeping r (suc m)) ls

    first : n < length ls → get_or (each_keeping r (suc m) ls) n no_list ≡ put (keeping r (suc m - n / length ls)) (get_or ls (n % length ls) no_list)
    first lt =
        get_or_append_left (under (keeping r (suc m)) ls) (each_keeping r m ls) no_list n (omega (arith, block))
        ∙ under_nth (keeping r (suc m)) ls n lt
        ∙ ap (λ x. put (keeping r (suc m)) (get_or ls x no_list)) (sym (mod-eq_of_lt lt))
        ∙ ap (λ x. put (keeping r x) (get_or ls (n % length ls) no_list)) (all_left (n / length ls) (div-eq_of_lt lt))
      where
        all_left : (q : ℕ) → q ≡ 0 → suc m ≡ suc m - q
        all_left q z = omega arith

    rest : ((k : ℕ) → k < length (each_keeping r m ls) → get_or (each_keeping r m ls) k no_list ≡ put (keeping r (m - k / length ls)) (get_or ls (k % length ls) no_list)) → length ls ≤ n → get_or (each_keeping r (suc m) ls) n no_list ≡ put (keeping r (suc m - n / length ls)) (get_or ls (n % length ls) no_list)
    rest ih le =
        let long = length-append (under (keeping r (suc m)) ls) (each_keeping r m ls) in
        get_or-append_right (under (keeping r (suc m)) ls) (each_keeping r m ls) (length ls) n no_list block le
        ∙ ih (n - length ls) (omega (arith, h, long, block))
        ∙ ap (λ x. put (keeping r (m - (n - length ls) / length ls)) (get_or ls x no_list)) (sym (mod-eq-sub-mod le))
        ∙ ap (λ x. put (keeping r x) (get_or ls (n % length ls) no_list)) (one_less ((n - length ls) / length ls) (n / length ls) (div-eq-sub-div pos le))
      where
        one_less : (p q : ℕ) → q ≡ p + 1 → m - p ≡ suc m - q
        one_less p q e = omega arith

-- Lines of other trees.
of_after : (j n : ℕ) (ls : List KeptList) → of_line (n + j) (after_lines n ls) ≡ after_lines n (of_line j ls)
of_after j n [] = refl
of_after j n (l ∷ ls) = ap (λ b. cond b (record { line = n + l.line; routes = l.routes } ∷ of_line (n + j) (after_lines n ls)) (of_line (n + j) (after_lines n ls))) (same l.line) ∙ go (eqb l.line j) (of_after j n ls)
  where
    same : (a : ℕ) → eqb (n + a) (n + j) ≡ eqb a j
    same a = ⊎_elim (λ h. eq-eqb (n + a) (n + j) (ap (λ x. n + x) (eqb-true a j h)) ∙ sym h) (λ h. ne_eqb (n + a) (n + j) (λ e. eqb-false a j h (omega arith)) ∙ sym h) (cases_Bool (eqb a j))

    go : (b : Bool) → of_line (n + j) (after_lines n ls) ≡ after_lines n (of_line j ls) → cond b (record { line = n + l.line; routes = l.routes } ∷ of_line (n + j) (after_lines n ls)) (of_line (n + j) (after_lines n ls)) ≡ after_lines n (cond b (l ∷ of_line j ls) (of_line j ls))
    go true h = ap (λ x. record { line = n + l.line; routes = l.routes } ∷ x) h
    go false h = h

of_before : (j n : ℕ) (ls : List KeptList) → j < n → of_line j (after_lines n ls) ≡ []
of_before j n [] h = refl
of_before j n (l ∷ ls) h = cond-false (eqb (n + l.line) j) _ (of_line j (after_lines n ls)) (ne_eqb (n + l.line) j (λ e. omega arith)) ∙ of_before j n ls h

-- the lines of kept lists are below a count
abbrev pub Within : ℕ → List KeptList → Type 0
Within n ls = AllByRecursion (λ l. l.line < n) ls

within_append : (n : ℕ) (ls ms : List KeptList) → Within n ls → Within n ms → Within n (ls ++ ms)
within_append n [] ms a b = b
within_append n (l ∷ ls) ms a b = (a.0, within_append n ls ms a.1 b)

within_under : (n : ℕ) (k : KeptRoute) (ls : List KeptList) → Within n ls → Within n (under k ls)
within_under n k [] a = tt
within_under n k (l ∷ ls) a = (a.0, within_under n k ls a.1)

within_each : (n : ℕ) (r : Route) (m : ℕ) (ls : List KeptList) → Within n ls → Within n (each_keeping r m ls)
within_each n r zero ls a = within_under n (keeping r zero) ls a
within_each n r (suc m) ls a = within_append n (under (keeping r (suc m)) ls) (each_keeping r m ls) (within_under n (keeping r (suc m)) ls a) (within_each n r m ls a)

within_after : (n m : ℕ) (ls : List KeptList) → Within m ls → Within (n + m) (after_lines n ls)
within_after n m [] a = tt
within_after n m (l ∷ ls) a = (omega (arith, a.0), within_after n m ls a.1)

within_more : (n m : ℕ) (ls : List KeptList) → n ≤ m → Within n ls → Within m ls
within_more n m [] h a = tt
within_more n m (l ∷ ls) h a = (omega (arith, a.0), within_more n m ls h a.1)

pub kept_within : (f : Forest) → Within (length (lines f)) (kept f)
kept_within none = tt
kept_within (leaf r f) =
    let n = length (lines f) in
    within_append (suc n) (kept_over r childless) (after_lines 1 (kept f))
    (within_each (suc n) r (optionals r.entries) childless (omega arith, tt))
    (subst (λ m. Within m (after_lines 1 (kept f))) (one n) (within_after 1 n (kept f) (kept_within f)))
  where
    one : (n : ℕ) → 1 + n ≡ suc n
    one n = omega arith
kept_within (nest r k f) =
    let a = length (lines k) in
    let b = length (lines f) in
    subst (λ m. Within m (kept (nest r k f))) (sym (length-append _ (lines f) ∙ ap (λ n. n + b) (under_length r (lines k))))
    (within_append (a + b) (kept_over r (kept k)) (after_lines a (kept f))
    (within_each (a + b) r (optionals r.entries) (kept k) (within_more a (a + b) (kept k) (omega arith) (kept_within k)))
    (within_after a b (kept f) (kept_within f)))

of_past : (j n : ℕ) (ls : List KeptList) → Within n ls → n ≤ j → of_line j ls ≡ []
of_past j n [] a h = refl
of_past j n (l ∷ ls) a h = cond-false (eqb l.line j) _ (of_line j ls) (ne_eqb l.line j (λ e. omega (arith, a.0))) ∙ of_past j n ls a.1 h

-- one tree beside another
after_after : (a b : ℕ) (ls : List KeptList) → after_lines a (after_lines b ls) ≡ after_lines (a + b) ls
after_after a b [] = refl
after_after a b (l ∷ ls) = ap (λ n. record { line = n; routes = l.routes } ∷ after_lines a (after_lines b ls)) (sum a b l.line) ∙ ap (λ x. record { line = a + b + l.line; routes = l.routes } ∷ x) (after_after a b ls)
  where
    sum : (a b c : ℕ) → a + (b + c) ≡ a + b + c
    sum a b c = omega arith

after_append : (n : ℕ) (ls ms : List KeptList) → after_lines n (ls ++ ms) ≡ after_lines n ls ++ after_lines n ms
after_append n [] ms = refl
after_append n (l ∷ ls) ms = ap (λ x. record { line = n + l.line; routes = l.routes } ∷ x) (after_append n ls ms)

after_none : (ls : List KeptList) → ls ≡ after_lines 0 ls
after_none [] = refl
after_none (l ∷ ls) = ap (λ n. record { line = n; routes = l.routes } ∷ ls) (zero_more l.line) ∙ ap (λ x. record { line = 0 + l.line; routes = l.routes } ∷ x) (after_none ls)
  where
    zero_more : (n : ℕ) → n ≡ 0 + n
    zero_more n = omega arith

behind_own : (own : List KeptList) (n m k : ℕ) (ls ms both : List KeptList) → both ≡ ls ++ after_lines m ms → n + m ≡ k → own ++ after_lines n both ≡ (own ++ after_lines n ls) ++ after_lines k ms
behind_own own n m k ls ms both h s =
    ap (λ x. own ++ after_lines n x) h
    ∙ ap (λ x. own ++ x) (after_append n ls (after_lines m ms) ∙ ap (λ x. after_lines n ls ++ x) (after_after n m ms ∙ ap (λ j. after_lines j ms) s))
    ∙ sym (append_assoc own (after_lines n ls) (after_lines k ms))

pub kept_beside : (f g : Forest) → kept (beside f g) ≡ kept f ++ after_lines (length (lines f)) (kept g)
kept_beside none g = after_none (kept g)
kept_beside (leaf r f) g = behind_own (kept_over r childless) 1 (length (lines f)) (suc (length (lines f))) (kept f) (kept g) (kept (beside f g)) (kept_beside f g) (one (length (lines f)))
  where
    one : (n : ℕ) → 1 + n ≡ suc n
    one n = omega arith
kept_beside (nest r k f) g = behind_own (kept_over r (kept k)) (length (lines k)) (length (lines f)) (length (lines (nest r k f))) (kept f) (kept g) (kept (beside f g)) (kept_beside f g) (sym (length-append _ (lines f) ∙ ap (λ n. n + length (lines f)) (under_length r (lines k))))

-- the kept lists of a line of the first tree, and of one of the second
pub of_first : (f g : Forest) (j : ℕ) → j < length (lines f) → of_line j (kept (beside f g)) ≡ of_line j (kept f)
of_first f g j h = ap (of_line j) (kept_beside f g) ∙ of_append j (kept f) (after_lines (length (lines f)) (kept g)) ∙ ap (λ x. of_line j (kept f) ++ x) (of_before j (length (lines f)) (kept g) h) ∙ append-nil (of_line j (kept f))

pub of_second : (f g : Forest) (j : ℕ) → length (lines f) ≤ j → of_line j (kept (beside f g)) ≡ after_lines (length (lines f)) (of_line (j - length (lines f)) (kept g))
of_second f g j h =
    let n = length (lines f) in
    let back : n + (j - n) ≡ j = omega arith in
    ap (of_line j) (kept_beside f g)
    ∙ of_append j (kept f) (after_lines n (kept g))
    ∙ ap (λ x. x ++ of_line j (after_lines n (kept g))) (of_past j n (kept f) (kept_within f) h)
    ∙ ap (λ x. of_line x (after_lines n (kept g))) (sym back)
    ∙ of_after (j - n) n (kept g)

pub after_length : (n : ℕ) (ls : List KeptList) → length (after_lines n ls) ≡ length ls
after_length n [] = refl
after_length n (l ∷ ls) = ap suc (after_length n ls)

pub after_routes : (n : ℕ) (ls : List KeptList) (i : ℕ) → (get_or (after_lines n ls) i no_list).routes ≡ (get_or ls i no_list).routes
after_routes n [] i = refl
after_routes n (l ∷ ls) zero = refl
after_routes n (l ∷ ls) (suc i) = after_routes n ls i

-- the entries that a route keeps, without their numbers
pub kept_plainly : (i n : ℕ) (es : List Entry) → plainly (kept_from i n es) ≡ kept_entries n es
kept_plainly i n [] = refl
kept_plainly i n (e ∷ es) = go (still_kept (is_optional e) n) (λ m. kept_plainly (i + 1) m es)
  where
    go : (o : Option ℕ) → ((m : ℕ) → plainly (kept_from (i + 1) m es) ≡ kept_entries m es) → plainly (keep_or_drop o (kept_from (i + 1) 0 es) (λ m. record { number = i; entry = as_kept e } ∷ kept_from (i + 1) m es)) ≡ keep_or_drop o (kept_entries 0 es) (λ m. as_kept e ∷ kept_entries m es)
    go None ih = ih 0
    go (Some m) ih = ap (λ x. as_kept e ∷ x) (ih m)
