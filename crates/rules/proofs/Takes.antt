-- A list takes a path one entry after another.
use Rattle.std.proofs.Common.{◌≡◌, ℕ, ◌+◌, ◌≤◌, Bool, true, false, cond, List, [], ◌∷◌, length, drop, Some, None, Option, sym, refl, ◌∙◌, subst, arith, length-drop}
use Rattle.std.proofs.lemmas.List.{drop-drop}
use Rattle.std.proofs.lemmas.Bool.{cond-true, cond_both}
use Rattle.rules.specs.Paths.{rooted, lawful}
use Rattle.rules.specs.Entries.{Entry, is_optional, has_value, means_value, means_count, with_entry}
use Rattle.rules.specs.Taking.{Taken, taking, testing}
use Rattle.rules.specs.Keeping.{optionals, as_kept, still_kept, keep_or_drop}
use Rattle.rules.specs.Steps.{and_then, meaning_takes, kept_entries, add_taken, list_takes}
use Rattle.rules.proofs.KeptEntry.{as_kept_lem}
use Rattle.rules.proofs.Sound.{taking_sound, taken_sound, lawful_rooted}

pub kept_valued : (e : Entry) → has_value (as_kept e) ≡ has_value e
kept_valued e = (as_kept_lem e).valued

-- what is known once an entry has taken something of a lawful path
pub record Took (oe : Option Entry) (p : List ℕ) (t : Taken) : Type 0 where
  pub within : t.0 ≤ length p
  pub value : t.1 + t.2 ≤ length p
  pub rooted_rest : rooted (drop t.0 p) ≡ true
  pub is : Some t ≡ meaning_takes oe p

-- on a lawful path a kind does what its meaning takes
tested : (oe : Option Entry) (p : List ℕ) → lawful p ≡ true → testing oe p ≡ meaning_takes oe p
tested None p l = refl
tested (Some e) p l = cond-true (lawful p) (taking e p) None l

pub took : (oe : Option Entry) (p : List ℕ) (t : Taken) → lawful p ≡ true → Some t ≡ testing oe p → Took oe p t
took oe p t l h =
    let i : Some t ≡ meaning_takes oe p = h ∙ tested oe p l in
    let w = taken_sound oe p t (lawful_rooted p l) i in
    record { within = w.within; value = w.value; rooted_rest = w.rooted_rest; is = i }

pub refused : (oe : Option Entry) (p : List ℕ) → lawful p ≡ true → None ≡ testing oe p → None ≡ meaning_takes oe p
refused oe p l h = h ∙ tested oe p l

-- of what a list takes: it lies within the path, and what is left is rooted; there are no more values than entries
abbrev Few : List Entry → Option (ℕ × ℕ) → Type 0
Few es None = Unit {0}
Few es (Some u) = u.1 ≤ length es

takes_few : (es : List Entry) (p : List ℕ) → Few es (list_takes es p)
takes_few [] p = omega arith
takes_few (e ∷ es) p = go (taking e p) (λ q. takes_few es q)
  where
    add : (t : Taken) (v : Bool) (o : Option (ℕ × ℕ)) → Few es o → Few (e ∷ es) (add_taken t v o)
    add t v None s = tt
    add t true (Some u) s = omega (arith, s)
    add t false (Some u) s = omega (arith, s)

    go : (o : Option Taken) → ((q : List ℕ) → Few es (list_takes es q)) → Few (e ∷ es) (and_then o (λ t. add_taken t (has_value e) (list_takes es (drop t.0 p))))
    go None ih = tt
    go (Some t) ih = add t (has_value e) (list_takes es (drop t.0 p)) (ih (drop t.0 p))

abbrev Within : List ℕ → Option (ℕ × ℕ) → Type 0
Within p None = Unit {0}
Within p (Some u) = (u.0 ≤ length p) × (rooted (drop u.0 p) ≡ true)

takes_sound : (es : List Entry) (p : List ℕ) → rooted p ≡ true → Within p (list_takes es p)
takes_sound [] p r = (omega arith, r)
takes_sound (e ∷ es) p r = go (taking e p) refl (λ q. takes_sound es q)
  where
    add : (t : Taken) (v : Bool) (o : Option (ℕ × ℕ)) → t.0 ≤ length p → Within (drop t.0 p) o → Within p (add_taken t v o)
    add t v None w s = tt
    add t v (Some u) w s = (omega (arith, length-drop t.0 p, s.0), subst (λ q. rooted q ≡ true) (drop-drop u.0 t.0 p) s.1)

    go : (o : Option Taken) → o ≡ taking e p → ((q : List ℕ) → rooted q ≡ true → Within q (list_takes es q)) → Within p (and_then o (λ t. add_taken t (has_value e) (list_takes es (drop t.0 p))))
    go None h ih = tt
    go (Some t) h ih = let w = taking_sound e p t r h in add t (has_value e) (list_takes es (drop t.0 p)) w.within (ih (drop t.0 p) w.rooted_rest)

pub kept_few : (n : ℕ) (es : List Entry) → length (kept_entries n es) ≤ length es
kept_few n [] = omega arith
kept_few n (e ∷ es) = go (still_kept (is_optional e) n) (λ m. kept_few m es)
  where
    go : (o : Option ℕ) → ((m : ℕ) → length (kept_entries m es) ≤ length es) → length (keep_or_drop o (kept_entries 0 es) (λ m. as_kept e ∷ kept_entries m es)) ≤ length (e ∷ es)
    go None ih = omega (arith, ih 0)
    go (Some m) ih = omega (arith, ih m)

pub took_few : (n : ℕ) (es : List Entry) (p : List ℕ) (u : ℕ × ℕ) → Some u ≡ list_takes (kept_entries n es) p → u.1 ≤ length es
took_few n es p u h = let s = subst (Few (kept_entries n es)) (sym h) (takes_few (kept_entries n es) p) in omega (arith, kept_few n es)

pub took_within : (n : ℕ) (es : List Entry) (p : List ℕ) (u : ℕ × ℕ) → rooted p ≡ true → Some u ≡ list_takes (kept_entries n es) p → (u.0 ≤ length p) × (u.1 ≤ length es)
took_within n es p u r h = ((subst (Within p) (sym h) (takes_sound (kept_entries n es) p r)).0, took_few n es p u h)

pub optionals_le : (es : List Entry) → optionals es ≤ length es
optionals_le [] = omega arith
optionals_le (e ∷ es) = cond_both (is_optional e) (optionals es + 1) (optionals es) (λ n. n ≤ length (e ∷ es)) (λ _. omega (arith, optionals_le es)) (λ _. omega (arith, optionals_le es))

pub bit : (b : Bool) → cond b 1 0 ≤ 1
bit true = omega arith
bit false = omega arith

-- a list with its first entry is as long as the rest and that entry
pub entries_length : (oe : Option Entry) (es : List Entry) → length (with_entry oe es) ≡ means_count oe + length es
entries_length None es = omega arith
entries_length (Some e) es = omega arith

pub value_le : (oe : Option Entry) → cond (means_value oe) 1 0 ≤ means_count oe
value_le None = omega arith
value_le (Some e) = bit (has_value e)

-- what is known once a list has taken something of a lawful path
pub record ListTook (es : List Entry) (p : List ℕ) (taken values : ℕ) : Type 0 where
  pub within : taken ≤ length p
  pub few : values ≤ length es
  pub rooted_rest : rooted (drop taken p) ≡ true

pub list_took : (n : ℕ) (es : List Entry) (p : List ℕ) (taken values : ℕ) → lawful p ≡ true → Some (taken, values) ≡ list_takes (kept_entries n es) p → ListTook es p taken values
list_took n es p taken values l h =
    let s = took_within n es p (taken, values) (lawful_rooted p l) h in
    record { within = s.0; few = s.1; rooted_rest = (subst (Within p) (sym h) (takes_sound (kept_entries n es) p (lawful_rooted p l))).1 }
