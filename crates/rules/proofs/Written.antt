-- A path that is written with fitting values spells its list. By the entries' manners alone.
use Rattle.std.proofs.Common.{◌≡◌, ℕ, zero, suc, ◌+◌, Bool, true, false, cond, ◌&&◌, leb, List, [], ◌∷◌, ◌++◌, length, Some, None, Option, sym, refl, ap, ◌∙◌, subst, ⊎_elim}
use Rattle.std.specs.List.{AllByRecursion}
use Rattle.std.proofs.lemmas.Bool.{cases_Bool, cond-true, and_parts, and_from, both_ways, le-leb}
use Rattle.rules.specs.Paths.{longest_path, rooted, Ending, nothing, one_slash, slash}
use Rattle.rules.specs.Entries.{Entry, is_optional, lawful_entry, lawful_entries}
use Rattle.rules.specs.Spelling.{Cut, Spells, ends, goes}
use Rattle.rules.specs.Keeping.{optionals, as_kept, still_kept, keep_or_drop, kept_from, plainly}
use Rattle.rules.specs.Forests.{Route, Forest, none, leaf, nest, lawful_forest}
use Rattle.rules.specs.KeptLists.{KeptList, keeping, under, each_keeping, childless, kept, entries_of, after_lines}
use Rattle.rules.specs.Lines.{lines}
use Rattle.rules.specs.Admission.{FirstSpelled}
use Rattle.rules.specs.Writing.{is_silent, all_silent, bytes_at, ends_slash, first_value, other_values, written_after, written, AllFitting, WritingSpells, WritingReadBack}
use Rattle.rules.proofs.Manners.{Manner, silently, barely, solidly, wholly, manner}
use Rattle.rules.proofs.Spelled.{spells_rooted}
use Rattle.rules.proofs.Admitted.{AllRequired, kept_required, first_up_to}
use Rattle.rules.proofs.KeptEntry.{as_kept_lem}

-- an entry that is lawful and fits has a manner
fit_manner : (e : Entry) (es : List Entry) (vs : List (List ℕ)) → lawful_entries (e ∷ es) ≡ true → AllFitting (e ∷ es) vs → Manner e (first_value vs) es
fit_manner e es vs l f = manner e (first_value vs) es (and_parts (lawful_entry e) (lawful_entries es) l).0 f.0

others_lawful : (e : Entry) (es : List Entry) → lawful_entries (e ∷ es) ≡ true → lawful_entries es ≡ true
others_lawful e es l = (and_parts (lawful_entry e) (lawful_entries es) l).1

-- what is written in front of the rest
front_written : (ended : Bool) (e : Entry) (es : List Entry) (vs : List (List ℕ)) (b : List ℕ) → bytes_at ended e es (first_value vs) ≡ b → written_after ended (e ∷ es) vs ≡ b ++ written_after (ends_slash ended b) es (other_values vs)
front_written ended e es vs b h = ap (λ c. c ++ written_after (ends_slash ended c) es (other_values vs)) h

loud : {A : Type 0} (e : Entry) (es : List Entry) → is_silent e ≡ false → all_silent (e ∷ es) ≡ true → A
loud e es s h = absurd (both_ways (is_silent e) s (and_parts (is_silent e) (all_silent es) h).0)

silent_written : (ended : Bool) (es : List Entry) (vs : List (List ℕ)) → all_silent es ≡ true → lawful_entries es ≡ true → AllFitting es vs → written_after ended es vs ≡ []
silent_written ended [] vs h l f = refl
silent_written ended (e ∷ es) vs h l f = go (fit_manner e es vs l f) (λ ended. silent_written ended es (other_values vs) (and_parts (is_silent e) (all_silent es) h).1 (others_lawful e es l) f.1)
  where
    go : Manner e (first_value vs) es → ((ended : Bool) → written_after ended es (other_values vs) ≡ []) → written_after ended (e ∷ es) vs ≡ []
    go (silently s b p) ih = front_written ended e es vs [] (b _) ∙ ih ended
    go (barely s b p) ih = loud e es s h
    go (solidly s w v b x p) ih = loud e es s h
    go (wholly s w v b x p) ih = loud e es s h

silent_spells : (es : List Entry) (vs : List (List ℕ)) (p : List ℕ) → Ending p → all_silent es ≡ true → lawful_entries es ≡ true → AllFitting es vs → (cs : List Cut) × Spells es p cs
silent_spells [] vs p end h l f = ([], ends end)
silent_spells (e ∷ es) vs p end h l f = go (fit_manner e es vs l f) (silent_spells es (other_values vs) p end (and_parts (is_silent e) (all_silent es) h).1 (others_lawful e es l) f.1)
  where
    go : Manner e (first_value vs) es → (cs : List Cut) × Spells es p cs → (cs : List Cut) × Spells (e ∷ es) p cs
    go (silently s b k) ih = (_, goes (k p) refl ih.1)
    go (barely s b k) ih = loud e es s h
    go (solidly s w v b x k) ih = loud e es s h
    go (wholly s w v b x k) ih = loud e es s h

not_silent : (a b : Bool) → a ≡ true → (a && b) ≡ false → b ≡ false
not_silent true b h k = k
not_silent false b h k = absurd (both_ways false refl h)

-- what is not silent writes a byte
something_written : (es : List Entry) (vs : List (List ℕ)) → all_silent es ≡ false → lawful_entries es ≡ true → AllFitting es vs → (b : ℕ) × (q : List ℕ) × (written_after false es vs ≡ b ∷ q)
something_written [] vs h l f = absurd (both_ways true h refl)
something_written (e ∷ es) vs h l f = go (fit_manner e es vs l f) (λ k. something_written es (other_values vs) k (others_lawful e es l) f.1)
  where
    go : Manner e (first_value vs) es → (all_silent es ≡ false → (b : ℕ) × (q : List ℕ) × (written_after false es (other_values vs) ≡ b ∷ q)) → (b : ℕ) × (q : List ℕ) × (written_after false (e ∷ es) vs ≡ b ∷ q)
    go (silently s b k) ih = let r = ih (not_silent (is_silent e) (all_silent es) s h) in (r.0, r.1, front_written false e es vs [] (b _) ∙ r.2)
    go (barely s b k) ih =
        ⊎_elim
        (λ l. (slash, _, front_written false e es vs (slash ∷ []) (b _ ∙ cond-true (all_silent es && true) (slash ∷ []) [] (and_from (all_silent es) true l refl))))
        (λ l. let r = ih l in (r.0, r.1, front_written false e es vs [] (b _ ∙ ap (λ c. cond (c && true) (slash ∷ []) []) l) ∙ r.2))
        (cases_Bool (all_silent es))
    go (solidly s w v b x k) ih = (slash, _, front_written false e es vs (slash ∷ w) (b _))
    go (wholly s w v b x k) ih = (slash, _, front_written false e es vs (slash ∷ w) (b _))

pub written_spells : WritingSpells
written_spells [] vs l f = ([], ends nothing)
written_spells (e ∷ es) vs l f = go (fit_manner e es vs l f) (written_spells es (other_values vs) (others_lawful e es l) f.1)
  where
    go : Manner e (first_value vs) es → (cs : List Cut) × Spells es (written es (other_values vs)) cs → (cs : List Cut) × Spells (e ∷ es) (written (e ∷ es) vs) cs
    go (silently s b k) ih = (_, goes (k _) (front_written false e es vs [] (b _)) ih.1)
    go (barely s b k) ih =
        ⊎_elim
        (λ q.
        let m = silent_spells es (other_values vs) (slash ∷ []) one_slash q (others_lawful e es l) f.1 in
        (_, goes (k slash []) (front_written false e es vs (slash ∷ []) (b _ ∙ ap (λ c. cond (c && true) (slash ∷ []) []) q) ∙ ap (λ r. slash ∷ r) (silent_written true es (other_values vs) q (others_lawful e es l) f.1)) m.1))
        (λ q.
        let r = something_written es (other_values vs) q (others_lawful e es l) f.1 in
        (_, goes (k r.0 r.1) (front_written false e es vs [] (b _ ∙ ap (λ c. cond (c && true) (slash ∷ []) []) q) ∙ r.2) (subst (λ q. Spells es q ih.0) r.2 ih.1)))
        (cases_Bool (all_silent es))
    go (solidly s w v b x k) ih = (_, goes (k _) (front_written false e es vs (slash ∷ w) (b _) ∙ ap (λ c. slash ∷ (w ++ written_after c es (other_values vs))) x) ih.1)
    go (wholly s w v b x k) ih =
        let m = silent_spells es (other_values vs) [] nothing x (others_lawful e es l) f.1 in
        (_, goes k (front_written false e es vs (slash ∷ w) (b _) ∙ ap (λ r. slash ∷ (w ++ r)) (silent_written (ends_slash true w) es (other_values vs) x (others_lawful e es l) f.1)) m.1)

-- Each kept list of a lawful forest has lawful entries.
abbrev AllLawful : List KeptList → Type 0
AllLawful ls = AllByRecursion (λ l. lawful_entries (entries_of l.routes) ≡ true) ls

lawful_append : (es fs : List Entry) → lawful_entries es ≡ true → lawful_entries fs ≡ true → lawful_entries (es ++ fs) ≡ true
lawful_append [] fs a b = b
lawful_append (e ∷ es) fs a b = let s = and_parts (lawful_entry e) (lawful_entries es) a in and_from (lawful_entry e) (lawful_entries (es ++ fs)) s.0 (lawful_append es fs s.1 b)

keeps_lawful : (i n : ℕ) (es : List Entry) → lawful_entries es ≡ true → lawful_entries (plainly (kept_from i n es)) ≡ true
keeps_lawful i n [] h = refl
keeps_lawful i n (e ∷ es) h = let s = and_parts (lawful_entry e) (lawful_entries es) h in go s.0 (still_kept (is_optional e) n) (λ m. keeps_lawful (i + 1) m es s.1)
  where
    go : lawful_entry e ≡ true → (o : Option ℕ) → ((m : ℕ) → lawful_entries (plainly (kept_from (i + 1) m es)) ≡ true) → lawful_entries (plainly (keep_or_drop o (kept_from (i + 1) 0 es) (λ m. record { number = i; entry = as_kept e } ∷ kept_from (i + 1) m es))) ≡ true
    go l None ih = ih 0
    go l (Some m) ih = and_from (lawful_entry (as_kept e)) (lawful_entries (plainly (kept_from (i + 1) m es))) ((as_kept_lem e).lawful ∙ l) (ih m)

all_append : (ls ms : List KeptList) → AllLawful ls → AllLawful ms → AllLawful (ls ++ ms)
all_append [] ms a b = b
all_append (l ∷ ls) ms a b = (a.0, all_append ls ms a.1 b)

under_lawful : (r : Route) (n : ℕ) (ls : List KeptList) → lawful_entries r.entries ≡ true → AllLawful ls → AllLawful (under (keeping r n) ls)
under_lawful r n [] h a = tt
under_lawful r n (l ∷ ls) h a = (lawful_append (plainly (kept_from 0 n r.entries)) (entries_of l.routes) (keeps_lawful 0 n r.entries h) a.0, under_lawful r n ls h a.1)

each_lawful : (r : Route) (n : ℕ) (ls : List KeptList) → lawful_entries r.entries ≡ true → AllLawful ls → AllLawful (each_keeping r n ls)
each_lawful r zero ls h a = under_lawful r zero ls h a
each_lawful r (suc n) ls h a = all_append (under (keeping r (suc n)) ls) (each_keeping r n ls) (under_lawful r (suc n) ls h a) (each_lawful r n ls h a)

after_lawful : (n : ℕ) (ls : List KeptList) → AllLawful ls → AllLawful (after_lines n ls)
after_lawful n [] a = tt
after_lawful n (l ∷ ls) a = (a.0, after_lawful n ls a.1)

pub kept_lawful : (f : Forest) → lawful_forest f ≡ true → AllLawful (kept f)
kept_lawful none h = tt
kept_lawful (leaf r f) h =
    let s = and_parts (lawful_entries r.entries) (lawful_forest f) h in
    all_append (each_keeping r (optionals r.entries) childless) (after_lines 1 (kept f)) (each_lawful r (optionals r.entries) childless s.0 (refl, tt)) (after_lawful 1 (kept f) (kept_lawful f s.1))
kept_lawful (nest r k f) h =
    let s = and_parts (lawful_entries r.entries) (lawful_forest k && lawful_forest f) h in
    let t = and_parts (lawful_forest k) (lawful_forest f) s.1 in
    all_append (each_keeping r (optionals r.entries) (kept k)) (after_lines (length (lines k)) (kept f)) (each_lawful r (optionals r.entries) (kept k) s.0 (kept_lawful k t.0)) (after_lawful (length (lines k)) (kept f) (kept_lawful f t.1))

all_at : (before after : List KeptList) (k : KeptList) → AllLawful (before ++ (k ∷ after)) → lawful_entries (entries_of k.routes) ≡ true
all_at [] after k a = a.0
all_at (l ∷ before) after k a = all_at before after k a.1

pub written_read_back : WritingReadBack
written_read_back f h before after k vs is fit =
    let p = written (entries_of k.routes) vs in
    let l = all_at before after k (subst AllLawful is (kept_lawful f h)) in
    let s = written_spells (entries_of k.routes) vs l fit.values in
    let r = spells_rooted s.1 in
    let u = first_up_to before after k p (subst AllRequired is (kept_required f)) r s in
    record {
      lawful = and_from (leb (length p) longest_path) (rooted p) (le-leb (length p) longest_path fit.short) r;
      spelled = s;
      admitted = (u.0, u.1, subst (λ ls. FirstSpelled p ls u.0) (sym is) u.2);
    }
