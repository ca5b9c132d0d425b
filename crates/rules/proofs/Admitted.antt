-- The first kept list that is read to an ending is the first that the path spells.
use Rattle.std.proofs.Common.{◌≡◌, ℕ, zero, suc, ◌+◌, true, leb, List, [], ◌∷◌, ◌++◌, length, Some, None, Option, sym, refl, ap, ◌∙◌, arith}
use Rattle.std.specs.List.{AllByRecursion}
use Rattle.std.proofs.lemmas.Bool.{and_parts}
use Rattle.rules.specs.Paths.{longest_path, rooted}
use Rattle.rules.specs.Entries.{Entry, is_optional}
use Rattle.rules.specs.Keeping.{optionals, as_kept, still_kept, keep_or_drop, kept_from, plainly}
use Rattle.rules.specs.Forests.{Route, Forest, none, leaf, nest}
use Rattle.rules.specs.KeptLists.{KeptList, keeping, under, each_keeping, childless, kept, entries_of, after_lines}
use Rattle.rules.specs.Admission.{later, Spelled, Answers, FirstSpelled, here, NoneSpelled, FirstAnswer, OneSpelling, ReaderAdmits}
use Rattle.rules.specs.Lines.{lines}
use Rattle.rules.specs.Answers.{Answer, answer_of}
use Rattle.rules.specs.Choice.{or_else}
use Rattle.rules.specs.Steps.{kept_reads, first_read}
use Rattle.rules.proofs.KeptEntry.{as_kept_lem}
use Rattle.rules.proofs.Spelled.{Required, spells_once}
use Rattle.rules.proofs.Answered.{spelled_answer, answer_spelled}

-- At most one answer.
pub answers_once : (k : KeptList) (p : List ℕ) (a b : Answer) → Answers k p a → Answers k p b → a ≡ b
answers_once k p a b x y = x.2 ∙ ap (answer_of k.routes 0 0) (spells_once x.1 y.1) ∙ sym y.2

-- No kept list has an optional entry.
kept_entries_required : (i n : ℕ) (es : List Entry) → Required (plainly (kept_from i n es))
kept_entries_required i n [] = tt
kept_entries_required i n (e ∷ es) = go (still_kept (is_optional e) n) (λ m. kept_entries_required (i + 1) m es)
  where
    go : (o : Option ℕ) → ((m : ℕ) → Required (plainly (kept_from (i + 1) m es))) → Required (plainly (keep_or_drop o (kept_from (i + 1) 0 es) (λ m. record { number = i; entry = as_kept e } ∷ kept_from (i + 1) m es)))
    go None ih = ih 0
    go (Some m) ih = ((as_kept_lem e).required, ih m)

required_append : (es fs : List Entry) → Required es → Required fs → Required (es ++ fs)
required_append [] fs a b = b
required_append (e ∷ es) fs a b = (a.0, required_append es fs a.1 b)

abbrev pub AllRequired : List KeptList → Type 0
AllRequired ls = AllByRecursion (λ l. Required (entries_of l.routes)) ls

all_append : (ls ms : List KeptList) → AllRequired ls → AllRequired ms → AllRequired (ls ++ ms)
all_append [] ms a b = b
all_append (l ∷ ls) ms a b = (a.0, all_append ls ms a.1 b)

under_required : (r : Route) (n : ℕ) (ls : List KeptList) → AllRequired ls → AllRequired (under (keeping r n) ls)
under_required r n [] a = tt
under_required r n (l ∷ ls) a = (required_append _ (entries_of l.routes) (kept_entries_required 0 n r.entries) a.0, under_required r n ls a.1)

each_keeping_required : (r : Route) (n : ℕ) (ls : List KeptList) → AllRequired ls → AllRequired (each_keeping r n ls)
each_keeping_required r zero ls a = under_required r zero ls a
each_keeping_required r (suc n) ls a = all_append (under (keeping r (suc n)) ls) (each_keeping r n ls) (under_required r (suc n) ls a) (each_keeping_required r n ls a)

after_required : (n : ℕ) (ls : List KeptList) → AllRequired ls → AllRequired (after_lines n ls)
after_required n [] a = tt
after_required n (l ∷ ls) a = (a.0, after_required n ls a.1)

pub kept_required : (f : Forest) → AllRequired (kept f)
kept_required none = tt
kept_required (leaf r f) = all_append (each_keeping r (optionals r.entries) childless) (after_lines 1 (kept f)) (each_keeping_required r (optionals r.entries) childless (tt, tt)) (after_required 1 (kept f) (kept_required f))
kept_required (nest r k f) = all_append (each_keeping r (optionals r.entries) (kept k)) (after_lines (length (lines k)) (kept f)) (each_keeping_required r (optionals r.entries) (kept k) (kept_required k)) (after_required (length (lines k)) (kept f) (kept_required f))

-- The first kept list that is read to an ending is the first that is spelled.
unspelled : (k : KeptList) (p : List ℕ) → kept_reads k.routes 0 0 p ≡ None → Spelled p k → ⊥
unspelled k p h s = let o : None ≡ Some (answer_of k.routes 0 0 s.0) = sym h ∙ spelled_answer k.routes 0 0 p s.0 s.1 in let z : ◌≡◌ {A = ℕ} 0 1 = cc in omega arith

unanswered : (k : KeptList) (p : List ℕ) → Required (entries_of k.routes) → rooted p ≡ true → (Spelled p k → ⊥) → kept_reads k.routes 0 0 p ≡ None
unanswered k p q r n = go (kept_reads k.routes 0 0 p) refl
  where
    go : (o : Option Answer) → kept_reads k.routes 0 0 p ≡ o → o ≡ None
    go None e = refl
    go (Some a) e = let s = answer_spelled k.routes 0 0 p a q r e in absurd (n (s.0, s.1))

pub first_answer : (ls : List KeptList) (p : List ℕ) (a : Answer) → AllRequired ls → rooted p ≡ true → first_read ls 0 0 p ≡ Some a → FirstAnswer ls p a
first_answer [] p a q r h = let z : ◌≡◌ {A = ℕ} 0 1 = cc in absurd (omega arith)
first_answer (l ∷ ls) p a q r h = go (kept_reads l.routes 0 0 p) refl h (first_answer ls p a q.1 r)
  where
    go : (o : Option Answer) → kept_reads l.routes 0 0 p ≡ o → or_else o (first_read ls 0 0 p) ≡ Some a → (first_read ls 0 0 p ≡ Some a → FirstAnswer ls p a) → FirstAnswer (l ∷ ls) p a
    go None e h ih = let r = ih h in (r.0, later (unspelled l p e) r.1, r.2)
    go (Some b) e h ih = let s = answer_spelled l.routes 0 0 p a q.0 r (e ∙ h) in (l, here (s.0, s.1), s)

pub answer_first : {p : List ℕ} {ls : List KeptList} {k : KeptList} → AllRequired ls → rooted p ≡ true → FirstSpelled p ls k → (a : Answer) → Answers k p a → first_read ls 0 0 p ≡ Some a
answer_first {p} q r (here {k} {ls} s) a x = ap (λ o. or_else o (first_read ls 0 0 p)) (spelled_answer k.routes 0 0 p x.0 x.1) ∙ ap Some (sym x.2)
answer_first {p} q r (later {k} {l} {ls} n f) a x = ap (λ o. or_else o (first_read ls 0 0 p)) (unanswered l p q.0 r n) ∙ answer_first q.1 r f a x

pub none_spelled : (ls : List KeptList) (p : List ℕ) → first_read ls 0 0 p ≡ None → NoneSpelled p ls
none_spelled [] p h = tt
none_spelled (l ∷ ls) p h = go (kept_reads l.routes 0 0 p) refl h (none_spelled ls p)
  where
    go : (o : Option Answer) → kept_reads l.routes 0 0 p ≡ o → or_else o (first_read ls 0 0 p) ≡ None → (first_read ls 0 0 p ≡ None → NoneSpelled p ls) → NoneSpelled p (l ∷ ls)
    go None e h ih = (unspelled l p e, ih h)
    go (Some b) e h ih = let z : ◌≡◌ {A = ℕ} 0 1 = cc in absurd (omega arith)

pub spelled_none : (ls : List KeptList) (p : List ℕ) → AllRequired ls → rooted p ≡ true → NoneSpelled p ls → first_read ls 0 0 p ≡ None
spelled_none [] p q r n = refl
spelled_none (l ∷ ls) p q r n = ap (λ o. or_else o (first_read ls 0 0 p)) (unanswered l p q.0 r n.0) ∙ spelled_none ls p q.1 r n.1

-- Whether a list is spelled is decided.
spelled_or_not : {A : Type 0} (l : KeptList) (p : List ℕ) → Required (entries_of l.routes) → rooted p ≡ true → (Spelled p l → A) → ((Spelled p l → ⊥) → A) → A
spelled_or_not {A} l p q r f g = go (kept_reads l.routes 0 0 p) refl
  where
    go : (o : Option Answer) → kept_reads l.routes 0 0 p ≡ o → A
    go None e = g (unspelled l p e)
    go (Some a) e = let s = answer_spelled l.routes 0 0 p a q r e in f (s.0, s.1)

-- A spelled list, or one before it, is the first.
pub first_up_to : (before after : List KeptList) (k : KeptList) (p : List ℕ) → AllRequired (before ++ (k ∷ after)) → rooted p ≡ true → Spelled p k → (j : KeptList) × FirstSpelled p (before ++ (k ∷ [])) j × FirstSpelled p (before ++ (k ∷ after)) j
first_up_to [] after k p q r s = (k, here s, here s)
first_up_to (l ∷ before) after k p q r s =
    let ih = first_up_to before after k p q.1 r s in
    spelled_or_not l p q.0 r (λ t. (l, here t, here t)) (λ n. (ih.0, later n ih.1, later n ih.2))

pub one_spelling : OneSpelling
one_spelling = record { spelling = λ es p cs ds x y. spells_once x y; answer = answers_once }

pub reader_admits : ReaderAdmits
reader_admits f p l =
    let r : rooted p ≡ true = (and_parts (leb (length p) longest_path) (rooted p) l).1 in
    let q = kept_required f in
    record {
      some = λ a. (first_answer (kept f) p a q r, λ x. answer_first q r x.1 a x.2);
      none = (none_spelled (kept f) p, spelled_none (kept f) p q r);
    }
