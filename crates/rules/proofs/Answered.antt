-- What is read of a kept list is the answer that its pieces give. By the laws of pieces alone.
use Rattle.std.proofs.Common.{◌≡◌, ℕ, ◌+◌, Bool, true, List, [], ◌∷◌, ◌++◌, length, take, drop, is_some, Some, None, Option, sym, refl, ap, ◌∙◌, subst, ⊎_elim, arith, length-append}
use Rattle.std.proofs.lemmas.List.{drop-drop}
use Rattle.std.proofs.lemmas.Bool.{cases_Bool, cond-true, cond-false}
use Rattle.rules.specs.declared.records.ParamRecord.{ParamRecord}
use Rattle.rules.specs.Paths.{rooted}
use Rattle.rules.specs.Entries.{Entry, has_value}
use Rattle.rules.specs.Taking.{Taken, taking}
use Rattle.rules.specs.Pieces.{Span}
use Rattle.rules.specs.Spelling.{Cut, Spells, goes, joined}
use Rattle.rules.specs.Keeping.{Numbered, plainly}
use Rattle.rules.specs.KeptLists.{KeptRoute, entries_of}
use Rattle.rules.specs.Answers.{Answer, value_at, values_at, answer_of}
use Rattle.rules.specs.Steps.{and_then, is_ending, value_record, add_read, list_reads, add_level, kept_reads}
use Rattle.rules.proofs.Pieces.{taken_of, piece_valued}
use Rattle.rules.proofs.Spelled.{ReadThrough, Required, spelled_through, through_spelled, spells_rooted, piece_front, taken_length}

-- one route's entries, and then others
list_through : (ks : List Numbered) (fs : List Entry) (lv at : ℕ) (p : List ℕ) (u : ℕ × List ParamRecord) → list_reads ks lv at p ≡ Some u → ReadThrough fs (drop u.0 p) → ReadThrough (plainly ks ++ fs) p
list_through [] fs lv at p u h rs =
    let e : ◌≡◌ {A = ℕ × List ParamRecord} (0, []) u = cc in
    subst (λ v. ReadThrough fs (drop v.0 p)) (sym e) rs
list_through (k ∷ ks) fs lv at p u h rs = go (taking k.entry p) refl h (λ at q v. list_through ks fs lv at q v)
  where
    went : (t : Taken) (o : Option (ℕ × List ParamRecord)) → add_read t (value_record (has_value k.entry) k.number lv at t) o ≡ Some u → ((v : ℕ × List ParamRecord) → o ≡ Some v → ReadThrough fs (drop v.0 (drop t.0 p)) → ReadThrough (plainly ks ++ fs) (drop t.0 p)) → ReadThrough (plainly ks ++ fs) (drop t.0 p)
    went t None h ih = let z : ◌≡◌ {A = ℕ} 0 1 = cc in absurd (omega arith)
    went t (Some v) h ih =
        let e : ◌≡◌ {A = ℕ × List ParamRecord} (t.0 + v.0, value_record (has_value k.entry) k.number lv at t ++ v.1) u = cc in
        ih v refl (subst (ReadThrough fs) (ap (λ w. drop w.0 p) (sym e) ∙ sym (drop-drop v.0 t.0 p)) rs)

    go : (o : Option (Taken)) → taking k.entry p ≡ o → and_then o (λ t. add_read t (value_record (has_value k.entry) k.number lv at t) (list_reads ks lv (at + t.0) (drop t.0 p))) ≡ Some u → ((at : ℕ) (q : List ℕ) (v : ℕ × List ParamRecord) → list_reads ks lv at q ≡ Some v → ReadThrough fs (drop v.0 q) → ReadThrough (plainly ks ++ fs) q) → ReadThrough (k.entry ∷ (plainly ks ++ fs)) p
    go None e h ih = let z : ◌≡◌ {A = ℕ} 0 1 = cc in absurd (omega arith)
    go (Some t) e h ih = (t, e, went t (list_reads ks lv (at + t.0) (drop t.0 p)) h (λ v. ih (at + t.0) (drop t.0 p) v))

kept_through : (ks : List KeptRoute) (lv at : ℕ) (p : List ℕ) (a : Answer) → kept_reads ks lv at p ≡ Some a → ReadThrough (entries_of ks) p
kept_through [] lv at p a h = ⊎_elim (λ e. e) (λ e. let z : ◌≡◌ {A = Option Answer} None (Some a) = sym (cond-false (is_ending p) _ None e) ∙ h in let y : ◌≡◌ {A = ℕ} 0 1 = cc in absurd (omega arith)) (cases_Bool (is_ending p))
kept_through (k ∷ ks) lv at p a h = go (list_reads k.entries lv at p) refl h (λ at q b. kept_through ks (lv + 1) at q b)
  where
    went : (u : ℕ × List ParamRecord) (o : Option Answer) → add_level k at u o ≡ Some a → (b : Answer) × (o ≡ Some b)
    went u None h = let z : ◌≡◌ {A = ℕ} 0 1 = cc in absurd (omega arith)
    went u (Some b) h = (b, refl)

    go : (o : Option (ℕ × List ParamRecord)) → list_reads k.entries lv at p ≡ o → and_then o (λ u. add_level k at u (kept_reads ks (lv + 1) (at + u.0) (drop u.0 p))) ≡ Some a → ((at : ℕ) (q : List ℕ) (b : Answer) → kept_reads ks (lv + 1) at q ≡ Some b → ReadThrough (entries_of ks) q) → ReadThrough (plainly k.entries ++ entries_of ks) p
    go None e h ih = let z : ◌≡◌ {A = ℕ} 0 1 = cc in absurd (omega arith)
    go (Some u) e h ih =
        let b = went u (kept_reads ks (lv + 1) (at + u.0) (drop u.0 p)) h in
        list_through k.entries (entries_of ks) lv at p u e (ih (at + u.0) (drop u.0 p) b.0 b.1)

-- one route's pieces in front of others
record Front (ks : List Numbered) (fs : List Entry) (lv at : ℕ) (p : List ℕ) (cs : List Cut) : Type 0 where
  read : list_reads ks lv at p ≡ Some (length (joined (take (length ks) cs)), values_at ks lv at (take (length ks) cs))
  rest : Spells fs (drop (length (joined (take (length ks) cs))) p) (drop (length ks) cs)

value_param : (lv number at : ℕ) (b : List ℕ) (v : Option Span) (w : Bool) → is_some v ≡ w → value_record w number lv at (taken_of b v) ≡ value_at lv number at v
value_param lv number at b None w h = rw (← h)
value_param lv number at b (Some x) w h = rw (← h)

front : (ks : List Numbered) (fs : List Entry) (lv at : ℕ) (p : List ℕ) (cs : List Cut) → Spells (plainly ks ++ fs) p cs → Front ks fs lv at p cs
front [] fs lv at p cs s = record { read = refl; rest = s }
front (k ∷ ks) fs lv at p cs s = go s (λ at q ds. front ks fs lv at q ds)
  where
    go : {cs : List Cut} → Spells (k.entry ∷ (plainly ks ++ fs)) p cs → ((at : ℕ) (q : List ℕ) (ds : List Cut) → Spells (plainly ks ++ fs) q ds → Front ks fs lv at q ds) → Front (k ∷ ks) fs lv at p cs
    go (goes {b = b} {q = q} {v = v} {cs = ds} piece j h) ih =
        let t = taken_of b v in
        let f = piece_front piece j (spells_rooted h) in
        let r = ih (at + length b) q ds h in
        let own = take (length ks) ds in
        let more : list_reads ks lv (at + t.0) (drop t.0 p) ≡ Some (length (joined own), values_at ks lv (at + length b) own) = ap (λ n. list_reads ks lv (at + n) (drop t.0 p)) (taken_length b v) ∙ ap (list_reads ks lv (at + length b)) f.1 ∙ r.read in
        let long : t.0 + length (joined own) ≡ length (b ++ joined own) = ap (λ n. n + length (joined own)) (taken_length b v) ∙ sym (length-append b (joined own)) in
        record {
          read =
              ap (λ o. and_then o (λ t. add_read t (value_record (has_value k.entry) k.number lv at t) (list_reads ks lv (at + t.0) (drop t.0 p)))) f.0
              ∙ ap (add_read t (value_record (has_value k.entry) k.number lv at t)) more
              ∙ ap (λ rs. Some (t.0 + length (joined own), rs ++ values_at ks lv (at + length b) own)) (value_param lv k.number at b v (has_value k.entry) (piece_valued piece))
              ∙ ap (λ n. Some (n, value_at lv k.number at v ++ values_at ks lv (at + length b) own)) long;
          rest = subst (λ x. Spells fs x (drop (length ks) ds)) (ap (drop (length (joined own))) (sym f.1) ∙ drop-drop (length (joined own)) t.0 p ∙ ap (λ n. drop n p) long) r.rest;
        }

-- what a spelled list answers is read off its pieces
pub spelled_answer : (ks : List KeptRoute) (lv at : ℕ) (p : List ℕ) (cs : List Cut) → Spells (entries_of ks) p cs → kept_reads ks lv at p ≡ Some (answer_of ks lv at cs)
spelled_answer [] lv at p cs s = cond-true (is_ending p) _ None (spelled_through s)
spelled_answer (k ∷ ks) lv at p cs s =
    let f = front k.entries (entries_of ks) lv at p cs s in
    let own = take (length k.entries) cs in
    ap (λ o. and_then o (λ u. add_level k at u (kept_reads ks (lv + 1) (at + u.0) (drop u.0 p)))) f.read
    ∙ ap (add_level k at (length (joined own), values_at k.entries lv at own)) (spelled_answer ks (lv + 1) (at + length (joined own)) (drop (length (joined own)) p) (drop (length k.entries) cs) f.rest)

pub answer_spelled : (ks : List KeptRoute) (lv at : ℕ) (p : List ℕ) (a : Answer) → Required (entries_of ks) → rooted p ≡ true → kept_reads ks lv at p ≡ Some a → (cs : List Cut) × Spells (entries_of ks) p cs × (a ≡ answer_of ks lv at cs)
answer_spelled ks lv at p a q r h =
    let s = through_spelled (entries_of ks) p q (kept_through ks lv at p a h) r in
    let o : Some a ≡ Some (answer_of ks lv at s.0) = sym h ∙ spelled_answer ks lv at p s.0 s.1 in
    (s.0, s.1, cc)
