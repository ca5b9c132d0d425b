-- One entry more of what a list reads, and one record more in front of what is written.
use Rattle.std.proofs.Common.{◌≡◌, ℕ, ◌+◌, ◌<◌, ◌≤◌, Bool, true, false, cond, List, [], ◌∷◌, length, drop, set, is_some, Some, None, Option, sym, refl, ap, ◌∙◌, add-zero, zero-add, add-one, arith}
use Rattle.std.proofs.lemmas.Bool.{both_ways}
use Rattle.rules.specs.declared.records.ParamRecord.{ParamRecord}
use Rattle.rules.specs.Entries.{Entry, is_optional, has_value, means_optional, means_value, means_count, with_entry}
use Rattle.rules.specs.Taking.{Taken, taking}
use Rattle.rules.specs.Keeping.{as_kept, still_kept, keep_or_drop, Numbered, kept_from}
use Rattle.rules.specs.Records.{overlaid}
use Rattle.rules.specs.Steps.{and_then, meaning_takes, meaning_kept, kept_entries, add_taken, list_takes, value_record, add_read, list_reads, count_read, read_into}
use Rattle.rules.proofs.Overlaid.{overlaid_one, behind, back, back_same, back_some, laid_before}
use Rattle.rules.proofs.Takes.{kept_valued}

add_none : (o : Option (ℕ × List ParamRecord)) → o ≡ add_read (0, 0, 0) [] o
add_none None = refl
add_none (Some u) = ap Some (rw zero-add)

abbrev first_read_kept : ℕ → Entry → List Entry → Option ℕ → List Numbered
first_read_kept i e es o = keep_or_drop o (kept_from (i + 1) 0 es) (λ m. record { number = i; entry = as_kept e } ∷ kept_from (i + 1) m es)

pub read_go : (oe : Option Entry) (es : List Entry) (i n m : ℕ) (lv at : ℕ) (p : List ℕ) (t : Taken) → Some m ≡ still_kept (means_optional oe) n → Some t ≡ meaning_takes (meaning_kept oe) p → list_reads (kept_from i n (with_entry oe es)) lv at p ≡ add_read t (value_record (means_value oe) i lv at t) (list_reads (kept_from (i + means_count oe) m es) lv (at + t.0) (drop t.0 p))
read_go None es i n m lv at p t h k =
    let e : m ≡ n = cc in
    let f : t ≡ (0, 0, 0) = cc in
    rw (f, e, add-zero, add-zero) (add_none (list_reads (kept_from i n es) lv at p))
read_go (Some e) es i n m lv at p t h k =
    ap (λ o. list_reads (first_read_kept i e es o) lv at p) (sym h)
    ∙ ap (λ o. and_then o (λ t. add_read t (value_record (has_value (as_kept e)) i lv at t) (list_reads (kept_from (i + 1) m es) lv (at + t.0) (drop t.0 p)))) (sym k)
    ∙ ap (λ v. add_read t (value_record v i lv at t) (list_reads (kept_from (i + 1) m es) lv (at + t.0) (drop t.0 p))) (kept_valued e)

-- the same list by its length and its bytes taken
pub takes_read : (es : List Entry) (i n : ℕ) (lv at : ℕ) (p : List ℕ) → list_takes (kept_entries n es) p ≡ count_read (list_reads (kept_from i n es) lv at p)
takes_read [] i n lv at p = refl
takes_read (e ∷ es) i n lv at p = kept (still_kept (is_optional e) n) (λ m at p. takes_read es (i + 1) m lv at p)
  where
    value : (v : Bool) (t : Taken) (o : Option (ℕ × ℕ)) (u : Option (ℕ × List ParamRecord)) → o ≡ count_read u → add_taken t v o ≡ count_read (add_read t (value_record v i lv at t) u)
    value v t o None h = rw h
    value true t o (Some u) h = rw h (ap (λ k. Some (t.0 + u.0, k)) (add-one (length u.1)))
    value false t o (Some u) h = rw h (ap (λ k. Some (t.0 + u.0, k)) (add-zero (length u.1)))

    went : (o : Option Taken) (m : ℕ) → ((at : ℕ) (p : List ℕ) → list_takes (kept_entries m es) p ≡ count_read (list_reads (kept_from (i + 1) m es) lv at p)) → and_then o (λ t. add_taken t (has_value (as_kept e)) (list_takes (kept_entries m es) (drop t.0 p))) ≡ count_read (and_then o (λ t. add_read t (value_record (has_value (as_kept e)) i lv at t) (list_reads (kept_from (i + 1) m es) lv (at + t.0) (drop t.0 p))))
    went None m ih = refl
    went (Some t) m ih = value (has_value (as_kept e)) t _ (list_reads (kept_from (i + 1) m es) lv (at + t.0) (drop t.0 p)) (ih (at + t.0) (drop t.0 p))

    kept : (o : Option ℕ) → ((m at : ℕ) (p : List ℕ) → list_takes (kept_entries m es) p ≡ count_read (list_reads (kept_from (i + 1) m es) lv at p)) → list_takes (keep_or_drop o (kept_entries 0 es) (λ m. as_kept e ∷ kept_entries m es)) p ≡ count_read (list_reads (first_read_kept i e es o) lv at p)
    kept None ih = ih 0 at p
    kept (Some m) ih = went (taking (as_kept e) p) m (ih m)

none_from : {A : Type 0} (o : Option A) → false ≡ is_some o → o ≡ None
none_from None s = refl
none_from (Some a) s = absurd (both_ways true (sym s) refl)

some_from : {A : Type 0} (o : Option A) → true ≡ is_some o → (a : A) × (o ≡ Some a)
some_from None s = absurd (both_ways true (s) refl)
some_from (Some a) s = (a, refl)

bit_off : (v : Bool) → ◌≡◌ {A = ℕ} (cond v 1 0) 0 → v ≡ false
bit_off true e = absurd (omega arith)
bit_off false e = refl

bit_on : (v : Bool) → (◌≡◌ {A = ℕ} (cond v 1 0) 0 → ⊥) → v ≡ true
bit_on true e = refl
bit_on false e = absurd (e refl)

pub read_at : (oe : Option Entry) (es : List Entry) (i n m : ℕ) (lv at : ℕ) (p : List ℕ) (t : Taken) (next at' : ℕ) (p' : List ℕ) → Some m ≡ still_kept (means_optional oe) n → Some t ≡ meaning_takes (meaning_kept oe) p → next ≡ i + means_count oe → at' ≡ at + t.0 → p' ≡ drop t.0 p → list_reads (kept_from i n (with_entry oe es)) lv at p ≡ add_read t (value_record (means_value oe) i lv at t) (list_reads (kept_from next m es) lv at' p')
read_at oe es i n m lv at p t next at' p' h k e f g = rw (e, f, g) (read_go oe es i n m lv at p t h k)

-- What is known once the rest was read into the buffer behind the first value's record, for each way out.
module _ (whole rest : Option (ℕ × List ParamRecord)) (t : Taken) (v : Bool) (i lv at own : ℕ) (ys zs : List ParamRecord) (is : whole ≡ add_read t (value_record v i lv at t) rest) (bits : own ≡ cond v 1 0) (room : own ≤ length ys) (written : zs ≡ read_into rest (behind own ys)) where
  pub exit_none : false ≡ is_some rest → record { test : false ≡ is_some whole; written : back own ys zs ≡ read_into whole ys }
  exit_none s =
      let n : rest ≡ None = none_from rest s in
      let w : whole ≡ None = is ∙ ap (add_read t (value_record v i lv at t)) n in
      record { test = rw w; written = ap (back own ys) (written ∙ ap (λ o. read_into o (behind own ys)) n) ∙ back_same ys own room ∙ ap (λ o. read_into o ys) (sym w) }

  pub exit_same : true ≡ is_some rest → own ≡ 0 → record { test : true ≡ is_some whole; written : back own ys zs ≡ read_into whole ys }
  exit_same s z =
      let off : v ≡ false = bit_off v (sym bits ∙ z) in
      let u = some_from rest s in
      let w : whole ≡ Some (t.0 + u.0.0, u.0.1) = is ∙ ap (λ b. add_read t (value_record b i lv at t) rest) off ∙ ap (add_read t []) u.1 in
      record { test = rw w; written = ap (back own ys) (written ∙ ap (λ o. read_into o (behind own ys)) u.1) ∙ laid_before ys own room [] u.0.1 z ∙ ap (λ o. read_into o ys) (sym w) }

  pub exit_more : true ≡ is_some rest → (own ≡ 0 → ⊥) → record { test : true ≡ is_some whole; written : set (back own ys zs) 0 (record { level = lv; entry = i; start = at + t.1; len = t.2 }) ≡ read_into whole ys }
  exit_more s z =
      let on : v ≡ true = bit_on v (λ e. z (bits ∙ e)) in
      let one : own ≡ 1 = bits ∙ ap (λ b. cond b 1 0) on in
      let u = some_from rest s in
      let x : ParamRecord = record { level = lv; entry = i; start = at + t.1; len = t.2 } in
      let w : whole ≡ Some (t.0 + u.0.0, x ∷ u.0.1) = is ∙ ap (λ b. add_read t (value_record b i lv at t) rest) on ∙ ap (add_read t (x ∷ [])) u.1 in
      let sub : zs ≡ overlaid (behind own ys) u.0.1 = written ∙ ap (λ o. read_into o (behind own ys)) u.1 in
      let some : 0 < length (back own ys (overlaid (behind own ys) u.0.1)) = back_some ys own room (overlaid (behind own ys) u.0.1) (omega arith) in
      record {
        test = rw w;
        written =
            ap (λ f. set (back own ys f) 0 x) sub
            ∙ overlaid_one (back own ys (overlaid (behind own ys) u.0.1)) x some
            ∙ laid_before ys own room (x ∷ []) u.0.1 one
            ∙ ap (λ o. read_into o ys) (sym w);
      }
