-- What a match leaves, from what its parts leave: a route over what stands below it, a route over nothing, and one tree before another.
use Rattle.std.proofs.Common.{◌≡◌, ℕ, ◌+◌, ◌≤◌, Bool, true, false, ◌||◌, List, [], ◌∷◌, ◌++◌, length, drop, set, Some, None, Option, sym, refl, ap, ◌∙◌, arith, length-append}
use Rattle.rules.specs.declared.records.LevelRecord.{LevelRecord}
use Rattle.rules.specs.declared.records.ParamRecord.{ParamRecord}
use Rattle.rules.specs.Entries.{Entry, is_optional, is_bare}
use Rattle.rules.specs.Keeping.{as_kept, still_kept, keep_or_drop, kept_from}
use Rattle.rules.specs.Forests.{Route}
use Rattle.rules.specs.KeptLists.{KeptList, keeping, under}
use Rattle.rules.specs.Answers.{Answer, any_bare, part_length}
use Rattle.rules.specs.Records.{overlaid}
use Rattle.rules.specs.Steps.{and_then, kept_entries, has_bare, list_takes, list_reads, count_read, read_into, add_level, first_read, levels_after, params_after, in_use, Matched}
use Rattle.rules.specs.Choice.{or_else}
use Rattle.rules.proofs.KeptEntry.{as_kept_lem}
use Rattle.rules.proofs.Overlaid.{overlaid_room, overlaid_one, behind, back, behind_length, back_same, back_some, laid_before}
use Rattle.rules.proofs.ReadMore.{takes_read}
use Rattle.rules.proofs.FirstRead.{after, first_under}

none_of : (o : Option (ℕ × List ParamRecord)) → None ≡ count_read o → o ≡ None
none_of None h = refl
none_of (Some u) h = let z : ◌≡◌ {A = ℕ} 0 1 = cc in absurd (omega arith)

some_of : (o : Option (ℕ × List ParamRecord)) (taken values : ℕ) → Some (taken, values) ≡ count_read o → (rs : List ParamRecord) × (o ≡ Some (taken, rs)) × (length rs ≡ values)
some_of None t v h = let z : ◌≡◌ {A = ℕ} 0 1 = cc in absurd (omega arith)
some_of (Some u) t v h = let e : ◌≡◌ {A = ℕ × ℕ} (t, v) (u.0, length u.1) = cc in (u.1, ap (λ k. Some (k.0, u.1)) (sym e), sym (ap (λ k. k.1) e))

pub unused : (o : Option Answer) → None ≡ in_use o → o ≡ None
unused None h = refl
unused (Some a) h = let z : ◌≡◌ {A = ℕ} 0 1 = cc in absurd (omega arith)

pub used : (o : Option Answer) (f : ℕ × ℕ) → Some f ≡ in_use o → (a : Answer) × (o ≡ Some a) × (f ≡ (length a.levels, length a.params))
used None f h = let z : ◌≡◌ {A = ℕ} 0 1 = cc in absurd (omega arith)
used (Some a) f h = (a, refl, cc)

pub matched_none : (o : Option Answer) (ls : List LevelRecord) (ps : List ParamRecord) → o ≡ None → Matched o None ls ls ps ps
matched_none o ls ps e = record { result = rw e; levels = rw e; params = rw e }

-- a bare slash is always kept
left_none : (b : Bool) (n : ℕ) → still_kept b n ≡ None → b ≡ true
left_none true n h = refl
left_none false n h = let z : ◌≡◌ {A = ℕ} 0 1 = cc in absurd (omega arith)

pub has_bare_lem : (i n : ℕ) (es : List Entry) → any_bare (kept_from i n es) ≡ has_bare es
has_bare_lem i n [] = refl
has_bare_lem i n (e ∷ es) = go (still_kept (is_optional e) n) refl (λ m. has_bare_lem (i + 1) m es)
  where
    go : (o : Option ℕ) → still_kept (is_optional e) n ≡ o → ((m : ℕ) → any_bare (kept_from (i + 1) m es) ≡ has_bare es) → any_bare (keep_or_drop o (kept_from (i + 1) 0 es) (λ m. record { number = i; entry = as_kept e } ∷ kept_from (i + 1) m es)) ≡ (is_bare e || has_bare es)
    go None h ih = ih 0 ∙ ap (λ b. b || has_bare es) (sym ((as_kept_lem e).optional_not_bare (left_none (is_optional e) n h)))
    go (Some m) h ih = ap (λ b. b || any_bare (kept_from (i + 1) m es)) (as_kept_lem e).bare ∙ ap (λ b. is_bare e || b) (ih m)

-- A route over what stands below it, which is handed what is left of both buffers: behind the route's own record, and behind the
-- records of its values.
module _ (r : Route) (keep : ℕ) (below : List KeptList) (level at : ℕ) (path : List ℕ) (ls : List LevelRecord) (ps : List ParamRecord) where
  abbrev own : Option Answer
  own = first_read (under (keeping r keep) below) level at path

  pub keeping_none : None ≡ list_takes (kept_entries keep r.entries) path → Matched own None ls ls ps ps
  keeping_none h =
      let n = none_of (list_reads (kept_from 0 keep r.entries) level at path) (h ∙ takes_read r.entries 0 keep level at path) in
      matched_none own ls ps (first_under (keeping r keep) below level at path ∙ ap (λ o. and_then o (after (keeping r keep) below level at path)) n)

  module _ (taken values : ℕ) (took : Some (taken, values) ≡ list_takes (kept_entries keep r.entries) path) (deep : 1 ≤ length ls) (wide : values ≤ length ps) (found : Option (ℕ × ℕ)) (ls' : List LevelRecord) (ps' : List ParamRecord) (child : Matched (first_read below (level + 1) (at + taken) (drop taken path)) found (behind 1 ls) ls' (behind values ps) ps') where
    abbrev child_reads : Option Answer
    child_reads = first_read below (level + 1) (at + taken) (drop taken path)

    abbrev reads : (rs : List ParamRecord) × (list_reads (kept_from 0 keep r.entries) level at path ≡ Some (taken, rs)) × (length rs ≡ values)
    reads = some_of (list_reads (kept_from 0 keep r.entries) level at path) taken values (took ∙ takes_read r.entries 0 keep level at path)

    whole : own ≡ add_level (keeping r keep) at (taken, reads.0) child_reads
    whole = first_under (keeping r keep) below level at path ∙ ap (λ o. and_then o (after (keeping r keep) below level at path)) reads.1

    pub keeping_child_none : found ≡ None → Matched own None ls (back 1 ls ls') ps (back values ps ps')
    keeping_child_none e =
        let n = unused child_reads (sym e ∙ child.result) in
        let w : own ≡ None = whole ∙ ap (add_level (keeping r keep) at (taken, reads.0)) n in
        record {
          result = rw w;
          levels = rw w (ap (back 1 ls) (child.levels ∙ ap (λ o. levels_after o (behind 1 ls)) n) ∙ back_same ls 1 deep);
          params = rw w (ap (back values ps) (child.params ∙ ap (λ o. params_after o (behind values ps)) n) ∙ back_same ps values wide);
        }

    -- how many records the child used: they lie within what it was lent
    pub child_few : (f : ℕ × ℕ) → found ≡ Some f → length ls' ≡ length (behind 1 ls) → length ps' ≡ length (behind values ps) → (f.0 + 1 ≤ length ls) × (f.1 + values ≤ length ps)
    child_few f e same same' =
        let u = used child_reads f (sym e ∙ child.result) in
        let l = overlaid_room (behind 1 ls) u.0.levels ls' (child.levels ∙ ap (λ o. levels_after o (behind 1 ls)) u.1) same in
        let p = overlaid_room (behind values ps) u.0.params ps' (child.params ∙ ap (λ o. params_after o (behind values ps)) u.1) same' in
        (omega (arith, l, behind_length 1 ls, ap (λ k. k.0) u.2), omega (arith, p, behind_length values ps, ap (λ k. k.1) u.2))

    pub keeping_some : (f : ℕ × ℕ) (ps'' : List ParamRecord) (len : ℕ) → len ≡ part_length (has_bare r.entries) taken → found ≡ Some f → ps'' ≡ read_into (list_reads (kept_from 0 keep r.entries) level at path) (back values ps ps') → Matched own (Some (f.0 + 1, f.1 + values)) ls (set (back 1 ls ls') 0 (record { id = r.id; start = at; len = len })) ps ps''
    keeping_some f ps'' len part e read =
        let x : LevelRecord = record { id = r.id; start = at; len = len } in
        let rs = reads.0 in
        let u = used child_reads f (sym e ∙ child.result) in
        let a = u.0 in
        let w : own ≡ Some (record { levels = x ∷ a.levels; params = rs ++ a.params }) = whole ∙ ap (add_level (keeping r keep) at (taken, rs)) u.1 ∙ ap (λ n. Some (record { levels = record { id = r.id; start = at; len = n } ∷ a.levels; params = rs ++ a.params })) (sym (part ∙ ap (λ b. part_length b taken) (sym (has_bare_lem 0 keep r.entries)))) in
        let wl : ls' ≡ overlaid (behind 1 ls) a.levels = child.levels ∙ ap (λ o. levels_after o (behind 1 ls)) u.1 in
        let wp : ps' ≡ overlaid (behind values ps) a.params = child.params ∙ ap (λ o. params_after o (behind values ps)) u.1 in
        let n0 : f.0 + 1 ≡ length (x ∷ a.levels) = omega (arith, ap (λ k. k.0) u.2) in
        let n1 : f.1 + values ≡ length (rs ++ a.params) = omega (arith, ap (λ k. k.1) u.2, reads.2, length-append rs a.params) in
        record {
          result = rw w (ap (λ k. Some (k, f.1 + values)) n0 ∙ ap (λ k. Some (length (x ∷ a.levels), k)) n1);
          levels = rw w (ap (λ q. set (back 1 ls q) 0 x) wl ∙ overlaid_one (back 1 ls (overlaid (behind 1 ls) a.levels)) x (back_some ls 1 deep (overlaid (behind 1 ls) a.levels) (omega arith)) ∙ laid_before ls 1 deep (x ∷ []) a.levels refl);
          params = rw w (read ∙ ap (λ o. read_into o (back values ps ps')) reads.1 ∙ ap (λ q. overlaid (back values ps q) rs) wp ∙ laid_before ps values wide rs a.params (sym reads.2));
        }

module _ (A B whole : Option Answer) {ls ls₁ : List LevelRecord} {ps ps₁ : List ParamRecord} (is : whole ≡ or_else A B) where
  pub either_first : {f : ℕ × ℕ} → Matched A (Some f) ls ls₁ ps ps₁ → Matched whole (Some f) ls ls₁ ps ps₁
  either_first {f} m =
      let u = used A f m.result in
      let w : whole ≡ A = is ∙ ap (λ o. or_else o B) u.1 ∙ sym u.1 in
      record { result = rw w m.result; levels = rw w m.levels; params = rw w m.params }

  pub either_second : {r : Option (ℕ × ℕ)} {ls₂ : List LevelRecord} {ps₂ : List ParamRecord} → Matched A None ls ls₁ ps ps₁ → Matched B r ls₁ ls₂ ps₁ ps₂ → Matched whole r ls ls₂ ps ps₂
  either_second m n =
      let u = unused A m.result in
      let w : whole ≡ B = is ∙ ap (λ o. or_else o B) u in
      let e : ls₁ ≡ ls = m.levels ∙ ap (λ o. levels_after o ls) u in
      let f : ps₁ ≡ ps = m.params ∙ ap (λ o. params_after o ps) u in
      record { result = rw w n.result; levels = rw w (n.levels ∙ ap (levels_after B) e); params = rw w (n.params ∙ ap (params_after B) f) }

  -- the second is left to try, and nothing was changed
  pub neither_yet : Matched A None ls ls₁ ps ps₁ → (whole ≡ B) × (ls₁ ≡ ls) × (ps₁ ≡ ps)
  neither_yet m =
      let u = unused A m.result in
      (is ∙ ap (λ o. or_else o B) u, m.levels ∙ ap (λ o. levels_after o ls) u, m.params ∙ ap (λ o. params_after o ps) u)
