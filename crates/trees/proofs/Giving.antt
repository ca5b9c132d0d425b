-- What the calls that give out lines and kept lists leave, from what their steps leave.
use Rattle.std.proofs.Common.{◌≡◌, ℕ, ◌<◌, Bool, true, false, cond, ◌&&◌, leb, List, length, get_or, replicate, Some, None, Option, sym, refl, ap, ◌∙◌, subst, arith}
use Rattle.std.proofs.lemmas.Bool.{both_ways, and_from}
use Rattle.rules.specs.declared.segment.PathSegment.{PathSegment}
use Rattle.rules.specs.declared.records.LineRecord.{LineRecord}
use Rattle.rules.specs.declared.records.LevelRecord.{LevelRecord}
use Rattle.rules.specs.declared.records.ParamRecord.{ParamRecord}
use Rattle.rules.specs.Paths.{lawful}
use Rattle.rules.specs.Forests.{Forest}
use Rattle.rules.specs.Lines.{Line, line_record, no_line, lines}
use Rattle.rules.specs.KeptLists.{kept, of_line, no_list, entries_of}
use Rattle.rules.specs.Bounds.{Bounds, reaches}
use Rattle.rules.specs.Records.{records_of, zero_segment, padded, overlaid}
use Rattle.rules.specs.Refusals.{answered}
use Rattle.rules.specs.Steps.{first_read, Matched, in_use, levels_after, params_after, GivenOut, KeptOut}
use Rattle.rules.proofs.Admitted.{reader_admits}
use Rattle.rules.proofs.Overlaid.{overlaid_zeros}
use Rattle.trees.specs.Lined.{holds_line, LineLeft, Lined, KeptGiven}
use Rattle.trees.specs.Routed.{Nested}

-- the rest that is a whole path
pub rest_whole : (p q : List ℕ) (n : ℕ) → ◌≡◌ {A = Option (ℕ × List ℕ)} (Some (n, q)) (cond (lawful p) (Some (0, p)) None) → (lawful p ≡ true) × (n ≡ 0) × (q ≡ p)
rest_whole p q n h = go (lawful p) h
  where
    go : (b : Bool) → ◌≡◌ {A = Option (ℕ × List ℕ)} (Some (n, q)) (cond b (Some (0, p)) None) → (b ≡ true) × (n ≡ 0) × (q ≡ p)
    go true h = let e : ◌≡◌ {A = ℕ × List ℕ} (n, q) (0, p) = cc in (refl, ap (λ k. k.0) e, ap (λ k. k.1) e)
    go false h = let z : ◌≡◌ {A = ℕ} 0 1 = cc in absurd (omega arith)

-- records over a buffer of zeros
over_zeros : {A : Type 0} (n : ℕ) (z : A) (zs ys xs : List A) → zs ≡ replicate n z → ys ≡ overlaid zs xs → ys ≡ padded xs z n
over_zeros n z zs ys xs h w = w ∙ ap (λ b. overlaid b xs) h ∙ overlaid_zeros n z xs

pub kept_found : (f : Forest) (b : Bounds) (j n : ℕ) (es zs es' : List PathSegment) (r : ℕ) → leb b.entries (length es) ≡ true → j < length (lines f) → n < length (of_line j (kept f)) → zs ≡ replicate (length es) zero_segment → KeptOut (get_or (of_line j (kept f)) n no_list).routes r zs es' → KeptGiven f b j n es (answered r) es'
kept_found f b j n es zs es' r fit there kept_there zeros k =
    let ks = (get_or (of_line j (kept f)) n no_list).routes in
    record {
      short = λ s. absurd (both_ways (leb b.entries (length es)) s fit);
      missing = λ _ m. absurd (omega arith);
      unkept = λ _ _ m. absurd (omega arith);
      found = λ _ _ _. (ap answered k.count, over_zeros (length es) zero_segment zs es' (records_of (entries_of ks)) zeros k.entries);
    }

pub line_found : (f : Forest) (b : Bounds) (n : ℕ) (is zi is' : List ℕ) (es ze es' : List PathSegment) (hs zh hs' : List ℕ) (r : LineRecord) → holds_line b (length is) (length es) (length hs) ≡ true → n < length (lines f) → zi ≡ replicate (length is) 0 → ze ≡ replicate (length es) zero_segment → zh ≡ replicate (length hs) 0 → GivenOut (get_or (lines f) n no_line) r zi is' ze es' zh hs' → Lined f b n is es hs (answered r) is' es' hs'
line_found f b n is zi is' es ze es' hs zh hs' r fit there a b' c g =
    record {
      short = λ s. absurd (both_ways (holds_line b (length is) (length es) (length hs)) s fit);
      missing = λ _ m. absurd (omega arith);
      found = λ _ _ l e. subst (λ x. LineLeft (answered r) is' es' hs' (answered (line_record x)) (padded x.ids 0 (length is)) (padded (records_of x.entries) zero_segment (length es)) (padded x.hooks 0 (length hs))) (sym e) (left (get_or (lines f) n no_line) g);
    }
  where
    left : (l : Line) → GivenOut l r zi is' ze es' zh hs' → LineLeft (answered r) is' es' hs' (answered (line_record l)) (padded l.ids 0 (length is)) (padded (records_of l.entries) zero_segment (length es)) (padded l.hooks 0 (length hs))
    left l g =
        record {
          tells = ap answered g.counts;
          ids = over_zeros (length is) 0 zi is' l.ids a g.ids;
          entries = over_zeros (length es) zero_segment ze es' (records_of l.entries) b' g.entries;
          hooks = over_zeros (length hs) 0 zh hs' l.hooks c g.hooks;
        }

pub nested_found : (f : Forest) (b : Bounds) (p : List ℕ) (ls ls' : List LevelRecord) (ps ps' : List ParamRecord) (r : Option (ℕ × ℕ)) → lawful p ≡ true → reaches b (length ls) (length ps) ≡ true → Matched (first_read (kept f) 0 0 p) r ls ls' ps ps' → Nested f b p ls ps r ls' ps'
nested_found f b p ls ls' ps ps' r l fit m =
    record {
      unfit = λ u. absurd (both_ways (lawful p && reaches b (length ls) (length ps)) u (and_from (lawful p) (reaches b (length ls) (length ps)) l fit));
      admitted = λ _ _ a h.
          let is = ((reader_admits f p l).some a).1 h in
          (m.result ∙ ap in_use is, m.levels ∙ ap (λ o. levels_after o ls) is, m.params ∙ ap (λ o. params_after o ps) is);
      declined = λ _ _ n.
          let is = (reader_admits f p l).none.1 n in
          (m.result ∙ ap in_use is, m.levels ∙ ap (λ o. levels_after o ls) is, m.params ∙ ap (λ o. params_after o ps) is);
    }
