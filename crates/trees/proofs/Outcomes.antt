-- What match_route leaves, at each of its exits.
use Rattle.std.proofs.Common.{◌≡◌, ℕ, ◌<◌, Bool, true, false, cond, ◌&&◌, leb, ◌⊎◌, List, length, replicate, Some, None, Ok, Err, Option, Result, sym, refl, ap, ◌∙◌, subst, inl, inr, arith}
use Rattle.std.specs.Option.{ok_or}
use Rattle.std.proofs.lemmas.Bool.{both_ways, and_parts, leb-true}
use Rattle.rules.specs.declared.records.LevelRecord.{LevelRecord}
use Rattle.rules.specs.declared.records.ParamRecord.{ParamRecord}
use Rattle.rules.specs.declared.refusal.Refusal.{Refusal}
use Rattle.rules.specs.declared.refusal.Refusal.TheVariants.{LongPath, Unrooted, NoRoute}
use Rattle.rules.specs.Paths.{longest_path, rooted, lawful}
use Rattle.rules.specs.Forests.{Forest}
use Rattle.rules.specs.KeptLists.{kept}
use Rattle.rules.specs.Bounds.{Bounds, reaches}
use Rattle.rules.specs.Answers.{Answer}
use Rattle.rules.specs.Admission.{FirstAnswer, NoneSpelled}
use Rattle.rules.specs.Records.{zero_level, zero_param, padded, overlaid}
use Rattle.rules.specs.Refusals.{answered, refused, bare, told}
use Rattle.rules.specs.Steps.{first_read, levels_after, params_after, Matched}
use Rattle.rules.proofs.Admitted.{reader_admits}
use Rattle.rules.proofs.Overlaid.{overlaid_zeros}
use Rattle.rules.proofs.MatchMore.{used, unused}
use Rattle.trees.specs.Paths.{path_fault}
use Rattle.trees.specs.Routed.{Leaves, Routed}

fault_lawful : (p : List ℕ) → Ok tt ≡ path_fault p → lawful p ≡ true
fault_lawful p h = go (leb (length p) longest_path) (rooted p) h
  where
    go : (a b : Bool) → ◌≡◌ {A = Result (Unit {0}) Refusal} (Ok tt) (cond a (cond b (Ok tt) (Err Unrooted)) (Err LongPath)) → (a && b) ≡ true
    go true true h = refl
    go true false h = let z : ◌≡◌ {A = ℕ} 0 1 = cc in absurd (omega arith)
    go false b h = let z : ◌≡◌ {A = ℕ} 0 1 = cc in absurd (omega arith)

lawful_long : (p : List ℕ) → lawful p ≡ true → longest_path < length p → ⊥
lawful_long p l h = let s = leb-true (length p) longest_path (and_parts (leb (length p) longest_path) (rooted p) l).0 in omega (arith, s)

lawful_unrooted : (p : List ℕ) → lawful p ≡ true → rooted p ≡ false → ⊥
lawful_unrooted p l h = both_ways (rooted p) h (and_parts (leb (length p) longest_path) (rooted p) l).1

-- on a lawful path the reader decides
decide : (f : Forest) (p : List ℕ) → lawful p ≡ true → ((a : Answer) × FirstAnswer (kept f) p a) ⊎ NoneSpelled p (kept f)
decide f p l = go (first_read (kept f) 0 0 p) refl
  where
    go : (o : Option Answer) → first_read (kept f) 0 0 p ≡ o → ((a : Answer) × FirstAnswer (kept f) p a) ⊎ NoneSpelled p (kept f)
    go None e = inr ((reader_admits f p l).none.0 e)
    go (Some a) e = inl (a, ((reader_admits f p l).some a).0 e)

module _ (f : Forest) (b : Bounds) (p : List ℕ) (ls : List LevelRecord) (ps : List ParamRecord) where
  module _ (ok : Ok tt ≡ path_fault p) where
    -- a buffer is too short
    pub too_short : false ≡ reaches b (length ls) (length ps) → Routed f b p ls ps (refused (3, bare)) ls ps
    too_short s =
        let l = fault_lawful p ok in
        record {
          long = λ k. absurd (lawful_long p l k);
          unrooted = λ _ k. absurd (lawful_unrooted p l k);
          short = λ _ _. record { tells = refl; levels = refl; params = refl };
          admitted = λ _ k. absurd (both_ways (reaches b (length ls) (length ps)) (sym s) k);
          declined = λ _ k. absurd (both_ways (reaches b (length ls) (length ps)) (sym s) k);
          decided = decide f p;
        }

    module _ (fit : true ≡ reaches b (length ls) (length ps)) (zl : List LevelRecord) (zp : List ParamRecord) (zeros : zl ≡ replicate (length ls) zero_level) (zeros' : zp ≡ replicate (length ps) zero_param) (ls' : List LevelRecord) (ps' : List ParamRecord) where
      -- the answer of the first kept list that is spelled
      pub route_found : (u : ℕ × ℕ) → Matched (first_read (kept f) 0 0 p) (Some u) zl ls' zp ps' → Routed f b p ls ps (answered u) ls' ps'
      route_found u m =
          let l = fault_lawful p ok in
          let r = used (first_read (kept f) 0 0 p) u m.result in
          let a = r.0 in
          let eu : u ≡ (length a.levels, length a.params) = r.2 in
          let el : ls' ≡ padded a.levels zero_level (length ls) = m.levels ∙ ap (λ o. levels_after o zl) r.1 ∙ ap (λ z. overlaid z a.levels) zeros ∙ overlaid_zeros (length ls) zero_level a.levels in
          let ep : ps' ≡ padded a.params zero_param (length ps) = m.params ∙ ap (λ o. params_after o zp) r.1 ∙ ap (λ z. overlaid z a.params) zeros' ∙ overlaid_zeros (length ps) zero_param a.params in
          let leaves : Leaves (answered u) ls' ps' (answered (length a.levels, length a.params)) (padded a.levels zero_level (length ls)) (padded a.params zero_param (length ps)) = record { tells = ap answered eu; levels = el; params = ep } in
          record {
            long = λ k. absurd (lawful_long p l k);
            unrooted = λ _ k. absurd (lawful_unrooted p l k);
            short = λ _ k. absurd (both_ways (reaches b (length ls) (length ps)) k (sym fit));
            admitted = λ _ _ c h.
                let same : Some a ≡ Some c = sym r.1 ∙ ((reader_admits f p l).some c).1 h in
                let is : a ≡ c = cc in
                subst (λ x. Leaves (answered u) ls' ps' (answered (length x.levels, length x.params)) (padded x.levels zero_level (length ls)) (padded x.params zero_param (length ps))) is leaves;
            declined = λ _ _ n. let z : Some a ≡ None = sym r.1 ∙ (reader_admits f p l).none.1 n in let y : ◌≡◌ {A = ℕ} 0 1 = cc in absurd (omega arith);
            decided = decide f p;
          }

      -- no kept list is spelled
      pub route_none : Matched (first_read (kept f) 0 0 p) None zl ls' zp ps' → Routed f b p ls ps (refused (4, bare)) ls' ps'
      route_none m =
          let l = fault_lawful p ok in
          let n = unused (first_read (kept f) 0 0 p) m.result in
          record {
            long = λ k. absurd (lawful_long p l k);
            unrooted = λ _ k. absurd (lawful_unrooted p l k);
            short = λ _ k. absurd (both_ways (reaches b (length ls) (length ps)) k (sym fit));
            admitted = λ _ _ c h. let z : None ≡ Some c = sym n ∙ ((reader_admits f p l).some c).1 h in let y : ◌≡◌ {A = ℕ} 0 1 = cc in absurd (omega arith);
            declined = λ _ _ _. record { tells = refl; levels = m.levels ∙ ap (λ o. levels_after o zl) n ∙ zeros; params = m.params ∙ ap (λ o. params_after o zp) n ∙ zeros' };
            decided = decide f p;
          }

      -- what the search answers is told, or that there is nothing
      pub route_told : (o : Option (ℕ × ℕ)) (r : Result (ℕ × ℕ) Refusal) → r ≡ ok_or o NoRoute → Matched (first_read (kept f) 0 0 p) o zl ls' zp ps' → Routed f b p ls ps (told r) ls' ps'
      route_told None r e m = rw e (route_none m)
      route_told (Some u) r e m = rw e (route_found u m)
