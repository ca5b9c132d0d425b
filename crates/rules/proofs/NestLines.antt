-- The lines and kept lists of a route over what stands below it, by their numbers.
use Rattle.std.proofs.Common.{◌≡◌, ℕ, zero, suc, ◌+◌, ◌-◌, ◌*◌, ◌/◌, ◌%◌, ◌^◌, ◌<◌, ◌≤◌, min, List, ◌∷◌, ◌++◌, length, get_or, sym, ap, ◌∙◌, subst, ⊎_elim, mod-lt, mod-eq_of_lt, div-lt_iff_lt-mul, mul-zero, arith, length-append}
use native.Mathlib.Nat.{div-eq_of_lt}
use Rattle.std.proofs.lemmas.Bool.{cases_lt}
use Rattle.rules.specs.declared.segment.PathSegment.{PathSegment}
use Rattle.rules.specs.Keeping.{optionals}
use Rattle.rules.specs.Forests.{Route}
use Rattle.rules.specs.KeptLists.{KeptRoute, KeptList, keeping, kept_over, of_line, no_list, entries_of}
use Rattle.rules.specs.Numbers.{capped}
use Rattle.rules.specs.Records.{records_of, overlaid}
use Rattle.rules.specs.Steps.{kept_entries, KeptOut}
use Rattle.rules.proofs.Overlaid.{overlaid_room, behind, back, behind_length, laid_behind}
use Rattle.rules.proofs.Capped.{capped_is, capped_one, capped_mul}
use Rattle.rules.proofs.Generated.{records_length}
use Rattle.rules.proofs.LinesMore.{records_append}
use Rattle.rules.proofs.KeptOfLine.{of_each, each_length, each_nth, kept_plainly}

-- a number of 32 bits, divided by a count or by what is told of it
capped_parts : (n c : ℕ) → n < 4294967296 → (n / capped c ≡ n / c) × (n % capped c ≡ n % c)
capped_parts n c s =
    ⊎_elim
    (λ l. (ap (λ m. n / m) (capped_is c l), ap (λ m. n % m) (capped_is c l)))
    (λ l.
    let a : n < capped c = omega arith in
    let b : n < c = omega arith in
    (div-eq_of_lt a ∙ sym (div-eq_of_lt b), mod-eq_of_lt a ∙ sym (mod-eq_of_lt b)))
    (cases_lt c 18446744073709551616)

module _ (r : Route) (ls : List KeptList) (j : ℕ) (whole : List KeptList) (is : whole ≡ kept_over r ls) where
  of_whole : of_line j whole ≡ kept_over r (of_line j ls)
  of_whole = ap (of_line j) is ∙ of_each j r (optionals r.entries) ls

  count_whole : length (of_line j whole) ≡ (optionals r.entries + 1) * length (of_line j ls)
  count_whole = ap length of_whole ∙ each_length r (optionals r.entries) (of_line j ls)

  pub nest_kept_count : (k m c res : ℕ) → k ≡ capped (optionals r.entries) → m ≡ min (k + 1) (2 ^ 64 - 1) → c ≡ capped (length (of_line j ls)) → res ≡ min (m * c) (2 ^ 64 - 1) → res ≡ capped (length (of_line j whole))
  nest_kept_count k m c res a b d e =
      let more : m ≡ capped (optionals r.entries + 1) = b ∙ ap (λ x. min (x + 1) (2 ^ 64 - 1)) a ∙ capped_one (optionals r.entries) in
      e ∙ ap (λ x. min (x * c) (2 ^ 64 - 1)) more ∙ ap (λ x. min (capped (optionals r.entries + 1) * x) (2 ^ 64 - 1)) d ∙ capped_mul (optionals r.entries) (length (of_line j ls)) ∙ ap capped (sym count_whole)

  -- the parts of a number: how many optionals are dropped, and the number below
  pub record Parts (n c : ℕ) : Type 0 where
    pub some : 0 < c
    pub few : n / c ≤ optionals r.entries
    pub below : n % c < length (of_line j ls)
    pub small : n % c < 4294967296
    pub routes_are : (get_or (of_line j whole) n no_list).routes ≡ keeping r (optionals r.entries - n / c) ∷ (get_or (of_line j ls) (n % c) no_list).routes

  pub parts : (n c : ℕ) → n < 4294967296 → c ≡ capped (length (of_line j ls)) → n < length (of_line j whole) → Parts n c
  parts n c s told h =
      let m = length (of_line j ls) in
      let positive : 0 < m = some m (omega (arith, count_whole)) in
      let both = capped_parts n m s in
      let q : n / c ≡ n / m = ap (λ x. n / x) told ∙ both.0 in
      let t : n % c ≡ n % m = ap (λ x. n % x) told ∙ both.1 in
      let few : n / m < optionals r.entries + 1 = (div-lt_iff_lt-mul positive).1 (omega (arith, count_whole)) in
      let low : n % m < m = mod-lt n positive in
      record {
        some = omega arith;
        few = omega (arith, q, few);
        below = omega (arith, t, low);
        small = omega (arith, t, mod_small n m positive s);
        routes_are =
            ap (λ x. (get_or x n no_list).routes) of_whole
            ∙ ap (λ (x : KeptList). x.routes) (each_nth r (optionals r.entries) (of_line j ls) n positive (omega (arith, h, ap length of_whole)))
            ∙ ap (λ x. keeping r (optionals r.entries - x) ∷ (get_or (of_line j ls) (n % m) no_list).routes) (sym q)
            ∙ ap (λ x. keeping r (optionals r.entries - n / c) ∷ (get_or (of_line j ls) x no_list).routes) (sym t);
      }
    where
      some : (m : ℕ) → n < (optionals r.entries + 1) * m → 0 < m
      some zero l = absurd (omega (arith, mul-zero (optionals r.entries + 1)))
      some (suc m) l = omega arith

      mod_small : (n m : ℕ) → 0 < m → n < 4294967296 → n % m < 4294967296
      mod_small n m p s = ⊎_elim (λ l. omega (arith, mod-eq_of_lt l)) (λ l. omega (arith, mod-lt n p)) (cases_lt n m)

-- a route's kept entries, and then those below it, behind them in the buffer
module _ (r : Route) (keep : ℕ) (ks : List KeptRoute) (own res : ℕ) (es es₁ es₂ : List PathSegment) (count : own ≡ length (kept_entries keep r.entries)) (written : es₁ ≡ overlaid es (records_of (kept_entries keep r.entries))) (within : own ≤ length es₁) (below : KeptOut ks res (behind own es₁) es₂) where
  pub kept_within : length es₂ ≡ length (behind own es₁) → own + res ≤ length es₁
  kept_within s = omega (arith, within, below.count, records_length (entries_of ks), overlaid_room (behind own es₁) (records_of (entries_of ks)) es₂ below.entries s, behind_length own es₁)

  pub kept_out : KeptOut (keeping r keep ∷ ks) (own + res) es (back own es₁ es₂)
  kept_out =
      let mine = kept_entries keep r.entries in
      let all : mine ++ entries_of ks ≡ entries_of (keeping r keep ∷ ks) = ap (λ x. x ++ entries_of ks) (sym (kept_plainly 0 keep r.entries)) in
      record {
        count = omega (arith, below.count, count, length-append mine (entries_of ks)) ∙ ap length all;
        entries =
            ap (back own es₁) below.entries
            ∙ laid_behind es es₁ (records_of mine) (records_of (entries_of ks)) own (count ∙ sym (records_length mine)) within written
            ∙ ap (overlaid es) (sym (records_append mine (entries_of ks)) ∙ ap records_of all);
      }

-- the same kept list under another description
pub kept_as : {ks js : List KeptRoute} {r : ℕ} {es es' : List PathSegment} → ks ≡ js → KeptOut js r es es' → KeptOut ks r es es'
kept_as {ks} {js} {r} {es} {es'} s k = subst (λ x. KeptOut x r es es') (sym s) k
