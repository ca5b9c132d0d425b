-- The first entry of a list: how many choices it has, which of them a number takes, and what is left for the others.
use Rattle.std.proofs.Common.{◌≡◌, ℕ, zero, suc, ◌+◌, ◌-◌, ◌*◌, ◌/◌, ◌%◌, ◌<◌, ◌≤◌, min, Bool, true, false, not, ◌&&◌, List, [], ◌∷◌, ◌++◌, length, get_or, take, drop, None, sym, refl, ap, ◌∙◌, subst, ⊎_elim, mul-le-mul_right, mod-lt, mul_assoc, mul_comm, mul-zero, zero-mul, arith, length-drop}
use native.Mathlib.Nat.{mul-div_cancel_left}
use Rattle.std.proofs.lemmas.List.{take_rest, at_drop_more}
use Rattle.std.proofs.lemmas.Bool.{cases_lt, both_ways}
use Rattle.rules.specs.declared.segment.SegmentKind.{SegmentKind}
use Rattle.rules.specs.declared.segment.SegmentKind.TheVariants.{Unit as AUnit, Static, Param, OptionalParam, Splat}
use Rattle.rules.specs.declared.segment.EntryPlace.{EntryPlace}
use Rattle.rules.specs.declared.values.ValueRecord.{ValueRecord}
use Rattle.rules.specs.Entries.{Entry}
use Rattle.rules.specs.Places.{entry_of, entry_at, entries_in}
use Rattle.rules.specs.Records.{kind_has_value}
use Rattle.rules.specs.Values.{named_from, somes, choices_for, path_choices, value_of, values_of, path_values}
use Rattle.rules.specs.Writing.{all_silent, bytes_of, bytes_at, ends_slash, written_after}
use Rattle.rules.proofs.Chosen.{each_length, each_nth, others_there, quotient_below}

-- what is read past the end of a list
abbrev pub no_place : EntryPlace
no_place = record { kind = AUnit; place = record { start = 0; len = 0 } }

pub front_rest : (ps : List EntryPlace) → 1 ≤ length ps → ps ≡ get_or ps 0 no_place ∷ take (length ps - 1) (drop 1 ps)
front_rest [] h = absurd (omega arith)
front_rest (p ∷ ps) h = ap (λ r. p ∷ r) (sym (take_rest (p ∷ ps) 1))

-- the choices of an entry with a value are the records of its name
pub valued : (text : List ℕ) (rs : List ValueRecord) (name : List ℕ) (k : SegmentKind) → kind_has_value k ≡ true → choices_for text rs (entry_of k name) ≡ somes (named_from text name 0 rs)
valued text rs name AUnit h = absurd (both_ways false refl h)
valued text rs name Static h = absurd (both_ways false refl h)
valued text rs name Param h = refl
valued text rs name OptionalParam h = refl
valued text rs name Splat h = refl

-- counts that stop at 65,536
pub capped_more : (count own rest next : ℕ) → next ≡ min (min (count * own) 18446744073709551615) 65536 → min (next * rest) 65536 ≡ min (count * (own * rest)) 65536
capped_more count own rest next h = ⊎_elim few many (cases_lt (count * own) 65536)
  where
    few : count * own < 65536 → min (next * rest) 65536 ≡ min (count * (own * rest)) 65536
    few lt = ap (λ n. min (n * rest) 65536) (omega (arith, h)) ∙ ap (λ n. min n 65536) (mul_assoc count own rest)

    none : rest ≡ 0 → 65536 ≤ count * own → min (next * rest) 65536 ≡ min (count * (own * rest)) 65536
    none z le = ap (λ n. min (next * n) 65536) z ∙ ap (λ n. min n 65536) (mul-zero next) ∙ sym (ap (λ n. min (count * (own * n)) 65536) z ∙ ap (λ n. min (count * n) 65536) (mul-zero own) ∙ ap (λ n. min n 65536) (mul-zero count))

    some : 0 < rest → 65536 ≤ count * own → min (next * rest) 65536 ≡ min (count * (own * rest)) 65536
    some pos le =
        let full : next ≡ 65536 = omega (arith, h) in
        let a : 1 * 65536 ≤ rest * 65536 = mul-le-mul_right 65536 pos in
        let b : next * rest ≡ rest * 65536 = ap (λ n. n * rest) full ∙ mul_comm 65536 rest in
        let c : 65536 * rest ≤ count * own * rest = mul-le-mul_right rest le in
        let d = mul_assoc count own rest in
        let e = mul_comm 65536 rest in
        omega (arith, a, b, c, d, e)

    many : 65536 ≤ count * own → min (next * rest) 65536 ≡ min (count * (own * rest)) 65536
    many le = ⊎_elim (λ z. none (omega arith) le) (λ p. some (omega arith) le) (cases_lt rest 1)

pub choices_at : (text : List ℕ) (ps : List EntryPlace) (vt : List ℕ) (rs : List ValueRecord) (i own : ℕ) (e : Entry) → i < length ps → e ≡ entry_at text (get_or ps i no_place) → own ≡ length (choices_for vt rs e) → length (path_choices vt rs (entries_in text (drop i ps))) ≡ own * length (path_choices vt rs (entries_in text (drop (i + 1) ps)))
choices_at text ps vt rs i own e h n o =
    let rest = path_choices vt rs (entries_in text (drop (i + 1) ps)) in
    at_drop_more (λ qs. length (path_choices vt rs (entries_in text qs))) ps i no_place h
    ∙ each_length (choices_for vt rs (entry_at text (get_or ps i no_place))) rest
    ∙ ap (λ x. length (choices_for vt rs x) * length rest) (sym n)
    ∙ ap (λ k. k * length rest) (sym o)

-- what a number chooses for the first entry, and leaves for the others
pub record Chooses (text : List ℕ) (ps : List EntryPlace) (vt : List ℕ) (rs : List ValueRecord) (n total own : ℕ) (e : Entry) (rest : List EntryPlace) : Type 0 where
  pub left_pos : 0 < total / own
  pub left : total / own ≡ length (path_choices vt rs (entries_in text rest))
  pub chosen : n / (total / own) < own
  pub others : n % (total / own) < total / own
  pub entries : entries_in text ps ≡ e ∷ entries_in text rest
  pub values : path_values vt rs (entries_in text ps) n ≡ value_of vt rs (get_or (choices_for vt rs e) (n / (total / own)) None) ∷ path_values vt rs (entries_in text rest) (n % (total / own))

pos_left : (a b n : ℕ) → n < a * b → 0 < a
pos_left zero b n h = absurd (omega (arith, h, zero-mul b))
pos_left (suc a) b n h = omega arith

pub chooses : (text : List ℕ) (ps : List EntryPlace) (vt : List ℕ) (rs : List ValueRecord) (n total own : ℕ) (e : Entry) → 1 ≤ length ps → e ≡ entry_at text (get_or ps 0 no_place) → own ≡ length (choices_for vt rs e) → total ≡ length (path_choices vt rs (entries_in text ps)) → n < total → Chooses text ps vt rs n total own e (take (length ps - 1) (drop 1 ps))
chooses text ps vt rs n total own e h hn ho ht hm =
    let rest = take (length ps - 1) (drop 1 ps) in
    let es = entries_in text rest in
    let cs = choices_for vt rs e in
    let yss = path_choices vt rs es in
    let L = length yss in
    let split : entries_in text ps ≡ e ∷ es = ap (entries_in text) (front_rest ps h) ∙ ap (λ x. x ∷ es) (sym hn) in
    let long : total ≡ own * L = ht ∙ ap (λ xs. length (path_choices vt rs xs)) split ∙ each_length cs yss ∙ ap (λ k. k * L) (sym ho) in
    let lt : n < own * L = omega (arith, long, hm) in
    let pos : 0 < L = others_there own L n lt in
    let apos : 0 < own = pos_left own L n lt in
    let left : total / own ≡ L = ap (λ k. k / own) long ∙ mul-div_cancel_left L apos in
    let nth : get_or (path_choices vt rs (e ∷ es)) n [] ≡ get_or cs (n / L) None ∷ get_or yss (n % L) [] = each_nth None cs yss n pos (subst (λ k. n < k) (ap (λ k. k * L) ho ∙ sym (each_length cs yss)) lt) in
    record {
      left_pos = omega (arith, left, pos);
      left = left;
      chosen = subst (λ k. n / k < own) (sym left) (quotient_below own L n pos lt);
      others = subst (λ k. n % k < k) (sym left) (mod-lt n pos);
      entries = split;
      values =
          ap (λ xs. values_of vt rs (get_or (path_choices vt rs xs) n [])) split
          ∙ ap (values_of vt rs) nth
          ∙ ap (λ k. value_of vt rs (get_or cs (n / k) None) ∷ values_of vt rs (get_or yss (n % k) [])) (sym left);
    }

-- what is written: the first entry's bytes, and those of the others
pub writes : (text : List ℕ) (ps : List EntryPlace) (vt : List ℕ) (rs : List ValueRecord) (n total own : ℕ) (e : Entry) (ended ends due : Bool) (value b : List ℕ) → 1 ≤ length ps → e ≡ entry_at text (get_or ps 0 no_place) → own ≡ length (choices_for vt rs e) → total ≡ length (path_choices vt rs (entries_in text ps)) → n < total → value ≡ value_of vt rs (get_or (choices_for vt rs e) (n / (total / own)) None) → due ≡ (all_silent (entries_in text (take (length ps - 1) (drop 1 ps))) && not ended) → b ≡ bytes_of e value due → ends ≡ ends_slash ended b → written_after ended (entries_in text ps) (path_values vt rs (entries_in text ps) n) ≡ b ++ written_after ends (entries_in text (take (length ps - 1) (drop 1 ps))) (path_values vt rs (entries_in text (take (length ps - 1) (drop 1 ps))) (n % (total / own)))
writes text ps vt rs n total own e ended ends due value b h hn ho ht hm hv hd hb he =
    let c = chooses text ps vt rs n total own e h hn ho ht hm in
    let es = entries_in text (take (length ps - 1) (drop 1 ps)) in
    let vs = path_values vt rs es (n % (total / own)) in
    let first : bytes_at ended e es (value_of vt rs (get_or (choices_for vt rs e) (n / (total / own)) None)) ≡ b = ap (λ v. bytes_of e v (all_silent es && not ended)) (sym hv) ∙ ap (bytes_of e value) (sym hd) ∙ sym hb in
    ap (λ xs. written_after ended xs (path_values vt rs (entries_in text ps) n)) c.entries
    ∙ ap (written_after ended (e ∷ es)) c.values
    ∙ ap (λ x. x ++ written_after (ends_slash ended x) es vs) first
    ∙ ap (λ x. b ++ written_after x es vs) (sym he)

-- the others are fewer by one
pub fewer : (ps : List EntryPlace) → 1 ≤ length ps → length (take (length ps - 1) (drop 1 ps)) < length ps
fewer ps h = omega (arith, ap length (take_rest ps 1), length-drop 1 ps)
