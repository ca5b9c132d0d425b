-- The records of a table: the first at fault, those of a name, and the values that they give.
use Rattle.std.proofs.Common.{◌≡◌, ℕ, zero, suc, ◌+◌, Bool, true, false, cond, ◌||◌, List, [], ◌∷◌, ◌++◌, length, get_or, filter, map, unwrap_or, Some, None, Option, refl, sym, ap, ◌∙◌, append_assoc, length-append}
use denote.Ref.{Bor}
use Rattle.std.specs.Str.{bytes_eq}
use Rattle.std.proofs.Math.Seq.{get_or-append_seam}
use Rattle.std.proofs.lemmas.List.Sums.{length-filter}
use Rattle.std.specs.List.{count_by, position, position_from, slice_get}
use Rattle.std.proofs.lemmas.Iterator.Adapters.{position_from-zero}
use Rattle.std.specs.Option.{option_map}
use Rattle.rules.specs.declared.values.ValueRecord.{ValueRecord}
use Rattle.rules.specs.declared.refusal.EntryFault.{EntryFault}
use Rattle.rules.specs.declared.refusal.Cause.TheVariants.{Place}
use Rattle.rules.specs.TextParts.{bytes_in, outside}
use Rattle.rules.specs.Values.{value_fault, named_from, somes, value_of, no_value}

fault_first : (text : List ℕ) (i : ℕ) (rs : List ValueRecord) → option_map (λ n. record { number = n; cause = Place }) (position_from (λ r. outside text r.name || outside text r.value) i rs) ≡ value_fault text i rs
fault_first text i [] = refl
fault_first text i (r ∷ rs) = step (outside text r.name || outside text r.value) _ _ (fault_first text (i + 1) rs)
  where
    told : Option ℕ → Option EntryFault
    told o = option_map (λ n. record { number = n; cause = Place }) o

    step : (b : Bool) (o : Option ℕ) (f : Option EntryFault) → told o ≡ f → told (cond b (Some i) o) ≡ cond b (Some (record { number = i; cause = Place })) f
    step true o f e = refl
    step false o f e = e

-- what the place of the first record at fault tells
pub fault_at : (text : List ℕ) (rs : List ValueRecord) (o : Option ℕ) → o ≡ position (λ r. outside text r.name || outside text r.value) rs → option_map (λ n. record { number = n; cause = Place }) o ≡ value_fault text 0 rs
fault_at text rs o e = ap (option_map (λ n. record { number = n; cause = Place })) (e ∙ position_from-zero _ rs) ∙ fault_first text 0 rs

named_are : (text name : List ℕ) (i : ℕ) (rs : List ValueRecord) → length (filter (λ r. bytes_eq (bytes_in text r.name) name) rs) ≡ length (named_from text name i rs)
named_are text name i [] = refl
named_are text name i (r ∷ rs) = step (bytes_eq (bytes_in text r.name) name) (named_are text name (i + 1) rs)
  where
    xs : List ValueRecord
    xs = filter (λ s. bytes_eq (bytes_in text s.name) name) rs

    ns : List ℕ
    ns = named_from text name (i + 1) rs

    step : (b : Bool) → length xs ≡ length ns → length (cond b (r ∷ xs) xs) ≡ length (cond b (i ∷ ns) ns)
    step true e = ap suc e
    step false e = e

pub named_count : (text name : List ℕ) (rs : List ValueRecord) → count_by (λ r. bytes_eq (bytes_in text r.name) name) rs ≡ length (named_from text name 0 rs)
named_count text name rs = sym (length-filter (λ r. bytes_eq (bytes_in text r.name) name) rs) ∙ named_are text name 0 rs

-- the values of the records of a name
abbrev pub values_named : List ℕ → List ℕ → List ValueRecord → List (List ℕ)
values_named text name rs = map (λ r. bytes_in text r.value) (filter (λ r. bytes_eq (bytes_in text r.name) name) rs)

named_values : (text name : List ℕ) (pre rs : List ValueRecord) (n : ℕ) → value_of text (pre ++ rs) (get_or (somes (named_from text name (length pre) rs)) n None) ≡ unwrap_or (slice_get (values_named text name rs) n) []
named_values text name pre [] n = refl
named_values text name pre (r ∷ rs) n = step (bytes_eq (bytes_in text r.name) name) n (λ k. named_values text name (pre ++ (r ∷ [])) rs k)
  where
    all : List ValueRecord
    all = pre ++ (r ∷ rs)

    xs : List ValueRecord
    xs = filter (λ s. bytes_eq (bytes_in text s.name) name) rs

    value : ℕ → ℕ → List ℕ
    value i n = value_of text all (get_or (somes (named_from text name i rs)) n None)

    rest : (n : ℕ) → value_of text ((pre ++ (r ∷ [])) ++ rs) (get_or (somes (named_from text name (length (pre ++ (r ∷ []))) rs)) n None) ≡ unwrap_or (slice_get (values_named text name rs) n) [] → value (length pre + 1) n ≡ unwrap_or (slice_get (values_named text name rs) n) []
    rest n h = ap (λ i. value i n) (sym (length-append pre (r ∷ []))) ∙ ap (λ ys. value_of text ys (get_or (somes (named_from text name (length (pre ++ (r ∷ []))) rs)) n None)) (sym (append_assoc pre (r ∷ []) rs)) ∙ h

    step : (b : Bool) (n : ℕ) → ((k : ℕ) → value_of text ((pre ++ (r ∷ [])) ++ rs) (get_or (somes (named_from text name (length (pre ++ (r ∷ []))) rs)) k None) ≡ unwrap_or (slice_get (values_named text name rs) k) []) → value_of text all (get_or (somes (cond b (length pre ∷ named_from text name (length pre + 1) rs) (named_from text name (length pre + 1) rs))) n None) ≡ unwrap_or (slice_get (map (λ s. bytes_in text s.value) (cond b (r ∷ xs) xs)) n) []
    step true zero h = ap (λ s. bytes_in text s.value) (get_or-append_seam pre r rs no_value)
    step true (suc n) h = rest n (h n)
    step false n h = rest n (h n)

-- the value of the n-th record of a name, or none
pub nth_named : (text name : List ℕ) (rs : List ValueRecord) (n : ℕ) (o : Option (Bor (List ℕ))) (d : Bor (List ℕ)) → option_map (λ x. x.now) o ≡ slice_get (values_named text name rs) n → d.now ≡ [] → (unwrap_or o d).now ≡ value_of text rs (get_or (somes (named_from text name 0 rs)) n None)
nth_named text name rs n o d e h = read o ∙ ap (λ p. unwrap_or p []) e ∙ sym (named_values text name [] rs n)
  where
    read : (o : Option (Bor (List ℕ))) → (unwrap_or o d).now ≡ unwrap_or (option_map (λ x. x.now) o) []
    read None = h
    read (Some x) = refl
