-- A lawful text of a kind, its record, and the entry that the record gives out.
use Rattle.std.proofs.Common.{◌≡◌, ℕ, ◌-◌, ◌≤◌, true, false, List, length, take, replicate, None, sym, refl, ap, ◌∙◌, subst, arith}
use Rattle.std.proofs.lemmas.List.{take_at, take_all}
use Rattle.std.proofs.lemmas.Bool.{both_ways}
use Rattle.std.proofs.lemmas.Bool.Decides.{nat_tests}
use Rattle.rules.specs.declared.segment.PathSegment.{PathSegment}
use Rattle.rules.specs.declared.segment.SegmentKind.{SegmentKind}
use Rattle.rules.specs.declared.segment.SegmentKind.TheVariants.{Unit as AUnit, Static, Param, OptionalParam, Splat}
use Rattle.rules.specs.Entries.{longest_text, lawful_text, lawful_name, lawful_entry}
use Rattle.rules.specs.Records.{record_with, record_of, text_in}
use Rattle.rules.specs.Places.{entry_of, entry_in, text_fault, name_fault, kind_fault, is_unit}

lawful_text_lem : (t : List ℕ) → text_fault t ≡ None → lawful_text t ≡ true
lawful_text_lem t h = grind (arith, nat_tests)

lawful_name_lem : (t : List ℕ) → name_fault t ≡ None → lawful_name t ≡ true
lawful_name_lem t h = grind (arith, nat_tests)

-- a kind's text that is not at fault is lawful
pub fault_lawful : (k : SegmentKind) (t : List ℕ) → kind_fault k t ≡ None → lawful_entry (entry_of k t) ≡ true
fault_lawful AUnit t h = refl
fault_lawful Static t h = lawful_text_lem t h
fault_lawful Param t h = lawful_name_lem t h
fault_lawful OptionalParam t h = lawful_name_lem t h
fault_lawful Splat t h = lawful_name_lem t h

pub text_short : (t : List ℕ) → lawful_text t ≡ true → length t ≤ longest_text
text_short t h = grind (arith, nat_tests)

name_short : (t : List ℕ) → lawful_name t ≡ true → length t ≤ longest_text
name_short t h = grind (arith, nat_tests)

pub lawful_short : (k : SegmentKind) (t : List ℕ) → is_unit k ≡ false → lawful_entry (entry_of k t) ≡ true → length t ≤ longest_text
lawful_short AUnit t u h = absurd (both_ways true u refl)
lawful_short Static t u h = text_short t h
lawful_short Param t u h = name_short t h
lawful_short OptionalParam t u h = name_short t h
lawful_short Splat t u h = name_short t h

record_is : (k : SegmentKind) (t : List ℕ) → is_unit k ≡ false → record_with k t ≡ record_of (entry_of k t)
record_is AUnit t u = absurd (both_ways true u refl)
record_is Static t u = refl
record_is Param t u = refl
record_is OptionalParam t u = refl
record_is Splat t u = refl

-- a record is whole where it is that of the entry that it gives out, and this is lawful
pub record Whole (s : PathSegment) : Type 0 where
  pub short : s.len ≤ longest_text
  pub whole : s ≡ record_of (entry_in s)
  pub lawful : lawful_entry (entry_in s) ≡ true

pub record_whole : (k : SegmentKind) (t : List ℕ) (s : PathSegment) → is_unit k ≡ false → kind_fault k t ≡ None → s ≡ record_with k (take longest_text t) → Whole s × (entry_in s ≡ entry_of k t)
record_whole k t s u h e =
    let l = fault_lawful k t h in
    let n = lawful_short k t u l in
    let a : take longest_text t ≡ t = take_all longest_text t n in
    let r : s ≡ record_with k t = e ∙ ap (record_with k) a in
    let x : entry_in (record_with k t) ≡ entry_of k t = ap (entry_of k) (take_at t (replicate (longest_text - length t) 0) (length t) refl) in
    let w : Whole (record_with k t) = record { short = n; whole = record_is k t u ∙ ap record_of (sym x); lawful = ap lawful_entry x ∙ l } in
    (subst Whole (sym r) w, ap entry_in r ∙ x)

-- a record of a known kind is lawful as that kind's text
pub lawful_by_kind : (s : PathSegment) (k : SegmentKind) → s.kind ≡ k → lawful_entry (entry_in s) ≡ true → lawful_entry (entry_of k (text_in s)) ≡ true
lawful_by_kind s k e l = rw e at l
