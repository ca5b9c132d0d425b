-- The first entry at fault, step by step.
use Rattle.std.proofs.Common.{◌≡◌, ℕ, ◌+◌, ◌≤◌, ◌<◌, leb, List, length, get_or, drop, Some, None}
use Rattle.std.proofs.lemmas.List.{at_drop_more, at_drop_all}
use Rattle.std.proofs.lemmas.Bool.{cond-true, le-leb}
use Rattle.rules.specs.declared.segment.EntryPlace.{EntryPlace}
use Rattle.rules.specs.declared.refusal.Cause.TheVariants.{Count}
use Rattle.rules.specs.Choice.{or_else}
use Rattle.rules.specs.Places.{numbered_fault, first_fault, list_fault}

pub fault_at : (t : List ℕ) (es : List EntryPlace) (i : ℕ) (d : EntryPlace) → i < length es → first_fault t i (drop i es) ≡ or_else (numbered_fault t i (get_or es i d)) (first_fault t (i + 1) (drop (i + 1) es))
fault_at t es i d h = at_drop_more (first_fault t i) es i d h

pub fault_past : (t : List ℕ) (es : List EntryPlace) (i : ℕ) → length es ≤ i → first_fault t i (drop i es) ≡ None
fault_past t es i h = at_drop_all (first_fault t i) es i h

-- a list that is not too long is at fault where its first entry at fault is
pub few : (limit : ℕ) (t : List ℕ) (es : List EntryPlace) → length es ≤ limit → list_fault limit t es ≡ first_fault t 0 es
few limit t es h = cond-true (leb (length es) limit) (first_fault t 0 es) (Some (record { number = limit; cause = Count })) (le-leb (length es) limit h)

pub ruleset first_faults = (fault_at, fault_past, few)
