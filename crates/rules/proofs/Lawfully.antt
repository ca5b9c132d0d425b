-- Lawful entries, put together.
use Rattle.std.proofs.Common.{◌≡◌, true, ◌&&◌, List, [], ◌∷◌, Some, None, Option, refl}
use Rattle.std.proofs.lemmas.Bool.{and_from, and_parts}
use Rattle.rules.specs.Entries.{Entry, lawful_entry, lawful_entries, lawful_meaning, with_entry}
use Rattle.rules.specs.Forests.{Route, Forest, none, leaf, nest, beside, forest_of, lawful_forest}

pub with_lawful : (o : Option Entry) (es : List Entry) → lawful_meaning o ≡ true → lawful_entries es ≡ true → lawful_entries (with_entry o es) ≡ true
with_lawful None es h k = k
with_lawful (Some e) es h k = and_from (lawful_entry e) (lawful_entries es) h k

pub leaf_lawful : (r : Route) → lawful_entries r.entries ≡ true → lawful_forest (leaf r none) ≡ true
leaf_lawful r h = and_from (lawful_entries r.entries) true h refl

pub nest_lawful : (r : Route) (f : Forest) → lawful_entries r.entries ≡ true → lawful_forest f ≡ true → lawful_forest (nest r f none) ≡ true
nest_lawful r f h k = and_from (lawful_entries r.entries) (lawful_forest f && true) h (and_from (lawful_forest f) true k refl)

pub beside_lawful : (f g : Forest) → lawful_forest f ≡ true → lawful_forest g ≡ true → lawful_forest (beside f g) ≡ true
beside_lawful none g h k = k
beside_lawful (leaf r f) g h k =
    let p = and_parts (lawful_entries r.entries) (lawful_forest f) h in
    and_from (lawful_entries r.entries) (lawful_forest (beside f g)) p.0 (beside_lawful f g p.1 k)
beside_lawful (nest r c f) g h k =
    let p = and_parts (lawful_entries r.entries) (lawful_forest c && lawful_forest f) h in
    let q = and_parts (lawful_forest c) (lawful_forest f) p.1 in
    and_from (lawful_entries r.entries) (lawful_forest c && lawful_forest (beside f g)) p.0 (and_from (lawful_forest c) (lawful_forest (beside f g)) q.0 (beside_lawful f g q.1 k))

pub row_lawful : {X : Type 0} (f : X → Forest) → ((x : X) → lawful_forest (f x) ≡ true) → (xs : List X) → lawful_forest (forest_of f xs) ≡ true
row_lawful f h [] = refl
row_lawful f h (x ∷ xs) = beside_lawful (f x) (forest_of f xs) (h x) (row_lawful f h xs)
