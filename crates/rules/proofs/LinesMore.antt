-- Lines, by how a forest is put together.
use Rattle.std.proofs.Common.{◌≡◌, ℕ, zero, suc, ◌+◌, ◌<◌, ◌≤◌, Bool, true, false, cond, not, ◌&&◌, eqb, List, [], ◌∷◌, ◌++◌, length, get_or, set, sym, refl, ap, ◌∙◌, subst, arith, length-set}
use Rattle.std.proofs.lemmas.List.{append_assoc, append-nil, length-append}
use Rattle.rules.specs.declared.mode.SsrMode.{SsrMode}
use Rattle.rules.specs.declared.mode.SsrMode.TheVariants.{OutOfOrder, PartiallyBlocked, InOrder, Async, Static}
use Rattle.rules.specs.declared.segment.PathSegment.{PathSegment}
use Rattle.rules.specs.declared.records.LineRecord.{LineRecord}
use Rattle.rules.specs.Modes.{is_static, higher}
use Rattle.rules.specs.Forests.{Route, Forest, none, leaf, nest, beside}
use Rattle.rules.specs.Lines.{Line, no_line, hooks_of, line_of, line_under, lines_under, lines}
use Rattle.rules.specs.Entries.{Entry}
use Rattle.rules.specs.Records.{record_of, records_of, overlaid}
use Rattle.rules.specs.Steps.{GivenOut}
use Rattle.rules.proofs.Generated.{records_length}
use Rattle.rules.proofs.Overlaid.{overlaid_room, overlaid_one, behind, back, behind_length, laid_behind}

pub under_length : (r : Route) (ls : List Line) → length (lines_under r ls) ≡ length ls
under_length r [] = refl
under_length r (l ∷ ls) = ap suc (under_length r ls)

under_append : (r : Route) (ls ms : List Line) → lines_under r (ls ++ ms) ≡ lines_under r ls ++ lines_under r ms
under_append r [] ms = refl
under_append r (l ∷ ls) ms = ap (λ x. line_under r l ∷ x) (under_append r ls ms)

pub lines_beside : (f g : Forest) → lines (beside f g) ≡ lines f ++ lines g
lines_beside none g = refl
lines_beside (leaf r f) g = ap (λ ls. line_of r ∷ ls) (lines_beside f g)
lines_beside (nest r k f) g = ap (λ ls. lines_under r (lines k) ++ ls) (lines_beside f g) ∙ sym (append_assoc (lines_under r (lines k)) (lines f) (lines g))

-- a childless route over the end of a line
lowest : (m : SsrMode) → higher m OutOfOrder ≡ m
lowest OutOfOrder = refl
lowest PartiallyBlocked = refl
lowest InOrder = refl
lowest Async = refl
lowest Static = refl

pub lines_leaf : (r : Route) → lines (leaf r none) ≡ lines_under r (no_line ∷ [])
lines_leaf r =
    ap (λ es. record { ids = r.id ∷ []; entries = es; mode = r.mode; hooks = hooks_of r } ∷ []) (sym (append-nil r.entries))
    ∙ ap (λ m. record { ids = r.id ∷ []; entries = r.entries ++ []; mode = m; hooks = hooks_of r } ∷ []) (sym (lowest r.mode))
    ∙ ap (λ hs. record { ids = r.id ∷ []; entries = r.entries ++ []; mode = higher r.mode OutOfOrder; hooks = hs } ∷ []) (sym (append-nil (hooks_of r)))

pub lines_nest : (r : Route) (f : Forest) → lines (nest r f none) ≡ lines_under r (lines f)
lines_nest r f = append-nil (lines_under r (lines f))

-- a line below a route, by its number
pub under_at : (r : Route) (ls : List Line) (n : ℕ) → n < length ls → get_or (lines_under r ls) n no_line ≡ line_under r (get_or ls n no_line)
under_at r [] n h = absurd (omega arith)
under_at r (l ∷ ls) zero h = refl
under_at r (l ∷ ls) (suc n) h = under_at r ls n (omega arith)

pub records_append : (xs ys : List Entry) → records_of (xs ++ ys) ≡ records_of xs ++ records_of ys
records_append [] ys = refl
records_append (x ∷ xs) ys = ap (λ rs. record_of x ∷ rs) (records_append xs ys)

-- a route's own part, and then a line below it, behind that part in each buffer
module _ (r : Route) (l : Line) (is is₁ is₂ : List ℕ) (es es₁ es₂ : List PathSegment) (hs hs₁ hs₂ : List ℕ) (x : LineRecord) (e h : ℕ)
    (ids : is₁ ≡ set is 0 r.id) (some : 0 < length is)
    (entries : es₁ ≡ overlaid es (records_of r.entries)) (own_entries : e ≡ length r.entries) (within : e ≤ length es₁)
    (hooks : hs₁ ≡ overlaid hs (hooks_of r)) (own_hooks : h ≡ length (hooks_of r)) (within' : h ≤ length hs₁)
    (below : GivenOut l x (behind 1 is₁) is₂ (behind e es₁) es₂ (behind h hs₁) hs₂) where
  -- how much the line below has: it lies within what was lent for it
  pub given_few : length is₂ ≡ length (behind 1 is₁) → length es₂ ≡ length (behind e es₁) → length hs₂ ≡ length (behind h hs₁) → (x.ids + 1 ≤ length is₁) × (x.entries + e ≤ length es₁) × (x.hooks + h ≤ length hs₁)
  given_few a b c =
      let i = overlaid_room (behind 1 is₁) l.ids is₂ below.ids a in
      let n = overlaid_room (behind e es₁) (records_of l.entries) es₂ below.entries b in
      let k = overlaid_room (behind h hs₁) l.hooks hs₂ below.hooks c in
      let ci : x.ids ≡ length l.ids = ap (λ (v : LineRecord). v.ids) below.counts in
      let cn : x.entries ≡ length l.entries = ap (λ (v : LineRecord). v.entries) below.counts in
      let ck : x.hooks ≡ length l.hooks = ap (λ (v : LineRecord). v.hooks) below.counts in
      let one : length is₁ ≡ length is = ap length ids ∙ length-set is 0 r.id in
      (omega (arith, i, ci, behind_length 1 is₁), omega (arith, n, cn, records_length l.entries, behind_length e es₁), omega (arith, k, ck, behind_length h hs₁))

  pub given_under : (own : LineRecord) → own ≡ record { ids = x.ids + 1; entries = x.entries + e; hooks = x.hooks + h; mode = higher r.mode x.mode } → GivenOut (line_under r l) own is (back 1 is₁ is₂) es (back e es₁ es₂) hs (back h hs₁ hs₂)
  given_under own is-own =
      let one : length is₁ ≡ length is = ap length ids ∙ length-set is 0 r.id in
      let ends_ids : length l.ids + 1 ≡ length (r.id ∷ l.ids) = omega arith in
      let ends_entries : length l.entries + e ≡ length (r.entries ++ l.entries) = omega (arith, length-append r.entries l.entries) in
      let ends_hooks : length l.hooks + h ≡ length (hooks_of r ++ l.hooks) = omega (arith, length-append (hooks_of r) l.hooks) in
      record {
        counts =
            is-own
            ∙ ap (λ (v : LineRecord). record { ids = v.ids + 1; entries = v.entries + e; hooks = v.hooks + h; mode = higher r.mode v.mode }) below.counts
            ∙ ap (λ n. record { ids = n; entries = length l.entries + e; hooks = length l.hooks + h; mode = higher r.mode l.mode }) ends_ids
            ∙ ap (λ n. record { ids = length (r.id ∷ l.ids); entries = n; hooks = length l.hooks + h; mode = higher r.mode l.mode }) ends_entries
            ∙ ap (λ n. record { ids = length (r.id ∷ l.ids); entries = length (r.entries ++ l.entries); hooks = n; mode = higher r.mode l.mode }) ends_hooks;
        ids = ap (back 1 is₁) below.ids ∙ laid_behind is is₁ (r.id ∷ []) l.ids 1 refl (omega arith) (ids ∙ overlaid_one is r.id some);
        entries =
            ap (back e es₁) below.entries
            ∙ laid_behind es es₁ (records_of r.entries) (records_of l.entries) e (own_entries ∙ sym (records_length r.entries)) within entries
            ∙ ap (overlaid es) (sym (records_append r.entries l.entries));
        hooks = ap (back h hs₁) below.hooks ∙ laid_behind hs hs₁ (hooks_of r) l.hooks h own_hooks within' hooks;
      }

pub hooks_few : (r : Route) → length (hooks_of r) ≤ 1
hooks_few r = go (is_static r.mode && not (eqb r.hook 0))
  where
    go : (b : Bool) → length (cond b (r.hook ∷ []) []) ≤ 1
    go true = omega arith
    go false = omega arith

-- the same line under another description
pub given_as : {l m : Line} {r : LineRecord} {is is' : List ℕ} {es es' : List PathSegment} {hs hs' : List ℕ} → l ≡ m → GivenOut m r is is' es es' hs hs' → GivenOut l r is is' es es' hs hs'
given_as {l} {m} {r} {is} {is'} {es} {es'} {hs} {hs'} s g = subst (λ x. GivenOut x r is is' es es' hs hs') (sym s) g
