-- The laws of pieces: what an entry takes of a path is its piece, and its piece is what it takes. This file and KeptEntry are the
-- only ones that look at which kind an entry is.
use Rattle.std.proofs.Common.{◌≡◌, ℕ, suc, ◌+◌, ◌≤◌, true, false, cond, not, ◌&&◌, List, [], ◌∷◌, ◌++◌, length, take, drop, is_some, Some, None, Option, sym, refl, ap, ◌∙◌, subst, ⊎_elim, add-one, one-add, arith}
use Rattle.std.specs.List.{prefix_len}
use Rattle.std.proofs.lemmas.List.{drop_at, take-append-drop, length-take-le, append-nil}
use Rattle.std.proofs.lemmas.List.Sums.{prefix_len-le-length}
use Rattle.std.proofs.lemmas.Bool.{cases_Bool, and_parts, and_from, eqb-true, eqb-false, ne_eqb, cond-true, cond-false, both_ways}
use Rattle.rules.specs.Paths.{slash, is_slash, plain, slash_free, rooted}
use Rattle.rules.specs.Entries.{Entry, unit, static, param, optional, splat, is_optional, has_value}
use Rattle.rules.specs.Taking.{Taken, value_length, take_value, take_param, begins, take_word, take_bare, take_slashed, take_static, take_splat, taking}
use Rattle.rules.specs.Pieces.{Value, Word, slashed, unslashed, Span, behind_slash, Piece, of_unit, of_empty, of_bare, of_word, of_param, of_splat, of_no_splat}
use Rattle.rules.proofs.Words.{front_begins, begins_front, free_leading}

-- what is answered for a piece with its value
abbrev pub taken_of : List ℕ → Option Span → Taken
taken_of b None = (length b, 0, 0)
taken_of b (Some v) = (length b, v.start, v.len)

-- a path of which an entry took something, cut behind its piece
pub record Cutting (e : Entry) (p : List ℕ) (t : Taken) : Type 0 where
  pub bytes : List ℕ
  pub value : Option Span
  pub rest : List ℕ
  pub piece : Piece e bytes value rest
  pub joins : p ≡ bytes ++ rest
  pub rooted_rest : rooted rest ≡ true
  pub is : t ≡ taken_of bytes value

same_taken : {t u : Taken} → Some t ≡ Some u → t ≡ u
same_taken h = cc

not_taken : {t : Taken} → None ≡ Some t → ⊥
not_taken h = let z : ◌≡◌ {A = ℕ} 0 1 = cc in omega arith

-- Words.
word_taken : (w p : List ℕ) → rooted p ≡ true → take_word w (slash ∷ (w ++ p)) ≡ Some (suc (length w), 0, 0)
word_taken w p r = rw (begins_front w p, drop_at w p (length w) refl, r, add-one)

static_taken : {t w : List ℕ} (p : List ℕ) → Word t w → rooted p ≡ true → take_static t (slash ∷ (w ++ p)) ≡ Some (suc (length w), 0, 0)
static_taken p (slashed {c} {w}) r = word_taken (c ∷ w) p r
static_taken p (unslashed {c} {w} ne) r = rw (ne_eqb c 47 ne) (word_taken (c ∷ w) p r)

word_cut : {s w : List ℕ} (p : List ℕ) (t : Taken) → Word s w → take_word w p ≡ Some t → Cutting (static s) p t
word_cut {s} {w} [] t k h = absurd (not_taken h)
word_cut {s} {w} (b ∷ q) t k h =
    ⊎_elim
    (λ e.
    let both = and_parts (is_slash b) (begins w q && rooted (drop (length w) q)) e in
    let word = and_parts (begins w q) (rooted (drop (length w) q)) both.1 in
    let f = front_begins w q word.0 in
    record {
      bytes = slash ∷ w;
      value = None;
      rest = f.0;
      piece = of_word k;
      joins = ap (λ c. c ∷ q) (eqb-true b 47 both.0) ∙ ap (λ r. slash ∷ r) f.1;
      rooted_rest = subst (λ x. rooted x ≡ true) (ap (drop (length w)) f.1 ∙ drop_at w f.0 (length w) refl) word.1;
      is = same_taken (sym h ∙ cond-true _ (Some (length w + 1, 0, 0)) None e) ∙ ap (λ n. (n, 0, 0)) (add-one (length w));
    })
    (λ e. absurd (not_taken (sym (cond-false _ (Some (length w + 1, 0, 0)) None e) ∙ h)))
    (cases_Bool (is_slash b && (begins w q && rooted (drop (length w) q))))

static_cut : (text p : List ℕ) (t : Taken) → rooted p ≡ true → take_static text p ≡ Some t → Cutting (static text) p t
static_cut [] p t r h = record { bytes = []; value = None; rest = p; piece = of_empty; joins = refl; rooted_rest = r; is = sym (same_taken h) }
static_cut (c ∷ text) p t r h =
    ⊎_elim
    (λ e. subst (λ b. Cutting (static (b ∷ text)) p t) (sym (eqb-true c 47 e)) (after text (sym (cond-true _ (take_slashed text p) (take_word (c ∷ text) p) e) ∙ h)))
    (λ e. word_cut p t (unslashed (eqb-false c 47 e)) (sym (cond-false _ (take_slashed text p) (take_word (c ∷ text) p) e) ∙ h))
    (cases_Bool (is_slash c))
  where
    bare : (q : List ℕ) → rooted q ≡ true → take_bare q ≡ Some t → Cutting (static (slash ∷ [])) q t
    bare [] r h = absurd (not_taken h)
    bare (b ∷ q) r h = record { bytes = []; value = None; rest = b ∷ q; piece = of_bare; joins = refl; rooted_rest = r; is = sym (same_taken h) }

    after : (text : List ℕ) → take_slashed text p ≡ Some t → Cutting (static (slash ∷ text)) p t
    after [] h = bare p r h
    after (d ∷ text) h = word_cut p t slashed h

-- Values.
param_taken : (v p : List ℕ) → Value v → rooted p ≡ true → take_param (slash ∷ (v ++ p)) ≡ Some (suc (length v), 1, length v)
param_taken v p a r =
    ap take_value (free_leading v p a.free r)
    ∙ cond-true (value_length (length v)) (Some (length v + 1, 1, length v)) None a.long
    ∙ ap (λ n. Some (n, 1, length v)) (add-one (length v))

-- behind a value comes a slash, or the end
behind_value : (p : List ℕ) → rooted (drop (prefix_len plain p) p) ≡ true
behind_value [] = refl
behind_value (b ∷ p) =
    elim (is_slash b) as (λ v. is_slash b ≡ v → rooted (drop (cond (not v) (1 + prefix_len plain p) 0) (b ∷ p)) ≡ true) [
      | true ↦ λ e. e
      | false ↦ λ e. rw one-add (behind_value p)
    ] refl

front_free : (q : List ℕ) → slash_free (take (prefix_len plain q) q) ≡ true
front_free [] = refl
front_free (b ∷ q) =
    elim (is_slash b) as (λ v. is_slash b ≡ v → slash_free (take (cond (not v) (1 + prefix_len plain q) 0) (b ∷ q)) ≡ true) [
      | true ↦ λ e. refl
      | false ↦ λ e. rw one-add (and_from (plain b) (slash_free (take (prefix_len plain q) q)) (ap not e) (front_free q))
    ] refl

param_cut : {x : List ℕ} (p : List ℕ) (t : Taken) → take_param p ≡ Some t → Cutting (param x) p t
param_cut {x} [] t h = absurd (not_taken h)
param_cut {x} (b ∷ q) t h = ⊎_elim (λ e. behind e) (λ e. absurd (not_taken (sym (cond-false _ (take_value (prefix_len plain q)) None e) ∙ h))) (cases_Bool (is_slash b))
  where
    behind : is_slash b ≡ true → Cutting (param x) (b ∷ q) t
    behind e =
        let m = prefix_len plain q in
        let k : take_value m ≡ Some t = sym (cond-true (is_slash b) (take_value m) None e) ∙ h in
        let v = take m q in
        let lv : length v ≡ m = length-take-le m q (prefix_len-le-length plain q) in
        ⊎_elim
        (λ z. record {
          bytes = slash ∷ v;
          value = behind_slash v;
          rest = drop m q;
          piece = of_param (record { long = ap value_length lv ∙ z; free = front_free q });
          joins = ap (λ c. c ∷ q) (eqb-true b 47 e) ∙ ap (λ r. slash ∷ r) (sym (take-append-drop m q));
          rooted_rest = behind_value q;
          is = same_taken (sym k ∙ cond-true (value_length m) (Some (m + 1, 1, m)) None z) ∙ ap (λ n. (n, 1, m)) (add-one m) ∙ ap (λ n. (suc n, 1, n)) (sym lv);
        })
        (λ z. absurd (not_taken (sym (cond-false (value_length m) (Some (m + 1, 1, m)) None z) ∙ k)))
        (cases_Bool (value_length m))

splat_cut : {x : List ℕ} (p : List ℕ) (t : Taken) → rooted p ≡ true → take_splat p ≡ Some t → Cutting (splat x) p t
splat_cut {x} [] t r h = record { bytes = []; value = _; rest = []; piece = of_no_splat; joins = refl; rooted_rest = refl; is = sym (same_taken h) }
splat_cut {x} (b ∷ q) t r h = record {
  bytes = slash ∷ q;
  value = behind_slash q;
  rest = [];
  piece = of_splat;
  joins = ap (λ c. c ∷ q) (eqb-true b 47 r) ∙ ap (λ r. slash ∷ r) (sym (append-nil q));
  rooted_rest = refl;
  is = sym (same_taken h) ∙ ap (λ n. (n, 1, length q)) (add-one (length q));
}

-- A piece is what its entry takes.
pub piece_taken : {e : Entry} {b q : List ℕ} {v : Option Span} → Piece e b v q → rooted q ≡ true → taking e (b ++ q) ≡ Some (taken_of b v)
piece_taken of_unit r = refl
piece_taken of_empty r = refl
piece_taken of_bare r = refl
piece_taken (of_word {t} {w} {q} k) r = static_taken q k r
piece_taken (of_param {x} {v} {q} k) r = param_taken v q k r
piece_taken (of_splat {x} {v}) r = rw (append-nil v, add-one)
piece_taken of_no_splat r = refl

-- What an entry takes is a piece of it.
pub taken_piece : (e : Entry) (p : List ℕ) (t : Taken) → is_optional e ≡ false → rooted p ≡ true → taking e p ≡ Some t → Cutting e p t
taken_piece unit p t o r h = record { bytes = []; value = None; rest = p; piece = of_unit; joins = refl; rooted_rest = r; is = sym (same_taken h) }
taken_piece (static s) p t o r h = static_cut s p t r h
taken_piece (param x) p t o r h = param_cut p t h
taken_piece (optional x) p t o r h = absurd (both_ways true o refl)
taken_piece (splat x) p t o r h = splat_cut p t r h

-- A piece before a rooted path is rooted.
pub piece_rooted : {e : Entry} {b q : List ℕ} {v : Option Span} → Piece e b v q → rooted q ≡ true → rooted (b ++ q) ≡ true
piece_rooted of_unit r = r
piece_rooted of_empty r = r
piece_rooted of_bare r = r
piece_rooted (of_word k) r = refl
piece_rooted (of_param k) r = refl
piece_rooted of_splat r = refl
piece_rooted of_no_splat r = refl

-- An entry's pieces all have a value, or none has.
pub piece_valued : {e : Entry} {b q : List ℕ} {v : Option Span} → Piece e b v q → is_some v ≡ has_value e
piece_valued of_unit = refl
piece_valued of_empty = refl
piece_valued of_bare = refl
piece_valued (of_word k) = refl
piece_valued (of_param k) = refl
piece_valued of_splat = refl
piece_valued of_no_splat = refl

-- A value lies in its piece.
abbrev pub InPiece : List ℕ → Option Span → Type 0
InPiece b None = Unit {0}
InPiece b (Some v) = v.start + v.len ≤ length b

pub piece_within : {e : Entry} {b q : List ℕ} {v : Option Span} → Piece e b v q → InPiece b v
piece_within of_unit = tt
piece_within of_empty = tt
piece_within of_bare = tt
piece_within (of_word k) = tt
piece_within (of_param k) = omega arith
piece_within of_splat = omega arith
piece_within of_no_splat = omega arith
