-- How an entry writes: the law that each kind owes for what it writes.
use Rattle.std.proofs.Common.{◌≡◌, ℕ, Bool, true, false, cond, not, leb, List, [], ◌∷◌, length, drop, None, Option, sym, refl, ap, ◌∙◌, subst, ⊎_elim}
use Rattle.std.proofs.lemmas.Bool.{cases_Bool, cond-true, cond-false, eqb-true, eqb-false, and_parts, both_ways}
use Rattle.rules.specs.Paths.{slash, is_slash, plain, slash_free}
use Rattle.rules.specs.Entries.{Entry, unit, static, param, optional, splat, longest_text, lawful_entry}
use Rattle.rules.specs.Pieces.{Value, slashed, unslashed, Span, behind_slash, Piece, of_unit, of_empty, of_bare, of_word, of_param, of_splat}
use Rattle.rules.specs.Writing.{with_slash, is_silent, all_silent, bytes_of, ends_slash, Fitting}

pub data Manner (e : Entry) (v : List ℕ) (es : List Entry) : Type 0 where
  -- it writes nothing, and has an empty piece anywhere
  silently : is_silent e ≡ true → ((due : Bool) → bytes_of e v due ≡ []) → ((q : List ℕ) → Piece e [] None q) → Manner e v es
  -- it writes a slash where that is due, and has an empty piece before any byte
  barely : is_silent e ≡ false → ((due : Bool) → bytes_of e v due ≡ cond due (slash ∷ []) []) → ((b : ℕ) (q : List ℕ) → Piece e [] None (b ∷ q)) → Manner e v es
  -- it writes its piece, which does not end with a slash
  solidly : is_silent e ≡ false → (w : List ℕ) (place : Option Span) → ((due : Bool) → bytes_of e v due ≡ slash ∷ w) → ends_slash true w ≡ false → ((q : List ℕ) → Piece e (slash ∷ w) place q) → Manner e v es
  -- it writes its piece, and nothing is written behind it
  wholly : is_silent e ≡ false → (w : List ℕ) (place : Option Span) → ((due : Bool) → bytes_of e v due ≡ slash ∷ w) → all_silent es ≡ true → Piece e (slash ∷ w) place [] → Manner e v es

not_true : (b : Bool) → not b ≡ true → b ≡ false
not_true true h = absurd (both_ways false refl h)
not_true false h = refl

free_parts : (b : ℕ) (t : List ℕ) → slash_free (b ∷ t) ≡ true → (is_slash b ≡ false) × (slash_free t ≡ true)
free_parts b t h = let s = and_parts (plain b) (slash_free t) h in (not_true (is_slash b) s.0, s.1)

free_end : (ended : Bool) (w : List ℕ) → ended ≡ false → slash_free w ≡ true → ends_slash ended w ≡ false
free_end ended [] h a = h
free_end ended (b ∷ w) h a = let s = free_parts b w a in free_end (is_slash b) w s.0 s.1

with_slash_lem : (t : List ℕ) → (q : List ℕ) × (with_slash t ≡ slash ∷ q)
with_slash_lem [] = ([], refl)
with_slash_lem (b ∷ t) = ⊎_elim (λ e. (t, cond-true _ (b ∷ t) (slash ∷ (b ∷ t)) e ∙ ap (λ c. c ∷ t) (eqb-true b 47 e))) (λ e. (b ∷ t, cond-false _ (b ∷ t) (slash ∷ (b ∷ t)) e)) (cases_Bool (is_slash b))

static_manner : (t v : List ℕ) (es : List Entry) → slash_free (drop 1 t) ≡ true → Manner (static t) v es
static_manner [] v es f = silently refl (λ due. refl) (λ q. of_empty)
static_manner (b ∷ []) v es f =
    ⊎_elim
    (λ e. subst (λ c. Manner (static (c ∷ [])) v es) (sym (eqb-true b 47 e)) (barely refl (λ due. refl) (λ c q. of_bare)))
    (λ e. solidly refl (b ∷ []) None (λ due. cond-false (is_slash b) (cond due (slash ∷ []) []) (with_slash (b ∷ [])) e ∙ cond-false (is_slash b) (b ∷ []) (slash ∷ (b ∷ [])) e) e (λ q. of_word (unslashed (eqb-false b 47 e))))
    (cases_Bool (is_slash b))
static_manner (b ∷ (c ∷ t)) v es f =
    let s = free_parts c t f in
    let rest = free_end (is_slash c) t s.0 s.1 in
    ⊎_elim
    (λ e. subst (λ d. Manner (static (d ∷ (c ∷ t))) v es) (sym (eqb-true b 47 e)) (solidly refl (c ∷ t) None (λ due. refl) rest (λ q. of_word slashed)))
    (λ e. solidly refl (b ∷ (c ∷ t)) None (λ due. cond-false (is_slash b) (b ∷ (c ∷ t)) (slash ∷ (b ∷ (c ∷ t))) e) rest (λ q. of_word (unslashed (eqb-false b 47 e))))
    (cases_Bool (is_slash b))

param_manner : (x v : List ℕ) (es : List Entry) → Value v → Manner (param x) v es
param_manner x [] es f = absurd (both_ways false refl f.long)
param_manner x (b ∷ v) es f =
    let s = free_parts b v f.free in
    solidly refl (b ∷ v) (behind_slash (b ∷ v)) (λ due. cond-false (is_slash b) (b ∷ v) (slash ∷ (b ∷ v)) s.0) (free_end (is_slash b) v s.0 s.1) (λ q. of_param f)

pub manner : (e : Entry) (v : List ℕ) (es : List Entry) → lawful_entry e ≡ true → Fitting e v es → Manner e v es
manner unit v es l f = silently refl (λ due. refl) (λ q. of_unit)
manner (static t) v es l f = static_manner t v es (and_parts (leb (length t) longest_text) (slash_free (drop 1 t)) l).1
manner (param x) v es l f = param_manner x v es f
manner (optional x) v es l f = absurd f
manner (splat x) v es l f = let w = with_slash_lem v in wholly refl w.0 (behind_slash w.0) (λ due. w.1) f of_splat
