-- What the tables show of the definition's look.
use Rattle.std.proofs.Common.{◌≡◌, ℕ, zero, suc, ◌<◌, Bool, true, false, cond, ◌&&◌, ◌==◌, List, [], ◌∷◌, length, Option, Some, None, is_none, refl, sym, ap, ◌∙◌, arith}
use Rattle.std.specs.Prelude.{option_map, option_and_then, slice_get}
use Rattle.std.specs.Option.{option_map_or}
use Rattle.std.proofs.lemmas.Option.{slice_get-map}
use Rattle.cdc_base.specs.declared.signal.ResetPin.{ResetPin}
use Rattle.cell_graph.specs.Tree.{number}
use Rattle.flat_meaning.specs.Meaning.{value}
use Rattle.flat_meaning.specs.Full.{nothing}
use Rattle.flat_meaning.specs.Flat as f
use Rattle.flat_form.specs.declared.flat.FExpr.{FExpr}
use Rattle.flat_form.specs.View.{expr_of}
use Rattle.flat_form.specs.Sizes.{kept_of, is_sized}
use Rattle.flat_form.proofs.Folds.{expr_of-Number, expr_of-Read}
use Rattle.flat_form.proofs.Sized.{sized_width}
use Rattle.flat_unfolding.specs.Outcome.{Text}
use Rattle.flat_unfolding.specs.Names as n
use Rattle.flat_unfolding.specs.Names.{Range, span, width_of, width_at, range_at, reset_at, level}
use Rattle.flat_unfolding.specs.Constants.{own_value}
use Rattle.flat_names.specs.declared.scope.Meaning.{Meaning}
use Rattle.flat_names.specs.declared.scope.Meaning.TheVariants as m
use Rattle.flat_names.specs.declared.scope.Look.{Look}
use Rattle.flat_names.specs.declared.design.Reset.{Reset}
use Rattle.flat_names.specs.declared.design.Entry.{Entry}
use Rattle.flat_names.specs.Looks.{range_of, meaning_of, kept_in, as_value, meant, one_if, bits_of, Seen, seen, shown, Shows}
use Rattle.flat_names.proofs.Options.{none-some, some-same}

-- the value of a constant, by its kept width and by its size
pub own-is : (x : FExpr) (v : ℕ) → is_sized x ≡ true → v ≡ number (value nothing (expr_of x) (kept_of x).width) (kept_of x).width → v ≡ own_value (expr_of x)
own-is x v h e = e ∙ ap (λ w. number (value nothing (expr_of x) w) w) (sized_width x h)

-- ---- names

value-of : (o : Option Meaning) → option_and_then n.as_value (option_map meaning_of o) ≡ option_map meaning_of (option_and_then as_value o)
value-of None = refl
value-of (Some (m.Param p)) = refl
value-of (Some (m.Signal s)) = refl
value-of (Some (m.Memory a)) = refl
value-of (Some m.NoValue) = refl

pub meant-is : (k : Look) (l : n.Look) → Shows k l → (x : Text) → n.meaning l x ≡ option_map meaning_of (meant k.names.now x)
meant-is k l h x = ap (option_and_then n.as_value) (sym (h.names x)) ∙ value-of (kept_in k.names.now x)

pub unknown-none : (k : Look) (l : n.Look) → Shows k l → (x : Text) → is_none (n.meaning l x) ≡ is_none (meant k.names.now x)
unknown-none k l h x = ap is_none (meant-is k l h x) ∙ go (meant k.names.now x)
  where
    go : (o : Option Meaning) → is_none (option_map meaning_of o) ≡ is_none o
    go None = refl
    go (Some v) = refl

-- ---- signals

pub entry-is : (k : Look) (l : n.Look) → Shows k l → (s : ℕ) → option_map seen (slice_get k.entries.now s) ≡ option_map shown (slice_get l.entries s)
entry-is k l h s = sym (slice_get-map seen k.entries.now s) ∙ ap (λ xs. slice_get xs s) h.entries ∙ slice_get-map shown l.entries s

-- what is asked of an entry, through what is seen of it
through : {A : Type 0} (g : Seen → Option A) (o : Option Entry) (q : Option n.Entry) → option_map seen o ≡ option_map shown q
    → option_and_then (λ x. g (seen x)) o ≡ option_and_then (λ x. g (shown x)) q
through g o q h = left o ∙ ap (option_and_then g) h ∙ sym (right q)
  where
    left : (o : Option Entry) → option_and_then (λ x. g (seen x)) o ≡ option_and_then g (option_map seen o)
    left None = refl
    left (Some x) = refl

    right : (q : Option n.Entry) → option_and_then (λ x. g (shown x)) q ≡ option_and_then g (option_map shown q)
    right None = refl
    right (Some x) = refl

range-step : (o : Option Entry) → option_map range_of (option_and_then (λ (x : Entry). x.bounds) o) ≡ option_and_then (λ (x : Entry). (seen x).range) o
range-step None = refl
range-step (Some x) = refl

pub range-is : (k : Look) (l : n.Look) → Shows k l → (s : ℕ) → option_map range_of (option_and_then (λ (x : Entry). x.bounds) (slice_get k.entries.now s)) ≡ range_at l.entries s
range-is k l h s = range-step (slice_get k.entries.now s) ∙ through (λ (y : Seen). y.range) (slice_get k.entries.now s) (slice_get l.entries s) (entry-is k l h s)

level-step : (o : Option Entry) → option_map (λ (q : Reset). q.is_high) (option_and_then (λ (x : Entry). x.reset) o) ≡ option_and_then (λ (x : Entry). (seen x).level) o
level-step None = refl
level-step (Some x) = refl

level-back : (o : Option n.Entry) → option_map (λ (q : ResetPin). q.high) (option_and_then (λ (x : n.Entry). x.reset) o) ≡ option_and_then (λ (x : n.Entry). (shown x).level) o
level-back None = refl
level-back (Some x) = refl

pub level-is : (k : Look) (l : n.Look) → Shows k l → (s : ℕ)
    → option_map (λ (q : Reset). q.is_high) (option_and_then (λ (x : Entry). x.reset) (slice_get k.entries.now s)) ≡ option_map (λ (q : ResetPin). q.high) (reset_at l.entries s)
level-is k l h s = level-step (slice_get k.entries.now s) ∙ through (λ (y : Seen). y.level) (slice_get k.entries.now s) (slice_get l.entries s) (entry-is k l h s) ∙ sym (level-back (slice_get l.entries s))

pub is-there : {A : Type 0} (xs : List A) (s : ℕ) → s < length xs → slice_get xs s ≡ None → ⊥
is-there [] s h e = omega arith
is-there (x ∷ xs) zero h e = none-some x (sym e)
is-there (x ∷ xs) (suc s) h e = is-there xs s (omega arith) e

-- the width of a signal that is there
pub width-is : (k : Look) (l : n.Look) → Shows k l → (s : ℕ) → s < length l.entries → option_map_or (λ (x : Entry). x.width) (slice_get k.entries.now s) 1 ≡ width_at l.entries s
width-is k l h s i = go (slice_get k.entries.now s) (slice_get l.entries s) refl (entry-is k l h s)
  where
    go : (o : Option Entry) (q : Option n.Entry) → slice_get l.entries s ≡ q → option_map seen o ≡ option_map shown q
        → option_map_or (λ (x : Entry). x.width) o 1 ≡ option_map_or (λ (x : n.Entry). width_of x.range) q 0
    go o None e d = absurd (is-there l.entries s i e)
    go None (Some y) e d = none-some (shown y) d
    go (Some x) (Some y) e d = ap (λ (z : Option Seen). option_map_or (λ (w : Seen). w.width) z 0) d

-- ---- the bits of a signal

level-number : (active high : Bool) (q : ResetPin) → q.high ≡ high → one_if (cond active high (cond high false true)) ≡ level active q
level-number true true q e = ap (λ h. cond h 1 0) (sym e)
level-number true false q e = ap (λ h. cond h 1 0) (sym e)
level-number false true q e = ap (λ h. cond h 0 1) (sym e)
level-number false false q e = ap (λ h. cond h 0 1) (sym e)

pub bits-expr : (o : Option Reset) (r : Option ResetPin) (active : Bool) (s at w : ℕ) → option_map (λ (q : Reset). q.is_high) o ≡ option_map (λ (q : ResetPin). q.high) r
    → (l : n.Look) → reset_at l.entries s ≡ r → l.active ≡ active → expr_of (bits_of o active s at w) ≡ n.bits_of l s at w
bits-expr None None active s at w h l e a = expr_of-Read s at w ∙ sym (ap (λ o. by_reset o) e)
  where
    by_reset : Option ResetPin → f.Expr
    by_reset None = f.Read s at w
    by_reset (Some r) = f.Number w (cond (at == 0) (level l.active r) 0)
bits-expr None (Some r) active s at w h l e a = none-some r.high h
bits-expr (Some q) None active s at w h l e a = none-some q.is_high (sym h)
bits-expr (Some q) (Some r) active s at w h l e a = expr_of-Number _ w ∙ ap (f.Number w) (go (at == 0)) ∙ sym (ap (λ o. by_reset o) e)
  where
    by_reset : Option ResetPin → f.Expr
    by_reset None = f.Read s at w
    by_reset (Some r) = f.Number w (cond (at == 0) (level l.active r) 0)

    high : r.high ≡ q.is_high
    high = sym (some-same q.is_high r.high h)

    go : (t : Bool) → one_if (t && cond active q.is_high (cond q.is_high false true)) ≡ cond t (level l.active r) 0
    go true = level-number active q.is_high r high ∙ ap (λ x. level x r) (sym a)
    go false = refl
