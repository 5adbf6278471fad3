-- Numbers, and names alone.
use Rattle.std.proofs.Common.{◌≡◌, inl, inr, ℕ, ◌^◌, ◌<◌, ◌≤◌, Bool, true, false, cond, ◌&&◌, ◌==◌, List, [], length, Option, Some, None, is_some, refl, sym, ap, ap₂, subst, ◌∙◌, arith, lt-ltb, pow_mono}
use Rattle.std.specs.Prelude.{option_map, option_and_then, slice_get}
use Rattle.std.specs.Option.{option_map_or}
use Rattle.std.proofs.lemmas.Option.{slice_get_cases}
use Rattle.cdc_base.specs.declared.size.NumberSize.{NumberSize}
use Rattle.cdc_base.specs.declared.size.NumberSize.TheVariants as z
use Rattle.verilog_reading.specs.ExprTree.{ExprTree, number, name}
use Rattle.flat_meaning.specs.Flat.{Number}
use Rattle.flat_form.specs.declared.flat.FExpr.{FExpr}
use Rattle.flat_form.specs.declared.flat.FExpr.TheVariants as f
use Rattle.flat_form.specs.View.{expr_of}
use Rattle.flat_form.specs.Sizes.{Kept, is_word, is_sized}
use Rattle.flat_form.proofs.Folds.{expr_of-Number, kept_of-Number, kept_of-Read}
use Rattle.flat_form.proofs.Sized.{width_word, word_width}
use Rattle.flat_unfolding.specs.Outcome.{Text}
use Rattle.flat_unfolding.specs.Names as n
use Rattle.flat_unfolding.specs.Names.{width_of, width_at, whole_of}
use Rattle.flat_unfolding.specs.Constants.{within}
use Rattle.flat_unfolding.specs.Expressions.{constant, variable}
use Rattle.flat_meaning.specs.Law.{expr_reads}
use Rattle.flat_unfolding.specs.Formed.{IsFormed}
use Rattle.flat_names.specs.declared.design.Reset.{Reset}
use Rattle.flat_names.specs.declared.design.Entry.{Entry}
use Rattle.flat_names.specs.declared.scope.Param.{Param}
use Rattle.flat_names.specs.declared.scope.Meaning.{Meaning}
use Rattle.flat_names.specs.declared.scope.Meaning.TheVariants as m
use Rattle.flat_names.specs.declared.scope.Look.{Look}
use Rattle.flat_names.specs.declared.resolved.Count.{Count}
use Rattle.flat_names.specs.declared.resolved.Resolved.{Resolved}
use Rattle.flat_names.specs.declared.signs.Signs.{Signs}
use Rattle.flat_names.specs.Signs.{number_signs, based_signs, no_signs}
use Rattle.flat_names.specs.Noting.{Noted, all_noted}
use Rattle.flat_names.specs.Looks.{param_of, meaning_of, meant, one_if, bits_of, Shows, IsFitParam, IsFit}
use Rattle.flat_names.specs.Pieces.{Piece, piece, IsPiece, IsRead, at_once, numbered}
use Rattle.flat_names.specs.Selects.{name_piece}
use Rattle.flat_names.proofs.Options.{none-some, some-same}
use Rattle.flat_names.proofs.Looked.{meant-is, width-is, level-is, bits-expr}

-- the expression as a part of another one, and what it breaks at once
abbrev pub Reads : (l : n.Look) (e : ExprTree) (old new : Noted) → Resolved → Type 0
Reads l e old new r = IsPiece (piece l e) r × (new ≡ all_noted old (at_once (piece l e)))

-- ---- pieces that break no rule, and pieces that aren't counted

pub quiet : (p : Piece) → p.term.broken ≡ [] → at_once p ≡ []
quiet p h = go (is_some p.size)
  where
    go : (b : Bool) → cond b [] p.term.broken ≡ []
    go true = refl
    go false = h

pub open-read : (p : Piece) (r : Resolved) → p.size ≡ None → IsRead p.term r → r.count ≡ None → r.signs ≡ p.signs → IsPiece p r
open-read p r e h c g = record {
  is = h;
  count = ap (option_map (λ (x : Count). x.whole)) c ∙ sym (ap (option_map (λ k. p.whole)) e);
  width = λ k d. none-some k (sym e ∙ d);
  signs = g;
}

-- ---- numbers

sized-number : (v w : ℕ) → is_word w ≡ true → v < 2 ^ w → is_sized (f.Number v w) ≡ true
sized-number v w h l = ap (λ (k : Kept). k.right) (kept_of-Number v w) ∙ ap₂ (λ a b. a && b) h (lt-ltb v (2 ^ w) l)

pub number-read : (v w : ℕ) (s : Bool) (c : Option Count) (g : Signs) → is_word w ≡ true → v < 2 ^ w → s ≡ true
    → IsRead (constant (Number w v)) (record { expr = f.Number v w; is_sound = s; is_constant = true; count = c; signs = g })
number-read v w s c g h l e = record {
  sound = e;
  constant = refl;
  expr = λ d. expr_of-Number v w;
  sized = λ d. sized-number v w h l;
  reads = λ wid a i. ap (λ x. expr_reads wid x a i) (expr_of-Number v w);
}

-- a number that is counted, as it is within its bounds
counted-piece : (p : Piece) (v w : ℕ) → p.term ≡ constant (Number w v) → p.size ≡ Some w → p.whole ≡ Some v → is_word w ≡ true → v < 2 ^ w → within w v ≡ Some v → IsPiece p (numbered (within w v) v w p.signs)
counted-piece p v w t e d h l i = record {
  is = subst (λ x. IsRead x (numbered (within w v) v w p.signs)) (sym t) (number-read v w (is_some (within w v)) (Some (record { whole = within w v })) p.signs h l (ap is_some i));
  count = ap Some (i ∙ sym d) ∙ sym (ap (option_map (λ k. p.whole)) e);
  width = λ k q. ap (λ (x : Kept). x.width) (kept_of-Number v w) ∙ some-same w k (sym e ∙ q);
  signs = refl;
}

plain-within : (v w : ℕ) → w ≡ 32 → v < 2 ^ 31 → within w v ≡ Some v
plain-within v w e l = ap (λ k. within k v) e ∙ ap (λ t. cond t (Some v) None) (lt-ltb v (2 ^ 31) l)

pub plain-number : (l : n.Look) (v w : ℕ) → IsFormed (number v w z.Plain) → IsPiece (piece l (number v w z.Plain)) (numbered (within w v) v w number_signs)
plain-number l v w h =
    let k = h.3 refl in
    counted-piece (piece l (number v w z.Plain)) v w refl refl (plain-within v 32 refl k.1) (width_word w (record { some = h.0; most = h.1 })) h.2 (plain-within v w k.0 k.1)

pub based-number : (l : n.Look) (v w : ℕ) → IsFormed (number v w z.Unsized)
    → IsPiece (piece l (number v w z.Unsized)) (record { expr = f.Number v w; is_sound = true; is_constant = true; count = None; signs = based_signs })
based-number l v w h = open-read (piece l (number v w z.Unsized)) _ refl (number-read v w true None based_signs (width_word w (record { some = h.0; most = h.1 })) h.2 refl) refl refl

pub sized-piece : (l : n.Look) (v w : ℕ) → IsFormed (number v w z.Sized)
    → IsPiece (piece l (number v w z.Sized)) (record { expr = f.Number v w; is_sound = true; is_constant = true; count = None; signs = no_signs })
sized-piece l v w h = open-read (piece l (number v w z.Sized)) _ refl (number-read v w true None no_signs (width_word w (record { some = h.0; most = h.1 })) h.2 refl) refl refl

pub number-notes : (l : n.Look) (old : Noted) (v w : ℕ) (size : NumberSize) → old ≡ all_noted old (at_once (piece l (number v w size)))
number-notes l old v w size = ap (all_noted old) (sym (quiet (piece l (number v w size)) refl))

-- ---- parameters

pub counted-param : (l : n.Look) (x : Text) (p : Param) (g : Signs) → IsFitParam (param_of p) → p.counted ≡ true → g ≡ (name_piece l x (Some (n.a_param (param_of p)))).signs
    → IsPiece (name_piece l x (Some (n.a_param (param_of p)))) (numbered (within p.width p.value) p.value p.width g)
counted-param l x p g h e d =
    let i = h.whole e in
    subst (λ z. IsPiece (name_piece l x (Some (n.a_param (param_of p)))) (numbered (within p.width p.value) p.value p.width z)) (sym d)
    (counted-piece (name_piece l x (Some (n.a_param (param_of p)))) p.value p.width refl
    (ap (λ t. option_map (λ (q : n.Param). q.width) (cond t (Some (param_of p)) None)) e)
    (ap (λ t. option_and_then (λ (q : n.Param). within q.width q.value) (cond t (Some (param_of p)) None)) e ∙ i) h.width h.value i)

pub sized-param : (l : n.Look) (x : Text) (p : Param) (g : Signs) → IsFitParam (param_of p) → p.counted ≡ false → g ≡ (name_piece l x (Some (n.a_param (param_of p)))).signs
    → IsPiece (name_piece l x (Some (n.a_param (param_of p)))) (record { expr = f.Number p.value p.width; is_sound = true; is_constant = true; count = None; signs = g })
sized-param l x p g h e d = open-read (name_piece l x (Some (n.a_param (param_of p)))) _ (ap (λ t. option_map (λ (q : n.Param). q.width) (cond t (Some (param_of p)) None)) e)
    (number-read p.value p.width true None g h.width h.value refl) refl d

-- ---- signals

there : (xs : List n.Entry) (s : ℕ) (o : Option n.Entry) → s < length xs → slice_get xs s ≡ o → ((e : n.Entry) → slice_get xs s ≡ Some e → is_word (width_of e.range) ≡ true)
    → is_word (option_map_or (λ (e : n.Entry). width_of e.range) o 0) ≡ true
there xs s (Some e) h d k = k e d
there xs s None h d k = elim (slice_get_cases xs s).1 [ inl c ↦ none-some c.0 (sym d ∙ c.2) | inr c ↦ absurd (let l = c.0 in omega arith) ]

pub signal-word : (l : n.Look) (s : ℕ) → IsFit l → s < length l.entries → is_word (width_at l.entries s) ≡ true
signal-word l s h i = there l.entries s (slice_get l.entries s) i refl (λ e d. h.entries s e d)

bit-fits : (b : Bool) (w : ℕ) → 1 ≤ w → one_if b < 2 ^ w
bit-fits true w h = let p : 2 ^ 1 ≤ 2 ^ w = pow_mono h in omega arith
bit-fits false w h = let p : 2 ^ 1 ≤ 2 ^ w = pow_mono h in omega arith

sized-bits : (o : Option Reset) (active : Bool) (s at w : ℕ) → is_word w ≡ true → is_sized (bits_of o active s at w) ≡ true
sized-bits None active s at w h = ap (λ (k : Kept). k.right) (kept_of-Read s at w) ∙ h
sized-bits (Some q) active s at w h = sized-number (one_if ((at == 0) && cond active q.is_high (cond q.is_high false true))) w h (bit-fits _ w (word_width w h).some)

pub variable-read : (e : FExpr) (x : _) → expr_of e ≡ x → is_sized e ≡ true → IsRead (variable x) (record { expr = e; is_sound = true; is_constant = false; count = None; signs = no_signs })
variable-read e x h i = record {
  sound = refl;
  constant = refl;
  expr = λ d. h;
  sized = λ d. i;
  reads = λ wid a j. ap (λ z. expr_reads wid z a j) h;
}

pub signal-read : (k : Look) (l : n.Look) (s w : ℕ) (e : FExpr) → Shows k l → IsFit l → s < length l.entries → w ≡ option_map_or (λ (x : Entry). x.width) (slice_get k.entries.now s) 1
    → (1 ≤ w → e ≡ bits_of (option_and_then (λ (x : Entry). x.reset) (slice_get k.entries.now s)) k.active s 0 w)
    → IsRead (variable (whole_of l s)) (record { expr = e; is_sound = true; is_constant = false; count = None; signs = no_signs })
signal-read k l s w e shows fit i h d =
    let own : w ≡ width_at l.entries s = h ∙ width-is k l shows s i in
    let word : is_word w ≡ true = ap is_word own ∙ signal-word l s fit i in
    let reset = option_and_then (λ (x : Entry). x.reset) (slice_get k.entries.now s) in
    let is = d (word_width w word).some in
    variable-read e (whole_of l s)
    (ap expr_of is ∙ bits-expr reset (n.reset_at l.entries s) k.active s 0 w (level-is k l shows s) l refl (sym shows.active) ∙ ap (n.bits_of l s 0) own)
    (ap is_sized is ∙ sized-bits reset k.active s 0 w word)

-- ---- names alone

-- what the name stands for
meaning-as : (k : Look) (l : n.Look) (x : Text) (o : Option Meaning) → Shows k l → o ≡ meant k.names.now x → n.meaning l x ≡ option_map meaning_of o
meaning-as k l x o shows e = meant-is k l shows x ∙ ap (option_map meaning_of) (sym e)

by-meaning : (l : n.Look) (x : Text) (o : Option n.Meaning) (old new : Noted) (r : Resolved) → n.meaning l x ≡ o
    → IsPiece (name_piece l x o) r × (new ≡ all_noted old (at_once (name_piece l x o))) → Reads l (name x) old new r
by-meaning l x o old new r e h = subst (λ (z : Option n.Meaning). IsPiece (name_piece l x z) r × (new ≡ all_noted old (at_once (name_piece l x z)))) (sym e) h

pub param-fit : (k : Look) (l : n.Look) (x : Text) (p : Param) → Shows k l → IsFit l → Some (m.Param p) ≡ meant k.names.now x → IsFitParam (param_of p)
param-fit k l x p shows fit e = fit.params x (param_of p) (meaning-as k l x (Some (m.Param p)) shows e)

pub name-param : (k : Look) (l : n.Look) (x : Text) (p : Param) (old : Noted) (r : Resolved) → Shows k l → IsFit l → Some (m.Param p) ≡ meant k.names.now x
    → IsPiece (name_piece l x (Some (n.a_param (param_of p)))) r → Reads l (name x) old old r
name-param k l x p old r shows fit e h = by-meaning l x (Some (n.a_param (param_of p))) old old r (meaning-as k l x (Some (m.Param p)) shows e)
    (h, ap (all_noted old) (sym (quiet (name_piece l x (Some (n.a_param (param_of p)))) refl)))

pub name-signal : (k : Look) (l : n.Look) (x : Text) (s w : ℕ) (e : FExpr) (old : Noted) → Shows k l → IsFit l → Some (m.Signal s) ≡ meant k.names.now x
    → w ≡ option_map_or (λ (y : Entry). y.width) (slice_get k.entries.now s) 1
    → (1 ≤ w → e ≡ bits_of (option_and_then (λ (y : Entry). y.reset) (slice_get k.entries.now s)) k.active s 0 w)
    → Reads l (name x) old old (record { expr = e; is_sound = true; is_constant = false; count = None; signs = no_signs })
name-signal k l x s w e old shows fit d h i =
    let is = meaning-as k l x (Some (m.Signal s)) shows d in
    by-meaning l x (Some (n.a_signal s)) old old _ is (open-read (name_piece l x (Some (n.a_signal s))) _ refl (signal-read k l s w e shows fit (fit.signals x s is) h i) refl refl, refl)
