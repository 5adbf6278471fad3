-- What the names of a module stand for, and what is known of its signals, where the module is an instance.
use Rattle.std.proofs.Common.{◌≡◌, ℕ, zero, suc, ◌+◌, ◌==◌, Bool, true, false, cond, not, ◌&&◌, ◌||◌, List, [], ◌∷◌, ◌++◌, length, map, Option, Some, None, refl, ap, ap₂, ◌∙◌, arith, max}
use Rattle.std.specs.Prelude.{slice_get, option_map, option_and_then, bytes_eq, is_some, is_none}
use Rattle.std.specs.Option.{option_map_or}
use Rattle.cdc_base.specs.Words.{found_in}
use Rattle.verilog_ast.specs.declared.BinaryOp.{BinaryOp}
use Rattle.cdc_base.specs.declared.size.NumberSize.TheVariants as z
use Rattle.verilog_reading.specs.ExprTree.{ExprTree, number, name, index, part, unary, binary, choice, join, repeat, paren}
use Rattle.flat_meaning.specs.Flat.{binary_size}
use Rattle.flat_form.specs.View.{binary_of}
use Rattle.flat_unfolding.specs.Outcome.{Text, breaks_if}
use Rattle.flat_unfolding.specs.Names.{Param, Meaning, a_param, a_signal, a_memory, no_value, Names, as_value, meaning_in, is_declared, Entry, Look, meaning, unknown, width_at, range_at, reset_at, width_of}
use Rattle.flat_unfolding.specs.Constants.{if_counted, counted_param, counted_size, is_counted, own_unary, both, within, whole}
use Rattle.flat_unfolding.specs.Signs.{counts_whole, meant_signed, is_signed, unary_signed, binary_signed, is_order, compares_signed, leans, unary_leans, binary_leans, is_unsized}
use Rattle.instance_laws.specs.Moved.{moved_meaning, moved_names, moved_entry}

-- ---- names

abbrev pub moved_if : ℕ → Option Meaning → Option Meaning
moved_if k o = option_map (moved_meaning k) o

module _ (k : ℕ) (names : Names) where
  found_moved : (more : Names) (x : Text) → found_in (moved_names k more) x ≡ moved_if k (found_in more x)
  found_moved [] x = refl
  found_moved (p ∷ more) x = go (bytes_eq p.0 x) (found_moved more x)
    where
      go : (b : Bool) → found_in (moved_names k more) x ≡ moved_if k (found_in more x)
          → cond b (Some (moved_meaning k p.1)) (found_in (moved_names k more) x) ≡ moved_if k (cond b (Some p.1) (found_in more x))
      go true e = refl
      go false e = e

  pub meaning_moved : (x : Text) → meaning_in (moved_names k names) x ≡ moved_if k (meaning_in names x)
  meaning_moved x = ap (option_and_then as_value) (found_moved names x) ∙ go (found_in names x)
    where
      go : (o : Option Meaning) → option_and_then as_value (moved_if k o) ≡ moved_if k (option_and_then as_value o)
      go None = refl
      go (Some (a_param p)) = refl
      go (Some (a_signal s)) = refl
      go (Some (a_memory m)) = refl
      go (Some no_value) = refl

  pub declared_moved : (x : Text) → is_declared (moved_names k names) x ≡ is_declared names x
  declared_moved x = ap is_some (found_moved names x) ∙ go (found_in names x)
    where
      go : (o : Option Meaning) → is_some (moved_if k o) ≡ is_some o
      go None = refl
      go (Some m) = refl

  -- ---- counted, whole and signed expressions

  param_moved : (x : Text) → counted_param (moved_names k names) x ≡ counted_param names x
  param_moved x = ap (option_and_then if_counted) (meaning_moved x) ∙ go (meaning_in names x)
    where
      go : (o : Option Meaning) → option_and_then if_counted (moved_if k o) ≡ option_and_then if_counted o
      go None = refl
      go (Some (a_param p)) = refl
      go (Some (a_signal s)) = refl
      go (Some (a_memory m)) = refl
      go (Some no_value) = refl

  pub counted_moved : (e : ExprTree) → counted_size (moved_names k names) e ≡ counted_size names e
  counted_moved (number v w spelt) = refl
  counted_moved (name x) = ap (option_map (λ (p : Param). p.width)) (param_moved x)
  counted_moved (index x i) = refl
  counted_moved (part x kind l r) = refl
  counted_moved (unary op a) = ap (option_map (own_unary op)) (counted_moved a)
  counted_moved (binary op a b) = ap₂ (both (binary_size (binary_of op))) (counted_moved a) (counted_moved b)
  counted_moved (choice c a b) = ap₂ (both (λ k n. n)) (counted_moved c) (ap₂ (both max) (counted_moved a) (counted_moved b))
  counted_moved (join parts) = refl
  counted_moved (repeat count parts) = refl
  counted_moved (paren a) = counted_moved a

  pub is_counted_moved : (e : ExprTree) → is_counted (moved_names k names) e ≡ is_counted names e
  is_counted_moved e = ap is_some (counted_moved e)

  counts_moved : (e : ExprTree) → counts_whole (moved_names k names) e ≡ counts_whole names e
  counts_moved e = ap (λ o. option_map_or (λ k. k == 32) o false) (counted_moved e)

  pub whole_moved : (e : ExprTree) → whole (moved_names k names) e ≡ whole names e
  whole_moved (number v w spelt) = refl
  whole_moved (name x) = ap (option_and_then (λ (p : Param). within p.width p.value)) (param_moved x)
  whole_moved (index x i) = refl
  whole_moved (part x kind l r) = refl
  whole_moved (unary op a) = simp (counted_moved a, whole_moved a)
  whole_moved (binary op a b) = simp (counted_moved a, counted_moved b, whole_moved a, whole_moved b)
  whole_moved (choice c a b) = simp (counted_moved c, counted_moved a, counted_moved b, whole_moved c, whole_moved a, whole_moved b)
  whole_moved (join parts) = refl
  whole_moved (repeat count parts) = refl
  whole_moved (paren a) = whole_moved a

  pub signed_moved : (e : ExprTree) → is_signed (moved_names k names) e ≡ is_signed names e
  signed_moved (number v w spelt) = refl
  signed_moved (name x) = ap meant_signed (meaning_moved x) ∙ go (meaning_in names x)
    where
      go : (o : Option Meaning) → meant_signed (moved_if k o) ≡ meant_signed o
      go None = refl
      go (Some (a_param p)) = refl
      go (Some (a_signal s)) = refl
      go (Some (a_memory m)) = refl
      go (Some no_value) = refl
  signed_moved (index x i) = refl
  signed_moved (part x kind l r) = refl
  signed_moved (unary op a) = ap₂ (λ b c. b || unary_signed op c) (counts_moved (unary op a)) (signed_moved a)
  signed_moved (binary op a b) = ap₂ (λ b c. b || c) (counts_moved (binary op a b)) (ap₂ (binary_signed op) (signed_moved a) (signed_moved b))
  signed_moved (choice c a b) = ap₂ (λ b c. b || c) (counts_moved (choice c a b)) (ap₂ (λ b c. b && c) (signed_moved a) (signed_moved b))
  signed_moved (join parts) = refl
  signed_moved (repeat count parts) = refl
  signed_moved (paren a) = signed_moved a

  pub compares_moved : (op : BinaryOp) (a b : ExprTree) → compares_signed (moved_names k names) op a b ≡ compares_signed names op a b
  compares_moved op a b =
      ap₂ (λ s c. is_order op && s && not c) (ap₂ (λ b c. b && c) (signed_moved a) (signed_moved b)) (is_counted_moved (binary op a b))

  pub leans_moved : (e : ExprTree) → leans (moved_names k names) e ≡ leans names e
  leans_moved (number v w spelt) = refl
  leans_moved (name x) = refl
  leans_moved (index x i) = refl
  leans_moved (part x kind l r) = refl
  leans_moved (unary op a) = ap (λ b. not b && unary_leans op) (counts_moved (unary op a))
  leans_moved (binary op a b) = ap₂ (λ b c. not b && c) (counts_moved (binary op a b)) (ap₂ (binary_leans op) (leans_moved a) (leans_moved b))
  leans_moved (choice c a b) = ap₂ (λ b c. not b && c) (counts_moved (choice c a b)) (ap₂ (λ b c. b || c) (leans_moved a) (leans_moved b))
  leans_moved (join parts) = refl
  leans_moved (repeat count parts) = refl
  leans_moved (paren a) = leans_moved a

  pub unsized_moved : (e : ExprTree) → is_unsized (moved_names k names) e ≡ is_unsized names e
  unsized_moved (number v w z.Sized) = refl
  unsized_moved (number v w spelt) = refl
  unsized_moved (paren a) = unsized_moved a
  unsized_moved e = counts_moved e

-- ---- signals

-- where k signals stand before
module _ (prefix : Text) (base : List Entry) where
  abbrev pub count : ℕ
  count = length base

  abbrev pub behind : List Entry → List Entry
  behind es = base ++ map (moved_entry prefix) es

  abbrev pub far : Look → Look
  far look = record { names = moved_names count look.names; entries = behind look.entries; active = look.active }

  pub at_moved : (es : List Entry) (s : ℕ) → slice_get (behind es) (count + s) ≡ option_map (moved_entry prefix) (slice_get es s)
  at_moved es s = base_past base ∙ go es s
    where
      base_past : (bs : List Entry) → slice_get (bs ++ map (moved_entry prefix) es) (length bs + s) ≡ slice_get (map (moved_entry prefix) es) s
      base_past [] = ap (slice_get (map (moved_entry prefix) es)) (let l : 0 + s ≡ s = omega arith in l)
      base_past (b ∷ bs) = ap (slice_get (b ∷ bs ++ map (moved_entry prefix) es)) (let l : length (b ∷ bs) + s ≡ suc (length bs + s) = omega arith in l) ∙ base_past bs

      go : (es : List Entry) (s : ℕ) → slice_get (map (moved_entry prefix) es) s ≡ option_map (moved_entry prefix) (slice_get es s)
      go [] s = refl
      go (e ∷ es) zero = refl
      go (e ∷ es) (suc s) = go es s

  module _ (es : List Entry) (s : ℕ) where
    pub width_moved : width_at (behind es) (count + s) ≡ width_at es s
    width_moved = ap (λ o. option_map_or (λ (e : Entry). width_of e.range) o 0) (at_moved es s) ∙ go (slice_get es s)
      where
        go : (o : Option Entry) → option_map_or (λ (e : Entry). width_of e.range) (option_map (moved_entry prefix) o) 0 ≡ option_map_or (λ (e : Entry). width_of e.range) o 0
        go None = refl
        go (Some e) = refl

    pub range_moved : range_at (behind es) (count + s) ≡ range_at es s
    range_moved = ap (option_and_then (λ (e : Entry). e.range)) (at_moved es s) ∙ go (slice_get es s)
      where
        go : (o : Option Entry) → option_and_then (λ (e : Entry). e.range) (option_map (moved_entry prefix) o) ≡ option_and_then (λ (e : Entry). e.range) o
        go None = refl
        go (Some e) = refl

    pub reset_moved : reset_at (behind es) (count + s) ≡ reset_at es s
    reset_moved = ap (option_and_then (λ (e : Entry). e.reset)) (at_moved es s) ∙ go (slice_get es s)
      where
        go : (o : Option Entry) → option_and_then (λ (e : Entry). e.reset) (option_map (moved_entry prefix) o) ≡ option_and_then (λ (e : Entry). e.reset) o
        go None = refl
        go (Some e) = refl

    pub told_moved : {A : Type 0} (g : Entry → A) (d : A) → ((e : Entry) → g (moved_entry prefix e) ≡ g e)
        → option_map_or g (slice_get (behind es) (count + s)) d ≡ option_map_or g (slice_get es s) d
    told_moved {A} g d h = ap (λ o. option_map_or g o d) (at_moved es s) ∙ go (slice_get es s)
      where
        go : (o : Option Entry) → option_map_or g (option_map (moved_entry prefix) o) d ≡ option_map_or g o d
        go None = refl
        go (Some e) = h e

  pub unknown_moved : (look : Look) (x : Text) → unknown (far look) x ≡ unknown look x
  unknown_moved look x = ap (λ o. breaks_if (is_none o) 305 x) (meaning_moved count look.names x) ∙ go (meaning look x)
    where
      go : (o : Option Meaning) → breaks_if (is_none (moved_if count o)) 305 x ≡ breaks_if (is_none o) 305 x
      go None = refl
      go (Some m) = refl
