-- The design once a reset gave registers their values.
use Rattle.std.proofs.Common.{◌≡◌, ℕ, zero, suc, ◌+◌, ◌-◌, ◌^◌, ◌<◌, ◌≤◌, Bool, true, false, cond, not, ◌&&◌, ◌||◌, ◌==◌, nat_lt, nat_le, List, [], ◌∷◌, ◌++◌, length, map, Option, Some, None, is_some, refl, sym, ap, ap₂, subst, ◌∙◌, arith, append_assoc, append-nil, eqb-true, eq-eqb, le-leb, bit_and, bit_or, set, get_or, Vec, Global}
use Rattle.std.specs.Prelude.{◌≢◌}
use Rattle.std.proofs.lemmas.List.{length-map}
use Rattle.std.proofs.lemmas.Bool.{lt-leb, false≢true}
use Rattle.std.specs.Prelude.{unwrap_or}
use Rattle.std.specs.Option.{option_or}
use Rattle.cdc_base.specs.declared.signal.ResetPin.{ResetPin}
use Rattle.cell_graph.specs.Tree.{bit_at}
use Rattle.cell_graph.proofs.Words.{bit_or-bit}
use Rattle.flat_meaning.specs.Assigned.{is_within}
use Rattle.flat_meaning.proofs.Words.{by_lt}
use Rattle.flat_form.proofs.MaskSets.{but-bits}
use Rattle.flat_unfolding.specs.Names.{reset_at}
use Rattle.flat_unfolding.specs.Starts.{given_bit}
use Rattle.flat_unfolding.specs.Design as u
use Rattle.flat_names.specs.declared.design.Design.{Design}
use Rattle.flat_names.specs.declared.design.Entry.{Entry}
use Rattle.flat_names.specs.Looks.{seen, shown}
use Rattle.flat_names.specs.Designs as d
use Rattle.flat_names.specs.Designs.{IsReset, reset_of, start_at, known_at, value_at, ShowsDesign}
use Rattle.flat_process.specs.declared.reset.Given.{Given}
use Rattle.flat_process.specs.Resets.{IsGiven, AreGiven, more_given, with_given}

-- ---- entries, one of which got values of a reset

seen-same : (s : ℕ) (g : Given) (xs : List Entry) → map seen (with_given s g xs) ≡ map seen xs
seen-same s g [] = refl
seen-same zero g (x ∷ xs) = refl
seen-same (suc s) g (x ∷ xs) = ap (λ ys. seen x ∷ ys) (seen-same s g xs)

open-same : (s : ℕ) (g : Given) (xs : List Entry) → map (λ (x : Entry). x.is_open) (with_given s g xs) ≡ map (λ (x : Entry). x.is_open) xs
open-same s g [] = refl
open-same zero g (x ∷ xs) = refl
open-same (suc s) g (x ∷ xs) = ap (λ ys. x.is_open ∷ ys) (open-same s g xs)

reset-same : (s : ℕ) (g : Given) (xs : List Entry) (k : ℕ) → reset_of (with_given s g xs) k ≡ reset_of xs k
reset-same s g [] k = refl
reset-same zero g (x ∷ xs) zero = refl
reset-same zero g (x ∷ xs) (suc k) = refl
reset-same (suc s) g (x ∷ xs) zero = refl
reset-same (suc s) g (x ∷ xs) (suc k) = reset-same s g xs k

start-same : (s : ℕ) (g : Given) (xs : List Entry) (k : ℕ) → start_at (with_given s g xs) k ≡ start_at xs k
start-same s g [] k = refl
start-same zero g (x ∷ xs) zero = refl
start-same zero g (x ∷ xs) (suc k) = refl
start-same (suc s) g (x ∷ xs) zero = refl
start-same (suc s) g (x ∷ xs) (suc k) = start-same s g xs k

known-here : (s : ℕ) (g : Given) (xs : List Entry) → s < length xs → known_at (with_given s g xs) s ≡ bit_or (known_at xs s) g.mask
known-here s g [] h = absurd (omega arith)
known-here zero g (x ∷ xs) h = refl
known-here (suc s) g (x ∷ xs) h = known-here s g xs (omega arith)

known-other : (s : ℕ) (g : Given) (xs : List Entry) (k : ℕ) → s ≢ k → known_at (with_given s g xs) k ≡ known_at xs k
known-other s g [] k h = refl
known-other zero g (x ∷ xs) zero h = absurd (h refl)
known-other zero g (x ∷ xs) (suc k) h = refl
known-other (suc s) g (x ∷ xs) zero h = refl
known-other (suc s) g (x ∷ xs) (suc k) h = known-other s g xs k (λ e. h (ap suc e))

value-here : (s : ℕ) (g : Given) (xs : List Entry) → s < length xs → value_at (with_given s g xs) s ≡ bit_or (bit_and (value_at xs s) (2 ^ 64 - 1 - g.mask)) g.value
value-here s g [] h = absurd (omega arith)
value-here zero g (x ∷ xs) h = refl
value-here (suc s) g (x ∷ xs) h = value-here s g xs (omega arith)

value-other : (s : ℕ) (g : Given) (xs : List Entry) (k : ℕ) → s ≢ k → value_at (with_given s g xs) k ≡ value_at xs k
value-other s g [] k h = refl
value-other zero g (x ∷ xs) zero h = absurd (h refl)
value-other zero g (x ∷ xs) (suc k) h = refl
value-other (suc s) g (x ∷ xs) zero h = refl
value-other (suc s) g (x ∷ xs) (suc k) h = value-other s g xs k (λ e. h (ap suc e))

no-equal : (s k : ℕ) → (s == k) ≡ false → s ≢ k
no-equal s k h e = false≢true (sym h ∙ eq-eqb s k e)

known-more : (s : ℕ) (g : Given) (xs : List Entry) (k : ℕ) (t : Bool) → (s == k) ≡ t → s < length xs → known_at (with_given s g xs) k ≡ cond t (bit_or (known_at xs k) g.mask) (known_at xs k)
known-more s g xs k true e h = subst (λ j. known_at (with_given s g xs) j ≡ bit_or (known_at xs j) g.mask) (eqb-true s k e) (known-here s g xs h)
known-more s g xs k false e h = known-other s g xs k (no-equal s k e)

value-more : (s : ℕ) (g : Given) (xs : List Entry) (k : ℕ) (t : Bool) → (s == k) ≡ t → s < length xs → value_at (with_given s g xs) k ≡ cond t (bit_or (bit_and (value_at xs k) (2 ^ 64 - 1 - g.mask)) g.value) (value_at xs k)
value-more s g xs k true e h = subst (λ j. value_at (with_given s g xs) j ≡ bit_or (bit_and (value_at xs j) (2 ^ 64 - 1 - g.mask)) g.value) (eqb-true s k e) (value-here s g xs h)
value-more s g xs k false e h = value-other s g xs k (no-equal s k e)

pub set-given : (s : ℕ) (g : Given) (xs : List Entry) (x : Entry) → s < length xs → x ≡ get_or xs s x → set xs s (more_given g x) ≡ with_given s g xs
set-given s g [] x l h = absurd (omega arith)
set-given zero g (y ∷ xs) x l h = ap (λ z. more_given g z ∷ xs) h
set-given (suc s) g (y ∷ xs) x l h = ap (λ ys. y ∷ ys) (set-given s g xs x (omega arith) h)

pub unset-given : (s : ℕ) (g : Given) (xs : List Entry) → length xs ≤ s → xs ≡ with_given s g xs
unset-given s g [] l = refl
unset-given zero g (y ∷ xs) l = absurd (omega arith)
unset-given (suc s) g (y ∷ xs) l = ap (λ ys. y ∷ ys) (unset-given s g xs (omega arith))

-- ---- the bits that are given

abbrev bit_one : u.Given → (sig at : ℕ) → Option Bool
bit_one v s i = cond ((v.sig == s) && (nat_le v.at i && nat_lt i (v.at + v.bits))) (Some (bit_at v.value (i - v.at))) None

or-none : (o : Option Bool) → o ≡ option_or o None
or-none None = refl
or-none (Some b) = refl

or-three : (a b c : Option Bool) → option_or (option_or a b) c ≡ option_or a (option_or b c)
or-three None b c = refl
or-three (Some x) b c = refl

given-push : (gs : List u.Given) (v : u.Given) (s i : ℕ) → given_bit (gs ++ v ∷ []) s i ≡ option_or (bit_one v s i) (given_bit gs s i)
given-push [] v s i = or-none (bit_one v s i)
given-push (g ∷ gs) v s i = ap (λ o. option_or o (bit_one g s i)) (given-push gs v s i) ∙ or-three (bit_one v s i) (given_bit gs s i) (bit_one g s i)

within-is : (at w i : ℕ) → (nat_le at i && nat_lt i (at + w)) ≡ is_within at w i
within-is at w i = ap (λ b. b && nat_lt i (at + w)) (sym (by_lt (λ b. not b ≡ nat_le at i) i at (λ l. sym (lt-leb at i l)) (λ m. sym (le-leb at i m))))

known-by : (w b : Bool) (o : Option Bool) → (is_some o || w) ≡ is_some (option_or (cond w (Some b) None) o)
known-by true b None = refl
known-by true b (Some x) = refl
known-by false b None = refl
known-by false b (Some x) = refl

value-by : (w b : Bool) (o : Option Bool) → ((unwrap_or o false && not w) || (w && b)) ≡ unwrap_or (option_or (cond w (Some b) None) o) false
value-by true b None = refl
value-by true true (Some true) = refl
value-by true true (Some false) = refl
value-by true false (Some true) = refl
value-by true false (Some false) = refl
value-by false b None = refl
value-by false b (Some true) = refl
value-by false b (Some false) = refl

module _ (n : ℕ) (v : u.Given) (g : Given) (h : IsGiven n v g) where
  one-is : (s i : ℕ) (t : Bool) → (v.sig == s) ≡ t → bit_one v s i ≡ cond t (cond (is_within v.at v.bits i) (Some (bit_at v.value (i - v.at))) None) None
  one-is s i true e = ap₂ (λ a b. cond (a && b) (Some (bit_at v.value (i - v.at))) None) e (within-is v.at v.bits i)
  one-is s i false e = ap (λ a. cond (a && (nat_le v.at i && nat_lt i (v.at + v.bits))) (Some (bit_at v.value (i - v.at))) None) e

  known-one : (k i : ℕ) (o : Option Bool) → i < 64 → bit_at k i ≡ is_some o → bit_at (bit_or k g.mask) i ≡ is_some (option_or (cond (is_within v.at v.bits i) (Some (bit_at v.value (i - v.at))) None) o)
  known-one k i o l e = bit_or-bit k g.mask i ∙ ap₂ (λ a b. a || b) e (h.mask i l) ∙ known-by (is_within v.at v.bits i) (bit_at v.value (i - v.at)) o

  value-one : (k i : ℕ) (o : Option Bool) → i < 64 → bit_at k i ≡ unwrap_or o false
      → bit_at (bit_or (bit_and k (2 ^ 64 - 1 - g.mask)) g.value) i ≡ unwrap_or (option_or (cond (is_within v.at v.bits i) (Some (bit_at v.value (i - v.at))) None) o) false
  value-one k i o l e = bit_or-bit (bit_and k (2 ^ 64 - 1 - g.mask)) g.value i
      ∙ ap₂ (λ a b. a || b) (but-bits k g.mask i h.word l ∙ ap₂ (λ a b. a && not b) e (h.mask i l)) (h.value i l)
      ∙ value-by (is_within v.at v.bits i) (bit_at v.value (i - v.at)) o

  given-more : (gs : List u.Given) (xs : List Entry) (s : ℕ) → g.sig < length xs → d.AreGiven gs xs s → d.AreGiven (gs ++ v ∷ []) (with_given g.sig g xs) s
  given-more gs xs s small a = record {
    known = λ i l. ap (λ k. bit_at k i) (known-more g.sig g xs s (v.sig == s) (ap (λ z. z == s) h.sig) small) ∙ known-go i l (v.sig == s) refl ∙ ap is_some (sym (given-push gs v s i));
    value = λ i l. ap (λ k. bit_at k i) (value-more g.sig g xs s (v.sig == s) (ap (λ z. z == s) h.sig) small) ∙ value-go i l (v.sig == s) refl ∙ ap (λ o. unwrap_or o false) (sym (given-push gs v s i));
  }
    where
      known-go : (i : ℕ) → i < 64 → (t : Bool) → (v.sig == s) ≡ t → bit_at (cond t (bit_or (known_at xs s) g.mask) (known_at xs s)) i ≡ is_some (option_or (bit_one v s i) (given_bit gs s i))
      known-go i l true e = known-one (known_at xs s) i (given_bit gs s i) l (a.known i l) ∙ ap (λ o. is_some (option_or o (given_bit gs s i))) (sym (one-is s i true e))
      known-go i l false e = a.known i l ∙ ap (λ o. is_some (option_or o (given_bit gs s i))) (sym (one-is s i false e))

      value-go : (i : ℕ) → i < 64 → (t : Bool) → (v.sig == s) ≡ t
          → bit_at (cond t (bit_or (bit_and (value_at xs s) (2 ^ 64 - 1 - g.mask)) g.value) (value_at xs s)) i ≡ unwrap_or (option_or (bit_one v s i) (given_bit gs s i)) false
      value-go i l true e = value-one (value_at xs s) i (given_bit gs s i) l (a.value i l) ∙ ap (λ o. unwrap_or (option_or o (given_bit gs s i)) false) (sym (one-is s i true e))
      value-go i l false e = a.value i l ∙ ap (λ o. unwrap_or (option_or o (given_bit gs s i)) false) (sym (one-is s i false e))

-- ---- the design

module _ (pins : List ResetPin) (c : Design) (e : u.Design) (h : ShowsDesign pins c e) where
  as-many : length c.entries.items ≡ length e.entries
  as-many = sym (length-map c.entries.items seen) ∙ ap length h.entries ∙ length-map e.entries shown

  -- one more value of a reset
  pub shows-given : (w : Vec Entry Global) (v : u.Given) (g : Given) → IsGiven (length e.entries) v g → w.items ≡ with_given g.sig g c.entries.items
      → ShowsDesign pins (record c { entries = w }) (record e { givens = e.givens ++ v ∷ [] })
  shows-given w v g i k =
      let small : g.sig < length c.entries.items = let a = i.declared in let b = i.sig in let m = as-many in omega arith in
      record {
        entries = ap (map seen) k ∙ seen-same g.sig g c.entries.items ∙ h.entries;
        may_repeat = ap (map (λ (x : Entry). x.is_open)) k ∙ open-same g.sig g c.entries.items ∙ h.may_repeat;
        signals = h.signals;
        resets = λ s. subst (λ o. IsReset pins o (reset_at e.entries s)) (sym (ap (λ ys. reset_of ys s) k ∙ reset-same g.sig g c.entries.items s)) (h.resets s);
        assigns = h.assigns;
        combs = h.combs;
        clocked = h.clocked;
        declared = h.declared;
        process_resets = h.process_resets;
        late = h.late;
        outputs = h.outputs;
        starts = λ s. ap (λ ys. start_at ys s) k ∙ start-same g.sig g c.entries.items s ∙ h.starts s;
        givens = λ s. subst (λ ys. d.AreGiven (e.givens ++ v ∷ []) ys s) (sym k) (given-more (length e.entries) v g i e.givens c.entries.items s small (h.givens s));
        sizes = h.sizes;
      }

-- ---- one value after another

pub record KeptSoFar (pins : List ResetPin) (e : u.Design) (us : List u.Given) (c : Design) (left : List Given) : Type 0 where
  pub so_far : List u.Given
  pub later : List u.Given
  pub is : us ≡ so_far ++ later
  pub shows : ShowsDesign pins c (record e { givens = e.givens ++ so_far })
  pub are : AreGiven (length e.entries) later left

module _ (pins : List ResetPin) (e : u.Design) where
  pub kept-next : (us : List u.Given) (c b : Design) (g : Given) (left : List Given) → KeptSoFar pins e us c (g ∷ left)
      → ((e : u.Design) (v : u.Given) → ShowsDesign pins c e → IsGiven (length e.entries) v g → ShowsDesign pins b (record e { givens = e.givens ++ v ∷ [] })) → KeptSoFar pins e us b left
  kept-next us c b g left k f = go k.later k.is k.are
    where
      go : (later : List u.Given) → us ≡ k.so_far ++ later → AreGiven (length e.entries) later (g ∷ left) → KeptSoFar pins e us b left
      go [] i a = absurd a
      go (v ∷ later) i a = record {
        so_far = k.so_far ++ v ∷ [];
        later = later;
        is = i ∙ sym (append_assoc k.so_far (v ∷ []) later);
        shows = subst (λ gs. ShowsDesign pins b (record e { givens = gs })) (append_assoc e.givens k.so_far (v ∷ [])) (f (record e { givens = e.givens ++ k.so_far }) v k.shows a.0);
        are = a.1;
      }

  pub kept-all : (us : List u.Given) (c : Design) → KeptSoFar pins e us c [] → ShowsDesign pins c (record e { givens = e.givens ++ us })
  kept-all us c k = go k.later k.is k.are
    where
      go : (later : List u.Given) → us ≡ k.so_far ++ later → AreGiven (length e.entries) later [] → ShowsDesign pins c (record e { givens = e.givens ++ us })
      go [] i a = subst (λ vs. ShowsDesign pins c (record e { givens = e.givens ++ vs })) (sym (i ∙ append-nil k.so_far)) k.shows
      go (v ∷ later) i a = absurd a
