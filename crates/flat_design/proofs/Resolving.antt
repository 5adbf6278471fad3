-- A signal that resolves to a reset from now on.
use Rattle.std.proofs.Common.{◌≡◌, ℕ, zero, suc, List, [], ◌∷◌, map, Option, Some, None, refl, sym, ap, ap₂, subst, ◌∙◌, rules, Vec, Global}
use Rattle.std.specs.Prelude.{slice_get, option_map, option_and_then}
use Rattle.std.specs.Option.{option_map_or, option_or}
use Rattle.std.proofs.Math.ListN.{set}
use Rattle.std.proofs.lemmas.Option.{slice_get-map}
use Rattle.cdc_base.specs.declared.signal.ResetPin.{ResetPin}
use Rattle.flat_unfolding.specs.Names as n
use Rattle.flat_unfolding.specs.Names.{reset_at}
use Rattle.flat_unfolding.specs.Design as u
use Rattle.flat_unfolding.specs.Design.{change_entry}
use Rattle.flat_unfolding.specs.Instances.{resolving_to}
use Rattle.cell_graph.specs.Tree.{bit_at}
use Rattle.flat_unfolding.proofs.Steps.{some_is}
use Rattle.flat_names.specs.declared.design.Reset.{Reset}
use Rattle.flat_names.specs.declared.design.Entry.{Entry}
use Rattle.flat_names.specs.declared.design.Design.{Design}
use Rattle.flat_names.specs.Looks.{Seen, seen, shown}
use Rattle.flat_names.specs.Designs.{signal_of, IsReset, reset_of, start_at, known_at, value_at, AreGiven, ShowsDesign}
use Rattle.flat_design.proofs.Changes.{no-change, same-change, told-same}

-- the entries once a signal resolves to a reset
abbrev pub with_reset : ℕ → Option Reset → List Entry → List Entry
with_reset s q [] = []
with_reset zero q (x ∷ xs) = record x { reset = q } ∷ xs
with_reset (suc s) q (x ∷ xs) = x ∷ with_reset s q xs

pub set-reset : (s : ℕ) (q : Option Reset) (xs : List Entry) (x : Entry) → slice_get xs s ≡ Some x → set xs s (record x { reset = q }) ≡ with_reset s q xs
set-reset s q [] x e = absurd (search (rules, e))
set-reset zero q (y ∷ xs) x e = ap (λ (z : Entry). record z { reset = q } ∷ xs) (sym (some_is y x e))
set-reset (suc s) q (y ∷ xs) x e = ap (λ ys. y ∷ ys) (set-reset s q xs x e)

pub no-reset : (s : ℕ) (q : Option Reset) (xs : List Entry) → slice_get xs s ≡ None → with_reset s q xs ≡ xs
no-reset s q [] e = refl
no-reset zero q (y ∷ xs) e = absurd (search (rules, e))
no-reset (suc s) q (y ∷ xs) e = ap (λ ys. y ∷ ys) (no-reset s q xs e)

abbrev resolved : Option ResetPin → n.Entry → n.Entry
resolved r a = record a { reset = r }

pub same-level : (pins : List ResetPin) (q : Option Reset) (r : Option ResetPin) → IsReset pins q r → option_map (λ (p : Reset). p.is_high) q ≡ option_map (λ (p : ResetPin). p.high) r
same-level pins None None h = refl
same-level pins None (Some r) h = absurd h
same-level pins (Some q) None h = absurd h
same-level pins (Some q) (Some r) h = ap Some h.level

pub heads : {A : Type 0} (a b : A) (xs ys : List A) → a ∷ xs ≡ b ∷ ys → (a ≡ b) × (xs ≡ ys)
heads a b xs ys e = (cc, cc)

module _ (pins : List ResetPin) (q : Option Reset) (r : Option ResetPin) (h : IsReset pins q r) where
  seen-reset : (s : ℕ) (xs : List Entry) (es : List n.Entry) → map seen xs ≡ map shown es → map seen (with_reset s q xs) ≡ map shown (change_entry (resolved r) s es)
  seen-reset s [] [] e = refl
  seen-reset s [] (a ∷ es) e = absurd (search (rules, e))
  seen-reset s (x ∷ xs) [] e = absurd (search (rules, e))
  seen-reset zero (x ∷ xs) (a ∷ es) e =
      let p = heads (seen x) (shown a) (map seen xs) (map shown es) e in
      ap₂ (λ (k : Seen) ks. k ∷ ks) (ap₂ (λ (k : Seen) v. record k { level = v }) p.0 (same-level pins q r h)) p.1
  seen-reset (suc s) (x ∷ xs) (a ∷ es) e =
      let p = heads (seen x) (shown a) (map seen xs) (map shown es) e in ap₂ (λ (k : Seen) ks. k ∷ ks) p.0 (seen-reset s xs es p.1)

  resets-are : (s : ℕ) (xs : List Entry) (es : List n.Entry) → map seen xs ≡ map shown es → ((t : ℕ) → IsReset pins (reset_of xs t) (reset_at es t))
      → (t : ℕ) → IsReset pins (reset_of (with_reset s q xs) t) (reset_at (change_entry (resolved r) s es) t)
  resets-are s [] [] e k t = k t
  resets-are s [] (a ∷ es) e k t = absurd (search (rules, e))
  resets-are s (x ∷ xs) [] e k t = absurd (search (rules, e))
  resets-are zero (x ∷ xs) (a ∷ es) e k zero = h
  resets-are zero (x ∷ xs) (a ∷ es) e k (suc t) = k (suc t)
  resets-are (suc s) (x ∷ xs) (a ∷ es) e k zero = k zero
  resets-are (suc s) (x ∷ xs) (a ∷ es) e k (suc t) = resets-are s xs es (heads (seen x) (shown a) (map seen xs) (map shown es) e).1 (λ i. k (suc i)) t

-- what an entry has besides its reset stays
kept-told : {A : Type 0} (g : Option Entry → A) (q : Option Reset) → ((x : Entry) → g (Some (record x { reset = q })) ≡ g (Some x)) → (s : ℕ) (xs : List Entry) (t : ℕ) → g (slice_get (with_reset s q xs) t) ≡ g (slice_get xs t)
kept-told g q k s [] t = refl
kept-told g q k zero (y ∷ xs) zero = k y
kept-told g q k zero (y ∷ xs) (suc t) = refl
kept-told g q k (suc s) (y ∷ xs) zero = refl
kept-told g q k (suc s) (y ∷ xs) (suc t) = kept-told g q k s xs t

same-open : (s : ℕ) (q : Option Reset) (xs : List Entry) → map (λ (x : Entry). x.is_open) (with_reset s q xs) ≡ map (λ (x : Entry). x.is_open) xs
same-open s q [] = refl
same-open zero q (x ∷ xs) = refl
same-open (suc s) q (x ∷ xs) = ap (λ ys. x.is_open ∷ ys) (same-open s q xs)

-- the design shows that reset
pub shows-reset : (pins : List ResetPin) (d : Design) (e : u.Design) (q : Option Reset) (r : Option ResetPin) (s : ℕ) (v : Vec Entry Global) → ShowsDesign pins d e → IsReset pins q r → v.items ≡ with_reset s q d.entries.items
    → ShowsDesign pins (record d { entries = v }) (record e { entries = change_entry (λ (a : n.Entry). record a { reset = r }) s e.entries })
shows-reset pins d e q r s v h k i = record {
  entries = ap (map seen) i ∙ seen-reset pins q r k s d.entries.items e.entries h.entries;
  may_repeat = ap (map (λ (x : Entry). x.is_open)) i ∙ same-open s q d.entries.items ∙ h.may_repeat ∙ sym (told-same (λ (a : n.Entry). a.is_open) (resolved r) (λ a. refl) s e.entries);
  signals = h.signals ∙ sym (told-same signal_of (resolved r) (λ a. refl) s e.entries);
  resets = λ t. subst (λ xs. IsReset pins (reset_of xs t) (reset_at (change_entry (resolved r) s e.entries) t)) (sym i) (resets-are pins q r k s d.entries.items e.entries h.entries h.resets t);
  assigns = h.assigns;
  combs = h.combs;
  clocked = h.clocked;
  outputs = h.outputs;
  starts = λ t. ap (λ xs. start_at xs t) i ∙ kept-told (option_and_then (λ (x : Entry). x.start)) q (λ x. refl) s d.entries.items t ∙ h.starts t;
  givens = λ t. let w = h.givens t in record {
    known = λ j l. ap (λ n. bit_at n j) (ap (λ xs. known_at xs t) i ∙ kept-told (λ o. option_map_or (λ (x : Entry). x.reset_known) o 0) q (λ x. refl) s d.entries.items t) ∙ w.known j l;
    value = λ j l. ap (λ n. bit_at n j) (ap (λ xs. value_at xs t) i ∙ kept-told (λ o. option_map_or (λ (x : Entry). x.reset_start) o 0) q (λ x. refl) s d.entries.items t) ∙ w.value j l;
  };
  declared = h.declared;
  process_resets = h.process_resets;
  late = h.late;
  sizes = h.sizes;
}

-- the design shows what its tables showed, where these have the same items
pub same-items : (pins : List ResetPin) (d : Design) (e : u.Design) (v : Vec Entry Global) → ShowsDesign pins d e → v.items ≡ d.entries.items → ShowsDesign pins (record d { entries = v }) e
same-items pins d e v h i = record {
  declared = h.declared;
  entries = ap (map seen) i ∙ h.entries;
  may_repeat = ap (map (λ (x : Entry). x.is_open)) i ∙ h.may_repeat;
  signals = h.signals;
  resets = λ t. subst (λ (xs : List Entry). IsReset pins (reset_of xs t) (reset_at e.entries t)) (sym i) (h.resets t);
  assigns = h.assigns;
  combs = h.combs;
  clocked = h.clocked;
  outputs = h.outputs;
  starts = λ t. ap (λ (xs : List Entry). start_at xs t) i ∙ h.starts t;
  givens = λ t. subst (λ (xs : List Entry). AreGiven e.givens xs t) (sym i) (h.givens t);
  process_resets = h.process_resets;
  late = h.late;
  sizes = h.sizes;
}

module _ (pins : List ResetPin) (d : Design) (e : u.Design) (h : ShowsDesign pins d e) (s : ℕ) where
  -- the entry that a table's shows
  pub entry-there : (x : Entry) → slice_get d.entries.items s ≡ Some x → (a : n.Entry) × (slice_get e.entries s ≡ Some a) × (seen x ≡ shown a)
  entry-there x at = go (slice_get e.entries s) refl (sym (ap (option_map seen) at) ∙ sym (slice_get-map seen d.entries.items s) ∙ ap (λ zs. slice_get zs s) h.entries ∙ slice_get-map shown e.entries s)
    where
      go : (o : Option n.Entry) → slice_get e.entries s ≡ o → Some (seen x) ≡ option_map shown o → (a : n.Entry) × (slice_get e.entries s ≡ Some a) × (seen x ≡ shown a)
      go None f g = absurd (search (rules, g))
      go (Some a) f g = (a, f, some_is (seen x) (shown a) g)

  none-there : slice_get d.entries.items s ≡ None → slice_get e.entries s ≡ None
  none-there f = go (slice_get e.entries s) (sym (ap (option_map seen) f) ∙ sym (slice_get-map seen d.entries.items s) ∙ ap (λ zs. slice_get zs s) h.entries ∙ slice_get-map shown e.entries s)
    where
      go : (o : Option n.Entry) → None ≡ option_map shown o → o ≡ None
      go None f = refl
      go (Some a) f = absurd (search (rules, f))

  -- a change of a signal that isn't there
  pub unchanged-there : (f : n.Entry → n.Entry) (v : Vec Entry Global) → slice_get d.entries.items s ≡ None → v.items ≡ d.entries.items → ShowsDesign pins (record d { entries = v }) (record e { entries = change_entry f s e.entries })
  unchanged-there f v none i = subst (λ (es : List n.Entry). ShowsDesign pins (record d { entries = v }) (record e { entries = es })) (sym (no-change f s e.entries (none-there none))) (same-items pins d e v h i)

  module _ (q : Option Reset) (r : Option ResetPin) (k : IsReset pins q r) where
    first-reset : (p : Option Reset) (o : Option ResetPin) → IsReset pins p o → IsReset pins (option_or p q) (option_or o r)
    first-reset None None m = k
    first-reset None (Some o) m = absurd m
    first-reset (Some p) None m = absurd m
    first-reset (Some p) (Some o) m = m

    -- a port keeps the reset that it is declared as, and else resolves to this one
    pub shows-resolving : (x : Entry) (v : Vec Entry Global) → slice_get d.entries.items s ≡ Some x → v.items ≡ set d.entries.items s (record x { reset = option_or x.reset q })
        → ShowsDesign pins (record d { entries = v }) (record e { entries = change_entry (resolving_to r) s e.entries })
    shows-resolving x v at i =
        let b = entry-there x at in let a = b.0 in let o = option_or a.reset r in
        let own : IsReset pins x.reset a.reset = subst (IsReset pins x.reset) (ap (λ (z : Option n.Entry). option_and_then (λ (c : n.Entry). c.reset) z) b.1)
        (subst (λ (z : Option Entry). IsReset pins (option_and_then (λ (c : Entry). c.reset) z) (reset_at e.entries s)) at (h.resets s)) in
        subst (λ (es : List n.Entry). ShowsDesign pins (record d { entries = v }) (record e { entries = es })) (same-change (λ (z : n.Entry). record z { reset = o }) (resolving_to r) s e.entries a b.1 refl)
        (shows-reset pins d e (option_or x.reset q) o s v h (first-reset x.reset a.reset own) (i ∙ set-reset s (option_or x.reset q) d.entries.items x at))
