-- All plain copies of bits of their own clock.
use Rattle.std.proofs.Common.{◌≡◌, ◌∙◌, inl, inr, refl, sym, ap, subst, ℕ, ◌+◌, ◌<◌, ◌≤◌, Bool, true, false, cond, Option, Some, None, List, [], ◌∷◌, ◌++◌, drop, length, get_or, Contains, Ordering, Less, Equal, Greater, append_assoc, append-nil, is_some, ltb-true}
use Rattle.std.specs.List.{flat_map, IsDistinct}
use Rattle.std.specs.List.Sorted.{IsPermutation, IsSortedBy}
use Rattle.std.specs.Option.{option_to_list}
use Rattle.std.specs.Ordering.{is_lt, is_eq, ordering_reverse}
use Rattle.std.specs.Prelude.{option_and_then}
use Rattle.std.proofs.lemmas.Bool.{both_ways, and_parts}
use Rattle.std.proofs.lemmas.List.{drop_more, drop_all}
use Rattle.std.proofs.lemmas.List.Elements.{Contains-append_cases, Contains-append_left, Contains-append_right}
use Rattle.std.proofs.lemmas.List.Sorted.{Contains-permutation, IsPermutation-sym}
use Rattle.std.proofs.lemmas.Map.Keys.{IsDistinct-IsPermutation}
use Rattle.cdc_base.specs.declared.bit.Bit.{Bit}
use Rattle.cell_graph.specs.declared.net.Net.{Net}
use Rattle.cell_graph.specs.Cofactor.{same}
use Rattle.domains.specs.declared.Domains.{Domains}
use Rattle.domains.specs.Nets.{IsNet}
use Rattle.cdc_model.specs.Nets.{bits_of_registers, is_register_bit, next_tree, next_cell, is_within, bit_count}
use Rattle.cdc_model.specs.Ordered.{IsAll, is_before}
use Rattle.cdc_model.specs.Syncs.{on_one_clock}
use Rattle.cdc_model.specs.Verdict.{bit_key}
use Rattle.cdc_model.proofs.Ascending.{here, later, parts, nothing_in, Ascends}
use Rattle.cdc_model.proofs.Found.{net_ascends, registers_ascend}
use Rattle.cdc_model.proofs.Loads.{all_of}
use Rattle.cdc_model.proofs.NetDesign.{in_bits}
use Rattle.cdc_model.proofs.Ordered.{never_before}
use Rattle.cdc_model.proofs.Synced.{unlisted}
use Rattle.obligations.specs.declared.arrivals.Copying.{Copying}
use Rattle.obligations.specs.Arrivals.{IsCopying, copying_of, copyings_among, copying_key}
use Rattle.cdc_model.proofs.Keys.{Ends, ends_cmp, ends_key, ends_order, ascending}

-- ---- loops over lists

-- what one item gives goes to the end
pub given_more : {A B : Type 0} (f : A → List B) (xs : List A) (old new all : List B) (i : ℕ) (d : A) → i < length xs → new ≡ old ++ f (get_or xs i d)
    → old ++ flat_map f (drop i xs) ≡ all → new ++ flat_map f (drop (i + 1) xs) ≡ all
given_more f xs old new all i d l more h =
    ap (λ ys. ys ++ flat_map f (drop (i + 1) xs)) more ∙ append_assoc old (f (get_or xs i d)) (flat_map f (drop (i + 1) xs))
    ∙ ap (λ ys. old ++ flat_map f ys) (sym (drop_more xs i d l)) ∙ h

pub given_all : {A B : Type 0} (f : A → List B) (xs : List A) (old all : List B) (i : ℕ) → length xs ≤ i → old ++ flat_map f (drop i xs) ≡ all → old ≡ all
given_all f xs old all i l h = sym (append-nil old) ∙ ap (λ ys. old ++ flat_map f ys) (sym (drop_all i xs l)) ∙ h

-- ---- copyings of a net

-- each bit of a register is listed
pub registers_listed : (net : Net) (x : Bit) → is_register_bit net x ≡ true → Contains (bits_of_registers net.graph.signals net.regs) x
registers_listed net x h =
    let p = and_parts (is_some (next_cell net.regs x.sig)) (is_within net x) h in
    in_bits net.graph.signals x (ltb-true x.at (bit_count net.graph.signals x.sig) p.1) net.regs p.0

module _ (net : Net) (domains : Domains) where
  of_copying : (x : Bit) (c : Copying) → copying_of net domains x ≡ Some c → (c.to ≡ x) × (same [] (next_tree net x.sig) x.at ≡ Some c.from) × (on_one_clock domains x c.from ≡ true)
  of_copying x c = go (same [] (next_tree net x.sig) x.at) refl
    where
      by : (b : Bit) → same [] (next_tree net x.sig) x.at ≡ Some b → (v : Bool) → on_one_clock domains x b ≡ v → cond v (Some (record { from = b; to = x })) None ≡ Some c
          → (c.to ≡ x) × (same [] (next_tree net x.sig) x.at ≡ Some c.from) × (on_one_clock domains x c.from ≡ true)
      by b e true f h =
          let k : record { from = b; to = x } ≡ c = cc in
          (ap (λ (q : Copying). q.to) (sym k), e ∙ ap (λ (q : Copying). Some q.from) k, ap (λ (q : Copying). on_one_clock domains x q.from) (sym k) ∙ f)
      by b e false f h = cc

      go : (o : Option Bit) → same [] (next_tree net x.sig) x.at ≡ o → option_and_then (λ (b : Bit). cond (on_one_clock domains x b) (Some (record { from = b; to = x })) None) o ≡ Some c
          → (c.to ≡ x) × (same [] (next_tree net x.sig) x.at ≡ Some c.from) × (on_one_clock domains x c.from ≡ true)
      go None e h = cc
      go (Some b) e h = by b e (on_one_clock domains x b) refl h

  to_copying : (c : Copying) → IsCopying net domains c → copying_of net domains c.to ≡ Some c
  to_copying c is =
      ap (option_and_then (λ (b : Bit). cond (on_one_clock domains c.to b) (Some (record { from = b; to = c.to })) None)) is.1
      ∙ ap (λ v. cond v (Some c) None) is.2

  in_list : (o : Option Copying) (c : Copying) → Contains (option_to_list o) c → o ≡ Some c
  in_list None c i = absurd (nothing_in c i)
  in_list (Some k) c i = elim (parts k [] c i) [ inl e ↦ ap Some e | inr j ↦ absurd (nothing_in c j) ]

  from_among : (bits : List Bit) (c : Copying) → Contains (copyings_among net domains bits) c → Contains bits c.to × (copying_of net domains c.to ≡ Some c)
  from_among [] c i = absurd (nothing_in c i)
  from_among (x ∷ bits) c i = elim (Contains-append_cases (option_to_list (copying_of net domains x)) (copyings_among net domains bits) c i) [
    | inl j ↦ (let e = in_list (copying_of net domains x) c j in
        let to = (of_copying x c e).0 in
        (subst (λ (y : Bit). Contains (x ∷ bits) y) (sym to) (here x bits), ap (copying_of net domains) to ∙ e))
    | inr j ↦ let k = from_among bits c j in (later x bits c.to k.0, k.1)
  ]

  to_among : (bits : List Bit) (c : Copying) → Contains bits c.to → copying_of net domains c.to ≡ Some c → Contains (copyings_among net domains bits) c
  to_among [] c i e = absurd (nothing_in c.to i)
  to_among (x ∷ bits) c i e = elim (parts x bits c.to i) [
    | inl f ↦ Contains-append_left (option_to_list (copying_of net domains x)) (copyings_among net domains bits) c
        (subst (λ (o : Option Copying). Contains (option_to_list o) c) (sym e ∙ ap (copying_of net domains) (sym f)) (here c []))
    | inr j ↦ Contains-append_right (option_to_list (copying_of net domains x)) (copyings_among net domains bits) c (to_among bits c j e)
  ]

  abbrev ends_of : Copying → Ends
  ends_of c = (c.from, c.to)

  same_ends : Copying → Copying → Bool
  same_ends c k = is_eq (ends_cmp (ends_of c) (ends_of k))

  flips : (c k : Copying) → same_ends c k ≡ same_ends k c
  unfolding same_ends
  flips c k = ap is_eq (ends_order.total.antisymm (ends_of c) (ends_of k)) ∙ back (ends_cmp (ends_of k) (ends_of c))
    where
      back : (o : Ordering) → is_eq (ordering_reverse o) ≡ is_eq o
      back Less = refl
      back Equal = refl
      back Greater = refl

  apart : (c k : Copying) → is_before (bit_key c.to []) (bit_key k.to []) ≡ true → same_ends c k ≡ false
  unfolding same_ends
  apart c k h = unlike (ends_cmp (ends_of c) (ends_of k)) (λ e. both_ways (is_before (bit_key k.to []) (bit_key k.to [])) (never_before (bit_key k.to []))
      (subst (λ (x : Bit). is_before (bit_key x []) (bit_key k.to []) ≡ true) (ap (λ (p : Ends). p.1) (ends_order.same (ends_of c) (ends_of k) e)) h))
    where
      unlike : (o : Ordering) → (o ≡ Equal → ⊥) → is_eq o ≡ false
      unlike Less n = refl
      unlike Equal n = absurd (n refl)
      unlike Greater n = refl

  distinct : (bits : List Bit) → Ascends (λ (b : Bit). bit_key b []) bits → IsDistinct same_ends (copyings_among net domains bits)
  unfolding IsDistinct
  distinct [] up = tt
  distinct (x ∷ bits) up = go (copying_of net domains x) refl (distinct bits up.1)
    where
      go : (o : Option Copying) → copying_of net domains x ≡ o → IsDistinct same_ends (copyings_among net domains bits) → IsDistinct same_ends (option_to_list o ++ copyings_among net domains bits)
      go None e ih = ih
      go (Some c) e ih = (
        all_of (λ k. same_ends c k ≡ false) (copyings_among net domains bits) (λ k i.
            apart c k (subst (λ (y : Bit). is_before (bit_key y []) (bit_key k.to []) ≡ true) (sym (of_copying x c e).0) (up.0 k.to (from_among bits k i).0))),
        ih,
      )

  module _ (is : IsNet net) where
    abbrev bits : List Bit
    bits = bits_of_registers net.graph.signals net.regs

    pub all_copyings : ((x : Bit) → is_register_bit net x ≡ true → Contains (bits_of_registers net.graph.signals net.regs) x) → (cs : List Copying) → IsPermutation (copyings_among net domains (bits_of_registers net.graph.signals net.regs)) cs
        → IsSortedBy (λ (c : Copying) (k : Copying). is_lt (ends_cmp (c.from, c.to) (k.from, k.to))) cs → IsAll (IsCopying net domains) copying_key cs
    unfolding same_ends
    all_copyings listed cs moved sorted = record {
      all = λ c k. Contains-permutation (copyings_among net domains bits) cs c moved (to_among bits c (listed c.to k.0) (to_copying c k));
      only = λ c i.
          let k = from_among bits c (Contains-permutation cs (copyings_among net domains bits) c (IsPermutation-sym (copyings_among net domains bits) cs moved) i) in
          let e = of_copying c.to c k.1 in
          (unlisted net is c.to c.to k.0, e.1, e.2);
      ordered = ascending ends_cmp ends_key ends_order ends_of cs sorted
          (IsDistinct-IsPermutation same_ends flips (copyings_among net domains bits) cs moved (distinct bits (registers_ascend net.graph.signals net.regs (net_ascends net is))));
    }
