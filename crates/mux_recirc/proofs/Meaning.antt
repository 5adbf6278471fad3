-- What the tests on bits of a listed ring mean of the ring.
use Rattle.std.proofs.Common.{◌≡◌, ◌∙◌, refl, sym, ap, arith, ℕ, zero, suc, ◌+◌, ◌<◌, ◌≤◌, Bool, true, false, not, Option, Some, None, List, [], ◌∷◌, ◌++◌, length, slice_get, append_assoc}
use Rattle.std.proofs.lemmas.Bool.{and_parts, and_from}
use Rattle.cdc_base.specs.declared.bit.Bit.{Bit}
use Rattle.cell_graph.specs.declared.net.Net.{Net}
use Rattle.cell_graph.specs.Cofactor.{same}
use Rattle.cell_graph.specs.Reading.{Cube, bit_eq}
use Rattle.cell_graph.proofs.Bits.{bit_eq-true, bit_eq-refl}
use Rattle.domains.specs.declared.Domains.{Domains}
use Rattle.cdc_model.specs.declared.scheme.GrayReg.{GrayReg}
use Rattle.cdc_model.specs.Design.{group, at_bit}
use Rattle.cdc_model.specs.Listed.{ring_entry}
use Rattle.cdc_model.specs.Nets.{design_of, net_trees, next_tree}
use Rattle.cdc_model.specs.Schemes.{IsAt, last_flop, flops, Ring, request, acknowledge, ring_bits, behind_request, up_to_acknowledge, IsHeld, IsGate}
use Rattle.cdc_model.proofs.Rings.{ring_last}
use Rattle.mux_recirc.specs.Held.{at_bits, keeps_between, keeps_in}
use Rattle.mux_recirc.specs.Shown.{keeps, differing}
use Rattle.mux_recirc.proofs.Listed.{last_there}

-- ---- held bits

module _ (net : Net) (cube : Cube) (b : Bit) where
  pub keeps_true : keeps net cube b ≡ true → same cube (next_tree net b.sig) b.at ≡ Some b
  keeps_true h = go (same cube (next_tree net b.sig) b.at) h
    where
      go : (o : Option Bit) → at_bit o (λ a. bit_eq a b) ≡ true → o ≡ Some b
      go None k = cc
      go (Some a) k = ap Some (bit_eq-true a b k)

  pub true_keeps : same cube (next_tree net b.sig) b.at ≡ Some b → keeps net cube b ≡ true
  true_keeps e = ap (λ o. at_bit o (λ a. bit_eq a b)) e ∙ bit_eq-refl b

-- the test on the ring's bits is that on its two ends
ends_are : (net : Net) (r : Ring) (b : Bit) → keeps_in net (ring_entry r) b ≡ keeps_between net (request r) (last_flop r.back) b
ends_are net r b = ap (λ o. at_bits (Some (request r)) o (λ p q. keeps_between net p q b)) (last_there (request r) (behind_request r) ∙ ap Some (ring_last r))

module _ (net : Net) (domains : Domains) (grays : GrayReg → Bool) (r : Ring) (b : Bit) where
  pub held_answer : IsHeld (design_of net domains) (net_trees net grays) r b → keeps_in net (ring_entry r) b ≡ true
  held_answer h =
      ends_are net r b ∙ and_from (keeps net (differing (request r) (last_flop r.back) true) b) (keeps net (differing (request r) (last_flop r.back) false) b)
      (true_keeps net (differing (request r) (last_flop r.back) true) b (h.holds true)) (true_keeps net (differing (request r) (last_flop r.back) false) b (h.holds false))

  pub answer_held : (design_of net domains).is_register b ≡ true → group (design_of net domains) b ≡ group (design_of net domains) (request r) → keeps_in net (ring_entry r) b ≡ true
      → IsHeld (design_of net domains) (net_trees net grays) r b
  answer_held reg together h = record { register = reg; group = together; holds = each }
    where
      both : (keeps net (differing (request r) (last_flop r.back) true) b ≡ true) × (keeps net (differing (request r) (last_flop r.back) false) b ≡ true)
      both = and_parts (keeps net (differing (request r) (last_flop r.back) true) b) (keeps net (differing (request r) (last_flop r.back) false) b) (sym (ends_are net r b) ∙ h)

      each : (v : Bool) → same ((request r, v) ∷ (last_flop r.back, not v) ∷ []) (next_tree net b.sig) b.at ≡ Some b
      each true = keeps_true net (differing (request r) (last_flop r.back) true) b both.0
      each false = keeps_true net (differing (request r) (last_flop r.back) false) b both.1

-- ---- gates

at_get : (n : ℕ) (b : Bit) (xs : List Bit) → IsAt n b xs → slice_get xs n ≡ Some b
at_get n b [] h = absurd h
at_get zero b (x ∷ xs) h = ap Some (sym h)
at_get (suc n) b (x ∷ xs) h = at_get n b xs h

get_at : (n : ℕ) (b : Bit) (xs : List Bit) → slice_get xs n ≡ Some b → IsAt n b xs
get_at n b [] h = absurd (cc)
get_at zero b (x ∷ xs) h = let e : x ≡ b = cc in sym e
get_at (suc n) b (x ∷ xs) h = get_at n b xs h

at_length : (n : ℕ) (b : Bit) (xs : List Bit) → IsAt n b xs → n < length xs
at_length n b [] h = absurd h
at_length zero b (x ∷ xs) h = omega arith
at_length (suc n) b (x ∷ xs) h = let l = at_length n b xs h in omega arith

in_front : (xs ys : List Bit) (n : ℕ) → n < length xs → slice_get (xs ++ ys) n ≡ slice_get xs n
in_front [] ys n l = absurd (omega arith)
in_front (x ∷ xs) ys zero l = refl
in_front (x ∷ xs) ys (suc n) l = in_front xs ys n (omega arith)

-- the ring goes on behind the acknowledgement
goes_on : (r : Ring) → ring_bits r ≡ up_to_acknowledge r ++ flops r.back
goes_on r = ap (λ xs. request r ∷ xs) (sym (append_assoc (flops r.there) (acknowledge r ∷ []) (flops r.back)))

count_to : (xs : List Bit) (a : Bit) → length (xs ++ a ∷ []) ≡ suc (length xs)
count_to [] a = refl
count_to (x ∷ xs) a = ap suc (count_to xs a)

up_to_count : (r : Ring) → length (up_to_acknowledge r) ≡ suc (suc (length (flops r.there)))
up_to_count r = ap suc (count_to (flops r.there) (acknowledge r))

-- two bits side by side before the acknowledgement's place, from the second flop on, are a gate
pub gate_found : (r : Ring) (place : ℕ) (p q : Bit) → 2 ≤ place → place < suc (length (flops r.there)) → slice_get (ring_bits r) place ≡ Some p → slice_get (ring_bits r) (place + 1) ≡ Some q → IsGate r place p q
gate_found r place p q l m f g =
    let n = up_to_count r in
    record {
      behind_first = l;
      one = get_at place p (up_to_acknowledge r) (sym (in_front (up_to_acknowledge r) (flops r.back) place (omega arith)) ∙ ap (λ xs. slice_get xs place) (sym (goes_on r)) ∙ f);
      next = get_at (suc place) q (up_to_acknowledge r)
          (sym (in_front (up_to_acknowledge r) (flops r.back) (suc place) (omega arith)) ∙ ap (λ xs. slice_get xs (suc place)) (sym (goes_on r))
          ∙ ap (slice_get (ring_bits r)) (let e : suc place ≡ place + 1 = omega arith in e) ∙ g);
    }

-- a gate stands there
pub gate_stands : (r : Ring) (place : ℕ) (p q : Bit) → IsGate r place p q → (2 ≤ place) × (place < suc (length (flops r.there))) × (slice_get (ring_bits r) place ≡ Some p) × (slice_get (ring_bits r) (place + 1) ≡ Some q)
gate_stands r place p q g =
    let n = up_to_count r in
    let l = at_length place p (up_to_acknowledge r) g.one in
    let m = at_length (suc place) q (up_to_acknowledge r) g.next in (
      g.behind_first,
      omega arith,
      ap (λ xs. slice_get xs place) (goes_on r) ∙ in_front (up_to_acknowledge r) (flops r.back) place l ∙ at_get place p (up_to_acknowledge r) g.one,
      ap (slice_get (ring_bits r)) (let e : place + 1 ≡ suc place = omega arith in e)
          ∙ ap (λ xs. slice_get xs (suc place)) (goes_on r) ∙ in_front (up_to_acknowledge r) (flops r.back) (suc place) m ∙ at_get (suc place) q (up_to_acknowledge r) g.next,
    )
