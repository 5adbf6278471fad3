-- The parts that bits have in rings are all listed.
use Rattle.std.proofs.Common.{◌≡◌, ◌∙◌, ◌↔◌, inl, inr, refl, sym, ap, subst, arith, rules, eqb-true, ℕ, zero, suc, ◌+◌, ◌-◌, ◌<◌, ◌≤◌, ◌==◌, true, append_assoc, get_or, Some, option_map, List, [], ◌∷◌, ◌++◌, map, length, take, drop, slice_get, Contains}
use Rattle.std.specs.Cmp.{IsEquivalence}
use Rattle.std.specs.Cmp.Rules.{comparing}
use Rattle.std.proofs.lemmas.List.{drop_all, drop_more, append-nil}
use Rattle.std.proofs.lemmas.List.Elements.{Contains-append_left, Contains-append_right}
use Rattle.std.proofs.lemmas.Option.{slice_get-map}
use Rattle.cdc_base.specs.declared.bit.Bit.{Bit}
use Rattle.cdc_model.specs.declared.scheme.Ring.{Ring as RingEntry}
use Rattle.cdc_model.specs.Listed.{ring_entry}
use Rattle.cdc_model.specs.Schemes.{IsAt, flops, last_of, Ring, request, acknowledge, ring_bits, behind_request}
use Rattle.cdc_model.proofs.Ascending.{here, later, in_map}
use Rattle.cdc_model.proofs.Rings.{ring_last}
use Rattle.mux_recirc.specs.declared.parts.Part.{Part}
use Rattle.mux_recirc.specs.Parts.{IsEnd, MayGate, bit_there, end_bits, gate_bits, parts_in, parts_from, rings_at, rings_among}

-- the part of a bit that the ring at place k lists
pub part_listed : (bits : RingEntry → List Bit) (n k : ℕ) (es : List RingEntry) (e : RingEntry) (b : Bit) → slice_get es k ≡ Some e → Contains (bits e) b
    → Contains (parts_from bits n es) (record { bit = b; ring = n + k })
part_listed bits n k [] e b at i = cc
part_listed bits n zero (x ∷ xs) e b at i =
    let same : x ≡ e = cc in
    subst (λ m. Contains (parts_from bits n (x ∷ xs)) (record { bit = b; ring = m })) (let f : n ≡ n + 0 = omega arith in f)
    (Contains-append_left (parts_in n (bits x)) (parts_from bits (suc n) xs) (record { bit = b; ring = n })
    (in_map (λ (a : Bit). let p : Part = record { bit = a; ring = n } in p) (bits x) b (subst (λ (y : RingEntry). Contains (bits y) b) (sym same) i)))
part_listed bits n (suc k) (x ∷ xs) e b at i =
    Contains-append_right (parts_in n (bits x)) (parts_from bits (suc n) xs) (record { bit = b; ring = n + suc k })
    (subst (λ m. Contains (parts_from bits (suc n) xs) (record { bit = b; ring = m })) (let f : suc n + k ≡ n + suc k = omega arith in f) (part_listed bits (suc n) k xs e b at i))

-- each ring has its entry
pub entry_there : (rings : List Ring) (n : ℕ) (r : Ring) → slice_get rings n ≡ Some r → slice_get (map ring_entry rings) n ≡ Some (ring_entry r)
entry_there rings n r at = slice_get-map ring_entry rings n ∙ ap (option_map ring_entry) at

-- ---- ends

pub last_there : (f : Bit) (gs : List Bit) → slice_get (f ∷ gs) (length (f ∷ gs) - 1) ≡ Some (last_of f gs)
last_there f [] = refl
last_there f (g ∷ gs) = ap (slice_get (f ∷ g ∷ gs)) (let e : length (f ∷ g ∷ gs) - 1 ≡ suc (length (g ∷ gs) - 1) = omega arith in e) ∙ last_there g gs

end_there : (r : Ring) (b : Bit) → IsEnd r b → Contains (end_bits (ring_entry r)) b
end_there r b (inl e) = subst (Contains (end_bits (ring_entry r))) (sym e) (here (request r) (bit_there (slice_get (ring_bits r) (length (ring_bits r) - 1))))
end_there r b (inr e) = later (request r) (bit_there (slice_get (ring_bits r) (length (ring_bits r) - 1))) b
    (subst (λ o. Contains (bit_there o) b) (sym (last_there (request r) (behind_request r))) (subst (λ a. Contains (last_of (request r) (behind_request r) ∷ []) a) (ring_last r ∙ sym e) (here (last_of (request r) (behind_request r)) [])))

-- ---- gates

take_all : {A : Type 0} (xs : List A) (a : A) (ys : List A) → take (suc (length xs)) (xs ++ a ∷ ys) ≡ xs ++ a ∷ []
take_all [] a ys = refl
take_all (x ∷ xs) a ys = ap (λ zs. x ∷ zs) (take_all xs a ys)

at_contains : (n : ℕ) (b : Bit) (xs : List Bit) → IsAt n b xs → Contains xs b
at_contains n b [] h = absurd h
at_contains zero b (x ∷ xs) h = subst (Contains (x ∷ xs)) (sym h) (here x xs)
at_contains (suc n) b (x ∷ xs) h = later x xs b (at_contains n b xs h)

gate_is : (r : Ring) → gate_bits (ring_entry r) ≡ r.there.more ++ acknowledge r ∷ []
gate_is r =
    ap (λ k. take k (r.there.more ++ acknowledge r ∷ flops r.back)) (let e : suc (length (flops r.there)) - 1 ≡ suc (length r.there.more) = omega arith in e)
    ∙ take_all r.there.more (acknowledge r) (flops r.back)

gate_there : (r : Ring) (b : Bit) → MayGate r b → Contains (gate_bits (ring_entry r)) b
gate_there r b (zero, l, h) = absurd (omega arith)
gate_there r b (suc zero, l, h) = absurd (omega arith)
gate_there r b (suc (suc n), l, h) =
    subst (λ xs. Contains xs b) (sym (gate_is r)) (at_contains n b (r.there.more ++ acknowledge r ∷ []) h)

-- each end of each ring, and each bit of its gates
pub end_listed : (rings : List Ring) (n : ℕ) (r : Ring) (b : Bit) → slice_get rings n ≡ Some r → IsEnd r b → Contains (parts_from end_bits 0 (map ring_entry rings)) (record { bit = b; ring = n })
end_listed rings n r b at h = subst (λ m. Contains (parts_from end_bits 0 (map ring_entry rings)) (record { bit = b; ring = m })) (let e : 0 + n ≡ n = omega arith in e) (part_listed end_bits 0 n (map ring_entry rings) (ring_entry r) b (entry_there rings n r at) (end_there r b h))

pub gate_listed : (rings : List Ring) (n : ℕ) (r : Ring) (b : Bit) → slice_get rings n ≡ Some r → MayGate r b → Contains (parts_from gate_bits 0 (map ring_entry rings)) (record { bit = b; ring = n })
gate_listed rings n r b at h = subst (λ m. Contains (parts_from gate_bits 0 (map ring_entry rings)) (record { bit = b; ring = m })) (let e : 0 + n ≡ n = omega arith in e) (part_listed gate_bits 0 n (map ring_entry rings) (ring_entry r) b (entry_there rings n r at) (gate_there r b h))

-- ---- rings bit by bit

pub equal_numbers : IsEquivalence ◌==◌
equal_numbers = search (comparing, rules) depth 12

pub same_number : (a b : ℕ) → (a == b) ≡ true → a ≡ b
same_number a b h = eqb-true a b h

-- one bit more
pub rings_more : (parts : List Part) (all old new : List ℕ) (bits : List Bit) (i : ℕ) (d : Bit) → i < length bits
    → all ≡ old ++ rings_among parts (drop i bits) → new ≡ old ++ rings_at parts (get_or bits i d) → all ≡ new ++ rings_among parts (drop (i + 1) bits)
rings_more parts all old new bits i d l e n =
    e ∙ ap (λ xs. old ++ rings_among parts xs) (drop_more bits i d l)
    ∙ sym (append_assoc old (rings_at parts (get_or bits i d)) (rings_among parts (drop (i + 1) bits)))
    ∙ ap (λ xs. xs ++ rings_among parts (drop (i + 1) bits)) (sym n)

-- no bit more
pub rings_end : (parts : List Part) (all rings : List ℕ) (bits : List Bit) (i : ℕ) → length bits ≤ i → all ≡ rings ++ rings_among parts (drop i bits) → rings ≡ all
rings_end parts all rings bits i l e = sym (e ∙ ap (λ xs. rings ++ rings_among parts xs) (drop_all i bits l) ∙ append-nil rings)

pub in_same : (xs ys zs : List ℕ) (n : ℕ) → Contains xs n ↔ Contains ys n → ys ≡ zs → Contains xs n ↔ Contains zs n
in_same xs ys zs n h e = subst (λ l. Contains xs n ↔ Contains l n) e h
