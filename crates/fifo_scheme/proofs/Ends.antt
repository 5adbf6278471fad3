-- All crossings of FIFOs, by their ends.
use Rattle.std.proofs.Common.{◌≡◌, zero, suc, List, [], ◌∷◌, map, Contains, inl, inr, sym, subst, arith}
use Rattle.std.specs.Prelude.{◌↔◌}
use Rattle.std.proofs.lemmas.List.Elements.{Contains-append_left, Contains-append_right, Contains-append_cases}
use Rattle.cdc_model.specs.declared.scheme.Crossing.{Crossing}
use Rattle.cdc_model.proofs.Ascending.{here, later, nothing_in, in_map, from_map}
use Rattle.fifo_scheme.specs.declared.found.Ended.{Ended}
use Rattle.fifo_scheme.specs.declared.found.Fifo.{Fifo as Entry}
use Rattle.fifo_scheme.specs.Ended.{crossing_of, ended_of, all_ended}
use Rattle.fifo_scheme.specs.Entries.{IsCrossingOfOne}

ends_of_one : (es : List Entry) (c : Crossing) → IsCrossingOfOne es c → Contains (all_ended es) (ended_of c)
ends_of_one [] c (e, i, j) = absurd (nothing_in e i)
ends_of_one (f ∷ es) c (e, (zero, l, at), i) = Contains-append_left (map ended_of f.crossings) (all_ended es) (ended_of c)
    (in_map ended_of f.crossings c (subst (λ (x : Entry). Contains x.crossings c) (sym at) i))
ends_of_one (f ∷ es) c (e, (suc k, l, at), i) = Contains-append_right (map ended_of f.crossings) (all_ended es) (ended_of c)
    (ends_of_one es c (e, (k, omega arith, at), i))

one_of_ends : (es : List Entry) (x : Ended) → Contains (all_ended es) x → IsCrossingOfOne es (crossing_of x)
one_of_ends [] x h = absurd (nothing_in x h)
one_of_ends (f ∷ es) x h = elim (Contains-append_cases (map ended_of f.crossings) (all_ended es) x h) [
  | inl i ↦ let m = from_map ended_of f.crossings x i in (f, here f es, subst (λ (y : Ended). Contains f.crossings (crossing_of y)) m.2 m.1)
  | inr i ↦ let k = one_of_ends es x i in (k.0, later f es k.0 k.1, k.2)
]

-- the crossings that are listed by their ends are those of the FIFOs
pub all_of_ends : (es : List Entry) (ends sorted : List Ended) → ends ≡ all_ended es → ((x : Ended) → Contains sorted x ↔ Contains ends x)
    → (c : Crossing) → Contains (map crossing_of sorted) c ↔ IsCrossingOfOne es c
all_of_ends es ends sorted is same c = (
  λ h. let m = from_map crossing_of sorted c h in subst (IsCrossingOfOne es) m.2
      (one_of_ends es m.0 (subst (λ (xs : List Ended). Contains xs m.0) is ((same m.0).0 m.1))),
  λ h. in_map crossing_of sorted (ended_of c)
      ((same (ended_of c)).1 (subst (λ (xs : List Ended). Contains xs (ended_of c)) (sym is) (ends_of_one es c h))),
)
