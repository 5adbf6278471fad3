-- Races sorted by their bits.
use Rattle.std.proofs.Common.{◌≡◌, ◌∙◌, ◌+◌, ◌<◌, List, [], ◌∷◌, length, get_or, map, Bor, ap₂, subst, arith}
use Rattle.std.specs.Ordering.{is_lt}
use Rattle.std.specs.List.Sorted.{IsPermutation, IsSorted, IsSortedByKey}
use Rattle.std.proofs.lemmas.List.{get_or-map, length-map}
use Rattle.std.proofs.lemmas.List.Sorted.{IsPermutation-map, IsPermutation-sym}
use Rattle.cdc_base.specs.contracts.bit.BitOrd.TheImpl as bit_order
use Rattle.cdc_model.specs.declared.record.Race.{Race}
use Rattle.run_report.specs.Lines.{AreByBit}

-- what ascends behind references ascends
ascending : (rs : List (Bor Race)) → IsSortedByKey (λ (r : Bor Race). r.now.bit) bit_order.ghosts.cmp rs
    → IsSorted (λ (r : Race) (q : Race). bit_order.ghosts.cmp r.bit q.bit) (map (λ (r : Bor Race). r.now) rs)
ascending [] up = λ k d low high. absurd (omega arith)
ascending (r ∷ rs) up = λ k d low high.
    let many : length (map (λ (r : Bor Race). r.now) (r ∷ rs)) ≡ length (r ∷ rs) = length-map (r ∷ rs) (λ (r : Bor Race). r.now) in
    let within : k + 1 < length (r ∷ rs) = omega arith in
    let next : get_or (map (λ (r : Bor Race). r.now) (r ∷ rs)) (k + 1) d ≡ (get_or (r ∷ rs) (k + 1) r).now = get_or-map (λ (r : Bor Race). r.now) (r ∷ rs) (k + 1) r d within in
    let this : get_or (map (λ (r : Bor Race). r.now) (r ∷ rs)) k d ≡ (get_or (r ∷ rs) k r).now = get_or-map (λ (r : Bor Race). r.now) (r ∷ rs) k r d (omega arith) in
    ap₂ (λ (a : Race) (b : Race). is_lt (bit_order.ghosts.cmp a.bit b.bit)) next this ∙ up k r low within

pub sorted-by-bit : (races : List Race) (before after : List (Bor Race)) → map (λ (r : Bor Race). r.now) before ≡ races → IsPermutation before after
    → IsSortedByKey (λ (r : Bor Race). r.now.bit) bit_order.ghosts.cmp after → AreByBit (map (λ (r : Bor Race). r.now) after) races
sorted-by-bit races before after all moved up = record {
  same = IsPermutation-sym races (map (λ (r : Bor Race). r.now) after)
      (subst (λ (rs : List Race). IsPermutation rs (map (λ (r : Bor Race). r.now) after)) all (IsPermutation-map (λ (r : Bor Race). r.now) before after moved));
  ascending = ascending after up;
}
