-- The findings of readers, one register bit after another.
use Rattle.std.proofs.Common.{◌≡◌, ◌∙◌, ◌⊎◌, inl, inr, refl, sym, ap, subst, Bool, true, List, [], ◌∷◌, ◌++◌, map, Contains, append_assoc}
use Rattle.std.proofs.lemmas.List.Elements.{Contains-append_cases, Contains-append_left, Contains-append_right}
use Rattle.cdc_base.specs.declared.bit.Bit.{Bit}
use Rattle.cdc_model.specs.declared.scheme.GrayReg.{GrayReg}
use Rattle.cdc_model.specs.declared.verdict.Finding.{Finding as FindingEntry}
use Rattle.cdc_model.specs.Nets.{bits_of_registers}
use Rattle.cdc_model.specs.Ordered.{IsAll, is_before}
use Rattle.cdc_model.specs.Schemes.{Ring}
use Rattle.cdc_model.specs.Verdict.{Finding, V1, V2, V3, V4, V5, V6, V7, V8, IsFinding, finding_key, bit_key}
use Rattle.cdc_model.proofs.Ascending.{nothing_in, same_before}
use Rattle.cdc_model.proofs.Found.{before_any}
use Rattle.cdc_model.proofs.Loads.{all_of, each_of}
use Rattle.obligations.specs.declared.Found.{Found}
use Rattle.obligations.specs.Arrivals.{IsOfBits, AreReaders, AddsReaders, by_bit}
use Rattle.obligations.specs.Findings.{finding_of, number_of, IsShownBy, AddsFindings}
use Rattle.obligations.specs.Given.{design_in, trees_in, syncs_in}
use Rattle.obligations.proofs.Copyings.{registers_listed}
use Rattle.obligations.proofs.ReadArrivals.{all_joined, none_all, only_one}

map_both : {A B : Type 0} (f : A → B) (xs ys : List A) → map f (xs ++ ys) ≡ map f xs ++ map f ys
map_both f [] ys = refl
map_both f (x ∷ xs) ys = ap (λ zs. f x ∷ zs) (map_both f xs ys)

module _ (grays : GrayReg → Bool) (rings : List Ring) (is_extra : Bit → Bit → Bool) (found : Found) where
  abbrev IsSuch : Finding → Type 0
  IsSuch f = IsFinding (design_in found) (trees_in grays found) found.grays.now (syncs_in found) rings found.loads.now is_extra f

  abbrev IsReader : List Bit → Finding → Type 0
  IsReader bits f = IsSuch f × (number_of f ≡ 6) × IsOfBits bits f

  pub no_readers : AreReaders grays rings is_extra found [] []
  no_readers = record { all = none_all finding_key (IsReader []) (λ f p. nothing_in p.2.0 p.2.2); shown = tt }

  pub more_readers : (bits : List Bit) (x : Bit) (old mid new : List FindingEntry) → ((y : Bit) → Contains bits y → is_before (by_bit y) (by_bit x) ≡ true)
      → AddsReaders grays rings is_extra found bits old mid → AddsReaders grays rings is_extra found (x ∷ []) mid new → AddsReaders grays rings is_extra found (bits ++ x ∷ []) old new
  more_readers bits x old mid new before h k = (
    h.0 ++ k.0,
    k.1 ∙ ap (λ es. es ++ k.0) h.1 ∙ append_assoc old h.0 k.0,
    record {
      all = subst (IsAll (IsReader (bits ++ x ∷ [])) finding_key) (sym (map_both finding_of h.0 k.0))
          (all_joined finding_key (IsReader bits) (IsReader (x ∷ [])) (IsReader (bits ++ x ∷ [])) (map finding_of h.0) (map finding_of k.0) h.2.all k.2.all in_order parted
          (λ f p. (p.0, p.1, (p.2.0, p.2.1, Contains-append_left bits (x ∷ []) p.2.0 p.2.2, p.2.3)))
          (λ f p. (p.0, p.1, (p.2.0, p.2.1, Contains-append_right bits (x ∷ []) p.2.0 p.2.2, p.2.3))));
      shown = all_of (IsShownBy (design_in found) (trees_in grays found) (syncs_in found)) (h.0 ++ k.0) (λ e i. elim (Contains-append_cases h.0 k.0 e i) [
        | inl j ↦ each_of (IsShownBy (design_in found) (trees_in grays found) (syncs_in found)) h.0 h.2.shown e j
        | inr j ↦ each_of (IsShownBy (design_in found) (trees_in grays found) (syncs_in found)) k.0 k.2.shown e j
      ]);
    },
  )
    where
      in_order : (f g : Finding) → IsReader bits f → IsReader (x ∷ []) g → is_before (finding_key f) (finding_key g) ≡ true
      in_order f g p q = subst (λ e. is_before (finding_key e) (finding_key g) ≡ true) (sym p.2.3) (subst (λ e. is_before (finding_key (V6 p.2.0 p.2.1)) (finding_key e) ≡ true) (sym q.2.3)
          (same_before 6 6 (bit_key p.2.0 (p.2.1 ∷ [])) (bit_key q.2.0 (q.2.1 ∷ [])) refl (before_any p.2.0 q.2.0 (p.2.1 ∷ []) (q.2.1 ∷ [])
          (subst (λ z. is_before (by_bit p.2.0) (by_bit z) ≡ true) (only_one x q.2.0 q.2.2) (before p.2.0 p.2.2)))))

      parted : (f : Finding) → IsReader (bits ++ x ∷ []) f → IsReader bits f ⊎ IsReader (x ∷ []) f
      parted f p = elim (Contains-append_cases bits (x ∷ []) p.2.0 p.2.2) [
        | inl j ↦ inl (p.0, p.1, (p.2.0, p.2.1, j, p.2.3))
        | inr j ↦ inr (p.0, p.1, (p.2.0, p.2.1, j, p.2.3))
      ]

  -- the findings of all register bits are all with that number
  pub all_readers : (old new : List FindingEntry) → AddsReaders grays rings is_extra found (bits_of_registers found.net.now.graph.signals found.net.now.regs) old new → AddsFindings grays rings is_extra found 6 old new
  all_readers old new h = (
    h.0,
    h.1,
    record {
      all = record {
        all = λ f p. h.2.all.all f (p.0, p.1, of_bits f p.0 p.1);
        only = λ f i. let p = h.2.all.only f i in (p.0, p.1);
        ordered = h.2.all.ordered;
      };
      shown = h.2.shown;
    },
  )
    where
      of_bits : (f : Finding) → IsSuch f → number_of f ≡ 6 → IsOfBits (bits_of_registers found.net.now.graph.signals found.net.now.regs) f
      of_bits (V1 b x) p n = cc
      of_bits (V2 b x) p n = cc
      of_bits (V3 w g) p n = cc
      of_bits (V4 b g) p n = cc
      of_bits (V5 w g) p n = cc
      of_bits (V6 x g) p n = (x, g, registers_listed found.net.now x p.0, refl)
      of_bits (V7 b x m) p n = cc
      of_bits (V8 b x m) p n = cc
