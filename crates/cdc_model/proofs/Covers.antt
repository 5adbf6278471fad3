-- What the covers of lists are.
use Rattle.std.proofs.Common.{◌≡◌, ℕ, Bool, true, false, cond, Some, List, length, Contains, inl, inr, refl, sym, ap, ◌∙◌}
use Rattle.std.proofs.lemmas.Bool.{both_ways}
use Rattle.cdc_base.specs.declared.bit.Bit.{Bit}
use Rattle.cdc_model.specs.declared.scheme.Cover.{Cover}
use Rattle.cdc_model.specs.declared.scheme.GrayReg.{GrayReg}
use Rattle.cdc_model.specs.declared.scheme.Scheme.{Scheme}
use Rattle.cdc_model.specs.declared.scheme.Scheme.TheVariants.{TwoFlop, Gray, Handshake, Recirc}
use Rattle.cdc_model.specs.declared.scheme.Load.{Load}
use Rattle.cdc_model.specs.Schemes.{Sync, flops}
use Rattle.cdc_model.specs.Sound.{is_synchronized, ring_of}
use Rattle.cdc_model.specs.Verdict.{is_code, scheme_of_sync, scheme_of_load, AreCovers}

pub record CoverFacts (syncs : List Sync) (loads : List Load) (covers : List Cover) : Type 0 where
  pub of_sync : (c : Cover) → Contains covers c → is_synchronized c.scheme ≡ true → (s : Sync) × Contains syncs s × (s.from ≡ c.from) × (s.first ≡ c.to)
  pub of_load : (c : Cover) → Contains covers c → is_synchronized c.scheme ≡ false → (l : Load) × Contains loads l × (l.from ≡ c.from) × (l.to ≡ c.to) × (ring_of c.scheme ≡ Some l.ring)
  pub sync : (s : Sync) → Contains syncs s → (c : Cover) × Contains covers c × (is_synchronized c.scheme ≡ true) × (c.from ≡ s.from) × (c.to ≡ s.first)
  pub load : (l : Load) → Contains loads l → (c : Cover) × Contains covers c × (is_synchronized c.scheme ≡ false) × (c.from ≡ l.from) × (c.to ≡ l.to)

synchronized : (v : Bool) (n m : ℕ) → is_synchronized (cond v (Gray n) (TwoFlop m)) ≡ true
synchronized true n m = refl
synchronized false n m = refl

unsynchronized : (v : Bool) (n m : ℕ) → is_synchronized (cond v (Recirc n) (Handshake m)) ≡ false
unsynchronized true n m = refl
unsynchronized false n m = refl

ringed : (v : Bool) (n : ℕ) → ring_of (cond v (Recirc n) (Handshake n)) ≡ Some n
ringed true n = refl
ringed false n = refl

of_parts : (c : Cover) (b x : Bit) (s : Scheme) → c ≡ record { from = b; to = x; scheme = s } → (c.from ≡ b) × (c.to ≡ x) × (c.scheme ≡ s)
of_parts c b x s e = (ap (λ (k : Cover). k.from) e, ap (λ (k : Cover). k.to) e, ap (λ (k : Cover). k.scheme) e)

module _ (grays : List GrayReg) (syncs : List Sync) (loads : List Load) (covers : List Cover) (fit : AreCovers grays syncs loads covers) where
  sync_scheme : (s : Sync) → is_synchronized (scheme_of_sync grays s) ≡ true
  sync_scheme s = synchronized (is_code grays s.from.sig) (length (flops s)) (length (flops s))

  load_scheme : (l : Load) → is_synchronized (scheme_of_load l) ≡ false
  load_scheme l = unsynchronized l.recirculating l.ring l.ring

  pub cover_facts : CoverFacts syncs loads covers
  cover_facts = record {
    of_sync = λ c i p. elim ((fit c).0 i) [
      | inl s ↦ let e = of_parts c s.0.from s.0.first (scheme_of_sync grays s.0) s.2 in (s.0, s.1, sym e.0, sym e.1)
      | inr l ↦ let e = of_parts c l.0.from l.0.to (scheme_of_load l.0) l.2 in absurd (both_ways (is_synchronized c.scheme) (ap is_synchronized e.2 ∙ load_scheme l.0) p)
    ];
    of_load = λ c i p. elim ((fit c).0 i) [
      | inl s ↦ let e = of_parts c s.0.from s.0.first (scheme_of_sync grays s.0) s.2 in absurd (both_ways (is_synchronized c.scheme) p (ap is_synchronized e.2 ∙ sync_scheme s.0))
      | inr l ↦ let e = of_parts c l.0.from l.0.to (scheme_of_load l.0) l.2 in (l.0, l.1, sym e.0, sym e.1, ap ring_of e.2 ∙ ringed l.0.recirculating l.0.ring)
    ];
    sync = λ s i. (record { from = s.from; to = s.first; scheme = scheme_of_sync grays s }, (fit (record { from = s.from; to = s.first; scheme = scheme_of_sync grays s })).1 (inl (s, i, refl)), sync_scheme s, refl, refl);
    load = λ l i. (record { from = l.from; to = l.to; scheme = scheme_of_load l }, (fit (record { from = l.from; to = l.to; scheme = scheme_of_load l })).1 (inr (l, i, refl)), load_scheme l, refl, refl);
  }
