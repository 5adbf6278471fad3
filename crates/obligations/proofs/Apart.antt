-- What a plain copy is, where synchronizers are known.
use Rattle.std.proofs.Common.{◌≡◌, Some, List, sym, ap, ◌∙◌}
use Rattle.cdc_base.specs.declared.bit.Bit.{Bit}
use Rattle.cdc_model.specs.declared.scheme.Load.{Load}
use Rattle.cdc_model.specs.Design.{Design}
use Rattle.cdc_model.specs.Schemes.{Trees, Sync, IsSync, Ring, IsLoad}

module _ (d : Design) (t : Trees) where
  -- no load is the crossing of a first flop
  pub apart : (rings : List Ring) (s : Sync) (l : Load) → IsSync d t s → IsLoad d t rings l → s.first ≡ l.to → s.from ≡ l.from → ⊥
  apart rings s l i k e f = k.no_copy (ap d.copied (sym e) ∙ i.copy ∙ ap Some f)

  -- a first flop that copies b begins a synchronizer of b
  pub copied_from : (s : Sync) (b x : Bit) → IsSync d t s → s.first ≡ x → d.copied x ≡ Some b → s.from ≡ b
  copied_from s b x i e h = let same : Some s.from ≡ Some b = sym i.copy ∙ ap d.copied e ∙ h in cc
