-- Each run of a justified design is calm and whole.
use Rattle.std.proofs.Common.{Bool, List}
use Rattle.cdc_base.specs.declared.bit.Bit.{Bit}
use Rattle.cdc_model.specs.declared.scheme.GrayReg.{GrayReg}
use Rattle.cdc_model.specs.declared.scheme.Load.{Load}
use Rattle.cdc_model.specs.Design.{Design}
use Rattle.cdc_model.specs.Facts.{AreJustifiedBy}
use Rattle.cdc_model.specs.Runs.{State, Trace, Start, Then, IsRun}
use Rattle.cdc_model.specs.Schemes.{Trees, AreTrees, Sync, Ring, Justified}
use Rattle.cdc_model.proofs.Whole.{calm_run, facts_now, whole_run}
use Rattle.fifo_laws.specs.Laws.{IsSoundRun}

module _ (d : Design) (t : Trees) (laws : AreTrees d t) (syncs : List Sync) (grays : List GrayReg) (rings : List Ring) (loads : List Load)
    (is_extra : Bit → Bit → Bool) (ok : Justified d t syncs grays rings loads is_extra) (keeps : State → Type 0)
    (extra : AreJustifiedBy d syncs grays rings is_extra keeps) where
  pub sound_run : (run : Trace) → IsRun d run → IsSoundRun d syncs grays rings run
  sound_run (Start s) first = first
  sound_run (Then past edges new) run = (
    sound_run past run.0,
    run.1,
    facts_now d t laws syncs grays rings loads is_extra ok keeps extra past run.0,
    calm_run d t laws syncs grays rings loads is_extra ok keeps extra past edges new run,
    whole_run d t laws syncs grays rings loads is_extra ok keeps extra (Then past edges new) run,
  )
