-- By the theorem on nets.
use Rattle.std.proofs.Common.{map}
use Rattle.cdc_model.specs.declared.scheme.Ring.{Ring}
use Rattle.flat_model.proofs.Meanings.{is_net_run_of, net_run_of, register_same, sound_meaning, together_meaning}
use Rattle.flat_model.proofs.clean_design_is_sound.Goals as goal

pub returns : goal.returns
returns g c = record {
  sound = λ f sel k net domains n e w fits clean.
      sound_meaning f sel k net domains n e.covers (map (λ (r : Ring). r.bits) e.rings) (g.E.Extra.is_extra c.args.extra.now)
      (c.clean_net_is_sound.ensures.sound net domains e n.fit w fits clean);
  together = λ f sel k net domains n e w fits clean d m run h x reg group depth.
      together_meaning f sel k net domains n d m w.grays w.syncs run x group depth
      (c.clean_net_is_sound.ensures.together net domains e n.fit w fits clean (net_run_of f sel k net domains n d m run)
      (is_net_run_of f sel k net domains n d m run h) x (register_same f sel k net domains n d m x reg) group depth);
}
