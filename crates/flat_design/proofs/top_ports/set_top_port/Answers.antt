use Rattle.std.proofs.Common.{sym, subst, ◌∙◌}
use Rattle.flat_names.specs.Designs.{ShowsDesign}
use Rattle.flat_unfolding.specs.Names.{direction_at}
use Rattle.flat_design.proofs.TopInputs.{top-input-shown}
use Rattle.flat_design.proofs.TopPorts.{in-port, out-port, shows-output, ok-if}
use Rattle.flat_design.proofs.top_ports.set_top_port.Goals as goal

pub returns-then-is_input : goal.returns-then-is_input
returns-then-is_input c = λ resets d h.
    let s = c.args.sig in let k = c.args.design.now in
    subst (ShowsDesign resets (record k { signals = c.set_outside.new.signals })) (sym (in-port d s (direction_at d.entries s) (sym (c.is_input.ensures resets d h) ∙ c.if-is_input.true)))
    (top-input-shown resets k d h s c.set_outside.new.signals c.set_outside.ensures)

pub returns : goal.returns
returns c = λ resets d h.
    let s = c.args.sig in let k = c.args.design.now in
    ok-if c.push.result (λ e. subst (ShowsDesign resets (record k { outputs = c.push.new.items })) (sym (out-port d s (direction_at d.entries s) (sym (c.is_input.ensures resets d h) ∙ c.if-is_input.false)))
    (shows-output resets k d s c.push.new.items h e)) c.push.ensures.pushed
