use Rattle.std.proofs.Common.{◌≡◌, ◌==◌, not, sym, ap, ◌∙◌, rules, find, bytes_eq}
use Rattle.std.specs.Prelude.{option_map}
use Rattle.cdc_base.specs.declared.signal.ResetPin.{ResetPin}
use Rattle.flat_names.specs.declared.design.Reset.{Reset}
use Rattle.flat_design.specs.Visiting.{pin_in}
use Rattle.reset_nets.proofs.Inactive.{level_found}
use Rattle.reset_nets.proofs.nets.declared_level.Goals as goal

pub returns : goal.returns
returns c = λ resets shown.
    let name = c.args.signal.now.name in
    let level : option_map (λ (q : Reset). not q.is_high) c.reset_named.result ≡ c.map.result = search rules in
    sym level ∙ ap (option_map (λ (q : Reset). not q.is_high)) c.reset_named.ensures
    ∙ level_found resets (c.args.signal.now.width == 1) (pin_in c.args.pins.now name) (find (λ (r : ResetPin). bytes_eq r.name name) resets) (shown name)
