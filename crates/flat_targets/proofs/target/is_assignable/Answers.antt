use Rattle.std.proofs.Common.{false, Some, None, sym, ap, ◌∙◌}
use Rattle.std.specs.Prelude.{slice_get}
use Rattle.std.specs.Option.{option_map_or}
use Rattle.flat_unfolding.specs.Targets.{of_wires, of_registers, takes}
use Rattle.flat_targets.specs.Aims.{use_of}
use Rattle.flat_targets.proofs.Aimed.{takes-is}
use Rattle.flat_targets.proofs.target.is_assignable.Goals as goal

pub returns-in-Wires : goal.returns-in-Wires
returns-in-Wires c = λ l h. c.is_wire.ensures ∙ takes-is of_wires c.args.look.now l h c.args.sig (Some c.in-Some.entry.now) c.in-Some.ensures
    ∙ ap (λ a. option_map_or (takes (use_of a)) (slice_get l.entries c.args.sig) false) (sym c.in-Wires.is)

pub returns-in-Registers : goal.returns-in-Registers
returns-in-Registers c = λ l h. takes-is of_registers c.args.look.now l h c.args.sig (Some c.in-Some.entry.now) c.in-Some.ensures
    ∙ ap (λ a. option_map_or (takes (use_of a)) (slice_get l.entries c.args.sig) false) (sym c.in-Registers.is)

pub returns-in-None : goal.returns-in-None
returns-in-None c = λ l h. takes-is (use_of c.args.assigned) c.args.look.now l h c.args.sig None c.in-None.ensures
