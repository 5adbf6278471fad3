-- The audit of both texts.
use Rattle.std.proofs.Common.{[], refl}
use Rattle.std.specs.Prelude.{false, codes}
use Rattle.std.specs.Fmt.{digits}
use Rattle.command_files.specs.declared.status.Status.TheVariants.{Done}
use Rattle.reset_nets.proofs.Designs.{no_resets}
use Rattle.described_design.specs.Described.{IsNetOfModules, ReadsAs, UnfoldsTo}
use Rattle.described_design.specs.Designs.{IsDesign, IsDesignOf}
use Rattle.audit_command.proofs.Audits.{audited_texts}
use Rattle.worked_audit.specs.Texts.{netlist, sdc_text, sdc_word, printed}
use Rattle.worked_audit.specs.Modules.{modules, constraints}
use Rattle.worked_audit.specs.Design.{flat, net, domains, judged}
use Rattle.worked_audit.specs.Laws.{TwoFlopsAreClean}
use Rattle.worked_audit.proofs.Reading.{tokens, are_tokens, reads, alone}
use Rattle.worked_audit.proofs.Constraints.{constraints_are_said}
use Rattle.worked_audit.proofs.Unfolded.{unfolds, sound, sized, loop_free}
use Rattle.worked_audit.proofs.Net.{has_trees, is_net, has_next_cells, has_starts, fit, can_read, can_audit, are_domains}
use Rattle.worked_audit.proofs.Crossing.{is_judged}

reads_as : ReadsAs netlist modules
reads_as = record { tokens = tokens; are_tokens = are_tokens; reads = reads; alone = alone }

unfolds_to : UnfoldsTo modules constraints flat
unfolds_to = record { nets = []; are_nets = no_resets modules (codes "m") [] refl; unfolds = unfolds }

of_modules : IsNetOfModules modules constraints net
of_modules = record { flat = flat; unfolds = unfolds_to; sound = sound; loop_free = loop_free; sized = sized; signals = refl; has_trees = has_trees }

design : IsDesign constraints net domains
design = record {
  assigned = are_domains;
  can = record { is_net = is_net; next_cells = has_next_cells; fit = fit; read = can_read; starts = has_starts };
  can_audit = can_audit;
}

design_of : IsDesignOf sdc_word netlist sdc_text constraints net domains
design_of = record { modules = modules; reads = reads_as; means = constraints_are_said; of_modules = of_modules; design = design }

pub two_flops_are_clean : TwoFlopsAreClean
unfolding digits
two_flops_are_clean = audited_texts false sdc_word netlist sdc_text constraints net domains judged [] Done printed design_of (λ can. is_judged) refl refl refl
