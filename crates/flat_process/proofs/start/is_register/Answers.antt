use Rattle.std.proofs.Common.{false, ap, ◌∙◌}
use Rattle.std.specs.Option.{option_map_or}
use Rattle.flat_names.specs.declared.design.Entry.{Entry}
use Rattle.flat_process.proofs.Started.{reg-is}
use Rattle.flat_process.proofs.start.is_register.Goals as goal

pub returns-in-Some : goal.returns-in-Some
returns-in-Some c = λ l h. ap (λ o. option_map_or (λ (x : Entry). x.is_reg) o false) c.in-Some.ensures ∙ reg-is c.args.look.now l h c.args.sig

pub returns-in-None : goal.returns-in-None
returns-in-None c = λ l h. ap (λ o. option_map_or (λ (x : Entry). x.is_reg) o false) c.in-None.ensures ∙ reg-is c.args.look.now l h c.args.sig
