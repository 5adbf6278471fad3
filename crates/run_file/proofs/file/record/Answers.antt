use Rattle.std.proofs.Common.{◌≡◌, ◌∙◌, ◌≤◌, ◌^◌, List, length, subst}
use Rattle.cdc_base.specs.declared.signal.Signal.{Signal}
use Rattle.domains.specs.Tables.{bit_names}
use Rattle.run_file.proofs.file.record.Goals as goal

pub returns-clause-gives : goal.returns-clause-gives
returns-clause-gives c = λ can. c.named_record.ensures.gives (c.in_ok-names.ensures can
    (c.as_slice.ensures.value ∙ subst (λ (ss : List Signal). length ss ≤ 2 ^ 32 → c.in_ok-bits.bits.items ≡ bit_names 0 ss) c.signals.ensures c.in_ok-bits.ensures can.signals))
