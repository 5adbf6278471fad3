-- What was added are the Gray registers of the counters so far.
use Rattle.std.proofs.Common.{◌≡◌, ◌++◌, List, [], ◌∷◌, Contains, take}
use Rattle.cdc_model.specs.declared.scheme.GrayReg.{GrayReg}
use Rattle.cdc_model.specs.Tables.{ShowsNet}
use Rattle.gray_pointer.specs.declared.register.Register.{Register}
use Rattle.gray_pointer.specs.Grays.{AreGrays}
use Rattle.gray_pointer.specs.Registers.{Ascend}
use Rattle.gray_pointer.specs.Shapes.{IsRegisterIn}
use Rattle.gray_pointer.specs.Words.{IsPlain}
use Rattle.gray_pointer.proofs.add_grays.Given as goal

abbrev pub invariant-loop-count : goal.invariant-loop-count
invariant-loop-count l = IsPlain l.net.graph → ShowsNet l.net [] l.table → ((c : Register) → Contains l.counters c → IsRegisterIn l.net.graph c) → IsRegisterIn l.net.graph l.gray
    → Ascend l.counters → (more : List GrayReg) × (l.grays ≡ l.initial.grays ++ more) × AreGrays l.net.graph (take l.count-index l.counters) (l.gray ∷ []) more
