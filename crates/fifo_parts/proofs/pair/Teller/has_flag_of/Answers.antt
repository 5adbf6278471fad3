-- The bit that the node is tells which flag is looked for.
use Rattle.std.proofs.Common.{◌≡◌, ◌∙◌, ◌↔◌, sym, subst, true, Option, option_map, List, Contains}
use Rattle.std.specs.Result.{is_ok}
use Rattle.cell_graph.specs.declared.cell.Node.{Node}
use Rattle.cell_graph.specs.Unfolded.{bit_of}
use Rattle.cdc_model.specs.Ordered.{IsAscending}
use Rattle.fifo_terms.specs.Terms.{Is}
use Rattle.gray_pointer.specs.Words.{IsIn}
use Rattle.fifo_parts.specs.contracts.flags.FlagOrd.TheImpl as order
use Rattle.fifo_parts.specs.declared.flags.Flag.{Flag}
use Rattle.fifo_parts.specs.Tellers.{flag_entry_key, SaysFlag}
use Rattle.fifo_parts.proofs.FlagOrder.{flags_order}
use Rattle.fifo_parts.proofs.Keyed.{found}
use Rattle.fifo_parts.proofs.OwnBits.{says_other, says_own}
use Rattle.fifo_parts.proofs.pair.Teller.has_flag_of.Goals as goal

pub returns-in-Some-own_bit : goal.returns-in-Some-own_bit
returns-in-Some-own_bit c = λ plain up inside.
    let g = c.args.net.now.graph in
    let flags = c.args.self.now.flags in
    let v = c.args.value in
    let n = c.in-Some.node in
    let is = subst (IsIn g) c.in-Some.is inside in
    let flag : Flag = record { bit = c.in-Some-own_bit.bit; value = v } in
    let at = c.as_slice.ensures in
    let search = subst (λ (fs : List Flag). (is_ok c.binary_search.result ≡ true) ↔ Contains fs flag) at
    (found order.ghosts.cmp flag_entry_key flags_order c.as_slice.result.now flag c.binary_search.result
    (subst (IsAscending flag_entry_key) (sym at) up)
    c.binary_search.ensures.bound c.binary_search.ensures.position) in
    let says = says_own g flags plain n v is c.in-Some-own_bit.bit (sym c.own_bit.ensures ∙ c.in-Some-own_bit.is) in (
      λ e. subst (λ (o : Option Node). SaysFlag g flags (Is (option_map (bit_of g) o) v)) (sym c.in-Some.is)
          (says.0 (search.0 (sym c.is_ok.ensures.value ∙ e))),
      λ h. c.is_ok.ensures.value ∙ search.1 (says.1 (subst (λ (o : Option Node). SaysFlag g flags (Is (option_map (bit_of g) o) v)) c.in-Some.is h)),
    )

pub returns-in-None : goal.returns-in-None
returns-in-None c = λ plain up inside.
    let g = c.args.net.now.graph in
    let flags = c.args.self.now.flags in (
      λ e. cc,
      λ h. absurd (says_other g flags plain c.in-Some.node c.args.value (subst (IsIn g) c.in-Some.is inside) (sym c.own_bit.ensures ∙ c.in-None.is)
          (subst (λ (o : Option Node). SaysFlag g flags (Is (option_map (bit_of g) o) c.args.value)) c.in-Some.is h)),
    )
