-- A register bit has a next value, and takes a node.
use Rattle.std.proofs.Common.{◌∙◌, ◌+◌, ◌++◌, sym, ap, subst, refl, arith, get_or, map, List, Contains}
use Rattle.cdc_base.specs.declared.bit.Bit.{Bit}
use Rattle.cdc_model.proofs.Ascending.{nothing_in}
use Rattle.cdc_model.proofs.Found.{net_ascends}
use Rattle.gray_pointer.specs.Words.{IsPlain}
use Rattle.fifo_nodes.specs.Takes.{HaveTerms}
use Rattle.fifo_parts.specs.declared.words.Taking.{Taking}
use Rattle.fifo_parts.proofs.Takings.{AreTakingsSoFar, in_list, is_taking, no_next, node_there, takings_end, takings_more}
use Rattle.fifo_parts.proofs.words.takings.Goals as goal
use Rattle.fifo_parts.proofs.words.takings.Goals.{in-Some+in_ok-taken+in_ok-push, in_default}

abbrev none : Bit
none = record { sig = 0; at = 0 }

pub loop-bit-init : goal.loop-bit-init
loop-bit-init c = λ shown. (
  ap (λ (ts : List Taking). map (λ (t : Taking). t.bit) ts ++ c.as_slice-bit-items.result.now) c.new-takings.ensures,
  λ t h. absurd (nothing_in t (subst (λ (ts : List Taking). Contains ts t) c.new-takings.ensures h)),
  c.none-known.ensures c.args.net.now.graph,
)

pub loop-bit-preserved : goal.loop-bit-preserved
loop-bit-preserved c = λ shown.
    let net = c.args.net.now in
    let bits = c.as_slice-bit-items.result.now in
    let i = c.loop-bit.bit-index in
    let b = get_or bits i none in
    let inside = subst (λ xs. Contains xs b) (c.as_slice-bit-items.ensures ∙ c.in_ok-bits.ensures) (in_list bits i none c.loop-bit-test.true) in
    let is = c.next_node.ensures (net_ascends net shown.is_net) in
    elim c.match-next_node.branch [
      | in-Some+in_ok-taken+in_ok-push w ↦
          let n = w.in-Some.next in
          let at = sym is ∙ w.in-Some.is in
          let plain : IsPlain net.graph = record { well = shown.is_net.graph; shared = shown.is_shared } in
          let there = node_there net shown.has_next b inside n at in
          let so = c.loop-bit.invariant shown in
          let takes = w.in_ok-taken.ensures.taken plain shown.shows there so.2 in
          let all = subst (AreTakingsSoFar net bits (i + 1)) (sym (w.takings-is ∙ w.in_ok-push.ensures.pushed))
          (takings_more net bits i c.loop-bit.takings (record { bit = b; taken = w.in_ok-taken.taken }) none c.loop-bit-test.true refl
          (is_taking net shown.has_next b inside n at w.in_ok-taken.taken takes) (so.0, so.1)) in
          (all.0, all.1, subst (HaveTerms net.graph) (sym w.known-is) (w.in_ok-taken.ensures.known plain shown.shows there so.2))
      | in_default w ↦ absurd (no_next net shown.has_next b inside (sym is ∙ w.in_default.is))
    ]

pub returns : goal.returns
returns c = λ shown.
    let bits = c.as_slice-bit-items.result.now in
    takings_end c.args.net.now bits c.loop-bit.bit-index c.loop-bit.takings (let l = c.loop-bit-test.false in omega arith)
    (c.as_slice-bit-items.ensures ∙ c.in_ok-bits.ensures) (let so = c.loop-bit.invariant shown in (so.0, so.1))
