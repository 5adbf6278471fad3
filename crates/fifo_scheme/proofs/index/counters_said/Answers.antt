use Rattle.std.proofs.Common.{rules, arith, ◌≡◌, ◌↔◌, ◌++◌, ◌+◌, ◌∷◌, [], ℕ, true, false, is_some, List, Contains, get_or, subst, sym}
use Rattle.std.specs.HashMap as hash
use Rattle.cdc_base.specs.contracts.bit.BitPartialEq.TheImpl as equality
use Rattle.fifo_nodes.specs.declared.term.Term.{Term}
use Rattle.fifo_parts.specs.Words.{SaysBit, SaysLowest, lowest}
use Rattle.fifo_scheme.proofs.IndexLooks.{AreLowest, lowest_all, lowest_more, lowest_not}
use Rattle.fifo_scheme.proofs.index.counters_said.Goals as goal
use Rattle.fifo_scheme.proofs.index.counters_said.Goals.{then-contains_key+in_ok-push, else-contains_key}

pub loop-count-preserved : goal.loop-count-preserved
loop-count-preserved c =
    let counts = c.as_slice-count-items.result.now in
    let i = c.loop-count.count-index in
    let n = get_or counts i 0 in
    elim c.if-contains_key.branch [
      | then-contains_key+in_ok-push w ↦
          let is : is_some (hash.get equality.ghosts.eq c.args.sides.now (lowest n)) ≡ true = search rules in
          let e : c.if-contains_key.bits ≡ c.loop-count.bits ++ lowest n ∷ [] = search rules in
          subst (AreLowest (λ n. is_some (hash.get equality.ghosts.eq c.args.sides.now (lowest n))) counts (i + 1)) (sym e)
          (lowest_more (λ n. is_some (hash.get equality.ghosts.eq c.args.sides.now (lowest n))) counts i 0
          (omega arith) c.loop-count.bits c.loop-count.invariant is)
      | else-contains_key w ↦
          let fails : is_some (hash.get equality.ghosts.eq c.args.sides.now (lowest n)) ≡ false = search rules in
          let e : c.if-contains_key.bits ≡ c.loop-count.bits = search rules in
          subst (AreLowest (λ n. is_some (hash.get equality.ghosts.eq c.args.sides.now (lowest n))) counts (i + 1)) (sym e)
          (lowest_not (λ n. is_some (hash.get equality.ghosts.eq c.args.sides.now (lowest n))) counts i 0
          (omega arith) c.loop-count.bits c.loop-count.invariant fails)
    ]

pub returns : goal.returns
returns c =
    let net = c.args.net.now in
    let counts = c.as_slice-count-items.result.now in
    let said : (n : ℕ) → Contains counts n ↔ SaysLowest net n c.args.taking.now =
    subst (λ (ns : List ℕ). (n : ℕ) → Contains ns n ↔ SaysLowest net n c.args.taking.now) (sym c.as_slice-count-items.ensures)
    (subst (λ (ts : List Term). (n : ℕ) → Contains c.in_ok-counts.counts n ↔ ((u : Term) × Contains ts u × SaysBit net n u))
    c.as_slice.ensures c.in_ok-counts.ensures) in
    lowest_all (λ n. is_some (hash.get equality.ghosts.eq c.args.sides.now (lowest n))) counts c.loop-count.count-index c.loop-count.bits
    (λ n. SaysLowest net n c.args.taking.now) (omega arith) said c.loop-count.invariant
