use Rattle.std.proofs.Common.{◌↔◌, ◌≡◌, ◌∙◌, ℕ, List, Some, Contains, ap, subst, sym}
use Rattle.std.specs.Option.{option_copied}
use Rattle.std.proofs.lemmas.Result.{IfOk-weaker}
use Rattle.fifo_nodes.specs.declared.term.Term.{Term}
use Rattle.fifo_scheme.specs.Candidates.{WordSays, taking_found}
use Rattle.fifo_parts.specs.Words.{SaysBit}
use Rattle.fifo_scheme.proofs.Led.{word_says}
use Rattle.fifo_scheme.proofs.finder.counts_of.Goals as goal

pub returns-in-Some : goal.returns-in-Some
returns-in-Some c =
    let net = c.args.net.now in
    let i = c.args.index.now in
    let found : taking_found i c.args.bit ≡ Some c.in-Some.taking.now = sym c.taking.ensures ∙ ap option_copied c.in-Some.is in
    IfOk-weaker c.counts_said.result (λ (counts : List ℕ). (sig : ℕ) → Contains counts sig ↔ ((t : Term) × Contains c.as_slice.result.now t × SaysBit net sig t)) (λ (counts : List ℕ). (wb : ℕ) → Contains counts wb ↔ WordSays net i c.args.bit wb)
    (λ counts said. word_says net i c.args.bit c.in-Some.taking.now counts found
    (subst (λ (ts : List Term). (sig : ℕ) → Contains counts sig ↔ ((t : Term) × Contains ts t × SaysBit net sig t)) c.as_slice.ensures said)) c.counts_said.ensures
