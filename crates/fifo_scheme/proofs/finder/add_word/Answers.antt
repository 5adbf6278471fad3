use Rattle.std.proofs.Common.{◌↔◌, ℕ, List, Contains, subst, sym}
use Rattle.std.proofs.lemmas.Result.{IfOk-weaker}
use Rattle.fifo_scheme.specs.Candidates.{AreBy, AreLookedUp, Grows, IsWordTo, OfOne, WordSays}
use Rattle.fifo_scheme.proofs.Growing.{grows_as}
use Rattle.fifo_scheme.proofs.Led.{by_counts}
use Rattle.fifo_scheme.proofs.finder.add_word.Goals as goal

pub returns : goal.returns
returns c =
    let i = c.args.index.now in
    let counts = c.as_slice.result.now in
    let said : (wb : ℕ) → Contains counts wb ↔ WordSays c.args.net.now i c.args.word wb =
    subst (λ (ns : List ℕ). (wb : ℕ) → Contains ns wb ↔ WordSays c.args.net.now i c.args.word wb) (sym c.as_slice.ensures) c.in_ok-counts.ensures in
    IfOk-weaker c.add_counts.result (λ x. AreLookedUp i → Grows i.sides.items (OfOne (λ wb k. AreBy i.sides.items wb c.args.rb k) counts) c.args.candidates.now c.add_counts.new.candidates)
    (λ x. AreLookedUp i → Grows i.sides.items (IsWordTo c.args.net.now i c.args.rb c.args.word) c.args.candidates.now c.add_counts.new.candidates)
    (λ x h by. grows_as i.sides.items (OfOne (λ wb k. AreBy i.sides.items wb c.args.rb k) counts) (IsWordTo c.args.net.now i c.args.rb c.args.word) c.args.candidates.now c.add_counts.new.candidates
    (by_counts c.args.net.now i c.args.rb c.args.word counts said) (h by)) c.add_counts.ensures
