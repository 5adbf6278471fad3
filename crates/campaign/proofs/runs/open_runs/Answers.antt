-- Each run is opened with its own seed.
use Rattle.std.proofs.Common.{◌≡◌, ◌∙◌, ℕ, ◌+◌, List, [], ◌∷◌, ◌++◌, length, inl, inr, refl, sym, ap, subst, arith}
use Rattle.std.proofs.lemmas.Grind.{common_steps}
use Rattle.std.specs.Prelude.{slice_get}
use Rattle.campaign.specs.declared.run.Run.{Run}
use Rattle.campaign.specs.Run.{IsRunAfter}
use Rattle.campaign.proofs.RunLists.{get-push, run-opened, runs-opened}
use Rattle.campaign.proofs.runs.open_runs.Goals as goal

length-push : (runs : List Run) (r : Run) → length (runs ++ r ∷ []) ≡ length runs + 1
length-push [] r = refl
length-push (q ∷ qs) r = let more = length-push qs r in omega (arith, more)

pub loop-index-preserved : goal.loop-index-preserved
loop-index-preserved c =
    let net = c.args.net.now in
    let domains = c.args.domains.now in
    let run = c.in_ok-run.run' in
    let pushed : c.push.new.self.items ≡ c.loop-index.runs.items ++ run ∷ [] = (let i = c.push.ensures.items in let e = c.if-is_err.ensures.value in grind (arith, common_steps, i, e)) in
    let counted = c.loop-index.invariant.counted in
    let same = c.from.ensures in
    record {
      counted = ap length pushed ∙ length-push c.loop-index.runs.items run ∙ ap (λ (k : ℕ). k + 1) counted;
      opened = λ can named i r e. elim (get-push c.loop-index.runs.items run i r (ap (λ (rs : List Run). slice_get rs i) (sym pushed) ∙ e)) [
        | inl f ↦ c.loop-index.invariant.opened can named i r f
        | inr f ↦ subst (λ (q : Run). IsRunAfter net domains named (c.args.seed + i) 0 q) f.1
            (subst (λ (k : ℕ). IsRunAfter net domains named k 0 run) (let at = f.0 in let s : c.from.result + c.loop-index.index ≡ c.args.seed + i = omega (arith, at, counted, same) in s)
            (run-opened net domains can named (c.from.result + c.loop-index.index) run c.in_ok-run.ensures.rng (c.in_ok-run.ensures.words can.opens.numbered can.opens.fit.ascending) c.in_ok-run.ensures.cycles
            c.in_ok-run.ensures.steps))
      ];
    }

pub returns : goal.returns
returns c = λ can named.
    let counted = c.loop-index.invariant.counted in
    let most = c.loop-index.auto.index-end in
    let least = c.loop-index-test.false in
    let eight : length c.loop-index.runs.items ≡ 8 = omega (arith, counted, most, least) in
    runs-opened c.args.net.now c.args.domains.now can named c.args.seed c.loop-index.runs.items eight (c.loop-index.invariant.opened can named)
