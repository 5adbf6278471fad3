-- Paths of uncovered crossings, one after another.
use Rattle.std.proofs.Common.{◌≡◌, ◌∙◌, sym, subst, arith, ℕ, ◌<◌, Bool, is_some, List, [], ◌∷◌, ◌++◌, length, Contains, ltb-true}
use Rattle.std.proofs.lemmas.Bool.{and_parts}
use Rattle.cdc_base.specs.declared.bit.Bit.{Bit}
use Rattle.cell_graph.specs.declared.net.Net.{Net}
use Rattle.cofactor.specs.Shown.{Shown}
use Rattle.cdc_model.specs.declared.scheme.GrayReg.{GrayReg}
use Rattle.cdc_model.specs.declared.verdict.Finding.{Finding as FindingEntry}
use Rattle.cdc_model.specs.declared.verdict.Finding.TheVariants as entry
use Rattle.cdc_model.specs.Nets.{bit_count, is_within, next_cell}
use Rattle.cdc_model.specs.Schemes.{Ring}
use Rattle.cdc_model.proofs.Ascending.{here, in_map, later}
use Rattle.obligations.specs.declared.bare.Uncovered.{Uncovered}
use Rattle.obligations.specs.declared.Found.{Found}
use Rattle.obligations.specs.Bare.{CanWalk, ReadsSource, finding_at}
use Rattle.obligations.specs.Findings.{AddsFindings, HasPath, HavePaths, IsFindingIn, finding_of, number_of}
use Rattle.obligations.proofs.Lacks.{lacking_crosses}

-- an uncovered crossing ends in a bit that reads its source
pub reads_source : (grays : GrayReg → Bool) (rings : List Ring) (is_extra : Bit → Bit → Bool) (found : Found) (u : Uncovered) → IsFindingIn grays rings is_extra found (finding_at u) → ReadsSource found.net.now u.crossing
reads_source grays rings is_extra found u h =
    let net = found.net.now in
    let crosses = lacking_crosses grays rings is_extra found u.crossing u.lack h in
    (ltb-true u.crossing.to.at (bit_count net.graph.signals u.crossing.to.sig) (and_parts (is_some (next_cell net.regs u.crossing.to.sig)) (is_within net u.crossing.to) crosses.register).1, crosses.reads)

-- more words of the same number serve as well
pub walks_on : (net : Net) (plain : Shown) (paths others : List ℕ) → length others ≡ length paths → CanWalk net plain paths → CanWalk net plain others
walks_on net plain paths others same walk = record { is_net = walk.is_net; has_next = walk.has_next; shown = walk.shown; sized = same ∙ walk.sized }

module _ (net : Net) where
  pub both_have : (xs ys : List FindingEntry) → HavePaths net xs → HavePaths net ys → HavePaths net (xs ++ ys)
  both_have [] ys h k = k
  both_have (x ∷ xs) ys h k = (h.0, both_have xs ys h.1 k)

  pub one_more : (old new : List FindingEntry) (e : FindingEntry) → new ≡ old ++ e ∷ [] → HavePaths net old → HasPath net e → HavePaths net new
  one_more old new e added h k = subst (HavePaths net) (sym added) (both_have old (e ∷ []) h (k, tt))

  -- a finding of a word, a bit or a reader needs no path
  needs_none : (n : ℕ) → 2 < n → n < 7 → (e : FindingEntry) → number_of (finding_of e) ≡ n → HasPath net e
  needs_none n l m (entry.V1 b x path) e = absurd (omega (arith, l, e))
  needs_none n l m (entry.V2 b x path) e = absurd (omega (arith, l, e))
  needs_none n l m (entry.V3 w g flops) e = tt
  needs_none n l m (entry.V4 b g flops) e = tt
  needs_none n l m (entry.V5 w g flops) e = tt
  needs_none n l m (entry.V6 x g arrivals) e = tt
  needs_none n l m (entry.V7 b x r path) e = absurd (omega (arith, m, e))
  needs_none n l m (entry.V8 b x r path) e = absurd (omega (arith, m, e))

  pub need_none : (n : ℕ) → 2 < n → n < 7 → (es : List FindingEntry) → ((e : FindingEntry) → Contains es e → number_of (finding_of e) ≡ n) → HavePaths net es
  need_none n l m [] h = tt
  need_none n l m (e ∷ es) h = (needs_none n l m e (h e (here e es)), need_none n l m es (λ x i. h x (later e es x i)))

-- findings of words, bits or readers that are added need none
pub none_needed : (grays : GrayReg → Bool) (rings : List Ring) (is_extra : Bit → Bit → Bool) (found : Found) (n : ℕ) → 2 < n → n < 7 → (old new : List FindingEntry) → AddsFindings grays rings is_extra found n old new
    → HavePaths found.net.now old → HavePaths found.net.now new
none_needed grays rings is_extra found n l m old new (more, added, numbered) h = subst (HavePaths found.net.now) (sym added)
    (both_have found.net.now old more h (need_none found.net.now n l m more (λ e i. (numbered.all.only (finding_of e) (in_map finding_of more e i)).1)))
