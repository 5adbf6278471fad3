-- The clocks that tick, as the model has them.
use Rattle.std.proofs.Common.{◌≡◌, ◌∙◌, ℕ, zero, suc, ◌<◌, ◌==◌, Bool, true, false, cond, ◌||◌, List, [], ◌∷◌, length, set, replicate, get_or, Option, Some, None, refl, sym, ap, subst, arith, eqb-true}
use Rattle.std.specs.Prelude.{unwrap_or, slice_get}
use Rattle.std.proofs.lemmas.Bool.{eqb-false}
use Rattle.std.proofs.lemmas.List.{length-set, get_or-set_same, get_or-set_other, get_or-replicate, length-replicate}
use Rattle.std.proofs.lemmas.Option.{unwrap_or-slice_get}
use Rattle.cdc_base.specs.declared.bit.Bit.{Bit}
use Rattle.cell_graph.specs.declared.net.Net.{Net}
use Rattle.domains.specs.declared.Domains.{Domains}
use Rattle.domains.specs.Assignment.{clock_of}
use Rattle.domains.specs.Fit.{Fit}
use Rattle.cdc_model.specs.Nets.{design_of, is_within}
use Rattle.cdc_model.specs.Replay.{has_edge}
use Rattle.cdc_model.specs.Runs.{is_in, ticks}
use Rattle.cdc_model.proofs.NetDesign.{net_is_finite}
use Rattle.settling_sim.specs.Edges.{mark_in, is_marked}

or-yes : (b : Bool) → (b || true) ≡ true
or-yes true = refl
or-yes false = refl

-- a clock is marked that is one of the edges, or was before
mark-get : (ts : List Bool) (es : List ℕ) (c : ℕ) → c < length ts → get_or (mark_in ts es) c false ≡ (has_edge es c || get_or ts c false)
mark-get ts [] c h = refl
mark-get ts (e ∷ es) c h = mark-get (set ts e true) es c (let n = length-set ts e true in omega arith) ∙ go (e == c) refl
  where
    go : (t : Bool) → (e == c) ≡ t → (has_edge es c || get_or (set ts e true) c false) ≡ ((t || has_edge es c) || get_or ts c false)
    go true f =
        let at = eqb-true e c f in
        ap (λ v. has_edge es c || v) (subst (λ (k : ℕ). get_or (set ts e true) k false ≡ true) at (get_or-set_same ts e true false (omega arith))) ∙ or-yes (has_edge es c)
    go false f = ap (λ v. has_edge es c || v) (get_or-set_other ts e c true false (λ g. eqb-false e c f (sym g)))

or-no : (b : Bool) → (b || false) ≡ b
or-no true = refl
or-no false = refl

pub marked : (n : ℕ) (es : List ℕ) (c : ℕ) → c < n → is_marked (mark_in (replicate n false) es) (Some c) ≡ has_edge es c
marked n es c h =
    unwrap_or-slice_get (mark_in (replicate n false) es) c false
    ∙ mark-get (replicate n false) es c (let l = length-replicate n false in omega arith)
    ∙ ap (λ v. has_edge es c || v) (get_or-replicate n c false false h) ∙ or-no (has_edge es c)

-- the code's ticking clocks are the model's
pub tick-is : (net : Net) (domains : Domains) → Fit net domains → (es : List ℕ) (b : Bit) → is_within net b ≡ true
    → is_marked (mark_in (replicate (length domains.clocks) false) es) (clock_of domains b) ≡ ticks (design_of net domains) (has_edge es) b
tick-is net domains fit es b h = go (clock_of domains b) refl ∙ ap (λ t. is_in (cond t (clock_of domains b) None) (has_edge es)) (sym h)
  where
    go : (o : Option ℕ) → clock_of domains b ≡ o → is_marked (mark_in (replicate (length domains.clocks) false) es) o ≡ is_in o (has_edge es)
    go None e = refl
    go (Some c) e = marked (length domains.clocks) es c ((net_is_finite net domains fit).numbered b c (ap (λ t. cond t (clock_of domains b) None) h ∙ e))
