-- The registers of a net are the signals of that kind.
use Rattle.std.proofs.Common.{◌≡◌, ◌∙◌, refl, sym, ap, subst, arith, eqb-true, ℕ, zero, suc, ◌+◌, ◌==◌, Bool, true, false, cond, List, [], ◌∷◌, map, Option, Some, None, is_some, option_map, slice_get}
use Rattle.std.specs.Prelude.{All}
use Rattle.std.proofs.lemmas.Bool.Decides.{nat_tests}
use Rattle.std.proofs.lemmas.List.Elements.{All-head, All-tail}
use Rattle.cdc_base.specs.declared.signal.Signal.{Signal}
use Rattle.std.specs.Option.{option_map_or}
use Rattle.cdc_base.specs.declared.signal.SigKind.TheVariants.{Wire}
use Rattle.cell_graph.specs.declared.net.Reg.{Reg}
use Rattle.cell_graph.specs.Nets.{is_register, next_cell, register_signals}
use Rattle.domains.specs.Clocks.{register_of}
use Rattle.domains.proofs.FitNets.{register-found}
use Rattle.flat_meaning.specs.Design.{kind_in}

-- the next value is that of the register of the signal
pub next_of_register : (regs : List Reg) (sig : ℕ) → next_cell regs sig ≡ option_map (λ (r : Reg). r.next) (register_of regs sig)
next_of_register [] sig = refl
next_of_register (r ∷ rs) sig = go (r.sig == sig) (next_of_register rs sig)
  where
    go : (v : Bool) → next_cell rs sig ≡ option_map (λ (r : Reg). r.next) (register_of rs sig)
        → cond v (Some r.next) (next_cell rs sig) ≡ option_map (λ (r : Reg). r.next) (cond v (Some r) (register_of rs sig))
    go true h = refl
    go false h = h

-- the register of a signal is of that signal, and has what all registers have
pub register_has : (P : Reg → Type 0) (regs : List Reg) (sig : ℕ) (r : Reg) → All P regs → register_of regs sig ≡ Some r → (r.sig ≡ sig) × P r
register_has P [] sig r all h = cc
register_has P (q ∷ qs) sig r all h = go (q.sig == sig) refl h (register_has P qs sig r (All-tail P q qs all))
  where
    go : (v : Bool) → (q.sig == sig) ≡ v → cond v (Some q) (register_of qs sig) ≡ Some r → (register_of qs sig ≡ Some r → (r.sig ≡ sig) × P r) → (r.sig ≡ sig) × P r
    go true e h rest =
        let same : q ≡ r = cc in
        (ap (λ (x : Reg). x.sig) (sym same) ∙ eqb-true q.sig sig e, subst P same (All-head P q qs all))
    go false e h rest = rest h

-- there is none where there is no signal
none_past : (k j : ℕ) (ss : List Signal) (regs : List Reg) → map (λ (r : Reg). r.sig) regs ≡ register_signals k ss → slice_get ss j ≡ None → register_of regs (k + j) ≡ None
none_past k j [] [] h e = refl
none_past k j [] (r ∷ regs) h e = absurd (cc)
none_past k zero (s ∷ ss) regs h e = absurd (cc)
none_past k (suc j) (s ∷ ss) regs h e =
    let same : (k + 1) + j ≡ k + suc j = omega arith in
    go (is_register s.kind) regs h (λ (rs : List Reg) f. subst (λ q. register_of rs q ≡ None) same (none_past (k + 1) j ss rs f e))
  where
    go : (b : Bool) (regs : List Reg) → map (λ (r : Reg). r.sig) regs ≡ cond b (k ∷ register_signals (k + 1) ss) (register_signals (k + 1) ss)
        → ((rs : List Reg) → map (λ (r : Reg). r.sig) rs ≡ register_signals (k + 1) ss → register_of rs (k + suc j) ≡ None) → register_of regs (k + suc j) ≡ None
    go false regs f rest = rest regs f
    go true [] f rest = refl
    go true (r ∷ regs) f rest =
        let head : r.sig ≡ k = cc in
        let tail : map (λ (r : Reg). r.sig) regs ≡ register_signals (k + 1) ss = cc in
        let other : (r.sig == k + suc j) ≡ false = grind (arith, nat_tests) in
        ap (λ b. cond b (Some r) (register_of regs (k + suc j))) other ∙ rest regs tail

-- a signal has a register where it is of that kind
pub is_found : (ss : List Signal) (regs : List Reg) → map (λ (r : Reg). r.sig) regs ≡ register_signals 0 ss → (sig : ℕ) → is_some (register_of regs sig) ≡ is_register (kind_in ss sig)
is_found ss regs h sig = go (slice_get ss sig) refl
  where
    first : 0 + sig ≡ sig
    first = omega arith

    go : (o : Option Signal) → slice_get ss sig ≡ o → is_some (register_of regs sig) ≡ is_register (kind_in ss sig)
    go None e = ap is_some (subst (λ q. register_of regs q ≡ None) first (none_past 0 sig ss regs h e)) ∙ sym (ap (λ o. is_register (option_map_or (λ (x : Signal). x.kind) o Wire)) e)
    go (Some s) e = subst (λ q. is_some (register_of regs q) ≡ is_register s.kind) first (register-found 0 ss regs sig s h e)
        ∙ sym (ap (λ o. is_register (option_map_or (λ (x : Signal). x.kind) o Wire)) e)
