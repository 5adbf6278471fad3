-- The module unfolds to the flat design, which is sound and has no loop.
use Rattle.std.proofs.Common.{◌≡◌, ℕ, zero, suc, Bool, true, false, ◌&&◌, ◌||◌, ◌==◌, nat_lt, ◌≤◌, [], ◌∷◌, refl, sym, arith, eqb-true, codes}
use Rattle.std.proofs.lemmas.Bool.{and_parts}
use Rattle.cdc_base.specs.Words.{keyword_of, is_left_out}
use Rattle.cell_graph.specs.Nets.{AreSized}
use Rattle.flat_meaning.specs.Assigned.{is_within}
use Rattle.flat_meaning.specs.Design.{size_in}
use Rattle.flat_meaning.specs.Segments.{made_of, DependsIn, IsLoopFree}
use Rattle.flat_meaning.specs.Sound.{IsSound}
use Rattle.flat_meaning.proofs.Words.{never, never_same}
use Rattle.flat_unfolding.specs.Formed.{IsSourceFormed}
use Rattle.flat_unfolding.specs.Outcome.{good}
use Rattle.flat_unfolding.specs.Unfolding.{unfolded}
use Rattle.flat_unfolding.proofs.Sound.{sound_law}
use Rattle.source_forms.proofs.Sources.{source_formed}
use Rattle.source_forms.proofs.Texts.{numbers_fit}
use Rattle.worked_audit.specs.Texts.{netlist}
use Rattle.worked_audit.specs.Modules.{modules}
use Rattle.worked_audit.specs.Design.{flat, signals}
use Rattle.worked_audit.proofs.Reading.{tokens, are_tokens, reads}
use Rattle.worked_audit.proofs.Signals.{at_signal}

pub unfolds : unfolded modules (codes "m") [] (codes "ca" ∷ codes "cb" ∷ codes "d" ∷ []) ≡ good flat
unfolding keyword_of is_left_out
unfolds = refl

pub formed : IsSourceFormed modules
formed = source_formed tokens modules (numbers_fit netlist tokens are_tokens) reads

pub sound : IsSound flat
sound = sound_law modules formed (codes "m") [] (codes "ca" ∷ codes "cb" ∷ codes "d" ∷ []) flat unfolds

pub sized : AreSized signals
sized = at_signal (λ sig s. (1 ≤ s.width) × (s.width ≤ 64)) one one one one one one one
  where
    one : (1 ≤ 1) × (1 ≤ 64)
    one = (omega arith, omega arith)

-- only q is made of anything, and that is s2
made : (s i t j : ℕ) → made_of flat s i t j ≡ true → (s ≡ 3) × (t ≡ 6)
made s i t j h =
    let q = (s == 3) && is_within 0 1 i in let s2 = (t == 6) && is_within 0 1 j in
    go q s2 (λ e. eqb-true s 3 (and_parts (s == 3) (is_within 0 1 i) e).0) (λ e. eqb-true t 6 (and_parts (t == 6) (is_within 0 1 j) e).0)
    (and_parts (nat_lt i (size_in flat s)) (((q && s2) || false) || false) h).1
  where
    go : (q s2 : Bool) → (q ≡ true → s ≡ 3) → (s2 ≡ true → t ≡ 6) → (((q && s2) || false) || false) ≡ true → (s ≡ 3) × (t ≡ 6)
    go true true a b k = (a refl, b refl)
    go true false a b k = never_same (sym k)
    go false s2 a b k = never_same (sym k)

ends : (n s i t j : ℕ) → DependsIn flat n s i t j → (s ≡ 3) × (t ≡ 6)
ends zero s i t j h = made s i t j h
ends (suc n) s i t j h = let a = made s i h.0 h.1 h.2 in let b = ends n h.0 h.1 t j h.3 in (a.0, b.1)

pub loop_free : IsLoopFree flat
loop_free n s i h = let p = ends n s i s i h in let a = p.0 in let b = p.1 in absurd (never 0 (omega arith))
