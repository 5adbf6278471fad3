-- The room for a step stays one.
use Rattle.std.proofs.Common.{◌≡◌, ◌∙◌, ℕ, Bool, true, false, List, [], ◌∷◌, ◌++◌, length, set, take, replicate, Option, refl, sym, ap, subst}
use Rattle.std.specs.Prelude.{not}
use Rattle.std.specs.Bool.{beq}
use Rattle.std.proofs.lemmas.List.{length-set, length-replicate}
use Rattle.cdc_base.specs.declared.bit.Bit.{Bit}
use Rattle.cell_graph.specs.declared.net.Net.{Net}
use Rattle.cell_graph.specs.Values.{reading_of}
use Rattle.domains.specs.declared.Domains.{Domains}
use Rattle.cdc_model.specs.declared.scheme.Crossing.{Crossing}
use Rattle.settling_sim.specs.declared.moment.Moment.{Moment}
use Rattle.settling_sim.specs.Edges.{mark_in}
use Rattle.settling_sim.specs.Reader.{HasRoom}
use Rattle.settling_sim.specs.Words.{put_bit}
use Rattle.settling_sim.proofs.Trials.{given-length, next-length}
use Rattle.campaign.specs.declared.probe.Probe.{Probe}
use Rattle.campaign.specs.declared.run.Choices.{Choices}
use Rattle.campaign.specs.declared.run.Room.{Room}
use Rattle.campaign.specs.declared.toss.Toss.{Toss}
use Rattle.campaign.specs.Room.{HasProbe}
use Rattle.campaign.specs.Run.{HasSpace, IsDrawnIn}
use Rattle.campaign.specs.Tested.{put_tosses}

-- what is written over a list of the same length stays
pub kept : {A : Type 0} (n : ℕ) (xs rest : List A) → length xs ≡ n → take n (xs ++ rest) ≡ xs
kept {A = A} n xs rest e = ap (λ (k : ℕ). take k (xs ++ rest)) (sym e) ∙ go xs
  where
    go : (ys : List A) → take (length ys) (ys ++ rest) ≡ ys
    go [] = refl
    go (y ∷ ys) = ap (λ zs. y ∷ zs) (go ys)

mark-length : (ts : List Bool) (es : List ℕ) → length (mark_in ts es) ≡ length ts
mark-length ts [] = refl
mark-length ts (e ∷ es) = mark-length (set ts e true) es ∙ length-set ts e true

pub tossed-length : (before : List ℕ) (ts : List Toss) (words : List ℕ) → length (put_tosses before ts words) ≡ length words
tossed-length before [] words = refl
tossed-length before (t ∷ ts) words = tossed-length before ts (put_bit words t.flop (not (beq (reading_of before t.source) t.other))) ∙ length-set words t.flop.sig _

pub room-kept : (net : Net) (domains : Domains) (copied : Bit → Option Bit) (listed named : List ℕ) (flops : List Crossing) (values : List ℕ) (m : Moment) (number : ℕ) (rng : List ℕ)
    (before : Room) (k : Choices) (behind : List ℕ) (room : Room) → HasSpace net domains before → length m.words.items ≡ length net.graph.signals
    → IsDrawnIn net domains copied listed named flops values m number rng before k behind room → (probe : Probe) → HasProbe net probe
    → HasSpace net domains (record { trial = room.trial; drawn = room.drawn; probe = probe })
room-kept net domains copied listed named flops values m number rng before k behind room space counted by probe has = record {
  trial = record {
    ticking = ap length by.ticking ∙ mark-length (replicate (length before.trial.ticking.items) false) k.edges ∙ length-replicate (length before.trial.ticking.items) false ∙ space.trial.ticking;
    words = ap length by.words ∙ tossed-length m.words.items k.tosses _ ∙ given-length k.inputs _ ∙ next-length domains room.trial.ticking.items values net.regs m.words.items ∙ counted;
    cycles = ap (λ v. length v.items) by.cycles ∙ space.trial.cycles;
    reader = subst (HasRoom net) (sym by.reader) space.trial.reader;
  };
  drawn = by.drawn ∙ space.drawn;
  probe = has;
}
