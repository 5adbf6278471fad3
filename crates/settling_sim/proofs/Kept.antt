-- A trial keeps its room.
use Rattle.std.proofs.Common.{◌≡◌, ◌∙◌, ℕ, Bool, true, false, List, [], ◌∷◌, length, set, replicate, Option, refl, sym, ap, subst}
use Rattle.std.proofs.lemmas.List.{length-set, length-replicate}
use Rattle.cell_graph.specs.declared.cell.CellId.{CellId}
use Rattle.cell_graph.specs.declared.net.Net.{Net}
use Rattle.cofactor.specs.Shown.{Shown}
use Rattle.domains.specs.declared.Domains.{Domains}
use Rattle.settling_sim.specs.declared.moment.Moment.{Moment}
use Rattle.settling_sim.specs.declared.reader.Reader.{Reader}
use Rattle.settling_sim.specs.declared.trial.Trial.{Trial}
use Rattle.settling_sim.specs.Edges.{mark_in}
use Rattle.settling_sim.specs.Present.{IsKept}
use Rattle.settling_sim.specs.Reader.{HasRoom}

mark-length : (ts : List Bool) (es : List ℕ) → length (mark_in ts es) ≡ length ts
mark-length ts [] = refl
mark-length ts (e ∷ es) = mark-length (set ts e true) es ∙ length-set ts e true

module _ (net : Net) (domains : Domains) (cells : List (Option CellId)) (copies : Shown) (m : Moment) (t : Trial) (kept : IsKept net domains cells copies m t) where
  pub marked-kept : (u : Trial) (es : List ℕ) → u.ticking.items ≡ mark_in (replicate (length t.ticking.items) false) es → u.words ≡ t.words → u.cycles ≡ t.cycles → u.reader ≡ t.reader
      → IsKept net domains cells copies m u
  marked-kept u es marks words cycles reader = record {
    are_next = kept.are_next;
    shows = kept.shows;
    words = kept.words;
    cycles = kept.cycles;
    room = record {
      ticking = ap length marks ∙ mark-length (replicate (length t.ticking.items) false) es ∙ length-replicate (length t.ticking.items) false ∙ kept.room.ticking;
      words = ap (λ v. length v.items) words ∙ kept.room.words;
      cycles = ap (λ v. length v.items) cycles ∙ kept.room.cycles;
      reader = subst (λ (r : Reader). HasRoom net r) (sym reader) kept.room.reader;
    };
  }

  pub tried-kept : (u : Trial) → u.ticking ≡ t.ticking → length u.words.items ≡ length t.words.items → length u.cycles.items ≡ length t.cycles.items → (HasRoom net t.reader → HasRoom net u.reader)
      → IsKept net domains cells copies m u
  tried-kept u ticking words cycles reader = record {
    are_next = kept.are_next;
    shows = kept.shows;
    words = kept.words;
    cycles = kept.cycles;
    room = record {
      ticking = ap (λ v. length v.items) ticking ∙ kept.room.ticking;
      words = words ∙ kept.room.words;
      cycles = cycles ∙ kept.room.cycles;
      reader = reader kept.room.reader;
    };
  }
