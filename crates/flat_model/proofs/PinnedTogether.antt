-- What meets behind synchronizers belongs to one moment also where some bits stay at constants.
use Rattle.std.proofs.Common.{◌≡◌, ℕ, Bool, Option, Some, None, option_map, List, inl, inr, refl, sym, ap, ◌∙◌}
use Rattle.cdc_base.specs.declared.bit.Bit.{Bit}
use Rattle.cell_graph.specs.Reading.{Reading}
use Rattle.cdc_model.specs.Design.{Design}
use Rattle.cdc_model.specs.Runs.{State, Trace, now}
use Rattle.cdc_model.specs.Schemes.{Trees, Sync}
use Rattle.cdc_model.specs.Together.{IsTogether, Reads}
use Rattle.flat_model.specs.Pinned.{IsPinned}
use Rattle.flat_model.proofs.PinnedRuns.{held_design, clocked_free, pinned_state, pinned_run, now_pinned, around_pinned}

-- a bit of a group has a clock
grouped_clock : (o : Option ℕ) (g : ℕ) (f : ℕ → ℕ) → option_map f o ≡ Some g → (c : ℕ) × (o ≡ Some c)
grouped_clock None g f h = cc
grouped_clock (Some c) g f h = (c, refl)

module _ (d : Design) (pinned : Reading → Reading) (next : Reading → Bit → Bool) (p : IsPinned d pinned next) (t : Trees) (syncs : List Sync) (x : Bit) (g n : ℕ) where
  reads_same : (s : Sync) (y : Bit) → Reads (held_design d pinned next p) t syncs x g n s y → Reads d t syncs x g n s y
  reads_same s y r = record { sync = r.sync; from = r.from; arrival = r.arrival; reads = r.reads }

  -- the arrivals have the values of their sources in the reading
  abbrev TakeSources : Design → ℕ → Reading → Reading → Type 0
  TakeSources e c taken source = (s : Sync) (y : Bit) → Reads e t syncs x g n s y → e.clock y ≡ Some c → taken y ≡ source s.from

  free_sources : (c : ℕ) (run : Trace) (source : Reading) → TakeSources d c (now (pinned_run d pinned next p run)).values (pinned source)
      → TakeSources (held_design d pinned next p) c (now run).values source
  free_sources c run source h s y r clock =
      let from = grouped_clock (d.clock s.from) g d.group_of r.from in
      sym (clocked_free d pinned next p y c clock (now run).values)
      ∙ sym (ap (λ (z : State). z.values y) (now_pinned d pinned next p run)) ∙ h s y (reads_same s y r) clock
      ∙ clocked_free d pinned next p s.from from.0 from.1 source

  pub together_pinned : (run : Trace) → IsTogether d t syncs (pinned_run d pinned next p run) x g n → IsTogether (held_design d pinned next p) t syncs run x g n
  together_pinned run h = record {
    one_clock = λ s r y z a b. h.one_clock s r y z (reads_same s y a) (reads_same r z b);
    one_moment = λ c before after e.
        elim (h.one_moment c (pinned_state d pinned next p before) (pinned_state d pinned next p after) (around_pinned d pinned next p c n run before after e)) [
          | inl k ↦ inl (free_sources c run before.values k)
          | inr k ↦ inr (free_sources c run after.values k)
        ];
  }
