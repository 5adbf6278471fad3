-- The cells below the one that is asked for are those of its cone.
use Rattle.std.proofs.Common.{◌≡◌, ◌∙◌, ℕ, ◌<◌, Some, List, [], ◌∷◌, Contains, length, inl, inr, refl, sym, subst, arith}
use Rattle.cell_graph.specs.declared.cell.CellId.{CellId}
use Rattle.cdc_model.proofs.Ascending.{here, nothing_in, parts}
use Rattle.campaign.specs.Room.{IsConeOf}
use Rattle.campaign.proofs.probe.Probe.look_below.Goals as goal

one-in : (n : ℕ) (top c : CellId) → top.0 < n → Contains (top ∷ []) c → c.0 < n
one-in n top c lt h = elim (parts top [] c h) [
  | inl e ↦ subst (λ (d : CellId). d.0 < n) e lt
  | inr i ↦ absurd (nothing_in c i)
]

pub returns-clause-room : goal.returns-clause-room
returns-clause-room c = λ well lt old. record {
  values = old.values;
  cone = λ top e.
      let same : c.args.top ≡ top = cc in
      subst (λ (t : CellId). IsConeOf c.args.net.now.graph t c.in_ok-cells.cells.items) same (record {
        has_top = c.in_ok-cells.ensures.roots c.args.top (here c.args.top []);
        ascending = c.in_ok-cells.ensures.ascending;
        closed = c.in_ok-cells.ensures.closed;
        within = c.in_ok-cells.ensures.within well (λ d h. one-in (length c.args.net.now.graph.cells) c.args.top d lt h);
      });
}
