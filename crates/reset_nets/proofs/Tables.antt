-- The tables of a design's wires, as they are made.
use Rattle.std.proofs.Common.{◌≡◌, ℕ, suc, List, [], ◌∷◌, length, map, Some, refl, ap, ◌∙◌, subst, slice_get}
use Rattle.cdc_base.specs.declared.signal.ResetPin.{ResetPin}
use Rattle.flat_unfolding.specs.Names.{Entry}
use Rattle.flat_unfolding.specs.Design.{Design}
use Rattle.flat_names.specs.declared.design.Design as table
use Rattle.flat_names.specs.Designs.{ShowsDesign, signal_of}
use Rattle.reset_nets.specs.declared.drives.Drive.{Drive}
use Rattle.reset_nets.specs.declared.nets.Wires.{Wires}
use Rattle.reset_nets.specs.Nets.{level_of}
use Rattle.reset_nets.specs.Finding.{pair_of, Tells}
use Rattle.reset_nets.specs.Shown.{level_in_signal, ShowsWires}

levels_of : (pins : List ResetPin) (es : List Entry) → map (level_in_signal pins) (map signal_of es) ≡ map (level_of pins) es
levels_of pins [] = refl
levels_of pins (e ∷ es) = ap (λ ls. level_of pins e ∷ ls) (levels_of pins es)

as_many : (es : List Entry) → length (map signal_of es) ≡ length es
as_many [] = refl
as_many (e ∷ es) = ap suc (as_many es)

-- the tables that are made of what is kept of a design show the design's wires
pub wires_shown : (pins : List ResetPin) (kept : table.Design) (d : Design) → ShowsDesign [] kept d → (w : Wires) → w.signals.now ≡ kept.signals.items → w.assigns.now ≡ kept.assigns.items
    → length w.drives.items ≡ length kept.signals.items → ((s : ℕ) (x : Drive) → slice_get w.drives.items s ≡ Some x → Tells (map pair_of kept.assigns.items) s x)
    → w.declared.items ≡ map (level_in_signal pins) kept.signals.items → ShowsWires pins w d
wires_shown pins kept d shown w signals assigns count drives declared = record {
  signals = signals ∙ shown.signals;
  assigns = ap (map pair_of) assigns ∙ shown.assigns;
  count = count ∙ ap length shown.signals ∙ as_many d.entries;
  drives = λ s x at. subst (λ given. Tells given s x) shown.assigns (drives s x at);
  declared = declared ∙ ap (map (level_in_signal pins)) shown.signals ∙ levels_of pins d.entries;
}
