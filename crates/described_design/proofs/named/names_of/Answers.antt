use Rattle.std.proofs.Common.{List, ℕ, ◌++◌, map, ap₂, ◌∙◌}
use Rattle.clock_constraints.specs.declared.ClockPin.{ClockPin}
use Rattle.clock_constraints.specs.declared.InputPin.{InputPin}
use Rattle.described_design.proofs.named.names_of.Goals as goal

-- each list is added behind those before it
pub returns : goal.returns
returns c =
    let clocks = c.in_ok-add_clocks.ensures
    ∙ ap₂ (λ (names : List (List ℕ)) (more : List ClockPin). names ++ map (λ (k : ClockPin). k.name) more) c.new-names.ensures c.as_slice.ensures in
    let inputs = c.in_ok-add_inputs.ensures
    ∙ ap₂ (λ (names : List (List ℕ)) (more : List InputPin). names ++ map (λ (i : InputPin). i.name) more) clocks c.as_slice-2.ensures in
    c.in_ok-add_statics.ensures ∙ ap₂ (λ (names more : List (List ℕ)). names ++ more) inputs c.as_slice-3.ensures
